-- What holds of whatever an answer gives where it is done. Assumes nothing.
use mathlib.Core.Path.{◌≡◌, refl}
use Rattle.std.specs.Prelude.{Ok, Err, IfOk}
use Rattle.survey.specs.Answer.{Answer}

pub if_ok : {A : Type 0} (P : A → Type 0) (r : Answer A) → ((x : A) → r ≡ Ok x → P x) → IfOk r P
if_ok P (Ok x) h = h x refl
if_ok P (Err why) h = tt
