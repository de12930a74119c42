-- Whether a tag is among the first of a list, one more at a time. Assumes nothing.
use mathlib.Core.Path.{◌≡◌, sym, ap, ◌∙◌}
use mathlib.Core.Bool.{◌||◌, or-false, or_assoc}
use mathlib.Core.List.{List, [], ◌∷◌, ◌++◌}
use Prim.Native.Nat.{ℕ, ◌+◌, ◌<◌}
use native.Mathlib.Numerals.{add-one}
use lib.Dec.{eqb}
use lib.ListN.{length, take, set, get_or}
use lib.Seq.{take-suc, take-suc-set}
use Rattle.shapes.specs.Line.{is_used}

pub used-more : (l : List ℕ) (t w : ℕ) → is_used (l ++ (t ∷ [])) w ≡ (is_used l w || eqb t w)
unfolding is_used
used-more [] t w = or-false (eqb t w)
used-more (a ∷ l) t w = rw (used-more l t w) (sym (or_assoc (eqb a w) (is_used l w) (eqb t w)))

pub used-next : (s : List ℕ) (j w : ℕ) → j < length s → is_used (take (j + 1) s) w ≡ (is_used (take j s) w || eqb (get_or s j 0) w)
used-next s j w h = rw (add-one, take-suc s j 0) (used-more (take j s) (get_or s j 0) w)

pub take_put : (l : List ℕ) (n v : ℕ) → n < length l → take (n + 1) (set l n v) ≡ take n l ++ (v ∷ [])
take_put l n v h = ap (λ (k : ℕ). take k (set l n v)) (add-one n) ∙ take-suc-set l n v h
