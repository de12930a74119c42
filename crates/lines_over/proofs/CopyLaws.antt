-- Triangles at the front of a room, copied there (`threes-copied`) or held with their records (`threes-held`), are the same triangles. Assumes nothing.
use mathlib.Core.Path.{◌≡◌, sym, ap, ◌∙◌}
use mathlib.Core.List.{List, ◌++◌}
use Prim.Native.Nat.{ℕ, ◌*◌, ◌≤◌}
use native.Mathlib.Omega.{arith}
use lib.ListN.{length, take, get_or-append}
use lib.Seq.{get_or-take, length-take-le}
use Rattle.neighbours.specs.Room.{threes, Holds}
use Rattle.neighbours.proofs.RoomLaws.{threes-agree, holds-threes, length-threes}

pub threes-copied : (t : ℕ) (l rest : List ℕ) → 3 * t ≤ length l → threes t (take (3 * t) l ++ rest) ≡ threes t l
threes-copied t l rest h =
    threes-agree t (take (3 * t) l ++ rest) l
    (λ j k. get_or-append (take (3 * t) l) rest 0 j (omega (arith, length-take-le (3 * t) l h)) ∙ get_or-take (3 * t) l j 0 k)

pub threes-held : {m : ℕ} (t n : ℕ) (l room : List ℕ) → m ≡ t → Holds (threes t l) n room → threes m room ≡ threes t l
threes-held t n l room e h = ap (λ m. threes m room) (e ∙ sym (length-threes t l)) ∙ holds-threes (threes t l) n room h
