-- What is written in a part of a room. Assumes nothing.
use mathlib.Core.Path.{◌≡◌, refl, ap, ◌∙◌}
use mathlib.Core.List.{List, [], ◌∷◌, ◌++◌, append_assoc}
use Prim.Native.Nat.{ℕ, zero, suc, ◌≤◌}
use native.Mathlib.Omega.{arith}
use lib.ListN.{take, drop}

-- What stands in front of the first k numbers, of which v are gone, stands in front of all.
rest_of : (v k : ℕ) (l : List ℕ) → v ≤ k → drop v (take k l) ++ drop k l ≡ drop v l
rest_of zero zero l h = refl
rest_of zero (suc k) [] h = refl
rest_of zero (suc k) (x ∷ l) h = ap (λ m. x ∷ m) (rest_of zero k l (omega arith))
rest_of (suc v) zero l h = absurd (omega arith)
rest_of (suc v) (suc k) [] h = refl
rest_of (suc v) (suc k) (x ∷ l) h = rest_of v k l (omega arith)

pub part-front : (p l : List ℕ) (v k : ℕ) → v ≤ k → (p ++ drop v (take k l)) ++ drop k l ≡ p ++ drop v l
part-front p l v k h = append_assoc p (drop v (take k l)) (drop k l) ∙ ap (λ m. p ++ m) (rest_of v k l h)
