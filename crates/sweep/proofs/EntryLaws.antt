-- The entries of a list by their places: each is a member, a member is one, and two count twice in a sum. Assumes nothing.
use mathlib.Core.Path.{◌≡◌, refl, sym, ap}
use mathlib.Core.List.{List, [], ◌∷◌, map}
use Prim.Native.Nat.{ℕ, zero, suc, ◌+◌, ◌≤◌, ◌<◌}
use native.Mathlib.Omega.{arith}
use lib.ListN.{length, get_or}
use Rattle.sweep.specs.Members.{In, here, there, total}
use Rattle.sweep.proofs.Fill.{total_in}

module _ {A : Type 0} (d : A) where
  pub in_at : (l : List A) (k : ℕ) → k < length l → In (get_or l k d) l
  in_at [] k h = absurd (omega arith)
  in_at (x ∷ l) zero h = here refl
  in_at (x ∷ l) (suc k) h = there (in_at l k (omega arith))

  pub at_in : {x : A} {l : List A} → In x l → (k : ℕ) × (k < length l) × (get_or l k d ≡ x)
  at_in (here e) = (0, omega arith, sym e)
  at_in (there i) = let q = at_in i in (suc q.0, omega (arith, q.1), q.2)

  pub two_at : (g : A → ℕ) (l : List A) (j k : ℕ) → j < length l → k < length l → (j ≡ k → ⊥) → g (get_or l j d) + g (get_or l k d) ≤ total g l
  unfolding total
  two_at g [] j k h i n = absurd (omega arith)
  two_at g (x ∷ l) zero zero h i n = absurd (n refl)
  two_at g (x ∷ l) zero (suc k) h i n = omega (arith, total_in g (in_at l k (omega arith)))
  two_at g (x ∷ l) (suc j) zero h i n = omega (arith, total_in g (in_at l j (omega arith)))
  two_at g (x ∷ l) (suc j) (suc k) h i n = omega (arith, two_at g l j k (omega arith) (omega arith) (λ e. n (ap suc e)))

-- Through `map`.
pub map_at : {A B : Type 0} (g : A → B) (d : A) (e : B) (l : List A) (k : ℕ) → k < length l → get_or (map g l) k e ≡ g (get_or l k d)
map_at g d e [] k h = absurd (omega arith)
map_at g d e (x ∷ l) zero h = refl
map_at g d e (x ∷ l) (suc k) h = map_at g d e l k (omega arith)
