-- What one station does to a chain in a slice is what the sweep does to the chain as a list. Assumes nothing.
use mathlib.Core.Path.{◌≡◌, refl, subst}
use mathlib.Core.Bool.{Bool, true, false, cond}
use Prim.Native.Nat.{ℕ, zero, suc, ◌+◌, ◌-◌, ◌<◌, ◌≤◌}
use native.Mathlib.Omega.{arith}
use Rattle.triangles.specs.Chain.{down_to, side_at}

-- The steps of the loop that goes down a chain.
module _ (p : ℕ → Bool) where
  pub down_on : (j : ℕ) → 0 < j → p (j - 1) ≡ true → down_to p j ≡ down_to p (j - 1)
  unfolding down_to
  down_on zero h e = absurd (omega arith)
  down_on (suc j) h e =
      let f : suc j - 1 ≡ j = omega arith in
      let g : p j ≡ true = subst (λ k. p k ≡ true) f e in
      rw (f, g)

  pub down-stop : (j : ℕ) → 0 < j → p (j - 1) ≡ false → down_to p j ≡ j
  unfolding down_to
  down-stop zero h e = absurd (omega arith)
  down-stop (suc j) h e =
      let f : suc j - 1 ≡ j = omega arith in
      let g : p j ≡ false = subst (λ k. p k ≡ false) f e in
      rw g

  pub down-end : (j : ℕ) → j ≤ 0 → down_to p j ≡ j
  unfolding down_to
  down-end zero h = refl
  down-end (suc j) h = absurd (omega arith)

  pub down_le : (a : ℕ) → down_to p a ≤ a
  unfolding down_to
  down_le zero = omega arith
  down_le (suc a) = go (p a) (down_le a)
    where
      go : (b : Bool) → down_to p a ≤ a → cond b (down_to p a) (suc a) ≤ suc a
      go true h = omega arith
      go false h = omega arith

-- A side of a fan stands above an entry below the top.
pub side-within : (falling : Bool) (j a i : ℕ) → j + i < a → side_at falling j a i < a
side-within true j a i h = omega arith
side-within false j a i h = omega arith
