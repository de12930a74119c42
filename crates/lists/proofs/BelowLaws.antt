-- What is found below a bound is the lowest number that passes; where nothing is, none does. Assumes nothing.
use mathlib.Core.Path.{◌≡◌, refl, sym, ap, ◌∙◌}
use mathlib.Core.Bool.{Bool, true, false}
use Prim.Native.Nat.{ℕ, ◌<◌, ◌≤◌}
use native.Mathlib.Omega.{arith}
use borrow.Author.Tests.{lt-ltb, le-ltb, ltb-true, ltb-false}
use lib.Dec.{ltb}
use Rattle.std.specs.Prelude.{Option, Some, None}
use Rattle.lists.specs.Lowest.{lowest, if_below, found}
use Rattle.lists.proofs.FoundLaws.{Lowest}

none_some : {k : ℕ} → None ≡ Some k → ⊥
none_some e = cc

-- k, if it is below n.
module _ (k n : ℕ) where
  pub below_some : k < n → if_below k n ≡ Some k
  below_some h = rw (lt-ltb k n h)

  pub below_none : n ≤ k → if_below k n ≡ None
  below_none h = rw (le-ltb k n h)

  abbrev value : Option ℕ → ℕ
  value None = k
  value (Some j) = j

  pub record BelowAt (j : ℕ) : Type 0 where
    pub is : k ≡ j
    pub below : k < n

  pub below_at : {j : ℕ} → if_below k n ≡ Some j → BelowAt j
  below_at {j = j} e = go (ltb k n) refl
    where
      go : (b : Bool) → ltb k n ≡ b → BelowAt j
      go true s = record { is = ap value (sym (below_some (ltb-true _ _ s)) ∙ e); below = ltb-true _ _ s }
      go false s = absurd (none_some (sym (below_none (ltb-false _ _ s)) ∙ e))

  pub none_at : if_below k n ≡ None → n ≤ k
  none_at e = go (ltb k n) refl
    where
      go : (b : Bool) → ltb k n ≡ b → n ≤ k
      go false s = ltb-false _ _ s
      go true s = absurd (none_some (sym (sym (below_some (ltb-true _ _ s)) ∙ e)))

-- The lowest number below n that passes p.
module _ (p : ℕ → Bool) (n : ℕ) where
  pub found_some : lowest p n < n → found p n ≡ Some (lowest p n)
  found_some = below_some (lowest p n) n

  pub found_none : n ≤ lowest p n → found p n ≡ None
  found_none = below_none (lowest p n) n

  pub found_at : {k : ℕ} → found p n ≡ Some k → BelowAt (lowest p n) n k
  found_at = below_at (lowest p n) n

  pub none_below : found p n ≡ None → n ≤ lowest p n
  none_below = none_at (lowest p n) n

  -- What a search among the numbers below n has found.
  pub found_lowest : (r : Option ℕ) → Lowest p n r → r ≡ found p n
  found_lowest None h = sym (found_none (omega (arith, h)))
  found_lowest (Some k) h = ap Some h.1 ∙ sym (found_some (omega (arith, h.0, h.1)))
