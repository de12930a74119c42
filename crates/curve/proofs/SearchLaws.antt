-- The search that finds a bracket looks for the first stop after 0 that is on the other side of stop 0, and that is the first change.
-- Assumes nothing.
--
-- Before the first change each stop is on the side of the one before it, so on that of stop 0.
use mathlib.Core.Path.{◌≡◌, refl, sym, ap, ◌∙◌}
use mathlib.Core.Bool.{Bool, xor}
use Prim.Native.Nat.{ℕ, zero, suc, ◌+◌, ◌≤◌, ◌<◌}
use native.Mathlib.Numerals.{add-one}
use native.Mathlib.Omega.{arith}
use native.Mathlib.Decide.{dec_lt}
use Rattle.lists.specs.Lowest.{lowest}
use Rattle.lists.proofs.LowestLaws.{lowest-le, lowest-passes, lowest-fails, lowest_is, lowest_none}
use Rattle.curve.proofs.CrossLaws.{xor-false}

module _ (side : ℕ → Bool) (n : ℕ) where
  -- The side changes from stop k to the next one; and the stop after k is on the other side of stop 0.
  abbrev change : ℕ → Bool
  change k = xor (side k) (side (k + 1))

  abbrev left : ℕ → Bool
  left k = xor (side 0) (side (k + 1))

  same : (k : ℕ) → k ≤ lowest change n → side k ≡ side 0
  same zero h = refl
  same (suc k) h = ap side (sym (add-one k)) ∙ xor-false (side k) (side (k + 1)) (lowest-fails change n k (omega arith)) ∙ same k (omega arith)

  left_is : (k : ℕ) → k ≤ lowest change n → left k ≡ change k
  left_is k h = ap (λ t. xor t (side (k + 1))) (sym (same k h))

  pub first-left : lowest left n ≡ lowest change n
  first-left = go (dec_lt (lowest change n) n)
    where
      go : Dec (lowest change n < n) → lowest left n ≡ lowest change n
      go (yes l) =
          lowest_is left n (lowest change n) l (left_is (lowest change n) (omega arith) ∙ lowest-passes change n l)
          (λ j h. left_is j (omega arith) ∙ lowest-fails change n j h)
      go (no l) =
          let e : lowest change n ≡ n = omega (arith, lowest-le change n) in
          lowest_none left n (λ j h. left_is j (omega (arith, e)) ∙ lowest-fails change n j (omega (arith, e))) ∙ sym e
