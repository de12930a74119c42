-- Where the two ends of a side differ, a curve has a bracket, and one only: the first change of side. The brackets of two levels
-- stand in order of height. All of it holds of any curve, whatever finds its bracket. Assumes nothing.
--
-- Between two stops that differ some sixty-fourth is a change, and up to the lowest one no stop differs from stop 0: `bracket-exists`.
-- Were one bracket k lower than another, j, stop k + 1 would be on the far side of the level by k's `after`, and on the near side by
-- j's `before`: `bracket-unique`. What is below a level is below every higher one, so a rising curve that has left the lower level
-- has come to the higher one no sooner, and a falling curve no later: `bracket-rising`, `bracket-falling`.
use mathlib.Core.Path.{◌≡◌, refl, sym, ap, ◌∙◌}
use mathlib.Core.Bool.{Bool, true, false, not, xor, true≢false}
use Prim.Native.Nat.{ℕ, zero, suc, ◌+◌, ◌≤◌, ◌<◌}
use native.Mathlib.Numerals.{add-one}
use native.Mathlib.Omega.{arith}
use native.Mathlib.Nat.{le_antisymm}
use native.Mathlib.Decide.{dec_le, dec_lt}
use lib.IntN.{ℤ}
use lib.Signed.{◌≤ℤ◌, ◌<ℤ◌}
use Rattle.lists.specs.Lowest.{lowest}
use Rattle.lists.proofs.LowestLaws.{lowest-passes, lowest-fails, lowest_is}
use Rattle.whole.proofs.Bridge.{int, test-true, true-test}
use Rattle.curve.specs.Below.{below}
use Rattle.curve.specs.Bracket.{is_change, bracket_of, Bracket}
use Rattle.curve.proofs.CrossLaws.{xor-true, xor-false, true-xor, false-xor}

not_own_negation : (b : Bool) → b ≡ not b → ⊥
not_own_negation true e = true≢false e
not_own_negation false e = true≢false (sym e)

module _ (curve : ℕ → ℤ) (level : ℤ) where
  -- Up to a stop before which nothing changes, all stops are on stop 0's side.
  same_side : (k : ℕ) → ((j : ℕ) → j < k → is_change curve level j ≡ false) → below level (curve k) ≡ below level (curve 0)
  same_side zero f = refl
  same_side (suc k) f =
      ap (λ (i : ℕ). below level (curve i)) (sym (add-one k))
      ∙ xor-false (below level (curve k)) (below level (curve (k + 1))) (f k (omega arith))
      ∙ same_side k (λ j h. f j (omega arith))

  -- The lowest change is a bracket.
  change-bracket : (k : ℕ) → k < 64 → is_change curve level k ≡ true → ((j : ℕ) → j < k → is_change curve level j ≡ false) → Bracket curve level k
  change-bracket k h e f =
      record {
        within = h;
        before = λ i l. same_side i (λ j m. f j (omega arith));
        after = xor-true (below level (curve k)) (below level (curve (k + 1))) e ∙ ap not (same_side k f);
      }

  -- 'where the curve is below the level at one end and not below at the other', and in no sixty-fourth before.
  pub bracket-change : {k : ℕ} → Bracket curve level k → is_change curve level k ≡ true
  bracket-change {k} b =
      true-xor (below level (curve k)) (below level (curve (k + 1))) (b.after ∙ ap not (sym (b.before k (omega arith))))

  pub bracket_first : {k : ℕ} → Bracket curve level k → (j : ℕ) → j < k → is_change curve level j ≡ false
  bracket_first b j h =
      false-xor (below level (curve j)) (below level (curve (j + 1))) (b.before (j + 1) (omega arith) ∙ sym (b.before j (omega arith)))

  -- No second number is the bracket.
  none_lower : {j k : ℕ} → Bracket curve level j → Bracket curve level k → j ≤ k
  none_lower {j} {k} at_j at_k = go (dec_le j k)
    where
      go : Dec (j ≤ k) → j ≤ k
      go (yes h) = h
      go (no h) = absurd (not_own_negation _ (sym (at_j.before (k + 1) (omega arith)) ∙ at_k.after))

  pub bracket-unique : {j k : ℕ} → Bracket curve level j → Bracket curve level k → j ≡ k
  bracket-unique at_j at_k = le_antisymm (none_lower at_j at_k) (none_lower at_k at_j)

  -- What is the bracket is what the search finds.
  pub bracket_is : {k : ℕ} → Bracket curve level k → bracket_of curve level ≡ k
  unfolding bracket_of
  bracket_is {k} b = lowest_is (is_change curve level) 64 k b.within (bracket-change b) (bracket_first b)

  -- Where stops 0 and 64 differ there is a bracket, and the search finds it.
  pub bracket-exists : xor (below level (curve 0)) (below level (curve 64)) ≡ true → Bracket curve level (bracket_of curve level)
  unfolding bracket_of
  bracket-exists e = go (dec_lt (lowest (is_change curve level) 64) 64)
    where
      none : (j : ℕ) → j < lowest (is_change curve level) 64 → is_change curve level j ≡ false
      none j h = lowest-fails (is_change curve level) 64 j h

      go : Dec (lowest (is_change curve level) 64 < 64) → Bracket curve level (lowest (is_change curve level) 64)
      go (yes h) = change-bracket (lowest (is_change curve level) 64) h (lowest-passes (is_change curve level) 64 h) none
      go (no h) =
          absurd
          (not_own_negation (below level (curve 0))
          (sym (same_side 64 (λ j l. none j (omega arith))) ∙ xor-true (below level (curve 0)) (below level (curve 64)) e))

-- Two levels, the one not above the other.
module _ (curve : ℕ → ℤ) {a b : ℤ} (order : a ≤ℤ b) where
  below-higher : (z : ℤ) → below a z ≡ true → below b z ≡ true
  below-higher z h = let l : z <ℤ a = test-true h in true-test {a = z} {b = b} (omega (arith, int))

  -- Where stop 0 is below both, the bracket of the higher level comes no sooner.
  pub bracket-rising : {j k : ℕ} → Bracket curve a j → Bracket curve b k → below a (curve 0) ≡ true → j ≤ k
  bracket-rising {j} {k} at_a at_b h = go (dec_le j k)
    where
      go : Dec (j ≤ k) → j ≤ k
      go (yes l) = l
      go (no l) =
          let low : below b (curve (k + 1)) ≡ true = below-higher (curve (k + 1)) (at_a.before (k + 1) (omega arith) ∙ h) in
          absurd (true≢false (sym low ∙ at_b.after ∙ ap not (below-higher (curve 0) h)))

  -- Where stop 0 is below neither, the bracket of the higher level comes no later.
  pub bracket-falling : {j k : ℕ} → Bracket curve a j → Bracket curve b k → below b (curve 0) ≡ false → k ≤ j
  bracket-falling {j} {k} at_a at_b h = go (dec_le k j) (below a (curve 0)) refl
    where
      go : Dec (k ≤ j) → (t : Bool) → below a (curve 0) ≡ t → k ≤ j
      go (yes l) t e = l
      go (no l) true e = absurd (true≢false (sym (below-higher (curve 0) e) ∙ h))
      go (no l) false e =
          let low : below b (curve (j + 1)) ≡ true = below-higher (curve (j + 1)) (at_a.after ∙ ap not e) in
          absurd (true≢false (sym low ∙ at_b.before (j + 1) (omega arith) ∙ h))
