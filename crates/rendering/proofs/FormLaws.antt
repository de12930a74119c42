-- What the writer's test of the levels says of them. Assumes nothing.
use mathlib.Core.Path.{◌≡◌, ap}
use mathlib.Core.Bool.{true, not}
use mathlib.Core.List.{List}
use Prim.Native.Nat.{ℕ, zero, suc, ◌<◌, ◌≤◌}
use native.Mathlib.Omega.{arith}
use borrow.Author.Tests.{le-leb, leb-true, not-true, not-false}
use lib.Dec.{leb}
use lib.IntN.{ℤ, pos, neg_ℤ}
use lib.ListN.{length, get_or}
use lib.Signed.{lt_z, ◌≤ℤ◌, ◌<ℤ◌}
use Rattle.lists.specs.Lowest.{some}
use Rattle.lists.proofs.TestLaws.{and_left, and_right, or_left, or_right}
use Rattle.lists.proofs.LowestLaws.{none_found, some-false}
use Rattle.whole.specs.Range.{Within}
use Rattle.whole.proofs.Bridge.{int, test-true, test-false, true-test, false-test}
use Rattle.whole.proofs.RangeLaws.{order-within}
use Rattle.survey.specs.Limits.{most_height, most_levels}
use Rattle.rendering.specs.Writer.{level_before, is_wrong_level, is_level_list}

-- The levels are in range and rise.
pub record Rising (v : List ℤ) : Type 0 where
  pub some_level : 1 ≤ length v
  pub most : length v ≤ most_levels
  pub above : (k : ℕ) → k < length v → level_before v k <ℤ get_or v k (pos 0)
  pub below : (k : ℕ) → k < length v → get_or v k (pos 0) ≤ℤ pos most_height

-- That is what the test of a level list says, and back.
pub rising : (v : List ℤ) → is_level_list v ≡ true → Rising v
rising v h =
    let n = length v in
    let b = and_right (leb 1 n) _ h in
    let right = none_found (is_wrong_level v) n (not-true (some (is_wrong_level v) n) (and_right (leb n most_levels) _ b)) in
    record {
      some_level = leb-true 1 n (and_left (leb 1 n) _ h);
      most = leb-true n most_levels (and_left (leb n most_levels) _ b);
      above = λ k l. test-true (not-false _ (or_left (not (lt_z (level_before v k) (get_or v k (pos 0)))) _ (right k l)));
      below = λ k l. test-false (or_right (not (lt_z (level_before v k) (get_or v k (pos 0)))) _ (right k l));
    }

pub rising-list : (v : List ℤ) → Rising v → is_level_list v ≡ true
rising-list v r =
    let n = length v in
    rw (le-leb 1 n r.some_level, le-leb n most_levels r.most)
    (ap not
    (some-false (is_wrong_level v) n
    (λ k l. rw (true-test {a = level_before v k} (r.above k l)) (false-test {a = pos most_height} (r.below k l)))))

module _ (v : List ℤ) (r : Rising v) where
  from_least : (k : ℕ) → k < length v → neg_ℤ (pos most_height) ≤ℤ get_or v k (pos 0)
  from_least zero h = let l = r.above 0 h in omega (arith, int)
  from_least (suc k) h = let l = r.above (suc k) h in let p = from_least k (omega arith) in omega (arith, int)

  pub level-within : (k : ℕ) → k < length v → Within most_height (get_or v k (pos 0))
  level-within k h = order-within (from_least k h) (r.below k h)
