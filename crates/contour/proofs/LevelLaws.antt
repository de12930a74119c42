-- What a level and a block that pass 5 are within. Assumes nothing.
use mathlib.Core.Path.{◌≡◌}
use mathlib.Core.Bool.{false, ◌||◌}
use mathlib.Core.List.{List}
use Prim.Native.Nat.{ℕ}
use lib.IntN.{ℤ, pos, neg_ℤ}
use lib.Signed.{lt_z}
use Rattle.lists.proofs.TestLaws.{or_left, or_right}
use Rattle.whole.specs.Range.{Within}
use Rattle.whole.proofs.Bridge.{test-false}
use Rattle.whole.proofs.RangeLaws.{order-within}
use Rattle.survey.specs.Limits.{most_height, too_far}
use Rattle.contour.specs.Writer.{some_far, is_outside}

pub level_in_range : (level : ℤ) → too_far level ≡ false → Within most_height level
level_in_range level h =
    let low = lt_z level (neg_ℤ (pos most_height)) in
    let high = lt_z (pos most_height) level in
    order-within (test-false (or_left low high h)) (test-false (or_right low high h))

pub inside : (level : ℤ) (xs ys : List ℕ) → is_outside level xs ys ≡ false → Within most_height level × (some_far xs ≡ false) × (some_far ys ≡ false)
inside level xs ys w =
    let near = or_right (too_far level) (some_far xs || some_far ys) w in
    (level_in_range level (or_left (too_far level) (some_far xs || some_far ys) w), or_left (some_far xs) (some_far ys) near, or_right (some_far xs) (some_far ys) near)
