-- What a block that passes 5 is within. Assumes nothing.
use mathlib.Core.Path.{◌≡◌}
use mathlib.Core.Bool.{false, ◌||◌}
use Prim.Native.Nat.{ℕ, ◌≤◌}
use borrow.Author.Tests.{ltb-false}
use lib.Dec.{ltb}
use lib.IntN.{ℤ}
use Rattle.lists.proofs.TestLaws.{or_left, or_right}
use Rattle.whole.specs.Range.{Within}
use Rattle.survey.specs.Limits.{most_height, too_far, most_ground}
use Rattle.contour.proofs.LevelLaws.{level_in_range}
use Rattle.report.specs.Writer.{is_outside}

pub inside : (level : ℤ) (served unserved : ℕ) → is_outside level served unserved ≡ false
    → Within most_height level × (served ≤ most_ground) × (unserved ≤ most_ground)
inside level served unserved w =
    let a = ltb most_ground served in
    let b = ltb most_ground unserved in
    let near = or_right (too_far level) (a || b) w in
    (level_in_range level (or_left (too_far level) (a || b) w), ltb-false most_ground served (or_left a b near), ltb-false most_ground unserved (or_right a b near))
