-- The turn at three places, and between two steps: document 01, "Mesh". Assumes nothing.
use Rattle.std.specs.Prelude.{ℤ, pos, ◌-ℤ◌, ◌*ℤ◌}
use Rattle.whole.specs.Place.{Place}

-- How far right, and how far up, the step from a to b goes.
unfoldable pub across : Place → Place → ℤ
across a b = pos b.x -ℤ pos a.x

unfoldable pub climb : Place → Place → ℤ
climb a b = pos b.y -ℤ pos a.y

-- Twice the signed area of the triangle a, b, c: positive if they stand counterclockwise (c is left of the side from a to b),
-- negative if clockwise ('q lies to the right of the side'), 0 if they are in line.
unfoldable pub turn : Place → Place → Place → ℤ
turn a b c = (pos b.x -ℤ pos a.x) *ℤ (pos c.y -ℤ pos a.y) -ℤ (pos b.y -ℤ pos a.y) *ℤ (pos c.x -ℤ pos a.x)

-- The turn from the step a, b to the step c, d: positive to the left.
unfoldable pub bend : Place → Place → Place → Place → ℤ
unfolding across climb
bend a b c d = across a b *ℤ climb c d -ℤ climb a b *ℤ across c d
