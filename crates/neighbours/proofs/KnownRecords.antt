-- Two triangles side by side, 0 1 2 and 1 3 2: their records, their neighbours as numbers and the half-sides of their sides in order.
-- Assumes nothing.
use Prim.Native.Nat.{ℕ}
use mathlib.Core.List.{List, [], ◌∷◌}
use mathlib.Core.Option.{none, some}
use mathlib.Core.Path.{◌≡◌, refl}
use Rattle.sweep.specs.Sweep.{Three, tri, flat}
use Rattle.trace.specs.Side.{is_same, left_corner, is_side}
use Rattle.trace.specs.Crossed.{row, rows, sides}
use Rattle.neighbours.specs.Half.{after, side_at, half_of}
use Rattle.neighbours.specs.Records.{records_from, records_of}
use Rattle.neighbours.specs.Room.{neighbours_in, half_for, order}

abbrev pub pair : List (Three ℕ)
pair = tri 0 1 2 ∷ tri 1 3 2 ∷ []

-- Half-side 1, from 1 to 2, and half-side 5, from 2 to 1, are each other's neighbours; all others are at the hull.
pub pair-records : records_of pair
    ≡ record { corners = tri 0 1 2; neighbours = tri none (some 5) none } ∷ record { corners = tri 1 3 2; neighbours = tri none none (some 1) } ∷ []
unfolding records_from half_of side_at after flat is_same
pair-records = refl

pub pair-neighbours : neighbours_in (records_of pair) ≡ 32767 ∷ 5 ∷ 32767 ∷ 32767 ∷ 32767 ∷ 1 ∷ []
unfolding records_from half_of side_at after flat is_same
pair-neighbours = refl

-- The sides from 0 to 1, 0 to 2, 1 to 2, 1 to 3 and 2 to 3.
pub pair-order : order pair 4 ≡ 0 ∷ 2 ∷ 1 ∷ 3 ∷ 4 ∷ []
unfolding order sides rows row is_side left_corner half_for half_of side_at after flat is_same
pair-order = refl
