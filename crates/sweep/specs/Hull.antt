-- The hull: document 01, "Mesh": 'the hull is the convex outline of all the stations, defined without the mesh'. Assumes nothing.
use Rattle.std.specs.Prelude.{◌⊎◌, ◌≡◌, ℤ, pos, ◌-ℤ◌, ◌*ℤ◌, ◌≤ℤ◌}
use Rattle.whole.specs.Place.{Place, Before}
use Rattle.whole.specs.Turn.{turn}
use Rattle.sweep.specs.Sweep.{Triangle}

-- w lies strictly between s and t on their line.
pub record Between (s w t : Place) : Type 0 where
  pub flat : turn s t w ≡ pos 0
  pub amid : (Before s w × Before w t) ⊎ (Before t w × Before w s)

-- The side from s to t of the convex outline of the stations S, as it runs counterclockwise: no station to its right, and none between
-- its ends, so that 'stations in the middle of a straight hull side stay hull stations'.
pub record HullSide (S : Place → Type 0) (s t : Place) : Type 0 where
  pub from : S s
  pub to : S t
  pub differ : s ≡ t → ⊥
  pub left : (w : Place) → S w → pos 0 ≤ℤ turn s t w
  pub none : (w : Place) → S w → Between s w t → ⊥

-- Twice an area: of a triangle, and, summed over its sides, of an outline.
abbrev pub twice : Triangle → ℤ
twice t = turn t.a t.b t.c

unfoldable pub cross : Place → Place → ℤ
cross a b = pos a.x *ℤ pos b.y -ℤ pos a.y *ℤ pos b.x
