-- Twice the area within an outline. Assumes nothing.
use Rattle.std.specs.Prelude.{List, [], ◌∷◌, ℤ, pos, ◌+ℤ◌}
use Rattle.whole.specs.Place.{Place}
use Rattle.sweep.specs.Hull.{cross}

-- Along an outline from p over the places that follow, and back to the start.
unfoldable pub onward : Place → Place → List Place → ℤ
onward start p [] = cross p start
onward start p (q ∷ qs) = cross p q +ℤ onward start q qs

-- The sum of x_i·y_j - y_i·x_j over the sides of an outline, as for the hull: positive where it runs counterclockwise.
unfoldable pub twice_within : List Place → ℤ
twice_within [] = pos 0
twice_within (p ∷ ps) = onward p p ps
