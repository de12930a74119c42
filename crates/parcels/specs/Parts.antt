-- How the drawn spots of a level cut a triangle: document 02, L12. Places are in 128ths. Assumes nothing.
use Rattle.std.specs.Prelude.{Bool, cond, List, [], ◌∷◌, ◌++◌, ℕ, ℤ}
use Rattle.std.specs.Bool.{beq}
use Rattle.whole.specs.Place.{Place}
use Rattle.survey.specs.Survey.{Survey}
use Rattle.sweep.specs.Sweep.{Three}
use Rattle.trace.specs.Side.{◌⟶◌}
use Rattle.spots.specs.Lines.{is_below}
use Rattle.ground.specs.Segments.{station_place, side_spots}

-- Station k as a corner of the below part (side true) or of the not-below part (side false): it is one of that part alone in which its reading
-- is.
unfoldable pub corner_on : Survey → ℤ → Bool → ℕ → List Place
corner_on s level side k = cond (beq (is_below s level k) side) (station_place s k ∷ []) []

-- 'Each triangle is cut at its drawn spots': the outline of its below part or of its not-below part, round the triangle counterclockwise over
-- the part's 'own corners' and the spots, as it meets them.
unfoldable pub part_of : Survey → List ℤ → ℕ → ℤ → Bool → Three ℕ → List Place
part_of s slopes style level side t =
    let corner = corner_on s level side in
    let spots = side_spots s slopes style level in
    corner t.a ++ (spots (t.a ⟶ t.b) ++ (corner t.b ++ (spots (t.b ⟶ t.c) ++ (corner t.c ++ spots (t.c ⟶ t.a)))))
