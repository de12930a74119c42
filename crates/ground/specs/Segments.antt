-- What is drawn of a level over any mesh ts of a survey: document 02, L11. Places are in 128ths. Assumes nothing.
use Rattle.std.specs.Prelude.{Bool, cond, List, [], ◌∷◌, ◌++◌, map, ℕ, ◌/◌, ◌%◌, eqb, ℤ, take, drop}
use Rattle.whole.specs.Place.{Place, place}
use Rattle.sweep.specs.Cover.{scale}
use Rattle.sweep.specs.Sweep.{Three, EdgeOf, edge}
use Rattle.survey.specs.Survey.{Survey, place_of}
use Rattle.curve.specs.declared.spot.Spot.{Spot}
use Rattle.trace.specs.Side.{Directed, ◌⟶◌, side_of}
use Rattle.trace.specs.Crossed.{is_crossed}
use Rattle.trace.specs.Lines.{records}
use Rattle.spots.specs.Lines.{is_below, lines_of, spot_on, spots_of}

-- Where station k stands; where a spot does; where the spot of a side does, whichever way the side is run.
abbrev pub station_place : Survey → ℕ → Place
station_place s k = scale 128 (place_of s k)

abbrev pub standing : Spot → Place
standing p = place p.x p.y

unfoldable pub spot_place : Survey → List ℤ → ℕ → ℤ → Directed → Place
spot_place s slopes style level d = standing (spot_on s slopes style level (side_of d))

-- What a side carries: 'exactly one drawn spot if one end is below the level and the other isn't; otherwise none'.
unfoldable pub side_spots : Survey → List ℤ → ℕ → ℤ → Directed → List Place
side_spots s slopes style level d = cond (is_crossed (is_below s level) d) (spot_place s slopes style level d ∷ []) []

-- What the sides of a triangle carry, as its boundary meets it. Two of them are crossed or none: where there are two spots, the drawn
-- segment of the level in the triangle is the one between them.
unfoldable pub spots_in : Survey → List ℤ → ℕ → ℤ → Three ℕ → List Place
spots_in s slopes style level t =
    let spots = side_spots s slopes style level in
    spots (t.a ⟶ t.b) ++ (spots (t.b ⟶ t.c) ++ spots (t.c ⟶ t.a))

-- What the vertices of a line draw, from the place p on: each is joined to the next, and the last of a closed line to its first.
unfoldable pub segments_from : Place → List Place → List (EdgeOf Place)
segments_from p [] = []
segments_from p (q ∷ l) = edge p q ∷ segments_from q l

unfoldable pub line_segments : Bool → List Place → List (EdgeOf Place)
line_segments closed [] = []
line_segments closed (p ∷ l) = segments_from p (l ++ cond closed (p ∷ []) [])

-- 'A line record is one number: twice its count of vertices, plus 1 if closed', and the vertices of all lines follow one another.
unfoldable pub all_segments : List ℕ → List Place → List (EdgeOf Place)
all_segments [] l = []
all_segments (r ∷ rs) l = line_segments (eqb (r % 2) 1) (take (r / 2) l) ++ all_segments rs (drop (r / 2) l)

-- The segments of the lines of a level, by the records and the vertices that the lines job gives.
unfoldable pub segments : Survey → List (Three ℕ) → List ℤ → ℕ → ℤ → List (EdgeOf Place)
segments s ts slopes style level = all_segments (records (lines_of s ts level)) (map standing (spots_of s ts slopes style level))
