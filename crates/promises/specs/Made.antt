-- Demand 2, of the four jobs: what a survey that is accepted is given. Assumes nothing.
use Rattle.std.specs.Prelude.{true, false, List, map, ◌↔◌, ◌≡◌, ℕ, ◌+◌, ◌*◌, ◌≤◌, ◌<◌, Float, ℤ, pos, length, ◌<ℤ◌}
use Rattle.std.specs.Float.{binary64}
use Rattle.std.specs.Float.Ieee.{to_bits}
use Rattle.whole.specs.Place.{Place}
use Rattle.whole.specs.Turn.{turn}
use Rattle.circle.specs.Circle.{circle, InCircle}
use Rattle.survey.specs.Rank.{by_rank}
use Rattle.survey.specs.Rooms.{triangle_room, vertex_room, record_room, work_room}
use Rattle.survey.specs.Survey.{Survey, count, place_of}
use Rattle.sweep.specs.Members.{In, sum}
use Rattle.sweep.specs.Sweep.{Three, edge}
use Rattle.sweep.specs.Page.{hull_of, page}
use Rattle.sweep.specs.Rising.{Sorted}
use Rattle.trace.specs.Side.{Directed, bit}
use Rattle.trace.specs.Lines.{Line, vertices}
use Rattle.trace.specs.Mesh.{count as count_of, Has}
use Rattle.trace.specs.Promise.{is_crossed_side, Meets}
use Rattle.neighbours.specs.Records.{Record, list_of, records_of, SaySame}
use Rattle.neighbours.specs.Room.{order}
use Rattle.tracing.specs.Lines.{lines_by}
use Rattle.slopes.specs.Job.{slopes_of}
use Rattle.triangles.specs.Growth.{swept}
use Rattle.triangles.specs.Order.{in_order}
use Rattle.triangles.specs.Mesh.{lowest_first, triangles}
use Rattle.hull.specs.Hull.{is_hull_side, twice_hull}
use Rattle.hull.specs.MeshOf.{twice_of, runs_in, InHull, MeshOf}
use Rattle.listing.specs.Listed.{listed, Listed}
use Rattle.fatter.specs.Swap.{may_swap, is_left, swap_lowest, Swapped, slack, swaps}
use Rattle.mesh.specs.Kinds.{triangles_of}
use Rattle.spots.specs.Lines.{is_below, lines_of, spot_on, spots_of}
use Rattle.height.specs.Finite.{IsNumber}
use Rattle.height.specs.Height.{first_holding}
use Rattle.height.specs.Kinds.{Kinds, First}
use Rattle.promises.specs.Outcomes.{outcome_of, HeightLent, height_call, height_over_call}

-- 'The mesh joins the stations by the stated steps; every triangle has positive area, and the areas add up to that of the hull.'
pub record ByTheSteps (s : Survey) : Type 0 where
  pub order : Sorted (place_of s) (in_order s)
  pub all : (k : ℕ) → k < count s → In k (in_order s)
  pub steps : triangles s ≡ map lowest_first (page (place_of s) (in_order s))
  -- The hull of the steps, with all stations, has the sides of the hull of the areas.
  pub outline : (i j : ℕ) → In (edge i j) (hull_of (place_of s) (in_order s)) ↔ (is_hull_side s i j ≡ true)
  -- The two chains that the code keeps give the same triangles.
  pub chains : map lowest_first (swept (place_of s) (by_rank s.xs s.ys)).tris ≡ triangles s
  pub positive : (t : Three ℕ) → In t (triangles s) → pos 0 <ℤ twice_of s t
  pub areas : sum (twice_of s) (triangles s) ≡ twice_hull s
  -- Counts, corners, sides and cover; and 'lowest station first'.
  pub mesh_of : MeshOf s (triangles s)
  pub lowest-first : (t : Three ℕ) → In t (triangles s) → (t.a < t.b) × (t.a < t.c)

-- 'A side may be swapped when the far corner of one triangle lies strictly inside the circle through the other's corners .. Always take the
-- lowest such side, by (lower, higher) station, until none is left .. it ends, keeps the number of triangles and the total area, and
-- uses the same hull. Triangles are then listed by their three numbers, lowest first. Kind 0 is the old mesh, 1 this one'.
pub record BySwaps (s : Survey) : Type 0 where
  pub old : triangles_of 0 s ≡ triangles s
  pub new : triangles_of 1 s ≡ listed (map lowest_first (swaps s (triangles s)))
  -- What is left of the sweep's mesh, and nothing else is.
  pub ends : Swapped s (triangles s) (swaps s (triangles s))
  pub only : (us : List (Three ℕ)) → Swapped s (triangles s) us → us ≡ swaps s (triangles s)
  -- Every swap leaves a mesh, of less slack.
  pub each : (ts : List (Three ℕ)) → MeshOf s ts → is_left s ts ≡ true → MeshOf s (swap_lowest s ts) × (slack s (swap_lowest s ts) < slack s ts)
  -- The circle number of a counterclockwise triangle is positive where the fourth place lies strictly inside the circle, and only there.
  pub circles : (a b c d : Place) → pos 0 <ℤ turn a b c → (pos 0 <ℤ circle a b c d) ↔ InCircle a b c d
  -- It is one number from either triangle of a side: one far corner lies inside the other's circle exactly if the other does.
  pub either : (i j l r : Place) → circle i j l r ≡ circle j i r l
  -- In the end no side may be swapped: no far corner lies strictly inside the circle of the triangle across a side.
  pub none_left : (i j : ℕ) → may_swap s (triangles_of 1 s) i j ≡ false
  pub none_inside : (i j l r : ℕ) → Has i j l (triangles_of 1 s) → Has j i r (triangles_of 1 s)
      → InCircle (place_of s i) (place_of s j) (place_of s l) (place_of s r) → ⊥
  pub same_count : length (triangles_of 1 s) ≡ length (triangles s)
  pub same_area : sum (twice_of s) (triangles_of 1 s) ≡ sum (twice_of s) (triangles s)
  -- A side with one triangle is a side of the hull, in either mesh.
  pub same_hull : (i j : ℕ) → 0 < runs_in i j (triangles_of 1 s) → (runs_in j i (triangles_of 1 s) ≡ 0) ↔ (is_hull_side s i j ≡ true)
  pub in_order : Listed (triangles_of 1 s)
  pub lowest-first : (t : Three ℕ) → In t (triangles_of 1 s) → (t.a < t.b) × (t.a < t.c)

-- 'Slopes and heights follow Akima's 1975 report as document 01 restates it': both are given by their definitions. Of a height: which of
-- the three kinds a place is given, and by which triangle.
pub record AsDefined (s : Survey) (ts : List (Three ℕ)) : Type 0 where
  pub kinds : (p : Place) → Kinds s ts p
  pub first : (p : Place) → InHull s 1 p → First s ts p (first_holding s ts p)

-- 'Lines hold the crossed sides' spots and nothing else, joined and ordered by document 01's line rules.'
pub record ByTheRules (s : Survey) (ts : List (Three ℕ)) (level : ℤ) : Type 0 where
  pub spots : (style : ℕ) → spots_of s ts (slopes_of s) style level ≡ map (spot_on s (slopes_of s) style level) (vertices (lines_of s ts level))
  pub each : (d : Directed) → count_of d (vertices (lines_of s ts level)) ≡ bit (is_crossed_side ts (is_below s level) d)
  pub rules : Meets ts (is_below s level) (count s) (lines_of s ts level)
  pub only : (ls : List Line) → Meets ts (is_below s level) (count s) ls → ls ≡ lines_of s ts level
  -- The rooms of the lines job suffice.
  pub vertices-fit : length (vertices (lines_of s ts level)) ≤ vertex_room (count s)
  pub records-fit : length (lines_of s ts level) ≤ record_room (count s)

-- The mesh as records 'that name, for each triangle, its three corners and three neighbours, or none at the hull': 'this form and the
-- triangle list say the same, each worked out from the other, and .. every line comes out vertex for vertex as from the list'.
pub record AsRecords (s : Survey) (ts : List (Three ℕ)) : Type 0 where
  pub say_same : SaySame ts (records_of ts)
  pub only : (rs : List Record) → SaySame ts rs → rs ≡ records_of ts
  pub list_back : list_of (records_of ts) ≡ ts
  pub records_back : (rs : List Record) → SaySame ts rs → records_of (list_of rs) ≡ rs
  pub list_only : (us : List (Three ℕ)) (rs : List Record) → SaySame ts rs → SaySame us rs → ts ≡ us
  pub lines : (rs : List Record) → SaySame ts rs → (level : ℤ) → lines_by rs (count s) (is_below s level) ≡ lines_of s ts level

-- What is given over any mesh of an accepted survey, in whichever order its triangles stand and from whichever corner each is written.
pub record OverAnyMesh (s : Survey) (ts : List (Three ℕ)) : Type 0 where
  pub triangles-fit : 3 * length ts ≤ triangle_room (count s)
  -- Corners, neighbours and the sides in order.
  pub work-fit : 2 * (3 * length ts) + length (order ts (count s)) ≤ work_room (count s)
  pub heights : AsDefined s ts
  pub records : AsRecords s ts
  pub lines : (level : ℤ) → ByTheRules s ts level

-- What an accepted survey is given: its own mesh, the same with sides swapped, and what is given over any mesh, those two among them:
-- 'Demands 2 and 3 hold for either mesh, shown once.'
pub record Made (s : Survey) : Type 0 where
  pub mesh : ByTheSteps s
  pub fatter : BySwaps s
  pub kinds : (kind : ℕ) → MeshOf s (triangles_of kind s)
  pub over : (ts : List (Three ℕ)) → MeshOf s ts → OverAnyMesh s ts

-- Every height that is given is a number, and so its bits are fixed with it.
pub record Numbers : Type 0 where
  pub between : (s : Survey) (kind : ℕ) (p : Place) (old : HeightLent) → (outcome_of (height_call s kind p old)).number ≡ 0
      → IsNumber (outcome_of (height_call s kind p old)).lent.between
  pub between-over : (s : Survey) (l : List ℕ) (p : Place) (old : HeightLent) → (outcome_of (height_over_call s l p old)).number ≡ 0
      → IsNumber (outcome_of (height_over_call s l p old)).lent.between
  pub bits : (z w : Float) → IsNumber z → IsNumber w → (z ≡ w) ↔ (to_bits binary64 z ≡ to_bits binary64 w)
