-- What every level gives over any mesh of a fit survey: an open line has two vertices or more, a closed one three or more (`records-long`),
-- and no coordinate of a spot is above 1,048,448 (`spots-near`). Assumes nothing.
--
-- A closed line of two sides would run round one triangle both ways, so a mesh has none (trace, `Sensible`), and a record tells how many
-- vertices its line has and of which kind it is. A vertex stands on a side that the level crosses, so its spot is that of one of the 64
-- brackets, between the side's two stations.
use mathlib.Core.Path.{◌≡◌}
use mathlib.Core.Bool.{true}
use mathlib.Core.List.{List, [], ◌∷◌, map}
use Prim.Native.Nat.{ℕ, zero, suc, ◌+◌, ◌*◌, ◌≤◌, ◌<◌}
use native.Mathlib.Omega.{arith}
use lib.IntN.{ℤ}
use lib.ListN.{length, get_or}
use Rattle.lists.proofs.TestLaws.{and_left}
use Rattle.survey.specs.Fit.{Fit}
use Rattle.survey.specs.Limits.{most_coordinate}
use Rattle.survey.specs.Survey.{Survey, count, height_of}
use Rattle.curve.specs.declared.spot.Spot.{Spot}
use Rattle.curve.specs.Below.{is_crossed as is_crossed_by}
use Rattle.curve.proofs.SpotLaws.{spot-le, side-bracket}
use Rattle.sweep.specs.Sweep.{Three}
use Rattle.trace.specs.Side.{Directed, ◌⟶◌, left_corner, is_side}
use Rattle.trace.specs.Crossed.{is_crossed}
use Rattle.trace.specs.Lines.{Line, record_of, records, vertices}
use Rattle.trace.specs.Mesh.{count as count_of}
use Rattle.trace.specs.Promise.{Sensible, open-line, closed-line, Every, is_crossed_side}
use Rattle.trace.proofs.CountLaws.{Tested, passes, fails, tested, bit_one, count_head, count-later}
use Rattle.trace.proofs.CrossedLaws.{side-ends}
use Rattle.trace.proofs.RecordLaws.{halves}
use Rattle.slopes.specs.Job.{slopes_of}
use Rattle.hull.specs.MeshOf.{MeshOf}
use Rattle.hull.proofs.SoundLaws.{mesh-sound}
use Rattle.spots.specs.Lines.{is_below, lines_of, end_at, spot_on, spots_of, xs_of, ys_of}
use Rattle.lines.proofs.MapLaws.{map-meets, no_spot}
use Rattle.plotting.specs.Records.{kind_of, vertices_of}

-- A record tells two vertices or more, and three or more where it says closed.
abbrev Long : ℕ → Type 0
Long r = 2 + kind_of r ≤ vertices_of r

line-long : {ts : List (Three ℕ)} {l : Line} → Sensible ts l → Long (record_of l)
unfolding record_of
line-long (open-line {p = p} _ _ h _) = omega (arith, h, halves (2 * suc (length p)))
line-long (closed-line {p = p} _ _ h _) = omega (arith, h, halves (2 * suc (length p) + 1))

-- No coordinate of a spot is further than 128 times that of a station can be.
abbrev Near : Spot → Type 0
Near p = (p.x ≤ 128 * most_coordinate) × (p.y ≤ 128 * most_coordinate)

module _ (s : Survey) (fit : Fit s) (ts : List (Three ℕ)) (mesh : MeshOf s ts) where
  -- So does that of every line of a level.
  pub records-long : (level : ℤ) (i : ℕ) → i < length (records (lines_of s ts level))
      → 2 + kind_of (get_or (records (lines_of s ts level)) i 0) ≤ vertices_of (get_or (records (lines_of s ts level)) i 0)
  unfolding records
  records-long level = go (lines_of s ts level) (map-meets s ts mesh level).sensible
    where
      go : (ls : List Line) → Every ts ls → (i : ℕ) → i < length (map record_of ls) → Long (get_or (map record_of ls) i 0)
      go [] h i k = absurd (omega arith)
      go (l ∷ ls) h zero k = line-long h.0
      go (l ∷ ls) h (suc i) k = go ls h.1 i (omega arith)

  module _ (style : ℕ) (level : ℤ) where
    abbrev spot : Directed → Spot
    spot = spot_on s (slopes_of s) style level

    vertex-near : (d : Directed) → 0 < count_of d (vertices (lines_of s ts level)) → Near (spot d)
    unfolding spot_on
    vertex-near (i ⟶ j) h = by (tested (is_crossed_by level (height_of s i) (height_of s j)))
      where
        side : is_side (left_corner ts) (i ⟶ j) ≡ true
        side =
            and_left (is_side (left_corner ts) (i ⟶ j)) (is_crossed (is_below s level) (i ⟶ j))
            (bit_one (is_crossed_side ts (is_below s level) (i ⟶ j)) (rw ((map-meets s ts mesh level).each (i ⟶ j)) at h))

        ends : (i < count s) × (j < count s)
        ends = side-ends ts (count s) (mesh-sound s ts mesh) i j side

        by : Tested (is_crossed_by level (height_of s i) (height_of s j)) → Near (spot (i ⟶ j))
        by (fails e) = absurd (omega (arith, h, no_spot s ts mesh level i j ends.0 ends.1 side e))
        by (passes e) =
            let k = (side-bracket style (end_at s (slopes_of s) i) (end_at s (slopes_of s) j) level e).within in (
              spot-le _ _ _ k (fit.x-range i ends.0) (fit.x-range j ends.1),
              spot-le _ _ _ k (fit.y-range i ends.0) (fit.y-range j ends.1),
            )

    -- Neither coordinate of a vertex is above 1,048,448; past the last one 0 is read.
    pub spots-near : (i : ℕ) → (get_or (xs_of (spots_of s ts (slopes_of s) style level)) i 0 ≤ 128 * most_coordinate)
        × (get_or (ys_of (spots_of s ts (slopes_of s) style level)) i 0 ≤ 128 * most_coordinate)
    unfolding spots_of
    spots-near = go (vertices (lines_of s ts level)) vertex-near
      where
        go : (l : List Directed) → ((d : Directed) → 0 < count_of d l → Near (spot d)) → (i : ℕ)
            → (get_or (xs_of (map spot l)) i 0 ≤ 128 * most_coordinate) × (get_or (ys_of (map spot l)) i 0 ≤ 128 * most_coordinate)
        go [] f i = (omega arith, omega arith)
        go (d ∷ l) f zero = f d (count_head d l)
        go (d ∷ l) f (suc i) = go l (λ e h. f e (count-later e d l h)) i
