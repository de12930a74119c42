-- Every mesh of a survey promises all of `Ground`. Assumes nothing.
use mathlib.Core.List.{List}
use mathlib.Core.Logic.{⊎_map}
use Prim.Native.Nat.{ℕ}
use lib.IntN.{ℤ}
use lib.Signed.{◌≤ℤ◌}
use Rattle.sweep.specs.Sweep.{Three, tri}
use Rattle.sweep.proofs.MemberLaws.{in_any}
use Rattle.survey.specs.Survey.{Survey}
use Rattle.slopes.specs.Job.{slopes_of}
use Rattle.hull.specs.MeshOf.{MeshOf}
use Rattle.ground.specs.Ground.{Covered, Shown, Uncrossed, Nested, Ground}
use Rattle.ground.proofs.CutLaws.{cut_off, off_cut, two-or_none, uncut}
use Rattle.ground.proofs.DrawnLaws.{cut-drawn}
use Rattle.ground.proofs.CoverLaws.{ground-held, ground-within, ground_once}
use Rattle.ground.proofs.LevelLaws.{never-cross, never-beyond, all_below}
use Rattle.ground.proofs.MapLaws.{own_triangle, map_one_segment, map-never-crosses, station_off}
use Rattle.ground.proofs.SegmentLaws.{cut-divides}
use Rattle.ground.proofs.StepLaws.{segment-cut, vertex-between}
use Rattle.ground.proofs.VertexLaws.{side-meets, vertices-apart}

module _ (s : Survey) (ts : List (Three ℕ)) (mesh : MeshOf s ts) where
  pub covered : Covered s ts
  covered = record { held = λ q. (ground-held s ts mesh q, ground-within s ts mesh q); once = λ q i j. ground_once s ts mesh q i j (tri 0 0 0) }

  module _ (style : ℕ) where
    pub shown : (level : ℤ) → Shown s ts style level
    shown level =
        record {
          between = λ p i. vertex-between s ts mesh level (slopes_of s) style i;
          distinct = λ i j. vertices-apart s ts mesh level (slopes_of s) style i j;
          two-or_none = λ t. two-or_none s (slopes_of s) style level t;
          drawn = λ t i p q e. cut-drawn s ts mesh level (slopes_of s) style i (cut_off s (slopes_of s) style level t e);
          no_other = λ p q i.
              let g = segment-cut s ts mesh level (slopes_of s) style i in
              in_any g.in_mesh (off_cut s (slopes_of s) style level g.t g.cut);
          one_triangle = λ t u i j p q e f.
              own_triangle s ts mesh (slopes_of s) style level t u i j (cut_off s (slopes_of s) style level t e)
              (⊎_map (λ g. cut_off s (slopes_of s) style level u g) (λ g. cut_off s (slopes_of s) style level u g) f);
          divides = λ t i p q e. cut-divides s (slopes_of s) style level t (mesh.stations t i) (mesh.positive t i) (cut_off s (slopes_of s) style level t e);
          undivided = λ t e j k h g. uncut s (slopes_of s) style level t e h g;
          off_stations = λ p q i k k-in m n some. station_off s ts mesh (slopes_of s) style level k k-in m n some i;
          at_spots = λ p q d i j side m n k l some parts meet.
              let h = side-meets s ts mesh level (slopes_of s) style d i j side m n k l some parts meet in
              (h.crossed, h.spot_there);
        }

    pub uncrossed : (a b : ℤ) → Uncrossed s ts style a b
    uncrossed a b =
        record {
          in_triangle = λ t i p q u v e f. never-cross s (slopes_of s) style t (mesh.stations t i) (mesh.positive t i) a b e f;
          anywhere = λ p q u v i j. map-never-crosses s ts mesh (slopes_of s) style a b i j;
          one_segment = λ p q u v i j. map_one_segment s ts mesh (slopes_of s) style a b i j;
        }

    pub nested : (a b : ℤ) → a ≤ℤ b → Nested s ts style a b
    nested a b order =
        record {
          never-beyond = λ t i p q u v e f k h g. never-beyond s (slopes_of s) style t (mesh.stations t i) (mesh.positive t i) a b order e f h g;
          all_below = λ t i p q e f k h. all_below s (slopes_of s) style t (mesh.stations t i) (mesh.positive t i) a b order e f h;
        }

  pub ground : Ground s ts
  ground = record { covered = covered; shown = shown; uncrossed = uncrossed; nested = nested }
