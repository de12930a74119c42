-- The known maps of document 01, T1 to T12, and maps that document 02 speaks of, as one table. Assumes nothing.
use Rattle.std.specs.Prelude.{List, [], ◌∷◌, ◌++◌, map, ◌≡◌, ℕ, ◌+◌, ◌*◌, ◌^◌, ℤ, pos, neg_ℤ, length}
use Rattle.lists.specs.Rows.{rows}
use Rattle.lists.specs.Table.{table}
use Rattle.whole.specs.Rounding.{rounded}
use Rattle.survey.specs.Answers.{checked_gives}
use Rattle.survey.specs.Checks.{checked}
use Rattle.survey.specs.Survey.{Survey, survey, count, height_of}
use Rattle.sweep.specs.Sweep.{Three, tri}
use Rattle.curve.specs.declared.spot.Spot.{Spot}
use Rattle.curve.specs.Below.{is_crossed}
use Rattle.curve.specs.Weights.{weight_of}
use Rattle.trace.specs.Side.{Directed, ◌⟶◌, bit}
use Rattle.trace.specs.Lines.{records, vertices}
use Rattle.trace.specs.Mesh.{count as count_of}
use Rattle.slopes.specs.Job.{slopes_of}
use Rattle.triangles.specs.Mesh.{triangles}
use Rattle.spots.specs.Lines.{lines_of, spots_of}
use Rattle.mirror.specs.Mirror.{negated}
use Rattle.parcels.specs.Served.{served_of, unserved_of}

-- A line as the page prints it: open or closed, and its vertices in 128ths.
pub data KnownLine : Type 0 where
  open-line closed-line : List Spot → KnownLine

abbrev pub at : ℕ → ℕ → Spot
at x y = record { x = x; y = y }

-- Its record, by which the job tells open from closed ('twice its count of vertices, plus 1 if closed'), and its vertices.
abbrev pub record_of : KnownLine → ℕ
record_of (open-line vs) = 2 * length vs
record_of (closed-line vs) = 2 * length vs + 1

abbrev pub vertices_of : List KnownLine → List Spot
vertices_of [] = []
vertices_of (open-line vs ∷ ls) = vs ++ vertices_of ls
vertices_of (closed-line vs ∷ ls) = vs ++ vertices_of ls

-- A row of the table: a sort of example, with what goes in and what is known to come out.
pub data Row : Type 0 where
  -- a survey, whatever its heights, and its triangles
  mesh : (List ℤ → Survey) → List (Three ℕ) → Row
  -- a survey, a style, a level, and the lines
  lines : Survey → ℕ → ℤ → List KnownLine → Row
  -- a survey, and p, q, r, s, t, the same at every station
  slopes : Survey → List ℤ → Row
  -- a survey, a style, a level, and the served and the unserved ground
  served : Survey → ℕ → ℤ → ℕ → ℕ → Row
  -- a survey and a level, whose lines are the same in either style
  alike : Survey → ℤ → Row
  -- n, d, and n / d rounded
  rounding : ℤ → ℕ → ℤ → Row
  -- a stop, and its six weights
  weights : ℕ → List ℕ → Row
  -- a survey, and the number that it is refused with
  refusal : Survey → ℕ → Row
  -- a survey, a level, and its joined pairs, on each of which lie as many spots as the heights of the two alone decide
  carried : Survey → ℤ → List Directed → Row

-- 'exactly one drawn spot if one end is below the level and the other isn't; otherwise none'
abbrev pub decided : Survey → ℤ → Directed → ℕ
decided s level (i ⟶ j) = bit (is_crossed level (height_of s i) (height_of s j))

-- What a row says, on the definitions that the contracts cite.
abbrev pub Holds : Row → Type 0
Holds (mesh s ts) = (zs : List ℤ) → triangles (s zs) ≡ ts
Holds (lines s style level ls) = (records (lines_of s (triangles s) level) ≡ map record_of ls) × (spots_of s (triangles s) (slopes_of s) style level ≡ vertices_of ls)
Holds (slopes s five) = slopes_of s ≡ rows (λ i. five) (count s)
Holds (served s style level n m) = (served_of s (triangles s) style level ≡ n) × (unserved_of s (triangles s) style level ≡ m)
Holds (alike s level) = spots_of s (triangles s) (slopes_of s) 1 level ≡ spots_of s (triangles s) (slopes_of s) 0 level
Holds (rounding n d r) = rounded n d ≡ r
Holds (weights k ws) = table (weight_of k) 6 ≡ ws
Holds (refusal s n) = (checked_gives (checked s)).0 ≡ n
Holds (carried s level pairs) = map (λ d. count_of d (vertices (lines_of s (triangles s) level))) pairs ≡ map (decided s level) pairs

abbrev pub AllHold : List Row → Type 0
AllHold [] = Unit {0}
AllHold (r ∷ rs) = Holds r × AllHold rs

-- 'Square Q: (0,0), (8,0), (0,8), (8,8). Q5 adds (4,4).'
abbrev pub Q : List ℤ → Survey
Q zs = survey (0 ∷ 8 ∷ 0 ∷ 8 ∷ []) (0 ∷ 0 ∷ 8 ∷ 8 ∷ []) zs

abbrev pub Q5 : List ℤ → Survey
Q5 zs = survey (0 ∷ 8 ∷ 0 ∷ 8 ∷ 4 ∷ []) (0 ∷ 0 ∷ 8 ∷ 8 ∷ 4 ∷ []) zs

-- 'Q, z 0,10,10,0', 'Q5, z 0,0,0,0,10' and 'the survey above'.
abbrev pub saddle : Survey
saddle = Q (pos 0 ∷ pos 10 ∷ pos 10 ∷ pos 0 ∷ [])

abbrev pub peak : Survey
peak = Q5 (pos 0 ∷ pos 0 ∷ pos 0 ∷ pos 0 ∷ pos 10 ∷ [])

abbrev pub printed : Survey
printed = survey (0 ∷ 8 ∷ 0 ∷ []) (0 ∷ 0 ∷ 8 ∷ []) (pos 0 ∷ pos 10 ∷ pos 10 ∷ [])

-- Stations in a plane whose p is -1/2 of a 65,536th: NX = 1, NY = -512 and NZ = 131,072 at the first.
abbrev pub leaning : Survey
leaning = survey (0 ∷ 512 ∷ 0 ∷ []) (0 ∷ 1 ∷ 256 ∷ []) (pos 0 ∷ pos 0 ∷ pos 1 ∷ [])

-- The joined pairs of Q, by T1.
abbrev pub pairs : List Directed
pairs = 0 ⟶ 1 ∷ 0 ⟶ 2 ∷ 1 ⟶ 2 ∷ 1 ⟶ 3 ∷ 2 ⟶ 3 ∷ []

abbrev pub known_maps : List Row
known_maps =
    -- T1, T2
    mesh Q (tri 0 1 2 ∷ tri 1 3 2 ∷ [])
    ∷ mesh Q5 (tri 0 4 2 ∷ tri 0 1 4 ∷ tri 1 3 4 ∷ tri 2 4 3 ∷ [])
    -- T3, T4, T5
    ∷ lines saddle 0 (pos 5) (open-line (at 504 0 ∷ at 0 504 ∷ []) ∷ open-line (at 1024 520 ∷ at 520 1024 ∷ []) ∷ [])
    ∷ lines saddle 0 (pos 10) (open-line (at 1016 0 ∷ at 0 1016 ∷ []) ∷ open-line (at 1024 8 ∷ at 8 1024 ∷ []) ∷ [])
    ∷ lines saddle 0 (pos 0) []
    -- T6
    ∷ lines peak 0 (pos 5) (closed-line (at 252 252 ∷ at 252 772 ∷ at 772 772 ∷ at 772 252 ∷ []) ∷ [])
    -- T7, T8
    ∷ slopes printed (pos 81920 ∷ pos 81920 ∷ pos 0 ∷ pos 0 ∷ pos 0 ∷ [])
    ∷ alike printed (pos 5)
    -- T9
    ∷ rounding (pos 7) 2 (pos 4)
    ∷ rounding (neg_ℤ (pos 7)) 2 (neg_ℤ (pos 4))
    -- T10
    ∷ weights 32 (map (λ c. 2 ^ 25 * c) (1 ∷ 5 ∷ 10 ∷ 10 ∷ 5 ∷ 1 ∷ []))
    -- T11, T12
    ∷ refusal (survey (0 ∷ 1 ∷ 2 ∷ []) (0 ∷ 1 ∷ 2 ∷ []) (pos 0 ∷ pos 0 ∷ pos 0 ∷ [])) 4
    ∷ refusal (survey (5 ∷ 5 ∷ []) (5 ∷ 5 ∷ []) (pos 0 ∷ pos 0 ∷ [])) 1
    -- 'Negating all heights must then negate every slope exactly', a half among them.
    ∷ slopes leaning (neg_ℤ (pos 1) ∷ pos 256 ∷ pos 0 ∷ pos 0 ∷ pos 0 ∷ [])
    ∷ slopes (negated leaning) (pos 1 ∷ neg_ℤ (pos 256) ∷ pos 0 ∷ pos 0 ∷ pos 0 ∷ [])
    -- 'The lines needn't mirror, since a height equal to a level stays not below': the two lines of T4 are gone, the printed one is a bracket
    -- further, where its curve is at the level at stop 32; and demand 3 holds of both.
    ∷ lines (negated saddle) 0 (neg_ℤ (pos 10)) []
    ∷ lines printed 0 (pos 5) (open-line (at 504 0 ∷ at 0 504 ∷ []) ∷ [])
    ∷ lines (negated printed) 0 (neg_ℤ (pos 5)) (open-line (at 520 0 ∷ at 0 520 ∷ []) ∷ [])
    -- 'the ground served (not below) and unserved' of T3, T4 and T5, of 16,384 times twice 64.
    ∷ served saddle 0 (pos 5) 1589120 508032
    ∷ served saddle 0 (pos 10) 32640 2064512
    ∷ served saddle 0 (pos 0) 2097152 0
    ∷ carried saddle (pos 10) pairs
    ∷ carried (negated saddle) (neg_ℤ (pos 10)) pairs
    ∷ []
