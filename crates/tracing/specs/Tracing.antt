-- The two passes over half-sides: what the code does, one entry after another. Assumes nothing.
use Rattle.std.specs.Prelude.{Bool, true, false, cond, not, ◌&&◌, List, [], ◌∷◌, ◌++◌, map, ℕ, zero, suc, ◌+◌, ◌*◌, ltb, eqb, length, get_or, set}
use Rattle.std.proofs.Math.Option.{Option, none, some}
use Rattle.trace.specs.Side.{bit, is_there}
use Rattle.trace.specs.Crossed.{is_crossed}
use Rattle.trace.specs.Lines.{Line, line}
use Rattle.neighbours.specs.Half.{after, runs_by}
use Rattle.tracing.specs.Steps.{walk_by, path_by, met_by}

-- A mesh by its half-sides: the corner that each starts from, what lies across it, the half-side of each entry in the order of sides, and
-- how many half-sides there are. No line has more steps.
pub record Halves : Type 0 where
  pub corner : ℕ → ℕ
  pub across : ℕ → Option ℕ
  pub half : ℕ → ℕ
  pub steps : ℕ

-- The mark of a side stands at the lower of its half-sides.
unfoldable pub lower_of : ℕ → Option ℕ → ℕ
lower_of g none = g
lower_of g (some h) = cond (ltb h g) h g

unfoldable pub mark_by : (ℕ → Option ℕ) → List ℕ → List ℕ → List ℕ
mark_by across [] marks = marks
mark_by across (g ∷ p) marks = mark_by across p (set marks (lower_of g (across g)) 1)

-- A line by its half-sides; as the page has it; its record.
pub data HalfLine : Type 0 where
  half_line : Bool → List ℕ → HalfLine

abbrev pub line_of : (ℕ → ℕ) → HalfLine → Line
line_of corner (half_line c p) = line c (met_by corner p)

unfoldable pub passed_by : List HalfLine → List ℕ
passed_by [] = []
passed_by (half_line c p ∷ ls) = p ++ passed_by ls

unfoldable pub record_by : HalfLine → ℕ
record_by (half_line c p) = 2 * length p + bit c

unfoldable pub records_by : List HalfLine → List ℕ
records_by ls = map record_by ls

-- The half-sides that follow h on a line that started over s, after j steps; and all of the line that starts over s.
abbrev pub rest_from : Halves → (ℕ → Bool) → ℕ → ℕ → ℕ → List ℕ
rest_from mesh below s fuel h = walk_by mesh.corner mesh.across below s fuel h

abbrev pub line_at : Halves → (ℕ → Bool) → ℕ → List ℕ
line_at mesh below s = path_by mesh.corner mesh.across below mesh.steps s

-- Half-side h may start a closed line if it runs as its side does, and an open one if nothing lies across; it starts one if its side is
-- crossed and not marked.
abbrev pub may_start_by : Bool → Halves → ℕ → Bool
may_start_by true mesh h = ltb (mesh.corner h) (mesh.corner (after h))
may_start_by false mesh h = not (is_there (mesh.across h))

unfoldable pub starts_by : Bool → Halves → (ℕ → Bool) → List ℕ → ℕ → Bool
starts_by closed mesh below marks h =
    is_crossed below (runs_by mesh.corner h) && (eqb (get_or marks (lower_of h (mesh.across h)) 0) 0 && may_start_by closed mesh h)

-- The lines that start at entries i, .., i + k - 1; then, of the first k entries, all open lines and all closed ones, from some marks on.
unfoldable pub scan_by : Bool → Halves → (ℕ → Bool) → List ℕ → ℕ → ℕ → List HalfLine
scan_by closed mesh below marks i zero = []
scan_by closed mesh below marks i (suc k) =
    cond (starts_by closed mesh below marks (mesh.half i))
    (half_line closed (line_at mesh below (mesh.half i)) ∷ scan_by closed mesh below (mark_by mesh.across (line_at mesh below (mesh.half i)) marks) (suc i) k)
    (scan_by closed mesh below marks (suc i) k)

unfoldable pub scanned_by : Halves → (ℕ → Bool) → List ℕ → ℕ → List HalfLine
scanned_by mesh below marks k =
    let opens = scan_by false mesh below marks 0 k in
    opens ++ scan_by true mesh below (mark_by mesh.across (passed_by opens) marks) 0 k
