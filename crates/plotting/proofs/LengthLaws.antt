-- How long a block's parts can be: no line has more than thirty bytes. Assumes nothing.
use mathlib.Core.List.{List, ◌++◌}
use Prim.Native.Nat.{ℕ, zero, suc, ◌+◌, ◌*◌, ◌≤◌, ◌<◌}
use native.Mathlib.Omega.{arith}
use lib.ListN.{length, get_or, length-append}
use Rattle.shapes.specs.declared.line.Shape.{Shape}
use Rattle.shapes.specs.Bytes.{line_bytes}
use Rattle.shapes.proofs.BytesLaws.{line-length}
use Rattle.lists.specs.Rows.{rows}
use Rattle.survey.specs.Limits.{most_stations}
use Rattle.survey.specs.Rooms.{vertex_room}
use Rattle.formats.specs.Lines.{x_line, y_line, kind_line, vertices_line}
use Rattle.formats.specs.Contours.{most_spot}
use Rattle.plotting.specs.Records.{vertices_of, kind_of}
use Rattle.plotting.specs.Bytes.{vertex_bytes, vertices_bytes, drawn_bytes}

-- Two lines, and what is behind them.
pub two-most : (s : Shape) (v : ℕ) (t : Shape) (w : ℕ) → length (line_bytes s v ++ line_bytes t w) ≤ 60
two-most s v t w = omega (arith, length-append (line_bytes s v) (line_bytes t w), line-length s v, line-length t w)

pub behind-most : (s : Shape) (v : ℕ) (t : Shape) (w : ℕ) (l : List ℕ) → length ((line_bytes s v ++ line_bytes t w) ++ l) ≤ 60 + length l
behind-most s v t w l = omega (arith, length-append (line_bytes s v ++ line_bytes t w) l, two-most s v t w)

-- Lists of at most c entries each.
rows-most : (f : ℕ → List ℕ) (c n : ℕ) → ((i : ℕ) → i < n → length (f i) ≤ c) → length (rows f n) ≤ c * n
rows-most f c zero h = omega arith
rows-most f c (suc n) h = simp length-append (omega (arith, rows-most f c n (λ i l. h i (omega arith)), h n (omega arith)))

-- The line of a record, where each of its vertices has at most c bytes.
pub drawn-most : (xs ys : List ℕ) (from r c : ℕ) → ((j : ℕ) → j < vertices_of r → length (vertex_bytes xs ys (from + j)) ≤ c)
    → length (drawn_bytes xs ys from r) ≤ 60 + c * vertices_of r
drawn-most xs ys from r c h =
    let W = vertices_bytes xs ys from (vertices_of r) in
    omega (arith, behind-most kind_line (kind_of r) (vertices_line 0 (vertex_room most_stations)) (vertices_of r) W, rows-most (λ j. vertex_bytes xs ys (from + j)) c (vertices_of r) h)

pub vertex_any : (xs ys : List ℕ) (i : ℕ) → length (vertex_bytes xs ys i) ≤ 60
vertex_any xs ys i = two-most (x_line most_spot) (get_or xs i 0) (y_line most_spot) (get_or ys i 0)
