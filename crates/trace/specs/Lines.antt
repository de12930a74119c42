-- The lines of one level on a mesh: document 01, "Lines". `left` gives the mesh by its left corners and `below` the stations below
-- the level. A list of sides still to be met, in order, is "unused". Assumes nothing.
use Rattle.std.specs.Prelude.{Bool, true, false, cond, List, [], ◌∷◌, ◌++◌, map, ℕ, zero, suc, ◌+◌, ◌*◌, length}
use Rattle.std.proofs.Math.Option.{Option, none, some}
use Rattle.sweep.specs.Sweep.{Three}
use Rattle.trace.specs.Side.{Directed, bit, is_same, side_of, left_corner, inward}
use Rattle.trace.specs.Crossed.{crossed}
use Rattle.trace.specs.Walk.{next, path}

-- A line: is it closed, and the sides that it meets, in order, each as it is run.
pub data Line : Type 0 where
  line : Bool → List Directed → Line

-- A list without the first d in it; the unused sides without those of a line.
unfoldable pub remove : Directed → List Directed → List Directed
remove d [] = []
remove d (x ∷ l) = cond (is_same d x) l (x ∷ remove d l)

unfoldable pub strike : List Directed → List Directed → List Directed
strike [] unused = unused
strike (d ∷ p) unused = strike p (remove (side_of d) unused)

-- 'the lowest unused crossed hull side', directed into its triangle.
abbrev pub or_else : Option Directed → Option Directed → Option Directed
or_else none r = r
or_else (some d) r = some d

unfoldable pub first_hull : (Directed → Option ℕ) → List Directed → Option Directed
first_hull left [] = none
first_hull left (d ∷ unused) = or_else (inward left d) (first_hull left unused)

-- 'Open lines first: start at the lowest unused crossed hull side and go from triangle to triangle until a hull side.'
abbrev pub open_from : Option Directed → (Directed → Option Directed) → ℕ → List Directed → (List Directed → List Line) → List Line
open_from none follow fuel unused rest = []
open_from (some s) follow fuel unused rest = line false (path follow fuel s) ∷ rest (strike (path follow fuel s) unused)

unfoldable pub open_lines : (Directed → Option ℕ) → (ℕ → Bool) → ℕ → ℕ → List Directed → List Line
open_lines left below fuel zero unused = []
open_lines left below fuel (suc k) unused = open_from (first_hull left unused) (next left below) fuel unused (open_lines left below fuel k)

-- 'Then closed lines: start at the lowest unused crossed side, first into the triangle left of it as it runs, until the start comes
-- round.'
unfoldable pub closed_lines : (Directed → Option ℕ) → (ℕ → Bool) → ℕ → ℕ → List Directed → List Line
closed_lines left below fuel zero unused = []
closed_lines left below fuel (suc k) [] = []
closed_lines left below fuel (suc k) (s ∷ unused) =
    line true (path (next left below) fuel s) ∷ closed_lines left below fuel k (strike (path (next left below) fuel s) (s ∷ unused))

-- The directed sides of all lines, one line after another.
unfoldable pub passed : List Line → List Directed
passed [] = []
passed (line c p ∷ ls) = p ++ passed ls

unfoldable pub lines_over : (Directed → Option ℕ) → (ℕ → Bool) → ℕ → List Directed → List Line
lines_over left below fuel unused =
    open_lines left below fuel fuel unused ++ closed_lines left below fuel fuel (strike (passed (open_lines left below fuel fuel unused)) unused)

-- The lines on the triangles ts of n stations. No list of sides is longer than three times the triangles, so that is fuel enough.
unfoldable pub lines : List (Three ℕ) → (ℕ → Bool) → ℕ → List Line
lines ts below n = lines_over (left_corner ts) below (3 * length ts) (crossed (left_corner ts) below n)

-- 'Each crossed side gives one vertex': the sides of all vertices, in the order of the vertices.
unfoldable pub vertices : List Line → List Directed
vertices ls = map side_of (passed ls)

-- 'A line record is one number: twice its count of vertices, plus 1 if closed.'
unfoldable pub record_of : Line → ℕ
record_of (line c p) = 2 * length p + bit c

unfoldable pub records : List Line → List ℕ
records ls = map record_of ls
