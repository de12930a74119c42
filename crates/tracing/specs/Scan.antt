-- The lines of a level by two passes over the sides of a mesh in a row, with a mark for each side that a line has met: between
-- what the page says and what the code does with half-sides (`Tracing`). `left` gives the mesh by its left corners. A mark is 1, and 0 where there is none. Assumes nothing.
use Rattle.std.specs.Prelude.{Bool, true, false, cond, not, ◌&&◌, List, [], ◌∷◌, ◌++◌, ◌⊎◌, ◌≡◌, ℕ, zero, suc, ◌*◌, ◌≤◌, ◌<◌, ltb, eqb, length, get_or, set, replicate}
use Rattle.std.proofs.Math.Option.{Option, none, some}
use Rattle.sweep.specs.Sweep.{Three}
use Rattle.trace.specs.Side.{Directed, ◌⟶◌, is_there, reversed, side_of, left_corner, is_side}
use Rattle.trace.specs.Crossed.{is_crossed, Before}
use Rattle.trace.specs.Lines.{Line, line, passed}
use Rattle.trace.specs.Walk.{next, path}

-- Directed sides in a row: how many, which one is entry i, where the mark of a side stands, and how many steps a line may take.
pub record Row : Type 0 where
  pub count : ℕ
  pub entry : ℕ → Directed
  pub place : Directed → ℕ
  pub steps : ℕ

-- A row of the sides of the triangles ts, 'by (lower, higher) station': each entry has a triangle on its left; a hull side is there with its
-- triangle on the left, and any other side as it runs. Each side has a place of its own.
pub record Ordered (ts : List (Three ℕ)) (row : Row) : Type 0 where
  pub steps-are : row.steps ≡ 3 * length ts
  pub few : row.count ≤ row.steps
  pub entries : (i : ℕ) → i < row.count → (c : ℕ) × (left_corner ts (row.entry i) ≡ some c)
  pub hulls : (s : Directed) (c : ℕ) → left_corner ts s ≡ some c → left_corner ts (reversed s) ≡ none
      → (j : ℕ) × (j < row.count) × (row.entry j ≡ s)
  pub inners : (a b c d : ℕ) → a < b → left_corner ts (a ⟶ b) ≡ some c → left_corner ts (b ⟶ a) ≡ some d
      → (j : ℕ) × (j < row.count) × (row.entry j ≡ a ⟶ b)
  pub in_order : (i j : ℕ) → i ≤ j → j < row.count
      → (side_of (row.entry j) ≡ side_of (row.entry i)) ⊎ Before (side_of (row.entry i)) (side_of (row.entry j))
  pub placed : (d : Directed) → is_side (left_corner ts) d ≡ true → row.place d < row.steps
  pub place-unique : (d e : Directed) → is_side (left_corner ts) d ≡ true → is_side (left_corner ts) e ≡ true → row.place d ≡ row.place e → d ≡ e

-- No mark at all.
abbrev pub no_marks : ℕ → List ℕ
no_marks room = replicate room 0

-- Marks with those of the sides of a line.
unfoldable pub mark_all : Row → List Directed → List ℕ → List ℕ
mark_all row [] marks = marks
mark_all row (d ∷ p) marks = mark_all row p (set marks (row.place (side_of d)) 1)

-- The line from entry i.
abbrev pub line_from : (Directed → Option ℕ) → Row → (ℕ → Bool) → ℕ → List Directed
line_from left row below i = path (next left below) row.steps (row.entry i)

-- A side as it runs may start a closed line; a side with no triangle on its other hand an open one.
abbrev pub is_rising : Directed → Bool
is_rising (a ⟶ b) = ltb a b

abbrev pub may_start : Bool → (Directed → Option ℕ) → Directed → Bool
may_start true left d = is_rising d
may_start false left d = not (is_there (left (reversed d)))

-- Entry i starts a line: it may, it is crossed, and its side is not marked.
unfoldable pub starts : Bool → (Directed → Option ℕ) → Row → (ℕ → Bool) → List ℕ → ℕ → Bool
starts closed left row below marks i =
    is_crossed below (row.entry i) && (eqb (get_or marks (row.place (side_of (row.entry i))) 0) 0 && may_start closed left (row.entry i))

-- The lines that start at entries i, .., i + k - 1.
unfoldable pub scan : Bool → (Directed → Option ℕ) → Row → (ℕ → Bool) → List ℕ → ℕ → ℕ → List Line
scan closed left row below marks i zero = []
scan closed left row below marks i (suc k) =
    cond (starts closed left row below marks i)
    (line closed (line_from left row below i) ∷ scan closed left row below (mark_all row (line_from left row below i) marks) (suc i) k)
    (scan closed left row below marks (suc i) k)

-- All open lines, then all closed ones, from some marks on.
unfoldable pub scanned : (Directed → Option ℕ) → Row → (ℕ → Bool) → List ℕ → List Line
scanned left row below marks =
    let opens = scan false left row below marks 0 row.count in
    opens ++ scan true left row below (mark_all row (passed opens) marks) 0 row.count
