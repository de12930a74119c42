-- A text as lines, each of a shape that the values before it decide. Assumes nothing.
use Rattle.std.specs.Prelude.{Bool, true, false, cond, Result, Ok, Err, ◌&&◌, List, [], ◌∷◌, ◌++◌, ℕ, suc, eqb}
use Rattle.shapes.specs.declared.line.Shape.{Shape}
use Rattle.shapes.specs.declared.line.Part.{Part}
use Rattle.shapes.specs.declared.line.Part.TheVariants.{Key, Begun, Hyphen, Plain, Minus, Word, Wrong}
use Rattle.shapes.specs.declared.line.Fault.{Fault}
use Rattle.shapes.specs.Line.{line_end, read, fault_number, line_said}

-- No more lines; or a line of a shape, where these tags are used, and what follows by its value. Of some lines the text may also end.
pub data Form : Type 0 where
  end : Form
  next : Bool → Shape → List ℕ → (ℕ → Form) → Form

abbrev pub line : Shape → List ℕ → (ℕ → Form) → Form
line s used f = next false s used f

-- 'Further levels repeat from the level line': a line, or the end of the text.
abbrev pub may : Shape → List ℕ → (ℕ → Form) → Form
may s used f = next true s used f

-- The form of what is to come, the number of the next line, the bytes of it so far, and the values before it; or the first fault:
-- its number and its line.
pub data State : Type 0 where
  at : Form → ℕ → Part → List ℕ → State
  failed : ℕ → ℕ → State

-- A line has ended: 'the first line not as expected counts (from 1)'; '8 competes by its line number'.
abbrev pub of_said : Result ℕ Fault → (ℕ → Form) → ℕ → List ℕ → State
of_said (Err why) f k vs = failed (fault_number why) k
of_said (Ok v) f k vs = at (f v) (suc k) (Key 0) (vs ++ (v ∷ []))

-- One byte more: 'a leftover included'.
abbrev pub fed : State → ℕ → State
fed (failed n k) b = failed n k
fed (at end k p vs) b = failed 7 k
fed (at (next m s used f) k p vs) b =
    cond (eqb b line_end) (of_said (line_said s used p) f k vs) (at (next m s used f) k (read s p b) vs)

unfoldable pub feed : State → List ℕ → State
feed s [] = s
feed s (b ∷ t) = feed (fed s b) t

-- The values of all lines, or the first fault.
pub data Read : Type 0 where
  right : List ℕ → Read
  fault : ℕ → ℕ → Read

-- No byte of a line is read: the first of a key is no 0.
abbrev pub is_new : Part → Bool
is_new (Key k) = eqb k 0
is_new Begun = false
is_new Hyphen = false
is_new (Plain v) = false
is_new (Minus v) = false
is_new (Word w) = false
is_new Wrong = false

-- The text ends: 'a missing line'.
abbrev pub ended : State → Read
ended (failed n k) = fault n k
ended (at end k p vs) = right vs
ended (at (next m s used f) k p vs) = cond (m && is_new p) (right vs) (fault 7 k)

-- A text read by a form.
abbrev pub read_by : Form → List ℕ → Read
read_by f t = ended (feed (at f 1 (Key 0) []) t)
