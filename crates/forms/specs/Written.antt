-- The text of values, by a form, and the values that have one: document 01, "Text". Assumes nothing.
use Rattle.std.specs.Prelude.{true, ◌≡◌, List, [], ◌∷◌, ◌++◌, ℕ}
use Rattle.shapes.specs.Bytes.{line_bytes}
use Rattle.shapes.specs.Ranges.{InRange, Sound}
use Rattle.forms.specs.Form.{Form, end, next}

unfoldable pub written : Form → List ℕ → List ℕ
written end vs = []
written (next m s used f) [] = []
written (next m s used f) (v ∷ vs) = line_bytes s v ++ written (f v) vs

-- Each value is in its range by those before it, and all lines are there.
abbrev pub Ranged : Form → List ℕ → Type 0
Ranged end [] = Unit
Ranged end (v ∷ vs) = ⊥
Ranged (next m s used f) [] = m ≡ true
Ranged (next m s used f) (v ∷ vs) = InRange s.kind used v × Ranged (f v) vs

-- What is asked of a form: every shape that may come is sound.
abbrev pub SoundForm : Form → Type 0
SoundForm end = Unit
SoundForm (next m s used f) = Sound s × ((v : ℕ) → SoundForm (f v))
