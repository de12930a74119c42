-- A text that comes in pieces. Assumes nothing.
use Rattle.std.specs.Prelude.{List, [], ◌∷◌, ◌++◌, ℕ, ◌+◌, length}
use Rattle.shapes.specs.declared.line.Part.TheVariants.{Key}
use Rattle.forms.specs.Form.{Form, State, at, feed, Read, ended}
use Rattle.forms.specs.Limit.{limited}

-- One piece behind the other, and the bytes of all.
unfoldable pub joined : List (List ℕ) → List ℕ
joined [] = []
joined (p ∷ ps) = p ++ joined ps

unfoldable pub bytes_in : List (List ℕ) → ℕ
bytes_in [] = 0
bytes_in (p ∷ ps) = length p + bytes_in ps

unfoldable pub feed_all : State → List (List ℕ) → State
feed_all s [] = s
feed_all s (p ∷ ps) = feed_all (feed s p) ps

abbrev pub read_pieces : Form → List (List ℕ) → Read
read_pieces f ps = ended (feed_all (at f 1 (Key 0) []) ps)

-- At most so many bytes in all.
abbrev pub text_pieces : ℕ → Form → List (List ℕ) → Read
text_pieces most f ps = limited most (bytes_in ps) (read_pieces f ps)
