-- A text by its lines, and which line is the first not as expected: document 01, "Text". Assumes nothing.
use Rattle.std.specs.Prelude.{true, cond, ◌≡◌, ◌⊎◌, List, [], ◌∷◌, ◌++◌, ℕ, zero, suc, eqb}
use Rattle.shapes.specs.declared.line.Kind.TheVariants.{Tag}
use Rattle.shapes.specs.Line.{line_end, is_used}
use Rattle.forms.specs.Form.{Form, end, next, right, read_by}
use Rattle.shapes.specs.Bytes.{line_bytes}
use Rattle.shapes.specs.Ranges.{IsWord, InRange}

-- A text up to its first LF, and what is behind it; or no LF.
pub data Split : Type 0 where
  whole : List ℕ → Split
  split : List ℕ → List ℕ → Split

abbrev pub behind : ℕ → Split → Split
behind b (whole r) = whole (b ∷ r)
behind b (split l r) = split (b ∷ l) r

unfoldable pub first_line : List ℕ → Split
first_line [] = whole []
first_line (b ∷ t) = cond (eqb b line_end) (split [] t) (behind b (first_line t))

abbrev pub cut_on : Split → (List ℕ → List (List ℕ)) → List (List ℕ)
cut_on (whole r) go = r ∷ []
cut_on (split l r) go = (l ++ (line_end ∷ [])) ∷ go r

-- The first k lines, each with its LF. Behind the last LF stands one more, without: the end of the text, with the bytes before it.
unfoldable pub lines : ℕ → List ℕ → List (List ℕ)
lines zero t = []
lines (suc k) t = cut_on (first_line t) (λ r. lines k r)

-- A text of the format.
abbrev pub Right : Form → List ℕ → Type 0
Right f t = (vs : List ℕ) × (read_by f t ≡ right vs)

-- Some right text has the first k lines of t.
abbrev pub Begins : Form → ℕ → List ℕ → Type 0
Begins f k t = (u : List ℕ) × Right f u × (lines k u ≡ lines k t)

-- The first k lines of t are as expected, each of a value in its range by those before it, and P holds of the form and the text from there on.
abbrev pub Opens : Form → ℕ → List ℕ → (Form → List ℕ → Type 0) → Type 0
Opens f zero t P = P f t
Opens end (suc k) t P = ⊥
Opens (next m s used f) (suc k) t P =
    (v : ℕ) × (r : List ℕ) × InRange s.kind used v × (t ≡ line_bytes s v ++ r) × Opens (f v) k r P

-- The next line is right but for its tag, which is used.
abbrev pub UsedTag : Form → List ℕ → Type 0
UsedTag end t = ⊥
UsedTag (next m s used f) t =
    (w : ℕ) × (r : List ℕ) × (s.kind ≡ Tag) × IsWord w × (is_used used w ≡ true) × (t ≡ line_bytes s w ++ r)

-- The next line is as expected.
abbrev pub NextRight : Form → List ℕ → Type 0
NextRight f t = Opens f 1 t (λ g r. Unit)

-- The text does not go on with a line as expected. A refusal is 8 where the next line is right but for its used tag, and 7 at every other.
-- At the end of a right text this holds too; that no right text has the lines up to there (`Begins`) is what sets a refused one apart.
abbrev pub Reason : ℕ → Form → List ℕ → Type 0
Reason n f t = (NextRight f t → ⊥) × (((n ≡ 7) × (UsedTag f t → ⊥)) ⊎ ((n ≡ 8) × UsedTag f t))
