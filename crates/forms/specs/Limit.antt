-- The limit of a text's bytes: document 01, "Text". Assumes nothing.
use Rattle.std.specs.Prelude.{cond, List, ℕ, ltb, length}
use Rattle.forms.specs.Form.{Form, Read, fault, read_by}

-- 'longer is 7 with line 0'
abbrev pub limited : ℕ → ℕ → Read → Read
limited most bytes r = cond (ltb most bytes) (fault 7 0) r

-- A text of at most so many bytes, read by a form.
abbrev pub text_by : ℕ → Form → List ℕ → Read
text_by most f t = limited most (length t) (read_by f t)
