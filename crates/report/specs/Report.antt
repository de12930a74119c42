-- The text of the served ground: document 02, L12. Each text is that of the values of its lines. Assumes nothing.
use Rattle.std.specs.Prelude.{List, [], ◌∷◌, ℕ, ℤ}
use Rattle.forms.specs.Written.{written}
use Rattle.formats.specs.Lines.{told}
use Rattle.formats.specs.Reports.{heading, block}

-- 'served=1, style'
unfoldable pub heading_of : ℕ → List ℕ
heading_of style = written heading (1 ∷ style ∷ [])

-- 'then level, served and unserved for each level'. The level is told 32,768 above itself.
abbrev pub block_values : ℕ → ℕ → ℕ → List ℕ
block_values level served unserved = level ∷ served ∷ unserved ∷ []

abbrev pub block_text : ℕ → ℕ → ℕ → List ℕ
block_text level served unserved = written block (block_values level served unserved)

unfoldable pub block_of : ℤ → ℕ → ℕ → List ℕ
block_of level served unserved = block_text (told level) served unserved
