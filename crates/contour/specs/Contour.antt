-- Contour text: document 01, "Text". Each text is that of the values of its lines. Assumes nothing.
use Rattle.std.specs.Prelude.{List, [], ◌∷◌, ℕ, ◌+◌, ℤ, length, get_or}
use Rattle.lists.specs.Rows.{rows}
use Rattle.forms.specs.Written.{written}
use Rattle.formats.specs.Lines.{told}
use Rattle.formats.specs.Contours.{heading, block}
use Rattle.formats.specs.Reports.{refusal}
use Rattle.plotting.specs.Records.{vertices_of, kind_of, vertices_before}

-- 'contours=1 / style=straight'
unfoldable pub heading_of : ℕ → List ℕ
heading_of style = written heading (1 ∷ style ∷ [])

-- 'x=504 / y=0': vertex i.
abbrev pub vertex_of : List ℕ → List ℕ → ℕ → List ℕ
vertex_of xs ys i = get_or xs i 0 ∷ get_or ys i 0 ∷ []

-- 'kind=open / vertices=2', and the vertices: the line of record r, of which the first is vertex `from` of the two lists.
abbrev pub line_of : List ℕ → List ℕ → ℕ → ℕ → List ℕ
line_of xs ys from r = kind_of r ∷ vertices_of r ∷ rows (λ j. vertex_of xs ys (from + j)) (vertices_of r)

abbrev pub lines_of : List ℕ → List ℕ → List ℕ → ℕ → List ℕ
lines_of records xs ys i = line_of xs ys (vertices_before records i) (get_or records i 0)

-- 'level=5 / lines=1', then each line. The level is told 32,768 above itself.
abbrev pub block_values : ℕ → List ℕ → List ℕ → List ℕ → List ℕ
block_values level records xs ys = level ∷ length records ∷ rows (lines_of records xs ys) (length records)

abbrev pub block_text : ℕ → List ℕ → List ℕ → List ℕ → List ℕ
block_text level records xs ys = written block (block_values level records xs ys)

unfoldable pub block_of : ℤ → List ℕ → List ℕ → List ℕ → List ℕ
block_of level records xs ys = block_text (told level) records xs ys

-- 'A refused survey gives only refused=N / at=M.'
unfoldable pub refusal_of : ℕ → ℕ → List ℕ
refusal_of number carried = written refusal (number ∷ carried ∷ [])
