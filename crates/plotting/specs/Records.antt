-- Line records: document 01, "Lines". Assumes nothing.
use Rattle.std.specs.Prelude.{List, ℕ, zero, suc, ◌+◌, ◌/◌, ◌%◌, length, get_or}

-- 'A line record is one number: twice its count of vertices, plus 1 if closed.' Of the kinds, 0 is open and 1 closed.
abbrev pub vertices_of : ℕ → ℕ
vertices_of r = r / 2

abbrev pub kind_of : ℕ → ℕ
kind_of r = r % 2

-- How many vertices the lines before line i have: those of all lines follow one another in the two lists.
abbrev pub vertices_before : List ℕ → ℕ → ℕ
vertices_before records zero = 0
vertices_before records (suc i) = vertices_before records i + vertices_of (get_or records i 0)

abbrev pub vertices_in : List ℕ → ℕ
vertices_in records = vertices_before records (length records)
