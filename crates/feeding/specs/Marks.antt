-- The marks that tags leave, so that a tag is known to be new without being looked for among those before it. Assumes nothing.
use Rattle.std.specs.Prelude.{true, ◌≡◌, List, ℕ, ◌%◌, get_or}
use Rattle.shapes.specs.Line.{is_used}

-- How many marks there are.
abbrev pub mark_count : ℕ
mark_count = 6133

-- Where a tag leaves its mark.
abbrev pub mark_of : ℕ → ℕ
mark_of tag = tag % mark_count

-- Each used tag has left its mark.
abbrev pub Marked : List ℕ → List ℕ → Type 0
Marked used marks = (w : ℕ) → is_used used w ≡ true → get_or marks (mark_of w) 0 ≡ 1
