-- What a reader means: the state of the form that it stands for. Assumes nothing.
use Rattle.std.specs.Prelude.{Option, None, Some, ◌≡◌, List, [], ◌∷◌, ◌++◌, ℕ, suc, ◌+◌, ◌*◌, ◌≤◌, length, take}
use Rattle.shapes.specs.declared.line.Part.{Part}
use Rattle.shapes.specs.declared.line.Part.TheVariants.{Key}
use Rattle.forms.specs.Form.{State, at, failed}
use Rattle.survey.specs.Limits.{most_stations, most_levels}
use Rattle.formats.specs.declared.place.Line.{Line}
use Rattle.formats.specs.Place.{placed, form_at, lines_ahead, tags_ahead}
use Rattle.feeding.specs.declared.reader.Reader.{Reader}
use Rattle.feeding.specs.Marks.{mark_count, Marked}

-- A fault at a line, or the state where there is none.
abbrev pub by_fault : Option ℕ → State → ℕ → State
by_fault None s k = s
by_fault (Some why) s k = failed why k

-- The values before the line are vs; the tags among them are the first of `seen`.
abbrev pub meant : Reader → List ℕ → List ℕ → State
meant r vs seen = by_fault r.fault (at (form_at r.place (take r.tags seen)) (suc r.lines) r.part vs) (suc r.lines)

-- Before the first line of a text.
abbrev pub started : Line → Reader
started first = record { place = placed first 0 0; part = Key 0; lines = 0; tags = 0; fault = None }

-- The reader within a line.
abbrev pub with_part : Reader → Part → Reader
with_part r p = record { place = r.place; part = p; lines = r.lines; tags = r.tags; fault = r.fault }

-- The values with that of a line more, if there is one.
abbrev pub with_value : Option ℕ → List ℕ → List ℕ
with_value None vs = vs
with_value (Some v) vs = vs ++ (v ∷ [])

abbrev pub one : Option ℕ → ℕ
one None = 0
one (Some v) = 1

-- No text has more lines.
abbrev pub most_lines : ℕ
most_lines = 4 * most_stations + most_levels + 4

-- The lines to come are no more than a text has, their tags have room, and each tag has left its mark.
pub record Housed (r : Reader) (seen marks : List ℕ) : Type 0 where
  pub lines : r.lines + lines_ahead r.place.line r.place.left ≤ most_lines
  pub tags : r.tags + tags_ahead r.place.line r.place.left ≤ length seen
  pub places : length marks ≡ mark_count
  pub marked : Marked (take r.tags seen) marks
