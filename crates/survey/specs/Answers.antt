-- The paper's number for each answer, and the whole numbers that it carries, in the order in which it is given: document 01,
-- "Refusal numbers". 'The first that applies is given'; 0 is done, and carries the result. Assumes nothing.
use Rattle.std.specs.Prelude.{List, [], ◌∷◌, ℕ, ℤ, pos, Ok, Err, ⊤}
use Rattle.std.specs.Float.{binary64}
use Rattle.std.specs.Float.Ieee.{to_bits}
use Rattle.survey.specs.declared.refusal.Refusal.{Refusal}
use Rattle.survey.specs.Answer.{Answer}
use Rattle.survey.specs.declared.answers.Drawn.{Drawn}
use Rattle.survey.specs.declared.answers.Figures.{Figures}
use Rattle.survey.specs.declared.answers.Read.{Read}
use Rattle.survey.specs.declared.answers.Height.{Height}
use Rattle.survey.specs.declared.answers.Height.TheVariants as height
use Rattle.survey.specs.Refusals.{number_of, carried_by}

abbrev pub Given : Type 0
Given = ℕ × List ℤ

-- What a refusal gives, whatever the job.
abbrev pub refused : Refusal → Given
refused why = (number_of why, pos (carried_by why) ∷ [])

abbrev pub checked_gives : Answer ⊤ → Given
checked_gives (Ok _) = (0, [])
checked_gives (Err why) = refused why

abbrev pub meshed_gives : Answer ℕ → Given
meshed_gives (Ok triangles) = (0, pos triangles ∷ [])
meshed_gives (Err why) = refused why

abbrev pub sloped_gives : Answer ⊤ → Given
sloped_gives (Ok _) = (0, [])
sloped_gives (Err why) = refused why

-- 'a station's own height, an interpolated height, or outside the hull': the kinds 0, 1 and 2, then the height. That of kind 1 is
-- given by its bits.
abbrev pub height_gives : Answer Height → Given
height_gives (Ok (height.Own z)) = (0, pos 0 ∷ z ∷ [])
height_gives (Ok (height.Between z)) = (0, pos 1 ∷ pos (to_bits binary64 z) ∷ [])
height_gives (Ok height.Outside) = (0, pos 2 ∷ [])
height_gives (Err why) = refused why

abbrev pub drawn_gives : Answer Drawn → Given
drawn_gives (Ok d) = (0, pos d.lines ∷ pos d.vertices ∷ [])
drawn_gives (Err why) = refused why

-- The two figures are wider than what a refusal carries; they are handed over by themselves.
abbrev pub counted_gives : Answer Figures → Given
counted_gives (Ok d) = (0, [])
counted_gives (Err why) = refused why

abbrev pub reading_gives : Answer Read → Given
reading_gives (Ok d) = (0, pos d.style ∷ pos d.stations ∷ pos d.levels ∷ [])
reading_gives (Err why) = refused why

abbrev pub writing_gives : Answer ℕ → Given
writing_gives (Ok bytes) = (0, pos bytes ∷ [])
writing_gives (Err why) = refused why
