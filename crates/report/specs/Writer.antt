-- Which answer the writer of the served ground gives: document 01, "Refusal numbers" and "Text". What its room holds then is said by contour
-- text's `room_after`. Assumes nothing.
use Rattle.std.specs.Prelude.{Bool, cond, ◌||◌, ℕ, ltb, ℤ, Err}
use Rattle.survey.specs.Limits.{too_far, most_ground}
use Rattle.survey.specs.declared.refusal.Refusal.TheVariants.{Number}
use Rattle.survey.specs.Answer.{Answer}
use Rattle.formats.specs.Lines.{is_style}
use Rattle.contour.specs.Writer.{fitted}
use Rattle.report.specs.Report.{heading_of, block_of}

-- 5: 'Style is 0 straight, 1 smooth.'
unfoldable pub heading_answer : ℕ → ℕ → Answer ℕ
heading_answer style room = cond (is_style style) (fitted (heading_of style) room) (Err Number)

-- 5: 'level [..] out of range', or a figure of more ground than any hull has.
abbrev pub is_outside : ℤ → ℕ → ℕ → Bool
is_outside level served unserved = too_far level || (ltb most_ground served || ltb most_ground unserved)

-- 5 and 6, in that order.
unfoldable pub block_answer : ℤ → ℕ → ℕ → ℕ → Answer ℕ
block_answer level served unserved room = cond (is_outside level served unserved) (Err Number) (fitted (block_of level served unserved) room)
