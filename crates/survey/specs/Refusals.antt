-- The refusal numbers: document 01, "Refusal numbers", and document 02, L10. Assumes nothing.
use Rattle.std.specs.Prelude.{ℕ}
use Rattle.survey.specs.declared.refusal.Refusal.{Refusal}
use Rattle.survey.specs.declared.refusal.Refusal.TheVariants.{Count, Range, SamePlace, OneLine, Number, Room, Form, TagUsed, Mesh}

-- The number that the paper gives each refusal.
abbrev pub number_of : Refusal → ℕ
number_of Count = 1
number_of (Range station) = 2
number_of (SamePlace station) = 3
number_of OneLine = 4
number_of Number = 5
number_of Room = 6
number_of (Form at) = 7
number_of (TagUsed at) = 8
number_of (Mesh triangle) = 9

-- What it carries.
abbrev pub carried_by : Refusal → ℕ
carried_by Count = 0
carried_by (Range station) = station
carried_by (SamePlace station) = station
carried_by OneLine = 0
carried_by Number = 0
carried_by Room = 0
carried_by (Form at) = at
carried_by (TagUsed at) = at
carried_by (Mesh triangle) = triangle
