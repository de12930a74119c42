-- What a job answers: what it gives where it is done, and else the refusal. Assumes nothing.
use Rattle.std.specs.Prelude.{ℕ, Result, Ok}
use Rattle.survey.specs.declared.answers.Drawn.{Drawn}
use Rattle.survey.specs.declared.answers.Figures.{Figures}
use Rattle.survey.specs.declared.answers.Read.{Read}
use Rattle.survey.specs.declared.refusal.Refusal.{Refusal}

abbrev pub Answer : Type 0 → Type 0
Answer T = Result T Refusal

-- Done, with more numbers than one.
abbrev pub lines_done : ℕ → ℕ → Answer Drawn
lines_done lines vertices = Ok (record { lines = lines; vertices = vertices })

abbrev pub figures_done : ℕ → ℕ → Answer Figures
figures_done served unserved = Ok (record { served = served; unserved = unserved })

abbrev pub read_done : ℕ → ℕ → ℕ → Answer Read
read_done style stations levels = Ok (record { style = style; stations = stations; levels = levels })
