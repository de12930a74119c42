-- How many bytes an answer of the writer says. Assumes nothing.
use Rattle.std.specs.Prelude.{ℕ, Ok, Err}
use Rattle.survey.specs.Answer.{Answer}

abbrev pub bytes_of : Answer ℕ → ℕ
bytes_of (Ok bytes) = bytes
bytes_of (Err why) = 0
