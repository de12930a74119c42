-- What collecting the values of a text comes to. Assumes nothing.
use Rattle.std.specs.Prelude.{Result, Ok, Err, List, ◌≡◌, ℕ, ◌<◌, ◌≤◌, length, take, drop}
use Rattle.shapes.specs.Line.{fault_number}
use Rattle.forms.specs.Form.{State, feed, Read, right, fault}
use Rattle.feeding.specs.declared.reader.Reader.{Reader}
use Rattle.feeding.specs.declared.reader.Stepped.{Stepped}
use Rattle.feeding.specs.Reader.{meant, Housed}
use Rattle.gathering.specs.declared.values.Wrong.{Wrong}

-- The first values of the list, or a refusal and its line.
abbrev pub collected : Result ℕ Wrong → List ℕ → Read
collected (Ok n) values = right (take n values)
collected (Err wrong) values = fault (fault_number wrong.fault) wrong.line

-- How many values are kept.
abbrev pub kept : Result ℕ Wrong → ℕ
kept (Ok n) = n
kept (Err wrong) = 0

-- What a text comes to whose bytes before `at` are read: the reader stands behind them, and the values of their lines are the first of a list.
abbrev pub comes_to : List ℕ → ℕ → Reader → List ℕ → List ℕ → State
comes_to text at r values seen = feed (meant r (take r.lines values) seen) (drop at text)

-- A step leads on from the byte `at`, and leaves the last three lists: the text comes to the same, and the reader has its rooms.
pub record LeadsOn (text : List ℕ) (at : ℕ) (r : Reader) (values seen : List ℕ) (e : Stepped) (values' seen' marks' : List ℕ) : Type 0 where
  pub comes : comes_to text e.at e.reader values' seen' ≡ comes_to text at r values seen
  pub onward : at < e.at
  pub within : e.at ≤ length text
  pub housed : Housed e.reader seen' marks'
