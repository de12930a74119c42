-- `put_value` meets its contract: each arm puts what the definition says of its kind. Assumes nothing.
use Rattle.shapes.specs.Bytes.{value_bytes}
use Rattle.printing.proofs.put_value.Goals as goal

pub returns-in-Natural : goal.returns-in-Natural
unfolding value_bytes
returns-in-Natural c = rw c.in-Natural.is c.put_digits.ensures

pub returns-in-Whole : goal.returns-in-Whole
unfolding value_bytes
returns-in-Whole c = rw c.in-Whole.is c.put_whole.ensures

pub returns-in-Tag : goal.returns-in-Tag
unfolding value_bytes
returns-in-Tag c = rw c.in-Tag.is c.put_word.ensures

pub returns-in-Choice : goal.returns-in-Choice
unfolding value_bytes
returns-in-Choice c = rw (c.in-Choice.is, ← c.chosen.ensures) c.put_word-in-Choice.ensures
