-- `table` meets its contract: the checker computes the rule's 390 values and compares them with the constant. Assumes nothing.
use mathlib.Core.Path.{refl}
use Rattle.curve.specs.Weights.{weight_of, weight_table}
use Rattle.curve.proofs.weights.table.Goals as goal

pub returns : goal.returns
unfolding weight_table weight_of
returns c = refl
