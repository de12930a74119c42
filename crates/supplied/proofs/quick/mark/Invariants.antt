-- `mark` meets its contract: what is marked so far is among the numbers so far. Assumes nothing.
use mathlib.Core.Path.{◌≡◌}
use lib.ListN.{length}
use Rattle.supplied.specs.Named.{Marked}
use Rattle.supplied.proofs.quick.mark.Given as goal

abbrev pub invariant-loop-k : goal.invariant-loop-k
invariant-loop-k l = (length l.marks ≡ length l.initial.marks) × Marked l.k-items l.k-index l.marks
