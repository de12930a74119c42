-- Each level leaves the work room as it was. Assumes nothing.
use Rattle.std.proofs.Common.{◌≡◌}
use Rattle.console.proofs.answer.Given as goal

abbrev pub invariant-loop-k : goal.invariant-loop-k
invariant-loop-k g l = l.work ≡ l.initial.work
