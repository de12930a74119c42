-- `put_sides` meets its contract: the sides below entry k are written. Assumes nothing.
use mathlib.Core.Path.{◌≡◌}
use Rattle.outline.specs.Outline.{sides_on, written}
use Rattle.outline.proofs.put_sides.Given as goal

abbrev pub invariant-loop-k : goal.invariant-loop-k
invariant-loop-k l = l.next ≡ written (sides_on l.upper l.chain l.k) l.initial.next
