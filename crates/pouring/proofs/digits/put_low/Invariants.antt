-- `put_low` meets its contract: what is left of the digits, put before those that are, gives them all. Assumes nothing.
use mathlib.Core.Path.{◌≡◌}
use Rattle.pouring.specs.Poured.{poured, low}
use Rattle.pouring.proofs.digits.put_low.Given as goal

abbrev pub invariant-loop-j : goal.invariant-loop-j
invariant-loop-j l = poured l.out l.at (low l.base l.from l.j l.left) ≡ poured l.initial.out l.at (low l.base l.from l.count l.n)
