-- `clear` meets its contract: the marks of the neighbours that are passed are off. Assumes nothing.
use Prim.Native.Nat.{ℕ, ◌%◌}
use mathlib.Core.Bool.{cond}
use mathlib.Core.Path.{◌≡◌}
use lib.Dec.{ltb}
use lib.ListN.{get_or}
use Rattle.tracing.proofs.scan.clear.Given as goal

abbrev pub invariant-loop-neighbour : goal.invariant-loop-neighbour
invariant-loop-neighbour l =
    (k : ℕ) → get_or l.neighbour-items k 0 ≡ cond (ltb k l.neighbour-index) (get_or l.initial.neighbour-items k 0 % 32768) (get_or l.initial.neighbour-items k 0)
