-- `fill_tops` meets its contract: after b turns the first b blocks are told. Assumes nothing.
use Prim.Native.Nat.{ℕ, ◌<◌}
use lib.ListN.{get_or}
use Rattle.tops.specs.Tops.{Top}
use Rattle.tops.proofs.fill_tops.Given as goal

abbrev pub invariant-loop-b : goal.invariant-loop-b
invariant-loop-b l = (d : ℕ) → d < l.b → Top l.keys d (get_or l.tops d 0)
