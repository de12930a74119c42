-- `sweep` meets its contract: the slices hold the sweep's state after each station. Assumes nothing.
use Prim.Native.Nat.{◌+◌}
use Rattle.triangles.specs.Chain.{places_of}
use Rattle.triangles.proofs.SweptLaws.{Going}
use Rattle.triangles.proofs.chain.sweep.Given as goal

abbrev pub invariant-loop-q : goal.invariant-loop-q
invariant-loop-q l = Going (places_of l.x l.y) l.order l.initial.triangles l.lo l.grown.a l.up l.grown.b l.triangles l.grown.k (l.q-index + 1)
