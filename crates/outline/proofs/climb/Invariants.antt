-- `climb` meets its contract: the slice holds the chain of the stations so far. Assumes nothing.
use Prim.Native.Nat.{◌+◌}
use Rattle.triangles.specs.Chain.{places_of}
use Rattle.outline.proofs.ClimbLaws.{Climbing}
use Rattle.outline.proofs.climb.Given as goal

abbrev pub invariant-loop-q : goal.invariant-loop-q
invariant-loop-q l = Climbing (places_of l.x l.y) l.upper l.order l.chain l.a (l.q-index + 1)
