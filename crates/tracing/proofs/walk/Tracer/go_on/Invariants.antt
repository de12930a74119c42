-- `go_on` meets its contract: each turn is a turn of `Walking`. Assumes nothing.
use lib.ListN.{length}
use Rattle.tracing.specs.Written.{below_in}
use Rattle.tracing.proofs.WalkLaws.{Walking}
use Rattle.tracing.proofs.walk.Tracer.go_on.Given as goal

abbrev pub invariant-loop : goal.invariant-loop
invariant-loop l =
    Walking l.self.m (length l.self.z.now) (below_in l.self.z.now l.self.level) l.start l.initial.room l.initial.sides l.v l.room l.sides l.h l.k l.counter
