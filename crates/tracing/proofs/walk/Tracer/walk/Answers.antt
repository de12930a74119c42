-- `walk` meets its contract: the start, then what follows it. Assumes nothing.
use native.Mathlib.Omega.{arith}
use mathlib.Core.Path.{sym, ap, subst}
use lib.ListN.{length, set, length-set}
use Rattle.tracing.specs.Written.{below_in}
use Rattle.tracing.specs.Room.{Meshed}
use Rattle.tracing.proofs.CodeLaws.{mesh-long, mesh-after}
use Rattle.tracing.proofs.WalkLaws.{follow-length, walk-whole}
use Rattle.tracing.proofs.walk.Tracer.walk.Goals as goal

pub after-requires : goal.after-requires
after-requires c = omega (arith, c.requires.0.small, c.requires.1)

pub across-e-requires : goal.across-e-requires
across-e-requires c = (c.requires.1, mesh-long c.args.room.now c.requires.0)

pub visit-requires : goal.visit-requires
visit-requires c =
    let e = c.after.ensures.0 in (
      c.requires.0.small,
      mesh-long c.args.room.now c.requires.0,
      c.requires.1,
      e,
      omega (arith, e, mesh-after c.args.room.now c.requires.0 c.args.s.0 c.requires.1),
    )

pub go_on-requires : goal.go_on-requires
go_on-requires c =
    let a = c.args in
    let v = c.visit in
    let n = length a.self.now.z.now in
    let e = follow-length a.self.now.m n (below_in a.self.now.z.now a.self.now.level) a.s.0 a.room.now v.new.room v.ensures.0 in
    let w = length-set a.sides.now a.v v.new.side in
    (subst (Meshed a.self.now.m n) (sym v.ensures.0) c.requires.0, c.requires.1, omega (arith, e, w, c.requires.2))

pub returns : goal.returns
returns c =
    let a = c.args in
    let v = c.visit in
    let g = c.go_on in
    let n = length a.self.now.z.now in
    walk-whole a.self.now.m n (below_in a.self.now.z.now a.self.now.level) a.s.0 a.room.now v.new.room v.ensures.0 g.new.room
    c.across-e.ensures.0 v.ensures.1 (ap (set a.sides.now a.v) v.ensures.2) g.ensures
