use native.Mathlib.Omega.{arith}
use mathlib.Core.Path.{sym, ap, subst}
use lib.ListN.{length, set}
use Rattle.tracing.specs.Written.{below_in}
use Rattle.tracing.specs.Room.{Meshed}
use Rattle.tracing.proofs.CodeLaws.{mesh-long}
use Rattle.tracing.proofs.WalkLaws.{walk_first, walk-over, walk-round, walk-room, walk-hull, walk_on}
use Rattle.tracing.proofs.walk.Tracer.go_on.Goals as goal

pub loop-init : goal.loop-init
loop-init c =
    let a = c.args in
    walk_first a.self.now.m (length a.self.now.z.now) (below_in a.self.now.z.now a.self.now.level) a.s.0 a.room.now a.sides.now a.v c.requires.1

pub exit-g-requires : goal.exit-g-requires
exit-g-requires c =
    let i = c.loop.invariant in
    (subst (Meshed c.args.self.now.m (length c.args.self.now.z.now)) (sym i.kept) c.requires.0, i.within)

pub across-e-requires : goal.across-e-requires
across-e-requires c =
    let l = c.loop in
    (c.exit-g.ensures.1, mesh-long l.room (subst (Meshed c.args.self.now.m (length c.args.self.now.z.now)) (sym l.invariant.kept) c.requires.0))

pub returns-then-e-start : goal.returns-then-e-start
returns-then-e-start c =
    let a = c.args in
    let l = c.loop in
    walk-round a.self.now.m (length a.self.now.z.now) (below_in a.self.now.z.now a.self.now.level) a.s.0 a.room.now a.sides.now a.v l.invariant c.loop-test.true c.exit-g.ensures.0 c.across-e.ensures.0 (omega (arith, c.requires.0.small, c.requires.1)) c.if-e-start.true

pub visit-requires : goal.visit-requires
visit-requires c =
    let l = c.loop in
    let g = c.exit-g.ensures in (
      c.requires.0.small,
      mesh-long l.room (subst (Meshed c.args.self.now.m (length c.args.self.now.z.now)) (sym l.invariant.kept) c.requires.0),
      g.1,
      g.2,
      g.3,
    )

pub bounds-sides-k : goal.bounds-sides-k
bounds-sides-k c =
    let a = c.args in
    let l = c.loop in
    let w = walk-room a.self.now.m (length a.self.now.z.now) (below_in a.self.now.z.now a.self.now.level) a.s.0 a.room.now a.sides.now a.v l.invariant c.loop-test.true c.exit-g.ensures.0 c.across-e.ensures.0 c.if-e-start.false in
    omega (arith, w, l.invariant.long, c.requires.2)

pub overflow_add-k : goal.overflow_add-k
overflow_add-k c =
    let a = c.args in
    let l = c.loop in
    let w = walk-room a.self.now.m (length a.self.now.z.now) (below_in a.self.now.z.now a.self.now.level) a.s.0 a.room.now a.sides.now a.v l.invariant c.loop-test.true c.exit-g.ensures.0 c.across-e.ensures.0 c.if-e-start.false in
    omega (arith, w, c.requires.2, c.ranges)

pub returns-then-e-eq-NONE : goal.returns-then-e-eq-NONE
returns-then-e-eq-NONE c =
    let a = c.args in
    let l = c.loop in
    let v = c.visit in
    walk-hull a.self.now.m (length a.self.now.z.now) (below_in a.self.now.z.now a.self.now.level) a.s.0 a.room.now a.sides.now a.v l.invariant c.loop-test.true c.exit-g.ensures.0 c.across-e.ensures.0 c.if-e-start.false v.new.room v.ensures.0 v.ensures.1 (ap (set l.sides l.k) v.ensures.2) c.if-e-eq-NONE.true

pub loop-preserved : goal.loop-preserved
loop-preserved c =
    let a = c.args in
    let l = c.loop in
    let v = c.visit in
    walk_on a.self.now.m (length a.self.now.z.now) (below_in a.self.now.z.now a.self.now.level) a.s.0 a.room.now a.sides.now a.v l.invariant c.loop-test.true c.exit-g.ensures.0 c.across-e.ensures.0 c.if-e-start.false v.new.room v.ensures.0 v.ensures.1 (ap (set l.sides l.k) v.ensures.2) c.requires.0 c.exit-g.ensures.1 c.if-e-eq-NONE.false

pub returns : goal.returns
returns c =
    let a = c.args in
    let l = c.loop in
    walk-over a.self.now.m (length a.self.now.z.now) (below_in a.self.now.z.now a.self.now.level) a.s.0 a.room.now a.sides.now a.v l.invariant c.loop-test.false
