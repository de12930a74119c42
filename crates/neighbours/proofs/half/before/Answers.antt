-- `before` meets its contract: the first side of a triangle comes after its last. Assumes nothing.
use native.Mathlib.Omega.{arith}
use Rattle.neighbours.proofs.HalfLaws.{before_first, before_other, before_small}
use Rattle.neighbours.proofs.half.before.Goals as goal

pub returns-then-h-eq0 : goal.returns-then-h-eq0
returns-then-h-eq0 c =
    let e = before_first c.args.h.0 c.if-h-eq0.true in
    (e, omega (arith, e, before_small c.args.h.0 c.requires))

pub returns-else-h-eq0 : goal.returns-else-h-eq0
returns-else-h-eq0 c =
    let e = before_other c.args.h.0 c.if-h-eq0.false in
    (e, omega (arith, e, before_small c.args.h.0 c.requires))
