-- `after` meets its contract: the last side of a triangle is followed by its first. Assumes nothing.
use native.Mathlib.Omega.{arith}
use Rattle.neighbours.proofs.HalfLaws.{after_last, after_next, after_small}
use Rattle.neighbours.proofs.half.after.Goals as goal

pub returns-then-h-eq2 : goal.returns-then-h-eq2
returns-then-h-eq2 c =
    let e = after_last c.args.h.0 c.if-h-eq2.true in
    (e, omega (arith, e, after_small c.args.h.0 c.requires))

pub returns-else-h-eq2 : goal.returns-else-h-eq2
returns-else-h-eq2 c =
    let e = after_next c.args.h.0 c.if-h-eq2.false in
    (e, omega (arith, e, after_small c.args.h.0 c.requires))
