-- `is_open` meets its contract: the number NONE is that of a hull side without a mark. Assumes nothing.
use native.Mathlib.Omega.{arith}
use borrow.Author.Tests.{ne_eqb}
use mathlib.Core.Path.{◌∙◌}
use Rattle.tracing.specs.Written.{below_in}
use Rattle.tracing.proofs.CodeLaws.{mesh-long}
use Rattle.tracing.proofs.StartLaws.{open-hull, open_not}
use Rattle.tracing.proofs.walk.Tracer.is_open.Goals as goal

pub bounds-room-self : goal.bounds-room-self
bounds-room-self c = omega (arith, c.requires.1, mesh-long c.args.room.now c.requires.0)

pub returns-then-room-self-eq-NONE : goal.returns-then-room-self-eq-NONE
returns-then-room-self-eq-NONE c =
    let a = c.args in
    c.is_crossed.ensures
    ∙ open-hull a.self.now.m a.room.now (below_in a.self.now.z.now a.self.now.level) a.h.0 c.requires.1 (mesh-long a.room.now c.requires.0) c.if-room-self-eq-NONE.true

pub returns-else-room-self-eq-NONE : goal.returns-else-room-self-eq-NONE
returns-else-room-self-eq-NONE c =
    let a = c.args in
    ne_eqb _ _ c.if-room-self-eq-NONE.false
    ∙ open_not a.self.now.m a.room.now (below_in a.self.now.z.now a.self.now.level) a.h.0 c.requires.1 (mesh-long a.room.now c.requires.0) c.if-room-self-eq-NONE.false
