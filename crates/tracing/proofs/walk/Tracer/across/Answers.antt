-- `across` meets its contract: the mark is the highest bit. Assumes nothing.
use native.Mathlib.Omega.{arith}
use mathlib.Core.Path.{sym}
use Rattle.tracing.proofs.RoomLaws.{cleared-part}
use Rattle.tracing.proofs.walk.Tracer.across.Goals as goal

pub returns : goal.returns
returns c =
    let a = c.args in
    (sym (cleared-part a.self.now.m a.self.now.m a.room.now a.h.0 c.requires.0 (omega (arith, c.requires.0, c.requires.1))), omega arith)
