-- `mark` meets its contract: the highest bit is set, the others stay. Assumes nothing.
use Prim.Native.Nat.{◌+◌, ◌<◌}
use lib.ListN.{length}
use native.Mathlib.Omega.{arith}
use Rattle.tracing.proofs.RoomLaws.{mark-kept, mark-put}
use Rattle.tracing.proofs.walk.Tracer.mark.Goals as goal

pub returns : goal.returns
returns c =
    let a = c.args in
    let w : a.self.now.m + a.h.0 < length a.room.now = omega (arith, c.requires.0, c.requires.1) in
    (mark-kept a.self.now.m a.room.now a.h.0 c.requires.0 w, mark-put a.self.now.m a.room.now a.h.0 c.requires.0 w)
