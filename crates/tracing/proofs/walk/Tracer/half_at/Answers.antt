-- `half_at` meets its contract: behind the neighbours there is no mark. Assumes nothing.
use native.Mathlib.Omega.{arith}
use mathlib.Core.Path.{sym}
use Rattle.tracing.proofs.RoomLaws.{cleared-behind}
use Prim.Native.Nat.{◌+◌, ◌*◌}
use Rattle.tracing.proofs.walk.Tracer.half_at.Goals as goal

pub returns : goal.returns
returns c =
    let a = c.args in
    sym (cleared-behind a.self.now.m a.self.now.m a.room.now (2 * a.self.now.m + a.i) (omega arith) c.requires)
