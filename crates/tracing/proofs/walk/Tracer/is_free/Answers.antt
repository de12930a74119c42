-- `is_free` meets its contract. Assumes nothing.
use Rattle.tracing.proofs.RoomLaws.{unmarked_is}
use Rattle.tracing.proofs.walk.Tracer.is_free.Goals as goal

pub returns : goal.returns
returns c = unmarked_is c.args.self.now.m c.args.room.now c.args.h.0 c.requires.0
