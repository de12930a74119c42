-- `renew_side` meets its contract: one key, and its twin's. Assumes nothing.
use Rattle.triangles.specs.Chain.{places_of}
use Rattle.swapping.specs.Rooms.{key_in}
use Rattle.swapping.proofs.RoomLaws.{side-renewed}
use Rattle.swapping.proofs.keys.renew_side.Goals as goal

pub returns : goal.returns
returns c =
    let a = c.args in (
      side-renewed (key_in (places_of a.x.now a.y.now) a.corners.now a.twins.now) a.twins.now a.keys.now a.h.0
          c.renew_half.ensures.0 c.twin-f.ensures c.renew_half-2.ensures.0,
      c.renew_half-2.ensures.1,
    )
