-- `renew_round` meets its contract: one side after the other. Assumes nothing.
use Rattle.triangles.specs.Chain.{places_of}
use Rattle.swapping.specs.Rooms.{key_in}
use Rattle.swapping.proofs.RoomLaws.{round-renewed}
use Rattle.swapping.proofs.keys.renew_round.Goals as goal

pub returns : goal.returns
returns c =
    let a = c.args in (
      round-renewed (key_in (places_of a.x.now a.y.now) a.corners.now a.twins.now) a.twins.now a.keys.now a.e.0 a.f.0
          c.before-2.ensures.0 c.renew_triangle.ensures.0 c.renew_side.ensures.0 c.renew_side-2.ensures.0,
      c.renew_side-2.ensures.1,
    )
