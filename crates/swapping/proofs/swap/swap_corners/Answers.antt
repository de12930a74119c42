-- `swap_corners` meets its contract: two stores. Assumes nothing.
use Rattle.swapping.proofs.RoomLaws.{corners-stored}
use Rattle.swapping.proofs.swap.swap_corners.Goals as goal

pub returns : goal.returns
returns c =
    let a = c.args in
    corners-stored a.corners.now a.e.0 a.f.0 c.before-2.ensures.0 c.before-3.ensures.0 c.after-h.ensures.0 c.after-g.ensures.0
    c.corner-l.ensures.0 c.corner-r.ensures.0 c.put.ensures c.put-2.ensures
