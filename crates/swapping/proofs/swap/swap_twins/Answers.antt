-- `swap_twins` meets its contract: six stores. Assumes nothing.
use Rattle.swapping.proofs.RoomLaws.{twins-stored}
use Rattle.swapping.proofs.swap.swap_twins.Goals as goal

pub returns : goal.returns
returns c =
    let a = c.args in
    twins-stored a.twins.now a.e.0 a.f.0 c.after-g.ensures.0 c.after-h.ensures.0 c.twin-a.ensures c.twin-b.ensures
    c.put.ensures c.put-2.ensures c.put-3.ensures c.put-4.ensures c.put-5.ensures c.put-6.ensures
