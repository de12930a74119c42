-- `put_drawn` meets its contract: the kind and the count, and the vertices behind them. Assumes nothing.
use Rattle.pouring.proofs.PouredLaws.{put_on}
use Rattle.plotting.proofs.put_drawn.Goals as goal

pub returns : goal.returns
returns c =
    let first = rw (c.from.ensures, c.from-2.ensures) at c.put_two-first.ensures.value in
    let vertices = rw c.requires.1 at c.put_vertices.ensures in
    put_on _ _ _ _ _ _ _ _ first vertices
