-- `put_side` meets its contract: a side of the upper chain runs down, one of the lower chain up. Assumes nothing.
use Rattle.outline.proofs.WrittenLaws.{side-above, side-below}
use Rattle.outline.proofs.put_side.Goals as goal

pub returns-then-upper : goal.returns-then-upper
returns-then-upper c =
    let a = c.args in
    side-above a.upper a.chain.now a.next.now a.k c.if-upper.true

pub returns-else-upper : goal.returns-else-upper
returns-else-upper c =
    let a = c.args in
    side-below a.upper a.chain.now a.next.now a.k c.if-upper.false
