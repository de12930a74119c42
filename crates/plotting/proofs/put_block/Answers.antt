-- `put_block` meets its contract: the level and the count of lines, and the lines behind them. Assumes nothing.
use native.Mathlib.Omega.{arith}
use Rattle.pouring.proofs.PouredLaws.{put_on}
use Rattle.plotting.proofs.put_block.Goals as goal

pub returns : goal.returns
returns c =
    let p = put_on _ _ _ _ _ _ _ _ c.put_two-first.ensures.value c.put_lines.ensures in
    (omega (arith, p.0), p.1)
