-- `put_block` meets its contract: one line, and two behind it. Assumes nothing.
use native.Mathlib.Omega.{arith}
use Rattle.shapes.proofs.BytesLaws.{line-length}
use Rattle.pouring.proofs.PouredLaws.{put_on}
use Rattle.formats.specs.Lines.{least_height, level_line}
use Rattle.report.proofs.WrittenLaws.{block_written}
use Rattle.report.proofs.put_block.Goals as goal

pub put_two-requires : goal.put_two-requires
put_two-requires c = omega (arith, line-length (level_line least_height) c.args.level)

pub returns : goal.returns
returns c =
    let p = put_on _ _ _ _ _ _ _ _ c.put_line-next.ensures c.put_two.ensures.value in
    rw block_written (omega (arith, p.0), p.1)
