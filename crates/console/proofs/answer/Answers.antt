-- `answer` meets what `put_level` asks: what `open_any` leaves is ready for every level. Assumes nothing.
use Rattle.std.proofs.Common.{replicate, pos}
use Rattle.program.proofs.ReadyLaws.{any_ready, still_ready}
use Rattle.console.proofs.answer.Goals as goal

pub put_level-bytes-requires : goal.put_level-bytes-requires
put_level-bytes-requires g c =
    let below = c.loop-k-test.true in
    let e = c.open_any-opened.ensures in
    let rooms =
    any_ready c.args.kind c.args.report c.args.text.now c.open_any-opened.result (replicate 1024 0) (replicate 1024 0) (replicate 16384 0)
    (replicate 1024 (pos 0)) (replicate 64 (pos 0)) (replicate 5120 (pos 0))
    c.loop-k.k below e.opened e.of_x e.of_y e.of_z e.of_levels e.of_work e.of_slopes in
    (still_ready rooms c.loop-k.invariant, below)
