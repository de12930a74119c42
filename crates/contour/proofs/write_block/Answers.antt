-- `write_block` meets its contract: a room as long as any block of so many lines and vertices has room for it. Assumes nothing.
use native.Mathlib.Omega.{arith}
use borrow.Author.Rules.{rules}
use Rattle.plotting.specs.Bytes.{block_bytes}
use Rattle.contour.proofs.AnswerLaws.{is_put}
use Rattle.contour.proofs.RoomLaws.{block-most}
use Rattle.contour.proofs.WrittenLaws.{block_written}
use Rattle.contour.proofs.write_block.Goals as goal

pub put_block-bytes-requires : goal.put_block-bytes-requires
put_block-bytes-requires c = let l = c.requires.0 in omega (arith, l.records-most, l.xs-most, l.ys-count, l.vertices-count)

pub returns-then-records-x : goal.returns-then-records-x
returns-then-records-x c =
    let k = c.put_block-bytes in
    let a = c.args in
    let most = block-most a.records.now a.x.now a.y.now c.requires.0 c.requires.1 c.requires.2 a.level in
    rw (block_written a.records.now a.x.now a.y.now c.requires.0 c.requires.1 c.requires.2 a.level)
    (is_put _ _ _ k.new.out (omega arith) k.ensures.0 k.ensures.1)

pub returns : goal.returns
returns c =
    let a = c.args in
    rw (block_written a.records.now a.x.now a.y.now c.requires.0 c.requires.1 c.requires.2 a.level)
    (c.write_fitted.ensures (block_bytes a.level a.records.now a.x.now a.y.now) (λ old new r h. search rules))
