-- `keep` meets its contract. Assumes nothing.
use native.Mathlib.Omega.{arith}
use Rattle.feeding.proofs.TagLaws.{take_put}
use Rattle.feeding.proofs.MarkLaws.{marked-put}
use Rattle.feeding.proofs.tags.keep.Goals as goal

pub returns : goal.returns
returns c =
    let a = c.args in
    record {
      seen_after = take_put a.seen.now a.n a.tag (omega arith);
      marked = marked-put a.seen.now a.marks.now a.n a.tag (omega arith) c.requires.1 c.requires.2;
    }
