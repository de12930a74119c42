-- `put` meets its contract: a line has at most 30 bytes. Assumes nothing.
use native.Mathlib.Omega.{arith}
use Rattle.shapes.proofs.BytesLaws.{line-length}
use Rattle.composing.proofs.put.Goals as goal

pub returns : goal.returns
returns c =
    record {
      value = rw (← c.shape_at.ensures) c.put_line.ensures;
      upper_bound = omega (arith, c.put_line.ensures.0, line-length c.shape_at.result c.args.v);
    }
