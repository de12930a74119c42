-- `put_two` meets its contract: one line, and the other behind it. Assumes nothing.
use native.Mathlib.Omega.{arith}
use Rattle.shapes.proofs.BytesLaws.{line-length}
use Rattle.pouring.proofs.PouredLaws.{put_on}
use Rattle.plotting.proofs.LengthLaws.{two-most}
use Rattle.plotting.proofs.put_two.Goals as goal

pub put_line-requires : goal.put_line-requires
put_line-requires c = let a = c.args in omega (arith, line-length a.first a.v)

pub returns : goal.returns
returns c =
    let p = put_on _ _ _ _ _ _ _ _ c.put_line-next.ensures c.put_line.ensures in
    let a = c.args in
    record {
      value = p;
      upper_bound = omega (arith, p.0, two-most a.first a.v a.second a.w);
    }
