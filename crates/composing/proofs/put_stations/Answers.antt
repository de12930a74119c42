use mathlib.Core.Path.{◌≡◌, sym}
use native.Mathlib.Omega.{arith}
use lib.ListN.{length}
use Rattle.pouring.proofs.PouredLaws.{poured_none}
use Rattle.rendering.specs.Lines.{station_text}
use Rattle.printing.proofs.RowLaws.{more-put}
use Rattle.composing.proofs.put_stations.Goals as goal

pub loop-i-init : goal.loop-i-init
loop-i-init c = ((omega arith, sym (poured_none _ _)), omega arith)

pub put_station-next-requires : goal.put_station-next-requires
put_station-next-requires c =
    let l = c.loop-i in
    let n = c.requires.at_bound in
    (omega (arith, n, l.invariant.1), omega arith, omega (arith, n), omega (arith, n), omega (arith, n), c.requires.by_index l.i (omega arith))

pub loop-i-preserved : goal.loop-i-preserved
loop-i-preserved c =
    let p = c.put_station-next in
    let l = c.loop-i in
    let a = c.args in
    let row = station_text a.tags.now a.x.now a.y.now a.z.now in
    (more-put a.text.now a.at row l.i l.invariant.0 p.ensures.value, omega (arith, p.ensures.upper_bound, l.invariant.1))

pub returns : goal.returns
returns c =
    let e : c.loop-i.i ≡ length c.args.x.now = omega arith in
    record {
      value = rw e at c.loop-i.invariant.0;
      upper_bound = omega (arith, c.requires.at_bound, c.loop-i.invariant.1);
    }
