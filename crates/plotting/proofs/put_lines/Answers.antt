use mathlib.Core.Path.{◌≡◌, refl, sym}
use Prim.Native.Nat.{◌+◌, ◌-◌}
use native.Mathlib.Omega.{arith}
use lib.ListN.{length, get_or, drop}
use Rattle.std.proofs.lemmas.List.{length-take-le, length-drop}
use Rattle.pouring.proofs.PouredLaws.{poured_none}
use Rattle.plotting.specs.Records.{vertices_of, vertices_before}
use Rattle.plotting.specs.Bytes.{drawn_bytes}
use Rattle.plotting.proofs.CountLaws.{before_more, line-within}
use Rattle.printing.proofs.RowLaws.{more-put}
use Rattle.plotting.proofs.LengthLaws.{drawn-most, vertex_any}
use Rattle.plotting.proofs.PartLaws.{drawn_part}
use Rattle.plotting.proofs.put_lines.Goals as goal

pub loop-r-init : goal.loop-r-init
loop-r-init c = (refl, omega (arith, c.requires.0), (omega arith, sym (poured_none c.args.out.now c.args.at)))

pub overflow_add-end : goal.overflow_add-end
overflow_add-end c = let w = line-within c.args.records.now c.loop-r.r-index c.loop-r-test.true in omega (arith, w, c.from.ensures)

pub offset_bounds-x-from : goal.offset_bounds-x-from
offset_bounds-x-from c = let w = line-within c.args.records.now c.loop-r.r-index c.loop-r-test.true in omega (arith, w)

pub offset_bounds-y-from : goal.offset_bounds-y-from
offset_bounds-y-from c = let w = line-within c.args.records.now c.loop-r.r-index c.loop-r-test.true in omega (arith, w)

pub slice_bounds-put_drawn-end : goal.slice_bounds-put_drawn-end
slice_bounds-put_drawn-end c =
    let w = line-within c.args.records.now c.loop-r.r-index c.loop-r-test.true in
    omega (arith, w, c.from.ensures)

pub slice_bounds-put_drawn-end-in-loop-r : goal.slice_bounds-put_drawn-end-in-loop-r
slice_bounds-put_drawn-end-in-loop-r c =
    let w = line-within c.args.records.now c.loop-r.r-index c.loop-r-test.true in
    omega (arith, w, c.from.ensures)

pub put_drawn-next-requires : goal.put_drawn-next-requires
put_drawn-next-requires c =
    let w = line-within c.args.records.now c.loop-r.r-index c.loop-r-test.true in
    let l = c.loop-r in
    let n : l.from + c.from.result - l.from ≡ vertices_of (get_or c.args.records.now l.r-index 0) = omega (arith, c.from.ensures) in
    rw n (
      omega arith,
      length-take-le _ (drop l.from c.args.x.now) (omega (arith, w, length-drop l.from c.args.x.now)),
      length-take-le _ (drop l.from c.args.y.now) (omega (arith, w, length-drop l.from c.args.y.now)),
    )

pub loop-r-preserved : goal.loop-r-preserved
loop-r-preserved c =
    let a = c.args in
    let records = a.records.now in
    let l = c.loop-r in
    let i = l.r-index in
    let r = get_or records i 0 in
    let n : l.from + c.from.result - l.from ≡ vertices_of r = omega (arith, c.from.ensures) in
    let line = rw (n, drawn_part a.x.now a.y.now l.from r) at c.put_drawn-next.ensures in (
      omega (arith, c.from.ensures, before_more records i),
      omega (arith, c.from.ensures, line.0, drawn-most a.x.now a.y.now l.from r 60 (λ j h. vertex_any a.x.now a.y.now (l.from + j))),
      more-put a.out.now a.at (λ i. drawn_bytes a.x.now a.y.now (vertices_before records i) (get_or records i 0)) i l.invariant.2
          (rw (sym l.invariant.0) line),
    )

pub returns : goal.returns
returns c =
    let e : c.loop-r.r-index ≡ length c.args.records.now = omega arith in
    rw e at c.loop-r.invariant.2
