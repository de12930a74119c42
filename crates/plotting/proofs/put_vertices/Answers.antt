use mathlib.Core.Path.{◌≡◌, sym, ◌∙◌}
use mathlib.Core.List.{◌∷◌, [], ◌++◌}
use Prim.Native.Nat.{◌+◌}
use native.Mathlib.Omega.{arith}
use lib.ListN.{length, get_or}
use Rattle.std.proofs.lemmas.List.{length_push}
use Rattle.std.proofs.lemmas.Slice.Zip.{zip_turn, zip_end}
use Rattle.shapes.specs.Bytes.{value_bytes}
use Rattle.shapes.proofs.BytesLaws.{line-length}
use Rattle.pouring.proofs.PouredLaws.{put_on, poured_none}
use Rattle.formats.specs.Lines.{x_line, y_line}
use Rattle.formats.specs.Contours.{most_spot}
use Rattle.plotting.specs.Bytes.{vertex_bytes}
use Rattle.printing.proofs.RowLaws.{more-put}
use Rattle.plotting.proofs.put_vertices.Goals as goal

pub loop-x-init : goal.loop-x-init
loop-x-init c = (omega arith, (omega arith, sym (poured_none c.args.out.now c.args.at)))

pub put_number-second-requires : goal.put_number-second-requires
put_number-second-requires c =
    let turn = zip_turn c.args.x.now c.args.y.now c.loop-x.yielded c.into_iter-x-iterator.result c.loop-x.x-iterator c.next.new.self _ (cc) (cc) c.loop-x.yielded_by _ c.in-Some.is c.next.ensures.steps in
    omega (arith, turn.0, c.requires, c.loop-x.invariant.0)

pub put_number-next-requires : goal.put_number-next-requires
unfolding value_bytes
put_number-next-requires c =
    let a = c.args in
    let turn = zip_turn a.x.now a.y.now c.loop-x.yielded c.into_iter-x-iterator.result c.loop-x.x-iterator c.next.new.self _ (cc) (cc) c.loop-x.yielded_by _ c.in-Some.is c.next.ensures.steps in
    let one = rw (c.from.ensures ∙ turn.2 0) at c.put_number-second.ensures in
    omega (arith, turn.0, one.0, line-length (x_line most_spot) (get_or a.x.now (length c.loop-x.yielded) 0))

pub loop-x-preserved : goal.loop-x-preserved
unfolding value_bytes
loop-x-preserved c =
    let a = c.args in
    let l = c.loop-x in
    let i = length l.yielded in
    let turn = zip_turn a.x.now a.y.now l.yielded c.into_iter-x-iterator.result c.loop-x.x-iterator c.next.new.self _ (cc) (cc) l.yielded_by _ c.in-Some.is c.next.ensures.steps in
    let one = rw (c.from.ensures ∙ turn.2 0) at c.put_number-second.ensures in
    let two = rw (c.from-in-loop-x.ensures ∙ turn.3 0) at c.put_number-next.ensures in
    let e : length (l.yielded ++ (c.in-Some.field-0-0, c.in-Some.field-0-1) ∷ []) ≡ i + 1 = length_push l.yielded _ in
    let f : 0 + i ≡ i = omega arith in
    rw e (
      omega (arith, one.0, two.0, line-length (x_line most_spot) (get_or a.x.now i 0), line-length (y_line most_spot) (get_or a.y.now i 0)),
      more-put a.out.now a.at (λ j. vertex_bytes a.x.now a.y.now (0 + j)) i l.invariant.1 (rw f (put_on _ _ _ _ _ _ _ _ one two)),
    )

pub returns : goal.returns
returns c =
    let a = c.args in
    let l = c.loop-x in
    let end = zip_end a.x.now a.y.now l.yielded c.into_iter-x-iterator.result c.loop-x.x-iterator c.next.new.self _ (cc) (cc) l.yielded_by c.in-None.is c.next.ensures.steps in
    let e : length l.yielded ≡ length a.x.now = omega (arith, end, c.requires) in
    rw e at l.invariant.1
