-- `write_line` meets its contract: key, =, value and LF, one behind the other. Assumes nothing.
use mathlib.Core.List.{[], ◌∷◌}
use native.Mathlib.Omega.{arith}
use lib.ListN.{length-set}
use Rattle.shapes.specs.Line.{line_end, equals}
use Rattle.shapes.proofs.BytesLaws.{digits-length, value-length}
use Rattle.pouring.proofs.PouredLaws.{put_on, put_byte}
use Rattle.printing.proofs.write_line.Goals as goal

pub bounds-out-equals : goal.bounds-out-equals
bounds-out-equals c = omega (arith, digits-length 256 0 8 c.args.shape.key)

pub overflow_add-equals : goal.overflow_add-equals
overflow_add-equals c = omega (arith, digits-length 256 0 8 c.args.shape.key)

pub put_value-end-requires : goal.put_value-end-requires
put_value-end-requires c = simp length-set (omega (arith, digits-length 256 0 8 c.args.shape.key))

pub bounds-out-end : goal.bounds-out-end
bounds-out-end c =
    let a = c.args in
    let kept = simp length-set at c.put_value-end.auto.out in
    omega (arith, digits-length 256 0 8 a.shape.key, value-length a.shape.kind a.v)

pub overflow_add-result : goal.overflow_add-result
overflow_add-result c =
    let a = c.args in
    omega (arith, digits-length 256 0 8 a.shape.key, value-length a.shape.kind a.v)

pub shape_of-out : goal.shape_of-out
shape_of-out c = simp (length-set, c.put_value-end.auto.out, c.put_word-equals.auto.out)

pub returns : goal.returns
returns c =
    let k = c.put_word-equals in
    let v = c.put_value-end in
    put_on _ _ _ _ _ _ _ _ k.ensures
    (put_on _ _ (equals ∷ []) _ _ _ _ _ (put_byte k.new.out k.result equals)
    (put_on _ _ _ _ _ _ _ _ v.ensures (put_byte v.new.out v.result line_end)))
