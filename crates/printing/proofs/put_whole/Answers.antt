-- `put_whole` meets its contract: each way out is a case of the definition. Assumes nothing.
use mathlib.Core.List.{[], ◌∷◌}
use native.Mathlib.Omega.{arith}
use lib.ListN.{length-set}
use Rattle.shapes.specs.Line.{hyphen}
use Rattle.shapes.proofs.BytesLaws.{whole-minus, whole_plain}
use Rattle.pouring.proofs.PouredLaws.{put_on, put_byte}
use Rattle.printing.proofs.put_whole.Goals as goal

pub put_digits-requires : goal.put_digits-requires
put_digits-requires c = simp length-set (omega arith)

pub shape_of-out-then-v-lt32768 : goal.shape_of-out-then-v-lt32768
shape_of-out-then-v-lt32768 c = simp (c.put_digits.auto.out, length-set)

pub returns-then-v-lt32768 : goal.returns-then-v-lt32768
returns-then-v-lt32768 c =
    let a = c.args in
    rw (whole-minus a.v c.if-v-lt32768.true)
    (put_on _ _ (hyphen ∷ []) _ _ _ _ _ (put_byte a.out.now a.at hyphen) c.put_digits.ensures)

pub returns : goal.returns
returns c =
    let a = c.args in
    rw (whole_plain a.v c.if-v-lt32768.false) c.put_digits-2.ensures
