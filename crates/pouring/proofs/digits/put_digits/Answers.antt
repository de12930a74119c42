-- `put_digits` meets its contract: few digits as they are, up to eight by those above the lowest four, more as they are counted.
-- Assumes nothing.
use Prim.Native.Nat.{◌/◌, ◌%◌}
use native.Mathlib.Omega.{arith}
use mathlib.Core.Path.{ap}
use lib.ListN.{length, length-append}
use Rattle.shapes.specs.Bytes.{digits}
use Rattle.shapes.proofs.BytesLaws.{digits-length}
use Rattle.pouring.specs.Poured.{four}
use Rattle.pouring.proofs.PouredLaws.{put_on}
use Rattle.pouring.proofs.LowLaws.{counted-put}
use Rattle.pouring.proofs.PutLaws.{digits_above}
use Rattle.pouring.proofs.digits.put_digits.Goals as goal

pub put_four-requires : goal.put_four-requires
put_four-requires c =
    let n = c.args.n in
    let few = c.put_few-next in
    let above = digits_above n c.if-n-lt10000.false c.if-n-lt100000000.true in
    omega (arith, few.ensures.0, few.auto.out, simp length-append at (ap length above), digits-length 10 48 19 n, c.requires)

pub returns-then-n-lt100000000 : goal.returns-then-n-lt100000000
returns-then-n-lt100000000 c =
    let a = c.args in
    let few = c.put_few-next in
    rw (digits_above a.n c.if-n-lt10000.false c.if-n-lt100000000.true)
    (put_on a.out.now a.at (digits (a.n / 10000)) few.result few.new.out (four (a.n % 10000)) _ _ few.ensures c.put_four.ensures)

pub returns : goal.returns
returns c =
    let a = c.args in
    counted-put 10 48 a.out.now a.at _ 19 a.n _ (c.digit_count-count.ensures.1 48) c.put_low.ensures
