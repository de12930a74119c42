-- `put_word` meets its contract: one byte, or as many as are counted. Assumes nothing.
use mathlib.Core.Path.{◌≡◌}
use Prim.Native.Nat.{◌+◌}
use native.Mathlib.Omega.{arith}
use Rattle.shapes.proofs.BytesLaws.{digits_one}
use Rattle.pouring.proofs.PouredLaws.{put_byte}
use Rattle.pouring.proofs.LowLaws.{counted-put}
use Rattle.pouring.proofs.digits.put_word.Goals as goal

pub returns-then-word-lt256 : goal.returns-then-word-lt256
returns-then-word-lt256 c =
    let a = c.args in
    let e : 0 + a.word ≡ a.word = omega arith in
    rw (digits_one 256 0 8 a.word c.if-word-lt256.true (omega arith), e) (put_byte a.out.now a.at a.word)

pub returns : goal.returns
returns c =
    let a = c.args in
    counted-put 256 0 a.out.now a.at _ 8 a.word _ (c.digit_count-count.ensures.1 0) c.put_low.ensures
