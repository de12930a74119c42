-- `put_number` meets its contract: key, =, digits and LF, one behind the other; behind the room nothing is put. Assumes nothing.
use mathlib.Core.Path.{◌≡◌, sym}
use mathlib.Core.List.{[], ◌∷◌, ◌++◌}
use Prim.Native.Nat.{ℕ, ◌+◌, ◌<◌}
use native.Mathlib.Omega.{arith}
use lib.ListN.{set, length-append, length-set}
use Rattle.shapes.specs.Line.{line_end, equals}
use Rattle.shapes.specs.Bytes.{digits, word_bytes, value_bytes}
use Rattle.shapes.proofs.BytesLaws.{digits-length, digits_one}
use Rattle.pouring.proofs.PouredLaws.{put_on, put_byte, poured-past}
use Rattle.printing.proofs.put_number.Goals as goal

-- A key of one letter.
one-letter : (key : ℕ) → key < 256 → word_bytes key ≡ key ∷ []
one-letter key h = let e : 0 + key ≡ key = omega arith in rw (digits_one 256 0 8 key h (omega arith), e)

pub bounds-out-second : goal.bounds-out-second
bounds-out-second c = simp length-set (omega arith)

pub put_digits-end-requires : goal.put_digits-end-requires
put_digits-end-requires c = simp length-set (omega arith)

pub bounds-out-end : goal.bounds-out-end
bounds-out-end c =
    let kept = simp length-set at c.put_digits-end.auto.out in
    omega (arith, digits-length 10 48 19 c.args.v)

pub overflow_add-result : goal.overflow_add-result
overflow_add-result c = omega (arith, digits-length 10 48 19 c.args.v)

pub shape_of-out-then-at-out : goal.shape_of-out-then-at-out
shape_of-out-then-at-out c = simp (length-set, c.put_digits-end.auto.out)

pub returns-then-at-out : goal.returns-then-at-out
returns-then-at-out c =
    let a = c.args in
    let k = c.put_digits-end in
    rw (one-letter a.key (omega (arith, c.ranges.key)))
    (put_on _ _ (a.key ∷ []) _ _ _ _ _ (put_byte a.out.now a.at a.key)
    (put_on _ _ (equals ∷ []) _ _ _ _ _ (put_byte (set a.out.now a.at a.key) (a.at + 1) equals)
    (put_on _ _ _ _ _ _ _ _ k.ensures (put_byte k.new.out k.result line_end))))

pub returns-then-out-at : goal.returns-then-out-at
returns-then-out-at c =
    let a = c.args in
    let key = one-letter a.key (omega (arith, c.ranges.key)) in (
      rw key (omega (arith, c.digit_count.ensures.1 48, length-append (digits a.v) (line_end ∷ []))),
      sym (poured-past (word_bytes a.key ++ (equals ∷ (digits a.v ++ (line_end ∷ [])))) a.out.now a.at c.if-out-at.true),
    )

pub returns : goal.returns
unfolding value_bytes
returns c = rw c.from.ensures at c.put_line.ensures
