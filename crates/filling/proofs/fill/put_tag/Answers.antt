-- `put_tag` meets its contract. Assumes nothing.
use mathlib.Core.Path.{◌≡◌}
use native.Mathlib.Omega.{arith}
use Prim.Native.Nat.{◌+◌, ◌-◌}
use lib.ListN.{length, take, drop, length-drop}
use lib.Seq.{length-take-le}
use Rattle.shapes.specs.Bytes.{word_bytes}
use Rattle.shapes.proofs.BytesLaws.{digits-length}
use Rattle.pouring.proofs.PouredLaws.{poured_on}
use Rattle.filling.proofs.FillLaws.{cleared}
use Rattle.filling.proofs.fill.put_tag.Goals as goal

pub slice_bounds-fill-start : goal.slice_bounds-fill-start
slice_bounds-fill-start c = omega (arith, c.put_word-next.ensures.0, digits-length 256 0 8 c.args.word)

pub slice_bounds-fill-count : goal.slice_bounds-fill-count
slice_bounds-fill-count c = omega (arith, c.put_word-next.ensures.0, digits-length 256 0 8 c.args.word)

pub returns : goal.returns
returns c =
    let a = c.args in
    let k = c.put_word-next in
    let zeros = c.fill.ensures.after (λ y h. h) in
    let n = a.to + 8 - k.result in
    let l : length (take n (drop k.result k.new.out)) ≡ n = length-take-le n (drop k.result k.new.out) (simp length-drop (omega (arith, k.auto.out, k.ensures.0, digits-length 256 0 8 a.word))) in
    let e : a.to + 8 - k.result ≡ 8 - length (word_bytes a.word) = omega (arith, k.ensures.0) in
    let f = cleared k.new.out k.result (a.to + 8 - k.result) (omega (arith, k.auto.out, k.ensures.0, digits-length 256 0 8 a.word)) in
    rw (poured_on, ← k.ensures.0, ← k.ensures.1, ← e) (rw (zeros, l) f)
