use mathlib.Core.Path.{◌≡◌, sym, ap, ◌∙◌}
use mathlib.Core.List.{List}
use Prim.Native.Nat.{ℕ, ◌+◌, ◌<◌}
use native.Mathlib.Omega.{arith}
use native.Mathlib.Numerals.{add-one}
use lib.ListN.{length, get_or, set, drop, drop_of_length-le}
use lib.Seq.{drop-cons}
use Rattle.pouring.specs.Poured.{poured}
use Rattle.pouring.proofs.PouredLaws.{poured_none, poured-past}
use Rattle.printing.proofs.put_bytes.Goals as goal

-- Byte j is put.
one-put : (out bytes : List ℕ) (at j : ℕ) → j < length bytes
    → poured (set out (at + j) (get_or bytes j 0)) (at + (j + 1)) (drop (j + 1) bytes) ≡ poured out (at + j) (drop j bytes)
unfolding poured
one-put out bytes at j h =
    let e : at + (j + 1) ≡ at + j + 1 = omega arith in
    rw (drop-cons bytes j 0, e, add-one j)

pub loop-j-init : goal.loop-j-init
loop-j-init c = let e : c.args.at + 0 ≡ c.args.at = omega arith in rw e

pub returns-then-out-at : goal.returns-then-out-at
returns-then-out-at c = let l = c.loop-j in sym (poured-past _ l.out _ c.if-out-at.true) ∙ l.invariant

pub loop-j-preserved : goal.loop-j-preserved
loop-j-preserved c =
    let a = c.args in
    let l = c.loop-j in
    one-put l.out a.bytes.now a.at l.j c.loop-j-test.true ∙ l.invariant

pub returns : goal.returns
returns c =
    let l = c.loop-j in
    let none = drop_of_length-le c.args.bytes.now {i = l.j} (omega arith) in
    sym (poured_none l.out _) ∙ ap (poured l.out _) (sym none) ∙ l.invariant
