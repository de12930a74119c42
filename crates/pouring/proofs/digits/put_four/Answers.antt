-- `put_four` meets its contract: the bytes of one number in base 256 are the digits. Assumes nothing.
use mathlib.Core.Path.{◌≡◌, refl}
use Prim.Native.Nat.{◌+◌}
use native.Mathlib.Omega.{arith}
use lib.ListN.{length-set}
use Rattle.pouring.specs.Poured.{poured}
use Rattle.pouring.proofs.PutLaws.{packed-bytes}
use Rattle.pouring.proofs.digits.put_four.Goals as goal

pub bounds-out-at-2 : goal.bounds-out-at-2
bounds-out-at-2 c = simp length-set (omega arith)

pub bounds-out-at-3 : goal.bounds-out-at-3
bounds-out-at-3 c = simp length-set (omega arith)

pub bounds-out-at-4 : goal.bounds-out-at-4
bounds-out-at-4 c = simp length-set (omega arith)

pub returns : goal.returns
unfolding poured
returns c =
    let a = c.args in
    let b = packed-bytes a.n c.requires.0 in
    let e : a.at + 2 ≡ a.at + 1 + 1 = omega arith in
    let f : a.at + 3 ≡ a.at + 1 + 1 + 1 = omega arith in
    (refl, rw (b.0, b.1, b.2, b.3, e, f))
