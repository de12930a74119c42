-- `put_few` meets its contract: a number of one, two, three or four digits is put as they are. Assumes nothing.
use mathlib.Core.Path.{◌≡◌, refl}
use Prim.Native.Nat.{◌+◌, ◌-◌, ◌*◌, ◌/◌, ◌%◌}
use native.Mathlib.Omega.{arith}
use lib.ListN.{length-set}
use Rattle.shapes.proofs.BytesLaws.{digits_one}
use Rattle.pouring.specs.Poured.{poured}
use Rattle.pouring.proofs.PouredLaws.{put_byte}
use Rattle.pouring.proofs.PutLaws.{digits-two, digits-three, digits-four}
use Rattle.pouring.proofs.digits.put_few.Goals as goal

pub returns-then-n-lt10 : goal.returns-then-n-lt10
returns-then-n-lt10 c =
    let a = c.args in
    rw (digits_one 10 48 19 a.n c.if-n-lt10.true (omega arith)) (put_byte a.out.now a.at (48 + a.n))

pub bounds-out-at-then-n-lt100-2 : goal.bounds-out-at-then-n-lt100-2
bounds-out-at-then-n-lt100-2 c = simp length-set (omega arith)

pub returns-then-n-lt100 : goal.returns-then-n-lt100
unfolding poured
returns-then-n-lt100 c =
    let a = c.args in
    let n = a.n in
    let e : 205 * n / 2048 ≡ n / 10 = omega (arith, c.if-n-lt100.true) in
    let f : (12336 + 256 * n - 2559 * (n / 10)) % 256 ≡ 48 + n / 10 = omega (arith, c.if-n-lt100.true) in
    let g : (12336 + 256 * n - 2559 * (n / 10)) / 256 ≡ 48 + n % 10 = omega (arith, c.if-n-lt100.true) in
    rw (digits-two n c.if-n-lt10.false c.if-n-lt100.true, e, f, g) (refl, refl)

pub bounds-out-at-then-n-lt1000-2 : goal.bounds-out-at-then-n-lt1000-2
bounds-out-at-then-n-lt1000-2 c = simp length-set (omega arith)

pub bounds-out-at-then-n-lt1000-3 : goal.bounds-out-at-then-n-lt1000-3
bounds-out-at-then-n-lt1000-3 c = simp length-set (omega arith)

pub returns-then-n-lt1000 : goal.returns-then-n-lt1000
unfolding poured
returns-then-n-lt1000 c =
    let a = c.args in
    let e : a.at + 2 ≡ a.at + 1 + 1 = omega arith in
    rw (digits-three a.n c.if-n-lt100.false c.if-n-lt1000.true, e) (refl, refl)

pub returns : goal.returns
returns c = rw (digits-four c.args.n c.if-n-lt1000.false c.requires.0) c.put_four.ensures
