use mathlib.Core.Path.{◌≡◌, refl}
use mathlib.Core.List.{List}
use lib.ListN.{get_or}
use mir.Syntax.{w8}
use mir.Val.{Fits}
use Prim.Native.Nat.{ℕ, ◌+◌, ◌*◌, ◌<◌, ◌≤◌}
use native.Mathlib.Omega.{arith}
use native.Mathlib.Nat.{pow-le-pow_right}
use native.Mathlib.Numerals.{add-one}
use lib.Dec.{eqb}
use Rattle.lists.proofs.LowestLaws.{lowest-le}
use Rattle.rendering.specs.Filed.{tag_byte_of, packed}
use Rattle.rendering.proofs.TagLaws.{packed-below}
use Rattle.tags.proofs.tag_number.Goals as goal

-- A byte more still fits.
number_fits : (tags : List ℕ) (i j size number : ℕ) → ((k : ℕ) → Fits w8 (get_or tags k 0)) → j < size → (size ≤ 8) × (number ≡ packed (tag_byte_of tags i) j)
    → 256 * number + 255 < 18446744073709551616
number_fits tags i j size number byte h inv =
    let below = packed-below (tag_byte_of tags i) j (λ k h. omega (arith, byte (8 * i + k))) in
    omega (arith, below, pow-le-pow_right {n = 256} (omega arith) {i = j} {j = 7} (omega arith), inv.1)

pub loop-j-init : goal.loop-j-init
loop-j-init c =
    let a = c.args in
    (omega (arith, c.tag_size-size.ensures, lowest-le (λ j. eqb (tag_byte_of a.tags.now a.i j) 0) 8), refl)

pub overflow_mul-number : goal.overflow_mul-number
overflow_mul-number c = omega (arith, number_fits c.args.tags.now c.args.i c.loop-j.j c.tag_size-size.result c.loop-j.number (λ k. c.type_inv.tags k) c.loop-j-test.true c.loop-j.invariant)

pub overflow_add-number : goal.overflow_add-number
overflow_add-number c = omega (arith, number_fits c.args.tags.now c.args.i c.loop-j.j c.tag_size-size.result c.loop-j.number (λ k. c.type_inv.tags k) c.loop-j-test.true c.loop-j.invariant)

pub loop-j-preserved : goal.loop-j-preserved
loop-j-preserved c =
    let l = c.loop-j in
    (l.invariant.0, rw (l.invariant.1, c.from.ensures, c.byte_of.ensures, add-one l.j))

pub returns : goal.returns
returns c = let e : c.loop-j.j ≡ c.tag_size-size.result = omega arith in rw (e, c.tag_size-size.ensures) at c.loop-j.invariant.1
