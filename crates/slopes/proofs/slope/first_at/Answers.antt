-- `first_at` meets its contract: the sums are small, NZ is above 0, and p and q are their quotients. Assumes nothing.
use mathlib.Core.Path.{◌≡◌, ap, ◌∙◌}
use native.Mathlib.Omega.{arith}
use lib.IntN.{ℤ, negsuc, nat_abs, ◌*ℤ◌}
use mir.Syntax.{w32}
use mir.Facts.{to_z-of_z}
use Rattle.whole.proofs.RangeLaws.{within_more}
use Rattle.normal.specs.declared.Normal.{Normal}
use Rattle.slopes.specs.declared.slope.First.{First}
use Rattle.nearest.specs.Places.{value_in}
use Rattle.slopes.specs.Slopes.{slope, slope_p, slope_q}
use Rattle.normal.proofs.SignedLaws.{as_named, lent-named, positive-named}
use Rattle.normal.proofs.SumLaws.{sum-small, sum-positive}
use Rattle.slopes.proofs.slope.first_at.Goals as goal

-- equal p and equal q
first : {p q u v : ℤ} → p ≡ u → q ≡ v → ◌≡◌ {A = First} (record { p = p; q = q }) (record { p = u; q = v })
first e f = λ t. record { p = e t; q = f t }

pub sum_at-sum-requires : goal.sum_at-sum-requires
sum_at-sum-requires c =
    let h = c.requires.1 in
    (c.requires.0, record { enough = h.enough; within = λ k l. within_more (h.within k l) tt }, c.requires.2, c.requires.3)

pub first_of-requires : goal.first_of-requires
first_of-requires c =
    let e = c.sum_at-sum.ensures in
    let nz = ap (λ (n : Normal). n.nz) e in
    let h = sum-small c.requires.0 (value_in c.args.z.now) c.args.i c.requires.3 32767 c.requires.1.within (omega arith) in (
      lent-named (ap (λ (n : Normal). n.nx) e) h.nx tt tt,
      lent-named nz h.nz tt tt,
      positive-named nz h.nz tt (sum-positive c.requires.0 (value_in c.args.z.now) c.args.i c.requires.3),
    )

pub first_of-requires-2 : goal.first_of-requires-2
first_of-requires-2 c =
    let e = c.sum_at-sum.ensures in
    let nz = ap (λ (n : Normal). n.nz) e in
    let h = sum-small c.requires.0 (value_in c.args.z.now) c.args.i c.requires.3 32767 c.requires.1.within (omega arith) in (
      lent-named (ap (λ (n : Normal). n.ny) e) h.ny tt tt,
      lent-named nz h.nz tt tt,
      positive-named nz h.nz tt (sum-positive c.requires.0 (value_in c.args.z.now) c.args.i c.requires.3),
    )

pub returns : goal.returns
unfolding slope_p slope_q
returns c =
    let e = c.sum_at-sum.ensures in
    let h = sum-small c.requires.0 (value_in c.args.z.now) c.args.i c.requires.3 32767 c.requires.1.within (omega arith) in
    let nx = as_named (ap (λ (n : Normal). n.nx) e) h.nx tt in
    let ny = as_named (ap (λ (n : Normal). n.ny) e) h.ny tt in
    let nz = as_named (ap (λ (n : Normal). n.nz) e) h.nz tt in
    let p = c.first_of in
    let q = c.first_of-2 in
    first
    (to_z-of_z {w = w32} {z = p.result} (record { sfits = p.type_inv }) ∙ p.ensures ∙ (λ t. slope (negsuc 65535 *ℤ nx t) (nat_abs (nz t))))
    (to_z-of_z {w = w32} {z = q.result} (record { sfits = q.type_inv }) ∙ q.ensures ∙ (λ t. slope (negsuc 65535 *ℤ ny t) (nat_abs (nz t))))
