-- `five_at` meets its contract: the sums of p and of q are small, NZ is above 0, and r, s, t are their quotients. Assumes nothing.
use mathlib.Core.Path.{◌≡◌, ap, ◌∙◌}
use Prim.Native.Nat.{◌*◌}
use native.Mathlib.Omega.{arith}
use lib.IntN.{ℤ, neg_ℤ, nat_abs, ◌+ℤ◌}
use mir.Syntax.{w32}
use mir.Facts.{to_z-of_z}
use Rattle.normal.specs.declared.Normal.{Normal}
use Rattle.slopes.specs.declared.slope.Five.{Five}
use Rattle.nearest.specs.Places.{value_in}
use Rattle.slopes.specs.Slopes.{slope, slope_r, slope_s, slope_t}
use Rattle.normal.proofs.SignedLaws.{slope_as_it_is, as_named, lent-named, positive-named}
use Rattle.normal.proofs.SumLaws.{sum-small, sum-positive}
use Rattle.slopes.proofs.slope.five_at.Goals as goal

-- five equal slopes
five :
    {a b c d e u v w x y : ℤ} → a ≡ u → b ≡ v → c ≡ w → d ≡ x → e ≡ y
    → ◌≡◌ {A = Five} (record { p = a; q = b; r = c; s = d; t = e }) (record { p = u; q = v; r = w; s = x; t = y })
five f g h k l = λ j. record { p = f j; q = g j; r = h j; s = k j; t = l j }

pub sum_at-of_p-requires : goal.sum_at-of_p-requires
sum_at-of_p-requires c = (c.requires.0, c.requires.2, c.requires.1, c.requires.4)

pub sum_at-of_q-requires : goal.sum_at-of_q-requires
sum_at-of_q-requires c = (c.requires.0, c.requires.3, c.requires.1, c.requires.4)

pub second_of-requires : goal.second_of-requires
second_of-requires c =
    let e = c.sum_at-of_p.ensures in
    let nz = ap (λ (n : Normal). n.nz) e in
    let h = sum-small c.requires.0 (value_in c.args.p.now) c.args.i c.requires.4 268435456 c.requires.2.within (omega arith) in (
      lent-named (ap (λ (n : Normal). n.nx) e) h.nx tt tt,
      lent-named nz h.nz tt tt,
      positive-named nz h.nz tt (sum-positive c.requires.0 (value_in c.args.p.now) c.args.i c.requires.4),
    )

pub mixed_of-requires : goal.mixed_of-requires
mixed_of-requires c =
    let e = c.sum_at-of_p.ensures in
    let f = c.sum_at-of_q.ensures in
    let nz = ap (λ (n : Normal). n.nz) e in
    let h = sum-small c.requires.0 (value_in c.args.p.now) c.args.i c.requires.4 268435456 c.requires.2.within (omega arith) in
    let k = sum-small c.requires.0 (value_in c.args.q.now) c.args.i c.requires.4 268435456 c.requires.3.within (omega arith) in (
      lent-named (ap (λ (n : Normal). n.ny) e) h.ny tt tt,
      lent-named (ap (λ (n : Normal). n.nx) f) k.nx tt tt,
      lent-named nz h.nz tt tt,
      positive-named nz h.nz tt (sum-positive c.requires.0 (value_in c.args.p.now) c.args.i c.requires.4),
    )

pub second_of-requires-2 : goal.second_of-requires-2
second_of-requires-2 c =
    let e = c.sum_at-of_q.ensures in
    let nz = ap (λ (n : Normal). n.nz) e in
    let h = sum-small c.requires.0 (value_in c.args.q.now) c.args.i c.requires.4 268435456 c.requires.3.within (omega arith) in (
      lent-named (ap (λ (n : Normal). n.ny) e) h.ny tt tt,
      lent-named nz h.nz tt tt,
      positive-named nz h.nz tt (sum-positive c.requires.0 (value_in c.args.q.now) c.args.i c.requires.4),
    )

pub returns : goal.returns
unfolding slope_r slope_s slope_t
returns c =
    let e = c.sum_at-of_p.ensures in
    let f = c.sum_at-of_q.ensures in
    let h = sum-small c.requires.0 (value_in c.args.p.now) c.args.i c.requires.4 268435456 c.requires.2.within (omega arith) in
    let k = sum-small c.requires.0 (value_in c.args.q.now) c.args.i c.requires.4 268435456 c.requires.3.within (omega arith) in
    let px = as_named (ap (λ (n : Normal). n.nx) e) h.nx tt in
    let py = as_named (ap (λ (n : Normal). n.ny) e) h.ny tt in
    let pz = as_named (ap (λ (n : Normal). n.nz) e) h.nz tt in
    let qx = as_named (ap (λ (n : Normal). n.nx) f) k.nx tt in
    let qy = as_named (ap (λ (n : Normal). n.ny) f) k.ny tt in
    let qz = as_named (ap (λ (n : Normal). n.nz) f) k.nz tt in
    let r = c.second_of in
    let m = c.mixed_of in
    let t = c.second_of-2 in
    five
    (slope_as_it_is (c.requires.2.within _ c.requires.4))
    (slope_as_it_is (c.requires.3.within _ c.requires.4))
    (to_z-of_z {w = w32} {z = r.result} (record { sfits = r.type_inv }) ∙ r.ensures ∙ (λ j. slope (neg_ℤ (px j)) (nat_abs (pz j))))
    (to_z-of_z {w = w32} {z = m.result} (record { sfits = m.type_inv }) ∙ m.ensures ∙ (λ j. slope (neg_ℤ (py j +ℤ qx j)) (2 * nat_abs (pz j))))
    (to_z-of_z {w = w32} {z = t.result} (record { sfits = t.type_inv }) ∙ t.ensures ∙ (λ j. slope (neg_ℤ (qy j)) (nat_abs (qz j))))
