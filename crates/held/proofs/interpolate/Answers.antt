-- `interpolate` meets its contract: the steps and the corners are those of `interpolated`. Assumes nothing.
use mathlib.Core.Path.{sym, ◌∙◌, subst}
use Prim.Native.Nat.{ℕ, ◌<◌, ◌≤◌}
use native.Mathlib.Omega.{arith}
use Rattle.whole.specs.Turn.{across, climb}
use Rattle.whole.proofs.RangeLaws.{within-diff}
use Rattle.survey.specs.Survey.{survey, height_of}
use Rattle.quintic.specs.Quintic.{Short, corner_of, quintic}
use Rattle.held.specs.Held.{interpolated}
use Rattle.quintic.proofs.StepLaws.{as_named, lent-named}
use Rattle.held.proofs.HeldLaws.{fit-near, steps-short, row-long, five-in, five-cut}
use Rattle.held.proofs.interpolate.Goals as goal

small : {k n : ℕ} → n ≤ 1024 → k < n → k ≤ 65535
small h l = omega arith

pub steps_of-e-requires : goal.steps_of-e-requires
steps_of-e-requires c =
    let fit = c.requires.0 in
    let one = fit-near fit c.requires.2 in
    let two = fit-near fit c.requires.3 in
    let three = fit-near fit c.requires.4 in
    (one.x, one.y, two.x, two.y, three.x, three.y)

pub corner_at-k1-requires : goal.corner_at-k1-requires
corner_at-k1-requires c =
    let fit = c.requires.0 in
    let on = c.requires.2 in
    let short = steps-short (fit-near fit c.requires.2) (fit-near fit c.requires.3) (fit-near fit c.requires.4) in
    let at = subst (λ (n : ℕ). c.args.a < n) (sym fit.zs-count) on in
    (small fit.most on, at, row-long c.requires.1 on, five-cut c.requires.1 on, subst Short (sym c.steps_of-e.ensures) short)

pub corner_at-k2-requires : goal.corner_at-k2-requires
corner_at-k2-requires c =
    let fit = c.requires.0 in
    let on = c.requires.3 in
    let short = steps-short (fit-near fit c.requires.2) (fit-near fit c.requires.3) (fit-near fit c.requires.4) in
    let at = subst (λ (n : ℕ). c.args.b < n) (sym fit.zs-count) on in
    (small fit.most on, at, row-long c.requires.1 on, five-cut c.requires.1 on, subst Short (sym c.steps_of-e.ensures) short)

pub corner_at-k3-requires : goal.corner_at-k3-requires
corner_at-k3-requires c =
    let fit = c.requires.0 in
    let on = c.requires.4 in
    let short = steps-short (fit-near fit c.requires.2) (fit-near fit c.requires.3) (fit-near fit c.requires.4) in
    let at = subst (λ (n : ℕ). c.args.c < n) (sym fit.zs-count) on in
    (small fit.most on, at, row-long c.requires.1 on, five-cut c.requires.1 on, subst Short (sym c.steps_of-e.ensures) short)

pub offset_bounds-x-a-2 : goal.offset_bounds-x-a-2
offset_bounds-x-a-2 c = record { fits = omega (arith, small c.requires.0.most c.requires.2) }

pub bounds-x-a-2 : goal.bounds-x-a-2
bounds-x-a-2 c = c.requires.2

pub step_to-dx-requires : goal.step_to-dx-requires
step_to-dx-requires c = ((fit-near c.requires.0 c.requires.2).x, c.requires.5)

pub offset_bounds-y-a-2 : goal.offset_bounds-y-a-2
offset_bounds-y-a-2 c = record { fits = omega (arith, small c.requires.0.most c.requires.2) }

pub bounds-y-a-2 : goal.bounds-y-a-2
bounds-y-a-2 c = subst (λ (n : ℕ). c.args.a < n) (sym c.requires.0.ys-count) c.requires.2

pub step_to-dy-requires : goal.step_to-dy-requires
step_to-dy-requires c = ((fit-near c.requires.0 c.requires.2).y, c.requires.6)

pub quintic_at-requires : goal.quintic_at-requires
quintic_at-requires c =
    let fit = c.requires.0 in
    let one = fit-near fit c.requires.2 in
    let short = steps-short one (fit-near fit c.requires.3) (fit-near fit c.requires.4) in (
      subst Short (sym c.steps_of-e.ensures) short,
      lent-named c.step_to-dx.ensures (within-diff c.args.px _ c.requires.5 one.x) tt tt,
      lent-named c.step_to-dy.ensures (within-diff c.args.py _ c.requires.6 one.y) tt tt,
    )

pub returns : goal.returns
unfolding interpolated across climb
returns c =
    let a = c.args in
    let v = survey a.x.now a.y.now a.z.now in
    let one = fit-near c.requires.0 c.requires.2 in
    let e = c.steps_of-e.ensures in
    let k1 = c.corner_at-k1.ensures ∙ (λ j. corner_of (e j) (height_of v a.a) (five-in c.requires.1 c.requires.2 j)) in
    let k2 = c.corner_at-k2.ensures ∙ (λ j. corner_of (e j) (height_of v a.b) (five-in c.requires.1 c.requires.3 j)) in
    let k3 = c.corner_at-k3.ensures ∙ (λ j. corner_of (e j) (height_of v a.c) (five-in c.requires.1 c.requires.4 j)) in
    let dx = as_named c.step_to-dx.ensures (within-diff a.px _ c.requires.5 one.x) tt in
    let dy = as_named c.step_to-dy.ensures (within-diff a.py _ c.requires.6 one.y) tt in
    c.quintic_at.ensures ∙ (λ j. quintic (e j) (k1 j) (k2 j) (k3 j) (dx j) (dy j))
