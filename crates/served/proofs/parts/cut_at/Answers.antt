-- `cut_at` meets its contract: each part is the area within its own outline. Assumes nothing.
use mathlib.Core.Path.{◌≡◌, sym, ◌∙◌, subst}
use mathlib.Core.Bool.{true}
use native.Mathlib.Omega.{arith}
use mir.Syntax.{w32}
use Rattle.survey.specs.Survey.{survey, height_of}
use Rattle.curve.specs.Below.{is_crossed}
use Rattle.curve.proofs.HeldLaws.{held, held_is}
use Rattle.trace.specs.Side.{◌⟶◌, side_of}
use Rattle.spots.specs.Lines.{spot_on}
use Rattle.served.proofs.FigureLaws.{crossed-vw, crossed-uv, corner-asked, rest-asked, cut_is}
use Rattle.served.proofs.parts.cut_at.Goals as goal

pub spot_on-p-requires : goal.spot_on-p-requires
spot_on-p-requires c =
    let a = c.args in
    let s = survey a.x.now a.y.now a.z.now in
    let l = a.slopes.now in (
      c.requires.0,
      held w32 c.requires.1 tt,
      c.requires.2.stations.on_a,
      c.requires.2.stations.on_b,
      subst (λ k. is_crossed k (height_of s a.v) (height_of s a.w) ≡ true) (sym (held_is w32 c.requires.1 tt))
          (crossed-vw s l a.style a.level a.v a.w a.u c.requires.2 c.requires.3 c.requires.4),
    )

pub spot_on-q-requires : goal.spot_on-q-requires
spot_on-q-requires c =
    let a = c.args in
    let s = survey a.x.now a.y.now a.z.now in
    let l = a.slopes.now in (
      c.requires.0,
      held w32 c.requires.1 tt,
      c.requires.2.stations.on_c,
      c.requires.2.stations.on_a,
      subst (λ k. is_crossed k (height_of s a.u) (height_of s a.v) ≡ true) (sym (held_is w32 c.requires.1 tt))
          (crossed-uv s l a.style a.level a.v a.w a.u c.requires.2 c.requires.3 c.requires.4),
    )

pub corner_at-a-requires : goal.corner_at-a-requires
corner_at-a-requires c =
    let a = c.args in
    let h = c.requires.2.stations.on_a in
    let r = c.requires.0.ranged a.v h in
    (h, omega (arith, c.requires.0.listed.ys-count, h), r.x-range, r.y-range)

pub corner_at-b-requires : goal.corner_at-b-requires
corner_at-b-requires c =
    let a = c.args in
    let h = c.requires.2.stations.on_b in
    let r = c.requires.0.ranged a.w h in
    (h, omega (arith, c.requires.0.listed.ys-count, h), r.x-range, r.y-range)

pub corner_at-c-requires : goal.corner_at-c-requires
corner_at-c-requires c =
    let a = c.args in
    let h = c.requires.2.stations.on_c in
    let r = c.requires.0.ranged a.u h in
    (h, omega (arith, c.requires.0.listed.ys-count, h), r.x-range, r.y-range)

pub around_three-requires : goal.around_three-requires
around_three-requires c =
    let a = c.args in
    let s = survey a.x.now a.y.now a.z.now in
    let l = a.slopes.now in
    corner-asked s l a.style a.level a.v a.w a.u c.requires.0 c.requires.2 c.requires.3 c.requires.4
    c.corner_at-a.ensures c.corner_at-b.ensures c.corner_at-c.ensures
    (c.spot_on-p.ensures ∙ (λ i. spot_on s l a.style (held_is w32 c.requires.1 tt i) (side_of (a.v ⟶ a.w))))
    (c.spot_on-q.ensures ∙ (λ i. spot_on s l a.style (held_is w32 c.requires.1 tt i) (side_of (a.u ⟶ a.v))))

pub around_four-requires : goal.around_four-requires
around_four-requires c =
    let a = c.args in
    let s = survey a.x.now a.y.now a.z.now in
    let l = a.slopes.now in
    rest-asked s l a.style a.level a.v a.w a.u c.requires.0 c.requires.2 c.requires.3 c.requires.4
    c.corner_at-a.ensures c.corner_at-b.ensures c.corner_at-c.ensures
    (c.spot_on-p.ensures ∙ (λ i. spot_on s l a.style (held_is w32 c.requires.1 tt i) (side_of (a.v ⟶ a.w))))
    (c.spot_on-q.ensures ∙ (λ i. spot_on s l a.style (held_is w32 c.requires.1 tt i) (side_of (a.u ⟶ a.v))))

pub returns : goal.returns
returns c =
    let a = c.args in
    let s = survey a.x.now a.y.now a.z.now in
    let l = a.slopes.now in
    cut_is s l a.style a.level a.v a.w a.u c.requires.0 c.requires.2 c.requires.3 c.requires.4
    c.corner_at-a.ensures c.corner_at-b.ensures c.corner_at-c.ensures
    (c.spot_on-p.ensures ∙ (λ i. spot_on s l a.style (held_is w32 c.requires.1 tt i) (side_of (a.v ⟶ a.w))))
    (c.spot_on-q.ensures ∙ (λ i. spot_on s l a.style (held_is w32 c.requires.1 tt i) (side_of (a.u ⟶ a.v))))
    c.around_three.ensures c.around_four.ensures
