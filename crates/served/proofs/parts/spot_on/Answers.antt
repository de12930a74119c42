-- `spot_on` meets its contract: a side runs from its lower-numbered station. Assumes nothing.
use mathlib.Core.Path.{sym, ◌∙◌, subst}
use native.Mathlib.Omega.{arith}
use mir.Syntax.{w32}
use Rattle.survey.specs.Survey.{survey, height_of}
use Rattle.curve.proofs.HeldLaws.{held, held_is}
use Rattle.spots.specs.Lines.{spot_between}
use Rattle.spots.specs.Prepared.{Crossing}
use Rattle.served.proofs.FigureLaws.{crossing, crossed_back, spot_first, spot-second}
use Rattle.served.proofs.parts.spot_on.Goals as goal

pub spot_between-requires : goal.spot_between-requires
spot_between-requires c =
    let a = c.args in
    let s = survey a.x.now a.y.now a.z.now in (
      c.requires.0.listed,
      held w32 c.requires.1 tt,
      subst (λ l. Crossing s a.slopes.now l a.i a.j) (sym (held_is w32 c.requires.1 tt))
          (crossing s a.slopes.now a.style a.level c.requires.0 c.requires.2 c.requires.3 c.requires.4),
    )

pub returns-then-i-j : goal.returns-then-i-j
returns-then-i-j c =
    let a = c.args in
    let s = survey a.x.now a.y.now a.z.now in
    c.spot_between.ensures ∙ (λ i. spot_between s a.slopes.now a.style (held_is w32 c.requires.1 tt i) a.i a.j)
    ∙ sym (spot_first s a.slopes.now a.style a.level c.if-i-j.true)

pub spot_between-requires-2 : goal.spot_between-requires-2
spot_between-requires-2 c =
    let a = c.args in
    let s = survey a.x.now a.y.now a.z.now in (
      c.requires.0.listed,
      held w32 c.requires.1 tt,
      subst (λ l. Crossing s a.slopes.now l a.j a.i) (sym (held_is w32 c.requires.1 tt))
          (crossing s a.slopes.now a.style a.level c.requires.0 c.requires.3 c.requires.2
          (crossed_back a.level (height_of s a.i) (height_of s a.j) c.requires.4)),
    )

pub returns : goal.returns
returns c =
    let a = c.args in
    let s = survey a.x.now a.y.now a.z.now in
    c.spot_between-2.ensures ∙ (λ i. spot_between s a.slopes.now a.style (held_is w32 c.requires.1 tt i) a.j a.i)
    ∙ sym (spot-second s a.slopes.now a.style a.level (omega (arith, c.if-i-j.false)))
