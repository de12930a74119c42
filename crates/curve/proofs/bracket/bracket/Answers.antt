-- `bracket` meets its contract: either style's `find` gives the bracket of its curve. Assumes nothing.
use mathlib.Core.Path.{sym, ◌∙◌, subst}
use borrow.Author.Tests.{eq-eqb, ne_eqb}
use mir.Syntax.{w32}
use Rattle.curve.specs.Curve.{straight_at, ControlsFit, smooth_at, scaled}
use Rattle.curve.specs.Bracket.{bracket_of}
use Rattle.curve.proofs.HeldLaws.{held, held_is}
use Rattle.curve.proofs.CurveLaws.{straight-bracket, smooth-bracket}
use Rattle.curve.proofs.ControlLaws.{controls-fit}
use Rattle.curve.proofs.bracket.bracket.Goals as goal

pub returns-then-style-eq0 : goal.returns-then-style-eq0
returns-then-style-eq0 c =
    let a = c.args in
    c.find.ensures
    ∙ (λ i. bracket_of (straight_at (held_is w32 c.requires.0.z-range tt i) (held_is w32 c.requires.1.z-range tt i)) (scaled 0 (held_is w32 c.requires.2 tt i)))
    ∙ straight-bracket a.low a.high a.level a.style (eq-eqb a.style 0 c.if-style-eq0.true)

pub find-requires-2 : goal.find-requires-2
find-requires-2 c = (subst ControlsFit (sym c.control_heights.ensures) (controls-fit c.args.low c.args.high c.requires.0.z-range c.requires.1.z-range), held w32 c.requires.2 tt)

pub returns : goal.returns
returns c =
    let a = c.args in
    c.find-2.ensures
    ∙ (λ i. bracket_of (smooth_at (c.control_heights.ensures i)) (scaled 1 (held_is w32 c.requires.2 tt i)))
    ∙ smooth-bracket a.low a.high a.level a.style (ne_eqb a.style 0 c.if-style-eq0.false)
