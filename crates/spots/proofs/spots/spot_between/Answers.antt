-- `spot_between` meets its contract: a crossed side has a bracket. Assumes nothing.
use Rattle.spots.specs.Lines.{end_at}
use Rattle.curve.proofs.SpotLaws.{side-bracket}
use Rattle.curve.proofs.HeldLaws.{held, held_is}
use Rattle.curve.specs.Spot.{spot_of}
use Rattle.curve.specs.Side.{InRange}
use Rattle.curve.specs.Curve.{curve_of, scaled}
use Rattle.curve.specs.Bracket.{bracket_of}
use Rattle.curve.specs.Below.{is_crossed}
use Rattle.survey.specs.Survey.{survey}
use mir.Syntax.{w32}
use Prim.Native.Nat.{◌<◌}
use mathlib.Core.Path.{sym, ◌∙◌, subst}
use Rattle.spots.proofs.spots.spot_between.Goals as goal

pub bracket-k-requires : goal.bracket-k-requires
bracket-k-requires c =
    let l = c.end_at-low.ensures in
    let h = c.end_at-high.ensures in (
      subst InRange (sym l) c.requires.2.low-range,
      subst InRange (sym h) c.requires.2.high-range,
      held w32 c.requires.1 tt,
      (λ i. is_crossed (held_is w32 c.requires.1 tt i) (l i).z (h i).z) ∙ c.requires.2.crossed,
    )

pub spot_of-requires : goal.spot_of-requires
spot_of-requires c =
    let a = c.args in
    let l = c.end_at-low.ensures in
    let h = c.end_at-high.ensures in
    let v = survey a.x.now a.y.now a.z.now in
    let b = c.bracket-k.ensures ∙ (λ i. bracket_of (curve_of a.style (l i) (h i)) (scaled a.style (held_is w32 c.requires.1 tt i))) in
    let w = (side-bracket a.style (end_at v a.slopes.now a.i) (end_at v a.slopes.now a.j) a.level c.requires.2.crossed).within in (
      subst InRange (sym l) c.requires.2.low-range,
      subst InRange (sym h) c.requires.2.high-range,
      subst (λ k. k < 64) (sym b) w,
    )

pub returns : goal.returns
returns c =
    let a = c.args in
    let l = c.end_at-low.ensures in
    let h = c.end_at-high.ensures in
    let b = c.bracket-k.ensures ∙ (λ i. bracket_of (curve_of a.style (l i) (h i)) (scaled a.style (held_is w32 c.requires.1 tt i))) in
    c.spot_of.ensures ∙ (λ i. spot_of (l i) (h i) (b i))
