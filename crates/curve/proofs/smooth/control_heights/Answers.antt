-- `control_heights` meets its contract: each step hands its number on, through its bits, to the next. Assumes nothing.
use mathlib.Core.Path.{◌≡◌, ◌∙◌}
use lib.IntN.{ℤ}
use mir.Syntax.{w32, w64}
use mir.Val.{to_z, of_z}
use Rattle.whole.specs.Range.{Within}
use Rattle.survey.specs.Limits.{most_coordinate}
use Rattle.curve.specs.declared.side.End.{End}
use Rattle.curve.specs.Side.{InRange}
use Rattle.curve.specs.Curve.{slope_d, slope_e, six_heights, control_heights}
use Rattle.curve.proofs.HeldLaws.{held_is}
use Rattle.curve.proofs.smooth.control_heights.Goals as goal

-- D and E as their calls ask for them
module _ {a : End} (r : InRange a) {x y dx dy : ℤ} (ex : (x ≡ dx) × Within most_coordinate x) (ey : (y ≡ dy) × Within most_coordinate y) where
  step-x : to_z w64 (of_z w64 x) ≡ dx
  step-x = held_is w64 ex.1 tt ∙ ex.0

  step-y : to_z w64 (of_z w64 y) ≡ dy
  step-y = held_is w64 ey.1 tt ∙ ey.0

  d-held : slope_d (to_z w32 (of_z w32 a.p)) (to_z w32 (of_z w32 a.q)) (to_z w64 (of_z w64 x)) (to_z w64 (of_z w64 y)) ≡ slope_d a.p a.q dx dy
  d-held = λ i. slope_d (held_is w32 r.p-range tt i) (held_is w32 r.q-range tt i) (step-x i) (step-y i)

  e-held :
      slope_e (to_z w32 (of_z w32 a.r)) (to_z w32 (of_z w32 a.s)) (to_z w32 (of_z w32 a.t)) (to_z w64 (of_z w64 x)) (to_z w64 (of_z w64 y))
      ≡ slope_e a.r a.s a.t dx dy
  e-held = λ i. slope_e (held_is w32 r.r-range tt i) (held_is w32 r.s-range tt i) (held_is w32 r.t-range tt i) (step-x i) (step-y i)

pub returns : goal.returns
unfolding control_heights
returns c =
    let low = c.requires.0 in
    let high = c.requires.1 in
    let dx = c.step-dx in
    let dy = c.step-dy in
    let d1 = c.slope_d-d1 in
    let e1 = c.slope_e-e1 in
    let d2 = c.slope_d-d2 in
    let e2 = c.slope_e-e2 in
    c.six_heights.ensures
    ∙ (λ i.
    six_heights
    (held_is w32 low.z-range tt i)
    ((held_is w64 d1.ensures.1 tt ∙ d1.ensures.0 ∙ d-held low dx.ensures dy.ensures) i)
    ((held_is w64 e1.ensures.1 tt ∙ e1.ensures.0 ∙ e-held low dx.ensures dy.ensures) i)
    (held_is w32 high.z-range tt i)
    ((held_is w64 d2.ensures.1 tt ∙ d2.ensures.0 ∙ d-held high dx.ensures dy.ensures) i)
    ((held_is w64 e2.ensures.1 tt ∙ e2.ensures.0 ∙ e-held high dx.ensures dy.ensures) i))
