-- `weighed_at` meets its contract: the product of a weight and a control height fits an i64. Assumes nothing.
use mathlib.Core.Path.{sym, ap, ◌∙◌, subst}
use Prim.Native.Nat.{ℕ, ◌≤◌}
use lib.IntN.{ℤ, pos, ◌*ℤ◌}
use lib.ListN.{get_or}
use mir.Syntax.{w64}
use Rattle.whole.specs.Range.{Within}
use Rattle.whole.proofs.Expression.{Signed, var, nat, ◌⊗◌, holds}
use Rattle.curve.specs.Curve.{most_control, most_weighed, weighed}
use Rattle.curve.proofs.WeightLaws.{weight-le}
use Rattle.curve.proofs.ControlLaws.{weighed-bound}
use Rattle.curve.proofs.smooth.weighed_at.Goals as goal

abbrev product : ℕ → ℤ → Signed
product w h = nat w 1073741824 ⊗ var h most_control

pub returns : goal.returns
unfolding weighed
returns c =
    let h = get_or c.args.controls.h c.args.i (pos 0) in
    let e =
    holds w64 (product c.weight.result h)
    (subst (λ (w : ℕ). w ≤ 1073741824) (sym c.weight.ensures) (weight-le c.args.k c.args.i c.requires.2 c.requires.3), c.requires.1.each c.args.i) tt
    ∙ ap (λ (w : ℕ). pos w *ℤ h) c.weight.ensures in
    (e, subst (Within most_weighed) (sym e) (weighed-bound c.args.controls.h c.args.k c.requires.1 c.args.i c.requires.2 c.requires.3))
