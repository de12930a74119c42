-- `slope_d` meets its contract: its sum fits an i64, and the shared rounding and cut make D of it. Assumes nothing.
use mathlib.Core.Path.{sym, ap, ◌∙◌, subst}
use native.Mathlib.Omega.{arith}
use lib.IntN.{ℤ}
use mir.Syntax.{w32, w64}
use mir.Facts.{to_z-of_z}
use Rattle.whole.specs.Range.{Within}
use Rattle.whole.specs.Rounding.{rounded}
use Rattle.whole.specs.Cut.{cut}
use Rattle.whole.proofs.RangeLaws.{within_more}
use Rattle.whole.proofs.Expression.{Signed, InBounds, var, wide, ◌⊕◌, ◌⊗◌, within, holds, fits}
use Rattle.survey.specs.Limits.{most_coordinate, most_slope}
use Rattle.curve.specs.Curve.{most_d, slope_d}
use Rattle.curve.proofs.ControlLaws.{D-within}
use Rattle.curve.proofs.smooth.slope_d.Goals as goal

abbrev slope : ℤ → Signed
slope p = wide w32 (var p most_slope)

abbrev part : ℤ → ℤ → Signed
part p d = slope p ⊗ var d most_coordinate

pub overflow_mul-p : goal.overflow_mul-p
overflow_mul-p c = fits w64 (part c.args.p c.args.dx) (c.requires.0, c.requires.2) tt

pub overflow_mul-q : goal.overflow_mul-q
overflow_mul-q c = fits w64 (part c.args.q c.args.dy) (c.requires.1, c.requires.3) tt

pub overflow_add-p : goal.overflow_add-p
overflow_add-p c = fits w64 (part c.args.p c.args.dx ⊕ part c.args.q c.args.dy) ((c.requires.0, c.requires.2), (c.requires.1, c.requires.3)) tt

pub round_div-requires : goal.round_div-requires
round_div-requires c =
    let whole = part c.args.p c.args.dx ⊕ part c.args.q c.args.dy in
    let g : InBounds whole = ((c.requires.0, c.requires.2), (c.requires.1, c.requires.3)) in
    (subst (Within 1152921504606846976) (sym (holds w64 whole g tt)) (within_more (within whole g) tt), omega arith, omega arith)

pub returns : goal.returns
unfolding slope_d
returns c =
    let whole = part c.args.p c.args.dx ⊕ part c.args.q c.args.dy in
    let n = c.round_div in
    let v = c.cut_to in
    let eq =
    to_z-of_z {w = w64} {z = v.result} (record { sfits = v.type_inv })
    ∙ v.ensures
    ∙ ap (cut most_d) (to_z-of_z {w = w64} {z = n.result} (record { sfits = n.type_inv }) ∙ n.ensures ∙ ap (λ (z : ℤ). rounded z 256) (holds w64 whole ((c.requires.0, c.requires.2), (c.requires.1, c.requires.3)) tt)) in
    (eq, subst (Within most_d) (sym eq) (D-within c.args.p c.args.q c.args.dx c.args.dy))
