-- `slope_e` meets its contract: its sum fits an i64, and the shared rounding and cut make E of it. Assumes nothing.
use mathlib.Core.Path.{sym, ap, ◌∙◌, subst}
use native.Mathlib.Omega.{arith}
use lib.IntN.{ℤ, pos}
use mir.Syntax.{w32, w64}
use mir.Facts.{to_z-of_z}
use Rattle.whole.specs.Range.{Within}
use Rattle.whole.specs.Rounding.{rounded}
use Rattle.whole.specs.Cut.{cut}
use Rattle.whole.proofs.RangeLaws.{within_more}
use Rattle.whole.proofs.Expression.{Signed, InBounds, var, lit, wide, ◌⊕◌, ◌⊗◌, within, holds, fits}
use Rattle.survey.specs.Limits.{most_coordinate, most_slope}
use Rattle.curve.specs.Curve.{most_e, slope_e}
use Rattle.curve.proofs.ControlLaws.{E-within}
use Rattle.curve.proofs.smooth.slope_e.Goals as goal

abbrev slope : ℤ → Signed
slope r = wide w32 (var r most_slope)

abbrev step : ℤ → Signed
step d = var d most_coordinate

-- the three terms
abbrev square : ℤ → ℤ → Signed
square r d = slope r ⊗ (step d ⊗ step d)

abbrev twice : ℤ → Signed
twice s = lit (pos 2) ⊗ slope s

abbrev mixed : ℤ → ℤ → ℤ → Signed
mixed s dx dy = twice s ⊗ step dx ⊗ step dy

abbrev whole : ℤ → ℤ → ℤ → ℤ → ℤ → Signed
whole r s t dx dy = square r dx ⊕ mixed s dx dy ⊕ square t dy

inside :
    {r s t dx dy : ℤ} → Within most_slope r → Within most_slope s → Within most_slope t → Within most_coordinate dx → Within most_coordinate dy
    → InBounds (whole r s t dx dy)
inside r s t dx dy = (((r, (dx, dx)), (((tt, s), dx), dy)), (t, (dy, dy)))

pub overflow_mul-e-2 : goal.overflow_mul-e-2
overflow_mul-e-2 c = fits w64 (square c.args.r c.args.dx) (c.requires.0, (c.requires.3, c.requires.3)) tt

pub overflow_mul-e-4 : goal.overflow_mul-e-4
overflow_mul-e-4 c = fits w64 (twice c.args.s ⊗ step c.args.dx) ((tt, c.requires.1), c.requires.3) tt

pub overflow_mul-e-5 : goal.overflow_mul-e-5
overflow_mul-e-5 c = fits w64 (mixed c.args.s c.args.dx c.args.dy) (((tt, c.requires.1), c.requires.3), c.requires.4) tt

pub overflow_add-e : goal.overflow_add-e
overflow_add-e c = fits w64 (square c.args.r c.args.dx ⊕ mixed c.args.s c.args.dx c.args.dy) ((c.requires.0, (c.requires.3, c.requires.3)), (((tt, c.requires.1), c.requires.3), c.requires.4)) tt

pub overflow_mul-e-7 : goal.overflow_mul-e-7
overflow_mul-e-7 c = fits w64 (square c.args.t c.args.dy) (c.requires.2, (c.requires.4, c.requires.4)) tt

pub overflow_add-e-2 : goal.overflow_add-e-2
overflow_add-e-2 c = fits w64 (whole c.args.r c.args.s c.args.t c.args.dx c.args.dy) (inside c.requires.0 c.requires.1 c.requires.2 c.requires.3 c.requires.4) tt

pub round_div-requires : goal.round_div-requires
round_div-requires c =
    let e = whole c.args.r c.args.s c.args.t c.args.dx c.args.dy in
    let g = inside c.requires.0 c.requires.1 c.requires.2 c.requires.3 c.requires.4 in
    (subst (Within 1152921504606846976) (sym (holds w64 e g tt)) (within_more (within e g) tt), omega arith, omega arith)

pub returns : goal.returns
unfolding slope_e
returns c =
    let p = c.requires in
    let e = whole c.args.r c.args.s c.args.t c.args.dx c.args.dy in
    let n = c.round_div in
    let v = c.cut_to in
    let eq =
    to_z-of_z {w = w64} {z = v.result} (record { sfits = v.type_inv })
    ∙ v.ensures
    ∙ ap (cut most_e)
    (to_z-of_z {w = w64} {z = n.result} (record { sfits = n.type_inv })
    ∙ n.ensures
    ∙ ap (λ (z : ℤ). rounded z 256) (holds w64 e (inside p.0 p.1 p.2 p.3 p.4) tt)) in
    (eq, subst (Within most_e) (sym eq) (E-within c.args.r c.args.s c.args.t c.args.dx c.args.dy))
