-- `value_at` meets its contract: the sum of six weighed control heights, each within its bound, fits an i64. Assumes nothing.
use mathlib.Core.Path.{◌∙◌}
use lib.IntN.{ℤ, ◌+ℤ◌}
use mir.Syntax.{w64}
use Rattle.whole.proofs.Expression.{Signed, var, ◌⊕◌, holds, fits}
use Rattle.curve.specs.Curve.{most_weighed, smooth_at}
use Rattle.curve.proofs.smooth.value_at.Goals as goal

abbrev part : ℤ → Signed
part r = var r most_weighed

abbrev sum2 : ℤ → ℤ → Signed
sum2 a b = part a ⊕ part b

abbrev sum3 : ℤ → ℤ → ℤ → Signed
sum3 a b c = sum2 a b ⊕ part c

abbrev sum4 : ℤ → ℤ → ℤ → ℤ → Signed
sum4 a b c d = sum3 a b c ⊕ part d

abbrev sum5 : ℤ → ℤ → ℤ → ℤ → ℤ → Signed
sum5 a b c d e = sum4 a b c d ⊕ part e

abbrev sum6 : ℤ → ℤ → ℤ → ℤ → ℤ → ℤ → Signed
sum6 a b c d e f = sum5 a b c d e ⊕ part f

pub overflow_add-result-4 : goal.overflow_add-result-4
overflow_add-result-4 c =
    let w1 = c.weighed_at in
    let w2 = c.weighed_at-2 in
    let w3 = c.weighed_at-3 in
    let w4 = c.weighed_at-4 in
    let w5 = c.weighed_at-5 in
    fits w64 (sum5 w1.result w2.result w3.result w4.result w5.result) ((((w1.ensures.1, w2.ensures.1), w3.ensures.1), w4.ensures.1), w5.ensures.1) tt

pub overflow_add-result-5 : goal.overflow_add-result-5
overflow_add-result-5 c =
    let w1 = c.weighed_at in
    let w2 = c.weighed_at-2 in
    let w3 = c.weighed_at-3 in
    let w4 = c.weighed_at-4 in
    let w5 = c.weighed_at-5 in
    let w6 = c.weighed_at-6 in
    fits w64 (sum6 w1.result w2.result w3.result w4.result w5.result w6.result) (((((w1.ensures.1, w2.ensures.1), w3.ensures.1), w4.ensures.1), w5.ensures.1), w6.ensures.1) tt

pub returns : goal.returns
unfolding smooth_at
returns c =
    let w1 = c.weighed_at in
    let w2 = c.weighed_at-2 in
    let w3 = c.weighed_at-3 in
    let w4 = c.weighed_at-4 in
    let w5 = c.weighed_at-5 in
    let w6 = c.weighed_at-6 in
    holds w64 (sum6 w1.result w2.result w3.result w4.result w5.result w6.result) (((((w1.ensures.1, w2.ensures.1), w3.ensures.1), w4.ensures.1), w5.ensures.1), w6.ensures.1) tt
    ∙ (λ i. w1.ensures.0 i +ℤ w2.ensures.0 i +ℤ w3.ensures.0 i +ℤ w4.ensures.0 i +ℤ w5.ensures.0 i +ℤ w6.ensures.0 i)
