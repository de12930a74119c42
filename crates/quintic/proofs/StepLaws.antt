-- The steps of a triangle as expressions of the code, whose range is computed, and how far the whole numbers made of them go.
-- Assumes nothing.
use mathlib.Core.Path.{◌≡◌, sym, ap, ◌∙◌, subst}
use Prim.Native.Nat.{ℕ, ◌^◌}
use lib.Dec.{T, ltb, leb}
use lib.IntN.{ℤ}
use mir.Syntax.{w32}
use mir.Val.{to_z, of_z, hbits}
use Rattle.whole.specs.Range.{Within}
use Rattle.whole.proofs.RangeLaws.{within_more}
use Rattle.whole.proofs.Expression.{Signed, var, ◌⊕◌, ◌⊖◌, ◌⊗◌, holds, within}
use Rattle.survey.specs.Limits.{most_coordinate}
use Rattle.quintic.specs.declared.Steps.{Steps}
use Rattle.quintic.specs.Quintic.{Short, us, sv, most_sum}

-- A step, and the four of a triangle.
abbrev pub step : ℤ → Signed
step z = var z most_coordinate

abbrev pub a_of : Steps → Signed
a_of e = step e.a

abbrev pub b_of : Steps → Signed
b_of e = step e.b

abbrev pub c_of : Steps → Signed
c_of e = step e.c

abbrev pub d_of : Steps → Signed
d_of e = step e.d

-- us and sv.
abbrev pub us_of : Steps → Signed
us_of e = a_of e ⊗ (b_of e ⊖ a_of e) ⊕ c_of e ⊗ (d_of e ⊖ c_of e)

abbrev pub sv_of : Steps → Signed
sv_of e = b_of e ⊗ (b_of e ⊖ a_of e) ⊕ d_of e ⊗ (d_of e ⊖ c_of e)

-- How far us and sv go.
pub us-within : (e : Steps) → Short e → Within most_sum (us e)
us-within e h = within (us_of e) ((h.a, (h.b, h.a)), (h.c, (h.d, h.c)))

pub sv-within : (e : Steps) → Short e → Within most_sum (sv e)
sv-within e h = within (sv_of e) ((h.b, (h.b, h.a)), (h.d, (h.d, h.c)))

-- A number of 32 bits that goes through its bits, as an argument of a call does, is the number itself, also by another name.
pub as_named : {n : ℕ} {y z : ℤ} → y ≡ z → Within n z → T (ltb n (2 ^ hbits w32)) → to_z w32 (of_z w32 y) ≡ z
as_named {n} {y} {z} e h t = ap (λ (x : ℤ). to_z w32 (of_z w32 x)) e ∙ holds w32 (var z n) h t

pub lent-named : {m n : ℕ} {y z : ℤ} → y ≡ z → Within m z → T (ltb m (2 ^ hbits w32)) → T (leb m n) → Within n (to_z w32 (of_z w32 y))
lent-named {m} {n} {y} {z} e h t u = subst (Within n) (sym (as_named e h t)) (within_more h u)
