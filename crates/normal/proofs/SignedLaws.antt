-- A signed number that goes through its bits, as an argument or a result of a call does, is the number itself. Assumes nothing.
use mathlib.Core.Path.{◌≡◌, sym, ap, ◌∙◌, subst}
use Prim.Native.Nat.{ℕ, ◌^◌, ◌<◌, ◌≤◌}
use native.Mathlib.Omega.{arith}
use lib.Dec.{T, ltb, leb, ltb→lt}
use lib.IntN.{ℤ, pos, negsuc, neg_ℤ, nat_abs, ◌-ℤ◌, +ℤ_idl}
use lib.Signed.{non_neg, ◌<ℤ◌}
use mir.Syntax.{w32, w64}
use mir.Val.{Fits, to_z, of_z, hbits}
use Rattle.whole.specs.Range.{Within}
use Rattle.whole.proofs.Bridge.{int}
use Rattle.whole.proofs.RangeLaws.{within_more}
use Rattle.whole.proofs.Expression.{var, holds}
use Rattle.survey.specs.Limits.{most_slope}

pub as_it_is : {n : ℕ} {z : ℤ} → Within n z → T (ltb n (2 ^ hbits w64)) → to_z w64 (of_z w64 z) ≡ z
as_it_is {n} {z} h t = holds w64 (var z n) h t

pub lent : {m n : ℕ} {z : ℤ} → Within m z → T (ltb m (2 ^ hbits w64)) → T (leb m n) → Within n (to_z w64 (of_z w64 z))
lent {m} {n} {z} h t u = subst (Within n) (sym (as_it_is h t)) (within_more h u)

-- The same for a number that is known by another name.
pub as_named : {n : ℕ} {y z : ℤ} → y ≡ z → Within n z → T (ltb n (2 ^ hbits w64)) → to_z w64 (of_z w64 y) ≡ z
as_named {n} {y} {z} e h t = ap (λ (x : ℤ). to_z w64 (of_z w64 x)) e ∙ as_it_is h t

pub lent-named : {m n : ℕ} {y z : ℤ} → y ≡ z → Within m z → T (ltb m (2 ^ hbits w64)) → T (leb m n) → Within n (to_z w64 (of_z w64 y))
lent-named {m} {n} {y} {z} e h t u = subst (Within n) (sym (as_named e h t)) (within_more h u)

-- A number above 0, as an unsigned one.
positive-nonneg : {z : ℤ} → pos 0 <ℤ z → T (non_neg z)
positive-nonneg {z = pos n} h = tt
positive-nonneg {z = negsuc n} h = absurd h.lt

positive-size : {z : ℤ} → pos 0 <ℤ z → 0 < nat_abs z
positive-size {z = pos n} h = omega (arith, int)
positive-size {z = negsuc n} h = absurd h.lt

module _ {n : ℕ} {z : ℤ} (h : Within n z) (t : T (ltb n (2 ^ hbits w64))) (l : pos 0 <ℤ z) where
  pub size_is : nat_abs (to_z w64 (of_z w64 z)) ≡ nat_abs z
  size_is = ap nat_abs (as_it_is h t)

  pub size-cast : T (non_neg (to_z w64 (of_z w64 z))) × Fits w64 (nat_abs (to_z w64 (of_z w64 z)))
  size-cast = (subst (λ y. T (non_neg y)) (sym (as_it_is h t)) (positive-nonneg l), record { fits = omega (arith, size_is, h.by, ltb→lt n (2 ^ hbits w64) t) })

  pub size-positive : 0 < nat_abs (to_z w64 (of_z w64 z))
  size-positive = subst (λ k. 0 < k) (sym size_is) (positive-size l)

  pub size-le : nat_abs (to_z w64 (of_z w64 z)) ≤ n
  size-le = subst (λ k. k ≤ n) (sym size_is) h.by

pub zero_minus : (z : ℤ) → pos 0 -ℤ z ≡ neg_ℤ z
zero_minus z = +ℤ_idl (neg_ℤ z)

pub positive-named : {n : ℕ} {y z : ℤ} → y ≡ z → Within n z → T (ltb n (2 ^ hbits w64)) → pos 0 <ℤ z → pos 0 <ℤ to_z w64 (of_z w64 y)
positive-named e h t l = subst (λ x. pos 0 <ℤ x) (sym (as_named e h t)) l

-- The same at 32 bits, for a slope.
pub slope_as_it_is : {z : ℤ} → Within most_slope z → to_z w32 (of_z w32 z) ≡ z
slope_as_it_is {z} h = holds w32 (var z most_slope) h tt
