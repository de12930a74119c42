-- Bounds of signed numbers: sums, differences, products and quotients of numbers within bounds are within bounds. Assumes nothing.
use mathlib.Core.Path.{◌≡◌, refl, sym, subst}
use mathlib.Core.Bool.{Bool, true, false, cond}
use Prim.Native.Nat.{ℕ, zero, suc, ◌+◌, ◌*◌, ◌-◌, ◌/◌, ◌^◌, ◌≤◌}
use native.Mathlib.Nat.{le_trans, le_refl, mul-le-mul, lt_of_le_of_lt, div-le_self}
use native.Mathlib.Omega.{arith}
use lib.Dec.{T, ltb, leb, ltb→lt, leb→le, le→leb, lt→ltb}
use lib.Ieee.{binary64, in_float}
use lib.IntN.{ℤ, pos, negsuc, neg_ℤ, nat_abs, ◌+ℤ◌, ◌-ℤ◌, ◌*ℤ◌}
use lib.Signed.{mag, quot_z, ◌≤ℤ◌}
use mir.Syntax.{Width}
use mir.Val.{SFits, hbits}
use Rattle.whole.specs.Range.{Within}
use Rattle.whole.proofs.Bridge.{int, neg}

pub abs_neg : (z : ℤ) → nat_abs (neg_ℤ z) ≡ nat_abs z
abs_neg (pos zero) = refl
abs_neg (pos (suc n)) = refl
abs_neg (negsuc n) = refl

abs_by : (t : Bool) (a b : ℕ) → nat_abs (cond t (negsuc (suc b - suc a)) (pos (a - suc b))) ≤ a + suc b
abs_by true a b = omega arith
abs_by false a b = omega arith

abs-add : (x y : ℤ) → nat_abs (x +ℤ y) ≤ nat_abs x + nat_abs y
abs-add (pos a) (pos b) = omega arith
abs-add (pos a) (negsuc b) = abs_by (ltb a (suc b)) a b
abs-add (negsuc a) (pos b) = omega (arith, abs_by (ltb b (suc a)) b a)
abs-add (negsuc a) (negsuc b) = omega arith

abs-mul : (x y : ℤ) → nat_abs (x *ℤ y) ≡ nat_abs x * nat_abs y
abs-mul (pos a) (pos b) = refl
abs-mul (pos a) (negsuc b) = abs_neg (pos (a * suc b))
abs-mul (negsuc a) (pos b) = abs_neg (pos (suc a * b))
abs-mul (negsuc a) (negsuc b) = refl

pub within-neg : {n : ℕ} {z : ℤ} → Within n z → Within n (neg_ℤ z)
within-neg {n} {z} h = record { by = subst (λ (k : ℕ). k ≤ n) (sym (abs_neg z)) h.by }

pub within-add : {m n : ℕ} {x y : ℤ} → Within m x → Within n y → Within (m + n) (x +ℤ y)
within-add {m} {n} {x} {y} h k = record { by = omega (arith, abs-add x y, h.by, k.by) }

pub within-sub : {m n : ℕ} {x y : ℤ} → Within m x → Within n y → Within (m + n) (x -ℤ y)
within-sub h k = within-add h (within-neg k)

pub within-mul : {m n : ℕ} {x y : ℤ} → Within m x → Within n y → Within (m * n) (x *ℤ y)
within-mul {m} {n} {x} {y} h k = record { by = subst (λ (j : ℕ). j ≤ m * n) (sym (abs-mul x y)) (mul-le-mul h.by k.by) }

pub within-pos : {n m : ℕ} → m ≤ n → Within n (pos m)
within-pos h = record { by = h }

pub within_more : {m n : ℕ} {z : ℤ} → Within m z → T (leb m n) → Within n z
within_more h t = record { by = le_trans h.by (leb→le _ _ t) }

mag-le : (z : ℤ) → mag z ≤ nat_abs z
mag-le (pos n) = le_refl n
mag-le (negsuc n) = omega arith

-- a bound below half the width's power: the number fits
pub within-fits : {n : ℕ} {w : Width} {z : ℤ} → Within n z → T (ltb n (2 ^ hbits w)) → SFits w z
within-fits {z = z} h t = record { sfits = lt_of_le_of_lt (le_trans (mag-le z) h.by) (ltb→lt _ _ t) }

diff_by : (t : Bool) (n x y : ℕ) → x ≤ n → suc y ≤ n → nat_abs (cond t (negsuc (suc y - suc x)) (pos (x - suc y))) ≤ n
diff_by true n x y h k = omega arith
diff_by false n x y h k = omega arith

-- two numbers from 0 to n differ by at most n
pub within-diff : {n : ℕ} (x y : ℕ) → x ≤ n → y ≤ n → Within n (pos x -ℤ pos y)
within-diff {n} x zero h k = record { by = omega arith }
within-diff {n} x (suc y) h k = record { by = diff_by (ltb x (suc y)) n x y h k }

abs-quot : (x y : ℤ) → nat_abs (quot_z x y) ≤ nat_abs x
abs-quot (pos a) (pos b) = div-le_self a b
abs-quot (pos a) (negsuc b) = subst (λ (k : ℕ). k ≤ a) (sym (abs_neg (pos (a / suc b)))) (div-le_self a (suc b))
abs-quot (negsuc a) (pos b) = subst (λ (k : ℕ). k ≤ suc a) (sym (abs_neg (pos (suc a / b)))) (div-le_self (suc a) b)
abs-quot (negsuc a) (negsuc b) = div-le_self (suc a) (suc b)

-- a quotient, rounded toward zero, is no larger than what is divided
pub within-quot : {n : ℕ} {x : ℤ} (y : ℤ) → Within n x → Within n (quot_z x y)
within-quot {n} {x} y h = record { by = le_trans (abs-quot x y) h.by }

-- A bound, as two orders, and back.
pub within-order : {n : ℕ} {z : ℤ} → Within n z → (neg_ℤ (pos n) ≤ℤ z) × (z ≤ℤ pos n)
within-order {n} {z = pos a} h = (omega (arith, int, h.by, neg (pos n)), omega (arith, int, h.by))
within-order {n} {z = negsuc a} h = (omega (arith, int, h.by, neg (pos n)), omega (arith, int, h.by))

pub order-within : {n : ℕ} {z : ℤ} → neg_ℤ (pos n) ≤ℤ z → z ≤ℤ pos n → Within n z
order-within {n} {z = pos a} h k = record { by = omega (arith, int) }
order-within {n} {z = negsuc a} h k = record { by = omega (arith, int, neg (pos n)) }

-- A number of at most 2 ^ 53 in size is an f64 exactly.
pub within-float : {n : ℕ} (z : ℤ) → Within n z → T (leb n (2 ^ 53)) → T (in_float binary64 z)
unfolding in_float
within-float {n} (pos a) h t = le→leb a (2 ^ 53) (le_trans h.by (leb→le n (2 ^ 53) t))
within-float {n} (negsuc a) h t = lt→ltb a (2 ^ 53) (le_trans h.by (leb→le n (2 ^ 53) t))
