-- The signs of products: what nonlinear reasoning on turns comes down to. Assumes nothing.
use mathlib.Core.Path.{◌≡◌, refl}
use Prim.Native.Nat.{zero, suc}
use native.Mathlib.Nat.{mul-pos}
use native.Mathlib.Omega.{arith}
use lib.IntN.{ℤ, pos, negsuc, ◌*ℤ◌}
use lib.Signed.{◌≤ℤ◌, ◌<ℤ◌}
use Rattle.whole.proofs.Bridge.{is_int, is_nat, is_mul, int, mul}

pub positive-mul : {a b : ℤ} → pos 0 <ℤ a → pos 0 <ℤ b → pos 0 <ℤ (a *ℤ b)
positive-mul {a = pos a} {b = pos b} h k = omega (arith, int, mul-pos {m = a} {n = b} (omega (arith, int)) (omega (arith, int)))
positive-mul {a = pos a} {b = negsuc b} h k = absurd (omega (arith, int))
positive-mul {a = negsuc a} {b} h k = absurd (omega (arith, int))

pub nonneg-mul : {a b : ℤ} → pos 0 ≤ℤ a → pos 0 ≤ℤ b → pos 0 ≤ℤ (a *ℤ b)
nonneg-mul {a = pos a} {b = pos b} h k = omega (arith, int)
nonneg-mul {a = pos a} {b = negsuc b} h k = absurd k.le
nonneg-mul {a = negsuc a} {b} h k = absurd h.le

pub nonneg_of_mul : {a b : ℤ} → pos 0 <ℤ a → pos 0 ≤ℤ (a *ℤ b) → pos 0 ≤ℤ b
nonneg_of_mul {a} {b = pos b} h k = omega (arith, int)
nonneg_of_mul {a = pos a} {b = negsuc b} h k = absurd (omega (arith, int, mul (pos a) (negsuc b)))
nonneg_of_mul {a = negsuc a} {b = negsuc b} h k = absurd h.lt

-- A product is 0 only where a factor is.
pub zero_of_mul : {a b : ℤ} → (a ≡ pos 0 → ⊥) → a *ℤ b ≡ pos 0 → b ≡ pos 0
zero_of_mul {a = pos zero} h k = absurd (h refl)
zero_of_mul {a = pos (suc a)} {b = pos zero} h k = refl
zero_of_mul {a = pos (suc a)} {b = pos (suc b)} h k = absurd (omega (arith, int, mul (pos (suc a)) (pos (suc b))))
zero_of_mul {a = pos (suc a)} {b = negsuc b} h k = absurd (omega (arith, int, mul (pos (suc a)) (negsuc b)))
zero_of_mul {a = negsuc a} {b = pos zero} h k = refl
zero_of_mul {a = negsuc a} {b = pos (suc b)} h k = absurd (omega (arith, int, mul (negsuc a) (pos (suc b))))
zero_of_mul {a = negsuc a} {b = negsuc b} h k = absurd (omega (arith, int, mul (negsuc a) (negsuc b)))

pub mul-zero : (a : ℤ) {b : ℤ} → b ≡ pos 0 → a *ℤ b ≡ pos 0
mul-zero a e = rw e (omega (arith, int, is_mul (is_int a) (is_nat 0)))
