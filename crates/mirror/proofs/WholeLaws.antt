-- Negated whole numbers stay negated in sums, differences, products with one factor, and in quotients that are rounded and cut. Assumes
-- nothing.
use mathlib.Core.Path.{◌≡◌, refl, ap, ◌∙◌}
use Prim.Native.Nat.{ℕ}
use native.Mathlib.Omega.{arith}
use lib.IntN.{ℤ, neg_ℤ, ◌+ℤ◌, ◌-ℤ◌, ◌*ℤ◌}
use Rattle.whole.specs.Cut.{cut}
use Rattle.whole.specs.Rounding.{rounded}
use Rattle.whole.proofs.Bridge.{is_int, is_neg, is_add, is_mul, is_minus, is_eq, add, minus, mul, neg}
use Rattle.whole.proofs.CutLaws.{cut-odd}
use Rattle.whole.proofs.RoundingLaws.{rounded-odd}

-- x is a negated. A record, so that both can be inferred from a proof.
pub record Negated (x a : ℤ) : Type 0 where
  pub is : x ≡ neg_ℤ a

pub negation : (a : ℤ) → Negated (neg_ℤ a) a
negation a = record { is = refl }

-- Proofs are put together as the numbers are: sums, differences, one factor on the right, one on the left.
infixl 20 ◌plus◌ ◌less◌
infixl 21 ◌by◌ ◌of◌
pub ◌plus◌ : {x y a b : ℤ} → Negated x a → Negated y b → Negated (x +ℤ y) (a +ℤ b)
◌plus◌ {a = a} {b = b} h k =
    record { is = (λ t. h.is t +ℤ k.is t) ∙ is_eq (is_add (neg a) (neg b)) (is_neg (add a b)) (omega arith) }

pub ◌less◌ : {x y a b : ℤ} → Negated x a → Negated y b → Negated (x -ℤ y) (a -ℤ b)
◌less◌ {a = a} {b = b} h k =
    record { is = (λ t. h.is t -ℤ k.is t) ∙ is_eq (is_minus (neg a) (neg b)) (is_neg (minus a b)) (omega arith) }

pub ◌by◌ : {x a : ℤ} → Negated x a → (z : ℤ) → Negated (x *ℤ z) (a *ℤ z)
◌by◌ {a = a} h z = record { is = ap (λ (y : ℤ). y *ℤ z) h.is ∙ is_eq (is_mul (neg a) (is_int z)) (is_neg (mul a z)) (omega arith) }

pub ◌of◌ : (z : ℤ) {x a : ℤ} → Negated x a → Negated (z *ℤ x) (z *ℤ a)
◌of◌ z {a = a} h = record { is = ap (λ (y : ℤ). z *ℤ y) h.is ∙ is_eq (is_mul (is_int z) (neg a)) (is_neg (mul z a)) (omega arith) }

-- 'a half must go away from zero'
pub quotient-negated : (n d : ℕ) {x a : ℤ} → Negated x a → Negated (cut n (rounded x d)) (cut n (rounded a d))
quotient-negated n d {a = a} h = record { is = ap (λ (z : ℤ). cut n (rounded z d)) h.is ∙ ap (cut n) (rounded-odd a d) ∙ cut-odd n (rounded a d) }
