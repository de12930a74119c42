-- A bridge from ℤ to omega, which reads naturals only. Assumes nothing.
--
-- A whole number z is `gain z` less `loss z`, of which one is 0. `Is z p n` says that z is p less n, for any two naturals that
-- differ by z: an equation of naturals. Sums, differences, negations and products of such numbers are such numbers, and an order
-- or an equation of ℤ is one of ℕ. So `omega (arith, int, add a b, mul c d)` reads and proves orders and equations of ℤ, with one
-- listed fact for each operation.
use mathlib.Core.Path.{◌≡◌, refl, sym, ap, subst}
use mathlib.Core.Bool.{Bool, true, false, not, cond}
use Prim.Native.Nat.{ℕ, zero, suc, ◌+◌, ◌*◌, ◌-◌, ◌≤◌, ◌<◌}
use native.Mathlib.Omega.{arith}
use lib.Dec.{T, ltb, ltb→lt, lt→ltb, nltb→le, leb→le, le→leb}
use lib.IntN.{ℤ, pos, negsuc, neg_ℤ, sub_ℕ, ◌+ℤ◌, ◌-ℤ◌, ◌*ℤ◌}
use lib.Signed.{le_z, lt_z, lt_z_yes, lt_z_no, clash_ℤ, ◌≤ℤ◌, ◌<ℤ◌}

abbrev pub gain : ℤ → ℕ
gain (pos n) = n
gain (negsuc n) = 0

abbrev pub loss : ℤ → ℕ
loss (pos n) = 0
loss (negsuc n) = suc n

-- z is p less n. A record, so that p and n can be inferred from a proof, and omega reads its field.
pub record Is (z : ℤ) (p n : ℕ) : Type 0 where
  pub is : gain z + n ≡ p + loss z

pub is_int : (z : ℤ) → Is z (gain z) (loss z)
is_int z = record { is = refl }

pub is_nat : (n : ℕ) → Is (pos n) n 0
is_nat n = record { is = refl }

cond_ind : (c : Bool) (x y : ℤ) (P : ℤ → Type 0) → (T c → P x) → (T (not c) → P y) → P (cond c x y)
cond_ind true x y P f g = f tt
cond_ind false x y P f g = g tt

pub is_sub : (a b : ℕ) → Is (sub_ℕ a b) a b
is_sub a b = cond_ind (ltb a b) _ _ (λ z. Is z a b) (λ t. record { is = below (ltb→lt a b t) }) (λ t. record { is = above (nltb→le a b t) })
  where
    below : a < b → 0 + b ≡ a + suc (b - suc a)
    below h = omega arith

    above : b ≤ a → (a - b) + b ≡ a + 0
    above h = omega arith

is_neg' : (n : ℕ) → Is (neg_ℤ (pos n)) 0 n
is_neg' zero = record { is = refl }
is_neg' (suc n) = record { is = omega arith }

pub is_neg : {a : ℤ} {p n : ℕ} → Is a p n → Is (neg_ℤ a) n p
is_neg {a = pos zero} {p} {n} h = record { is = omega (arith, h.is) }
is_neg {a = pos (suc a)} {p} {n} h = record { is = omega (arith, h.is) }
is_neg {a = negsuc a} {p} {n} h = record { is = omega (arith, h.is) }

add' : (a b : ℤ) → Is (a +ℤ b) (gain a + gain b) (loss a + loss b)
add' (pos a) (pos b) = record { is = omega arith }
add' (pos a) (negsuc b) = record { is = omega (arith, (is_sub a (suc b)).is) }
add' (negsuc a) (pos b) = record { is = omega (arith, (is_sub b (suc a)).is) }
add' (negsuc a) (negsuc b) = record { is = omega arith }

pub is_add : {a b : ℤ} {p n q m : ℕ} → Is a p n → Is b q m → Is (a +ℤ b) (p + q) (n + m)
is_add {a} {b} h k = record { is = omega (arith, h.is, k.is, (add' a b).is) }

pub is_minus : {a b : ℤ} {p n q m : ℕ} → Is a p n → Is b q m → Is (a -ℤ b) (p + m) (n + q)
is_minus h k = is_add h (is_neg k)

mul' : (a b : ℤ) → Is (a *ℤ b) (gain a * gain b + loss a * loss b) (gain a * loss b + loss a * gain b)
mul' (pos a) (pos b) = record { is = omega arith }
mul' (pos a) (negsuc b) = record { is = omega (arith, (is_neg' (a * suc b)).is) }
mul' (negsuc a) (pos b) = record { is = omega (arith, (is_neg' (suc a * b)).is) }
mul' (negsuc a) (negsuc b) = record { is = omega arith }

pub is_mul : {a b : ℤ} {p n q m : ℕ} → Is a p n → Is b q m → Is (a *ℤ b) (p * q + n * m) (p * m + n * q)
is_mul {a} {b} {p} {n} {q} {m} h k =
    record { is = omega (arith, (mul' a b).is, ap (λ x. x * gain b) h.is, ap (λ x. x * loss b) h.is, ap (λ x. p * x) k.is, ap (λ x. n * x) k.is) }

eq' : (a b : ℤ) → gain a + loss b ≡ gain b + loss a → a ≡ b
eq' (pos a) (pos b) e = ap pos (omega arith)
eq' (pos a) (negsuc b) e = absurd (omega arith)
eq' (negsuc a) (pos b) e = absurd (omega arith)
eq' (negsuc a) (negsuc b) e = ap negsuc (omega arith)

pub is_eq : {a b : ℤ} {p n q m : ℕ} → Is a p n → Is b q m → p + m ≡ q + n → a ≡ b
is_eq {a} {b} h k e = eq' a b (omega (arith, h.is, k.is))

pub eq_is : {a b : ℤ} {p n q m : ℕ} → Is a p n → Is b q m → a ≡ b → p + m ≡ q + n
eq_is {a} {b} h k e = omega (arith, h.is, k.is, ap gain e, ap loss e)

le' : (a b : ℤ) → gain a + loss b ≤ gain b + loss a → T (le_z a b)
le' (pos a) (pos b) h = le→leb a b (omega arith)
le' (pos a) (negsuc b) h = absurd (omega arith)
le' (negsuc a) (pos b) h = tt
le' (negsuc a) (negsuc b) h = le→leb b a (omega arith)

le'' : (a b : ℤ) → T (le_z a b) → gain a + loss b ≤ gain b + loss a
le'' (pos a) (pos b) h = omega (arith, leb→le a b h)
le'' (pos a) (negsuc b) h = absurd h
le'' (negsuc a) (pos b) h = omega arith
le'' (negsuc a) (negsuc b) h = omega (arith, leb→le b a h)

lt' : (a b : ℤ) → gain a + loss b < gain b + loss a → T (lt_z a b)
lt' (pos a) (pos b) h = lt→ltb a b (omega arith)
lt' (pos a) (negsuc b) h = absurd (omega arith)
lt' (negsuc a) (pos b) h = tt
lt' (negsuc a) (negsuc b) h = lt→ltb b a (omega arith)

lt'' : (a b : ℤ) → T (lt_z a b) → gain a + loss b < gain b + loss a
lt'' (pos a) (pos b) h = omega (arith, ltb→lt a b h)
lt'' (pos a) (negsuc b) h = absurd h
lt'' (negsuc a) (pos b) h = omega arith
lt'' (negsuc a) (negsuc b) h = omega (arith, ltb→lt b a h)

pub is_le : {a b : ℤ} {p n q m : ℕ} → Is a p n → Is b q m → p + m ≤ q + n → a ≤ℤ b
is_le {a} {b} h k e = record { le = le' a b (omega (arith, h.is, k.is)) }

pub is_lt : {a b : ℤ} {p n q m : ℕ} → Is a p n → Is b q m → p + m < q + n → a <ℤ b
is_lt {a} {b} h k e = record { lt = lt' a b (omega (arith, h.is, k.is)) }

pub lt_is : {a b : ℤ} {p n q m : ℕ} → Is a p n → Is b q m → a <ℤ b → p + m < q + n
lt_is {a} {b} h k e = omega (arith, h.is, k.is, lt'' a b e.lt)

-- What an operation makes of the parts of its numbers: the facts for omega's list.
pub add : (a b : ℤ) → Is (a +ℤ b) (gain a + gain b) (loss a + loss b)
add a b = add' a b

pub mul : (a b : ℤ) → Is (a *ℤ b) (gain a * gain b + loss a * loss b) (gain a * loss b + loss a * gain b)
mul a b = mul' a b

pub neg : (a : ℤ) → Is (neg_ℤ a) (loss a) (gain a)
neg a = is_neg (is_int a)

pub minus : (a b : ℤ) → Is (a -ℤ b) (gain a + loss b) (loss a + gain b)
minus a b = is_minus (is_int a) (is_int b)

pub ≤→ : {a b : ℤ} → a ≤ℤ b → gain a + loss b ≤ gain b + loss a
≤→ {a} {b} h = le'' a b h.le

pub →≤ : {a b : ℤ} → gain a + loss b ≤ gain b + loss a → a ≤ℤ b
→≤ {a} {b} h = record { le = le' a b h }

pub <→ : {a b : ℤ} → a <ℤ b → gain a + loss b < gain b + loss a
<→ {a} {b} h = lt'' a b h.lt

pub →< : {a b : ℤ} → gain a + loss b < gain b + loss a → a <ℤ b
→< {a} {b} h = record { lt = lt' a b h }

pub ≡→ : {a b : ℤ} → a ≡ b → gain a + loss b ≡ gain b + loss a
≡→ {a} {b} h = eq_is (is_int a) (is_int b) h

pub →≡ : {a b : ℤ} → gain a + loss b ≡ gain b + loss a → a ≡ b
→≡ {a} {b} h = eq' a b h

pub ruleset int = (≤→, →≤, <→, →<, ≡→, →≡)

-- A test of the code, as an order.
pub test-true : {a b : ℤ} → lt_z a b ≡ true → a <ℤ b
test-true e = lt_z_yes (subst T (sym e) tt)

pub test-false : {a b : ℤ} → lt_z a b ≡ false → b ≤ℤ a
test-false e = lt_z_no (subst (λ t. T (not t)) (sym e) tt)

-- An order, as a test of the code.
pub true-test : {a b : ℤ} → a <ℤ b → lt_z a b ≡ true
true-test {a} {b} h = go (lt_z a b) h.lt
  where
    go : (t : Bool) → T t → t ≡ true
    go true x = refl
    go false x = absurd x

pub false-test : {a b : ℤ} → b ≤ℤ a → lt_z a b ≡ false
false-test {a} {b} h = go (lt_z a b) refl
  where
    go : (t : Bool) → lt_z a b ≡ t → lt_z a b ≡ false
    go true e = absurd (clash_ℤ (test-true e) h)
    go false e = e
