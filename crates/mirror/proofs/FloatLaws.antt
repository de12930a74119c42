-- Opposite f64 numbers stay opposite in every operation of the steps. Assumes nothing.
--
-- An operation rounds a size and gives it a sign, and rounding looks at the size alone; so turned signs give turned signs. Only a zero may
-- keep its sign: a sum that is exactly zero is +0 whichever of its two addends is below zero. Such a zero goes on as a size of 0, whose
-- sign no size above 0 hangs on. Infinities, and what is not a number, are opposite too, so no size is asked for, nor a divisor other than 0.
use mathlib.Core.Path.{◌≡◌, refl, sym, ap, ◌∙◌, subst}
use mathlib.Core.Bool.{Bool, true, false, not, ◌&&◌, cond, beq}
use Prim.Native.Nat.compare
use Prim.Native.Nat.{ℕ, zero, suc, ◌+◌, ◌-◌, ◌*◌, ◌/◌, ◌%◌, ◌^◌, ◌<◌, compare}
use native.Mathlib.Nat.{zero-div, zero-mod, zero-mul, mul_comm, zero-add, add-zero, sub-zero, zero-lt-suc}
use native.Mathlib.Omega.{arith}
use borrow.Author.Tests.{lt-ltb, le-ltb, ltb-false}
use lib.Dec.{ltb, eqb}
use lib.IntN.{ℤ, pos, negsuc, neg_ℤ}
use lib.Ieee.{Float, nan, inf, fin, Format, binary64, prec, emax, low, up, down, size, nearest, odd, units, round, sum, unlike}
use lib.Ieee.{neg, add, sub, mul, div, of_int, to_bits, top}
use lib.Ieee.Fits.{core, round_is}
use Rattle.quintic.specs.Real.{◌⊞◌, ◌⊟◌, ◌⊠◌, ◌⊘◌, whole, unit}
use Rattle.quintic.specs.Quintic.{over}
use Rattle.mirror.specs.Mirror.{Opposite, negation, zeros}

abbrev F : Format
F = binary64

-- ---- rounding
odd-neg : (d : ℕ) (s : Bool) (q k l : ℕ) → neg (odd d s q k l) ≡ odd d (not s) q k l
unfolding odd neg
odd-neg d s zero k l = refl
odd-neg d s (suc q) k l = refl

units-neg : (s : Bool) (q k : ℕ) → neg (units F s q k) ≡ units F (not s) q k
unfolding units neg
units-neg s q k = go (ltb (q * 2 ^ k) (2 ^ (low F + suc (emax F))))
  where
    go : (b : Bool)
        → neg (cond b (odd (suc (prec F)) s q k (low F)) (inf s)) ≡ cond b (odd (suc (prec F)) (not s) q k (low F)) (inf (not s))
    go true = odd-neg (suc (prec F)) s q k (low F)
    go false = refl

round-neg : (s : Bool) (a c : ℕ) → neg (round F s a c) ≡ round F (not s) a c
round-neg s a c = ap neg (round_is F s a c) ∙ units-neg s _ _ ∙ sym (round_is F (not s) a c)

none_left : (u : ℕ) → nearest (0 / u) (compare (0 % u * 2) u) ≡ 0
none_left u = (λ i. nearest (zero-div u i) (compare (zero-mod u i * 2) u)) ∙ go u
  where
    go : (u : ℕ) → nearest 0 (compare 0 u) ≡ 0
    go zero = refl
    go (suc u) = ap (nearest 0) (compare.zero-suc u)

round-zero : (s : Bool) (c : ℕ) → round F s 0 c ≡ fin s 0 (pos 0)
unfolding size units
round-zero s c =
    round_is F s 0 c
    ∙ ap (λ (x : ℕ). core F s 0 c (size x - prec F)) (zero-div c)
    ∙ ap (λ (q : ℕ). units F s q 0) (none_left (c * 1))

-- ---- turned signs: the signs s and t of one size, of which 0 may have any
data Signs : ℕ → Bool → Bool → Type 0 where
  turned : (a : ℕ) (s : Bool) → Signs a s (not s)
  nought : (s t : Bool) → Signs 0 s t

opposite : {x y u v : Float} → x ≡ u → y ≡ v → Opposite u v → Opposite x y
opposite {y = y} {u = u} e f h = subst (λ (z : Float). Opposite z y) (sym e) (subst (Opposite u) (sym f) h)

round-opposite : {a : ℕ} {s t : Bool} (c : ℕ) → Signs a s t → Opposite (round F s a c) (round F t a c)
round-opposite c (turned a s) = opposite refl (sym (round-neg s a c)) (negation (round F s a c))
round-opposite c (nought s t) = opposite (round-zero s c) (round-zero t c) (zeros s t)

times : {a : ℕ} {s t : Bool} → Signs a s t → (k : ℕ) → Signs (a * k) s t
times (turned a s) k = turned (a * k) s
times (nought s t) k = subst (λ (a : ℕ). Signs a s t) (sym (zero-mul k)) (nought s t)

unlike-signs : {a : ℕ} {s t : Bool} → Signs a s t → (u : Bool) → Signs a (unlike s u) (unlike t u)
unlike-signs (turned a true) true = turned a false
unlike-signs (turned a true) false = turned a true
unlike-signs (turned a false) true = turned a true
unlike-signs (turned a false) false = turned a false
unlike-signs (nought s t) u = nought (unlike s u) (unlike t u)

unlike-swap : (s t : Bool) → unlike s t ≡ unlike t s
unlike-swap true true = refl
unlike-swap true false = refl
unlike-swap false true = refl
unlike-swap false false = refl

-- ---- sums of sizes: of two zeros, of a zero and another number, of any
sum-zero : (s t : Bool) (c : ℕ) → sum F s 0 t 0 c ≡ fin (s && t) 0 (pos 0)
unfolding sum
sum-zero true true c = round-zero true c
sum-zero true false c = round-zero false c
sum-zero false true c = round-zero false c
sum-zero false false c = round-zero false c

sum-right : (s t : Bool) (b c : ℕ) → 0 < b → sum F s 0 t b c ≡ round F t b c
unfolding sum
sum-right true true b c h = ap (λ (n : ℕ). round F true n c) (zero-add b)
sum-right true false b c h = simp (lt-ltb 0 b h, sub-zero b)
sum-right false true b c h = simp (lt-ltb 0 b h, sub-zero b)
sum-right false false b c h = ap (λ (n : ℕ). round F false n c) (zero-add b)

sum_left : (s t : Bool) (a c : ℕ) → 0 < a → sum F s a t 0 c ≡ round F s a c
unfolding sum
sum_left true true a c h = ap (λ (n : ℕ). round F true n c) (add-zero a)
sum_left true false a c h = simp (le-ltb a 0 (omega arith), lt-ltb 0 a h, sub-zero a)
sum_left false true a c h = simp (le-ltb a 0 (omega arith), sub-zero a)
sum_left false false a c h = ap (λ (n : ℕ). round F false n c) (add-zero a)

-- Addends of unlike signs: where their sizes are one, the sum is +0 twice.
differ : (s : Bool) (a b c : ℕ) → Opposite (sum F s a (not s) b c) (sum F (not s) a s b c)
unfolding sum
differ s a b c = go s (ltb a b) (ltb b a) refl refl
  where
    none : ltb a b ≡ false → ltb b a ≡ false → a - b ≡ 0
    none e f = omega (arith, ltb-false a b e, ltb-false b a f)

    go : (s x y : Bool) → ltb a b ≡ x → ltb b a ≡ y
        → Opposite (cond (beq s (not s)) (round F s (a + b) c) (cond x (round F (not s) (b - a) c) (round F (s && y) (a - b) c)))
        (cond (beq (not s) s) (round F (not s) (a + b) c) (cond x (round F s (b - a) c) (round F (not s && y) (a - b) c)))
    go true true y e f = round-opposite c (turned (b - a) false)
    go false true y e f = round-opposite c (turned (b - a) true)
    go true false true e f = round-opposite c (turned (a - b) true)
    go false false true e f = round-opposite c (turned (a - b) false)
    go true false false e f = round-opposite c (subst (λ (n : ℕ). Signs n false false) (sym (none e f)) (nought false false))
    go false false false e f = round-opposite c (subst (λ (n : ℕ). Signs n false false) (sym (none e f)) (nought false false))

sum-opposite : {a b : ℕ} {s t u v : Bool} (c : ℕ) → Signs a s t → Signs b u v → Opposite (sum F s a u b c) (sum F t a v b c)
unfolding sum
sum-opposite c (turned a true) (turned b true) = round-opposite c (turned (a + b) true)
sum-opposite c (turned a true) (turned b false) = differ true a b c
sum-opposite c (turned a false) (turned b true) = differ false a b c
sum-opposite c (turned a false) (turned b false) = round-opposite c (turned (a + b) false)
sum-opposite c (turned zero s) (nought u v) = opposite (sum-zero s u c) (sum-zero (not s) v c) (zeros (s && u) (not s && v))
sum-opposite c (turned (suc a) s) (nought u v) =
    opposite (sum_left s u (suc a) c (zero-lt-suc a)) (sum_left (not s) v (suc a) c (zero-lt-suc a)) (round-opposite c (turned (suc a) s))
sum-opposite c (nought s t) (turned zero u) = opposite (sum-zero s u c) (sum-zero t (not u) c) (zeros (s && u) (t && not u))
sum-opposite c (nought s t) (turned (suc b) u) =
    opposite (sum-right s u (suc b) c (zero-lt-suc b)) (sum-right t (not u) (suc b) c (zero-lt-suc b)) (round-opposite c (turned (suc b) u))
sum-opposite c (nought s t) (nought u v) = opposite (sum-zero s u c) (sum-zero t v c) (zeros (s && u) (t && v))

-- ---- the operations, by what opposite numbers can be
data Opposed : Float → Float → Type 0 where
  no_numbers : Opposed nan nan
  infinities : (s : Bool) → Opposed (inf s) (inf (not s))
  numbers : {m : ℕ} {s t : Bool} → Signs m s t → (e : ℤ) → Opposed (fin s m e) (fin t m e)

opposed : {x y : Float} → Opposite x y → Opposed x y
unfolding neg
opposed (negation nan) = no_numbers
opposed (negation (inf s)) = infinities s
opposed (negation (fin s m e)) = numbers (turned m s) e
opposed (zeros s t) = numbers (nought s t) (pos 0)

nan-opposite : Opposite nan nan
unfolding neg
nan-opposite = negation nan

inf-opposite : (s : Bool) → Opposite (inf s) (inf (not s))
unfolding neg
inf-opposite s = negation (inf s)

add-opposed : {x y u v : Float} → Opposed x y → Opposed u v → Opposite (x ⊞ u) (y ⊞ v)
unfolding add
add-opposed no_numbers k = nan-opposite
add-opposed (infinities s) no_numbers = nan-opposite
add-opposed (infinities true) (infinities true) = inf-opposite true
add-opposed (infinities true) (infinities false) = nan-opposite
add-opposed (infinities false) (infinities true) = nan-opposite
add-opposed (infinities false) (infinities false) = inf-opposite false
add-opposed (infinities s) (numbers k d) = inf-opposite s
add-opposed (numbers h e) no_numbers = nan-opposite
add-opposed (numbers h e) (infinities t) = inf-opposite t
add-opposed (numbers h e) (numbers k d) = sum-opposite (down e * down d) (times (times h (up e)) (down d)) (times (times k (up d)) (down e))

inf-unlike : (s u b : Bool) → Opposite (cond b nan (inf (unlike s u))) (cond b nan (inf (unlike (not s) u)))
inf-unlike s u true = nan-opposite
inf-unlike true true false = inf-opposite false
inf-unlike true false false = inf-opposite true
inf-unlike false true false = inf-opposite true
inf-unlike false false false = inf-opposite false

-- A product with an infinity and a quotient by zero: neither is a number where the size is 0.
inf-signs : {m : ℕ} {s t : Bool} → Signs m s t → (u : Bool) → Opposite (cond (eqb m 0) nan (inf (unlike s u))) (cond (eqb m 0) nan (inf (unlike t u)))
inf-signs (turned m s) u = inf-unlike s u (eqb m 0)
inf-signs (nought s t) u = nan-opposite

mul-opposed : {x y : Float} → Opposed x y → (z : Float) → Opposite (x ⊠ z) (y ⊠ z)
unfolding mul
mul-opposed no_numbers z = nan-opposite
mul-opposed (infinities s) nan = nan-opposite
mul-opposed (infinities s) (inf u) = inf-unlike s u false
mul-opposed (infinities s) (fin u n d) = inf-unlike s u (eqb n 0)
mul-opposed (numbers h e) nan = nan-opposite
mul-opposed (numbers h e) (inf u) = inf-signs h u
mul-opposed (numbers h e) (fin u n d) = round-opposite (down e * down d) (times (times (unlike-signs h u) (up e)) (n * up d))

div-opposed : {x y : Float} → Opposed x y → (z : Float) → Opposite (x ⊘ z) (y ⊘ z)
unfolding div
div-opposed no_numbers z = nan-opposite
div-opposed (infinities s) nan = nan-opposite
div-opposed (infinities s) (inf u) = nan-opposite
div-opposed (infinities s) (fin u n d) = inf-unlike s u false
div-opposed (numbers h e) nan = nan-opposite
div-opposed (numbers {s = s} {t = t} h e) (inf u) = zeros (unlike s u) (unlike t u)
div-opposed (numbers {m} {s} {t} h e) (fin u n d) = go (eqb n 0)
  where
    go : (b : Bool)
        → Opposite (cond b (cond (eqb m 0) nan (inf (unlike s u))) (round F (unlike s u) (m * up e * down d) (n * up d * down e)))
        (cond b (cond (eqb m 0) nan (inf (unlike t u))) (round F (unlike t u) (m * up e * down d) (n * up d * down e)))
    go true = inf-signs h u
    go false = round-opposite (n * up d * down e) (times (times (unlike-signs h u) (up e)) (down d))

-- A product does not hang on the order of its factors.
mul-swap : (x y : Float) → x ⊠ y ≡ y ⊠ x
unfolding mul
mul-swap nan nan = refl
mul-swap nan (inf t) = refl
mul-swap nan (fin t n d) = refl
mul-swap (inf s) nan = refl
mul-swap (inf s) (inf t) = ap inf (unlike-swap s t)
mul-swap (inf s) (fin t n d) = ap (λ (b : Bool). cond (eqb n 0) nan (inf b)) (unlike-swap s t)
mul-swap (fin s m e) nan = refl
mul-swap (fin s m e) (inf t) = ap (λ (b : Bool). cond (eqb m 0) nan (inf b)) (unlike-swap s t)
mul-swap (fin s m e) (fin t n d) = λ i. round F (unlike-swap s t i) (mul_comm (m * up e) (n * up d) i) (mul_comm (down e) (down d) i)

-- ---- what the steps are made of: proofs are put together as the numbers are
infixl 20 ◌plus◌ ◌less◌
infixl 21 ◌by◌ ◌of◌
-- The sum and the difference of opposite numbers.
pub ◌plus◌ : {x y u v : Float} → Opposite x y → Opposite u v → Opposite (x ⊞ u) (y ⊞ v)
h plus k = add-opposed (opposed h) (opposed k)

neg-opposite : {x y : Float} → Opposite x y → Opposite (neg x) (neg y)
unfolding neg
neg-opposite (negation x) = negation (neg x)
neg-opposite (zeros s t) = zeros (not s) (not t)

pub ◌less◌ : {x y u v : Float} → Opposite x y → Opposite u v → Opposite (x ⊟ u) (y ⊟ v)
unfolding sub
h less k = h plus neg-opposite k

-- Opposite numbers and one factor, on either side; and one divisor.
pub ◌by◌ : {x y : Float} → Opposite x y → (z : Float) → Opposite (x ⊠ z) (y ⊠ z)
h by z = mul-opposed (opposed h) z

pub ◌of◌ : (z : Float) {x y : Float} → Opposite x y → Opposite (z ⊠ x) (z ⊠ y)
z of h = opposite (mul-swap z _) (mul-swap z _) (h by z)

pub divided : {x y : Float} → Opposite x y → (z : Float) → Opposite (x ⊘ z) (y ⊘ z)
divided h z = div-opposed (opposed h) z

-- A whole number, and a slope 'over 65,536'.
pub whole-opposite : (z : ℤ) → Opposite (whole z) (whole (neg_ℤ z))
unfolding of_int
whole-opposite (pos zero) = round-opposite 1 (nought false false)
whole-opposite (pos (suc n)) = round-opposite 1 (turned (suc n) false)
whole-opposite (negsuc n) = round-opposite 1 (turned (suc n) true)

pub slope-opposite : (p : ℤ) → Opposite (over p) (over (neg_ℤ p))
slope-opposite p = divided (whole-opposite p) unit

-- Opposite numbers differ in the bit of the sign alone.
pub sign_bit : (m : ℕ) (e : ℤ) → to_bits binary64 (fin true m e) ≡ top binary64 + to_bits binary64 (fin false m e)
unfolding to_bits
sign_bit m e = omega arith
