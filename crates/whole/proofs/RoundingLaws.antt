-- The rounded quotient is the nearest whole number with a half going away from zero, and nothing else is; it is odd. Assumes nothing.
--
-- Of a quotient a / d of naturals, m = (2 * a + d) / (2 * d): 2 * d * m ≤ 2 * a + d < 2 * d * m + 2 * d, so that m is off by at most a
-- half, a lower number by at least a half and a higher one by more, and one below zero by more than m. A number below zero is the
-- mirror image. Two nearest numbers are equally far off and equally far from zero; were they r and -r, 0 would be nearer.
use mathlib.Core.Path.{◌≡◌, refl, sym, ap, ◌∙◌, subst}
use mathlib.Core.Bool.{Bool, true, false, true≢false}
use Prim.Native.Nat.{ℕ, zero, suc, ◌+◌, ◌*◌, ◌-◌, ◌/◌, ◌≤◌, ◌<◌}
use native.Mathlib.Nat.{le_refl, le_antisymm, mul-le-mul, div-mul-le_self, lt-div-mul-add, div-eq_of_lt, div-eq_of_lt-le, zero-div}
use native.Mathlib.Omega.{arith}
use borrow.Author.Tests.{ltb-true, ltb-false}
use lib.Dec.{ltb}
use lib.IntN.{ℤ, pos, negsuc, neg_ℤ, nat_abs, ◌+ℤ◌, ◌-ℤ◌, ◌*ℤ◌, neg_ℤ-neg_ℤ}
use lib.Signed.{lt_z, quot_z}
use Rattle.whole.specs.Rounding.{rounded, off_by, Nearest}
use Rattle.whole.proofs.Bridge.{Is, gain, loss, is_int, is_nat, is_minus, is_mul, is_eq, neg, mul}
use Rattle.whole.proofs.RangeLaws.{abs_neg}

-- How far a difference is from zero.
abs_is : {z : ℤ} {p n : ℕ} → Is z p n → nat_abs z ≡ (p - n) + (n - p)
abs_is {z = pos a} h = omega (arith, h.is)
abs_is {z = negsuc a} h = omega (arith, h.is)

off_is : (n : ℤ) (d : ℕ) {k : ℤ} {p q : ℕ} → Is k p q → off_by n d k ≡ (gain n + d * q - (loss n + d * p)) + (loss n + d * p - (gain n + d * q))
off_is n d h = omega (arith, abs_is (is_minus (is_int n) (is_mul (is_nat d) h)))

-- Where k stands to m, and by how much their multiples differ.
data Beside (d k m : ℕ) : Type 0 where
  lower : k < m → d * k + d ≤ d * m → Beside d k m
  same : k ≡ m → Beside d k m
  higher : m < k → d * m + d ≤ d * k → Beside d k m

beside : (d k m : ℕ) → Beside d k m
beside d k m = go (ltb k m) refl (ltb m k) refl
  where
    multiple : {i j : ℕ} → i < j → d * i + d ≤ d * j
    multiple {i} {j} h = omega (arith, mul-le-mul (le_refl d) h)

    go : (a : Bool) → ltb k m ≡ a → (b : Bool) → ltb m k ≡ b → Beside d k m
    go true e b f = let h = ltb-true k m e in lower h (multiple h)
    go false e true f = let h = ltb-true m k f in higher h (multiple h)
    go false e false f = same (omega (arith, ltb-false k m e, ltb-false m k f))

-- The size of a quotient.
module _ (a d : ℕ) (h : 0 < d) where
  abbrev m : ℕ
  m = (2 * a + d) / (2 * d)

  not_above : 2 * (d * m) ≤ 2 * a + d
  not_above = omega (arith, div-mul-le_self (2 * a + d) (2 * d))

  next-above : 2 * a + d < 2 * (d * m) + 2 * d
  next-above = omega (arith, lt-div-mul-add {a = 2 * a + d} {b = 2 * d} (omega arith))

  size-nearest : Nearest (pos a) d (pos m)
  size-nearest = record { nearest = near; away = far }
    where
      at : (k : ℕ) → off_by (pos a) d (pos k) ≡ (a - d * k) + (d * k - a)
      at k = omega (arith, off_is (pos a) d (is_nat k))

      below : (k : ℕ) → off_by (pos a) d (negsuc k) ≡ a + d * suc k
      below k = omega (arith, off_is (pos a) d (is_int (negsuc k)))

      least : (k : ℕ) → d ≤ d * suc k
      least k = omega arith

      near : (k : ℤ) → off_by (pos a) d (pos m) ≤ off_by (pos a) d k
      near (pos k) = go (beside d k m)
        where
          go : Beside d k m → off_by (pos a) d (pos m) ≤ off_by (pos a) d (pos k)
          go (lower l t) = omega (arith, at m, at k, not_above, next-above)
          go (same e) = subst (λ (j : ℕ). off_by (pos a) d (pos m) ≤ off_by (pos a) d (pos j)) (sym e) (le_refl _)
          go (higher l t) = omega (arith, at m, at k, not_above, next-above)
      near (negsuc k) = omega (arith, at m, below k, least k, not_above, next-above)

      far : (k : ℤ) → off_by (pos a) d k ≡ off_by (pos a) d (pos m) → nat_abs k ≤ m
      far (pos k) e = go (beside d k m)
        where
          go : Beside d k m → k ≤ m
          go (lower l t) = omega arith
          go (same f) = omega (arith, f)
          go (higher l t) = absurd (omega (arith, e, at m, at k, not_above, next-above))
      far (negsuc k) e = absurd (omega (arith, e, at m, below k, least k, not_above, next-above))

-- The mirror image: -n / d is as far from -k as n / d from k.
off_odd : (n : ℤ) (d : ℕ) (k : ℤ) → off_by (neg_ℤ n) d k ≡ off_by n d (neg_ℤ k)
off_odd n d k =
    omega (arith, abs_is (is_minus (neg n) (is_mul (is_nat d) (is_int k))), abs_is (is_minus (is_int n) (is_mul (is_nat d) (neg k))))

pub nearest-odd : {n : ℤ} {d : ℕ} {r : ℤ} → Nearest n d r → Nearest (neg_ℤ n) d (neg_ℤ r)
nearest-odd {n} {d} {r} h = record { nearest = near; away = far }
  where
    own : off_by (neg_ℤ n) d (neg_ℤ r) ≡ off_by n d r
    own = off_odd n d (neg_ℤ r) ∙ ap (off_by n d) (neg_ℤ-neg_ℤ r)

    near : (k : ℤ) → off_by (neg_ℤ n) d (neg_ℤ r) ≤ off_by (neg_ℤ n) d k
    near k = omega (arith, own, off_odd n d k, h.nearest (neg_ℤ k))

    far : (k : ℤ) → off_by (neg_ℤ n) d k ≡ off_by (neg_ℤ n) d (neg_ℤ r) → nat_abs k ≤ nat_abs (neg_ℤ r)
    far k e = omega (arith, abs_neg k, abs_neg r, h.away (neg_ℤ k) (sym (off_odd n d k) ∙ e ∙ own))

module _ (n : ℤ) (d : ℕ) where
  -- No second whole number is the nearest.
  pub nearest-unique : {r s : ℤ} → 0 < d → Nearest n d r → Nearest n d s → r ≡ s
  nearest-unique {r} {s} h hr hs = go r s alike (le_antisymm (hs.away r alike) (hr.away s (sym alike))) (hr.nearest (pos 0))
    where
      alike : off_by n d r ≡ off_by n d s
      alike = le_antisymm (hr.nearest s) (hs.nearest r)

      at : (k : ℤ) → off_by n d k ≡ (gain n + d * loss k - (loss n + d * gain k)) + (loss n + d * gain k - (gain n + d * loss k))
      at k = off_is n d (is_int k)

      -- Between x and -x lies 0: |n - x| = |n + x| has n = 0, and then 0 is nearer.
      go : (r s : ℤ) → off_by n d r ≡ off_by n d s → nat_abs r ≡ nat_abs s → off_by n d r ≤ off_by n d (pos 0) → r ≡ s
      go (pos i) (pos j) e f g = ap pos f
      go (negsuc i) (negsuc j) e f g = ap negsuc (omega (arith, f))
      go (pos i) (negsuc j) e f g = absurd (omega (arith, e, g, at (pos i), at (negsuc j), at (pos 0), ap (λ (k : ℕ). d * k) f))
      go (negsuc i) (pos j) e f g = absurd (omega (arith, e, g, at (negsuc i), at (pos j), at (pos 0), ap (λ (k : ℕ). d * k) f))

  -- 'rounded to the nearest whole number', with 'a half' going 'away from zero'
  pub rounded-nearest : 0 < d → Nearest n d (rounded n d)
  unfolding rounded
  rounded-nearest h = go n
    where
      go : (n : ℤ) → Nearest n d (rounded n d)
      go (pos a) = size-nearest a d h
      go (negsuc a) = nearest-odd (size-nearest (suc a) d h)

  -- So whatever is the nearest is what `rounded` gives.
  pub nearest-rounded : 0 < d → {r : ℤ} → Nearest n d r → r ≡ rounded n d
  nearest-rounded h hr = nearest-unique h hr (rounded-nearest h)

-- Around zero: less than a half is 0, on either side.
small_size : (a d : ℕ) → 2 * a < d → (2 * a + d) / (2 * d) ≡ 0
small_size a d h = div-eq_of_lt (omega arith)

pub rounded-small : (n : ℤ) (d : ℕ) → 2 * nat_abs n < d → rounded n d ≡ pos 0
unfolding rounded
rounded-small (pos a) d h = ap pos (small_size a d h)
rounded-small (negsuc a) d h = ap (λ k. neg_ℤ (pos k)) (small_size (suc a) d h)

-- Negating what is divided negates the quotient; 0 / d is 0, for the divisor 0 too.
pub rounded-odd : (n : ℤ) (d : ℕ) → rounded (neg_ℤ n) d ≡ neg_ℤ (rounded n d)
unfolding rounded
rounded-odd (pos zero) d = ap pos (nought d) ∙ ap (λ k. neg_ℤ (pos k)) (sym (nought d))
  where
    nought : (d : ℕ) → (2 * 0 + d) / (2 * d) ≡ 0
    nought zero = refl
    nought (suc d) = small_size 0 (suc d) (omega arith)
rounded-odd (pos (suc a)) d = refl
rounded-odd (negsuc a) d = sym (neg_ℤ-neg_ℤ (pos ((2 * suc a + d) / (2 * d))))

-- 'a half must go away from zero': k + 1 / 2 rounds to k + 1, and -(k + 1 / 2) to -(k + 1).
pub rounded-half : (d k : ℕ) → 0 < d → rounded (pos (d * (2 * k + 1))) (2 * d) ≡ pos (k + 1)
unfolding rounded
rounded-half d k h = ap pos (div-eq_of_lt-le {k = k + 1} (2 * (2 * d)) (omega arith) (omega arith))

pub rounded-minus-half : (d k : ℕ) → 0 < d → rounded (neg_ℤ (pos (d * (2 * k + 1)))) (2 * d) ≡ neg_ℤ (pos (k + 1))
rounded-minus-half d k h = rounded-odd (pos (d * (2 * k + 1))) (2 * d) ∙ ap neg_ℤ (rounded-half d k h)

-- The machine's division, which goes toward zero, of a half more in size.
quot-neg : (x y : ℕ) → quot_z (neg_ℤ (pos x)) (pos y) ≡ neg_ℤ (pos (x / y))
quot-neg zero y = ap pos (zero-div y) ∙ sym (ap (λ k. neg_ℤ (pos k)) (zero-div y))
quot-neg (suc x) y = refl

pub quot_above : (n : ℤ) (d : ℕ) → lt_z n (pos 0) ≡ false → quot_z (pos 2 *ℤ n +ℤ pos d) (pos (2 * d)) ≡ rounded n d
unfolding rounded
quot_above (pos a) d h = refl
quot_above (negsuc a) d h = absurd (true≢false h)

pub quot_below : (n : ℤ) (d : ℕ) → lt_z n (pos 0) ≡ true → quot_z (pos 2 *ℤ n -ℤ pos d) (pos (2 * d)) ≡ rounded n d
unfolding rounded
quot_below (pos a) d h = absurd (omega (arith, ltb-true a 0 h))
quot_below (negsuc a) d h = ap (λ z. quot_z z (pos (2 * d))) size ∙ quot-neg (2 * suc a + d) (2 * d)
  where
    size : pos 2 *ℤ negsuc a -ℤ pos d ≡ neg_ℤ (pos (2 * suc a + d))
    size = is_eq (is_minus (mul (pos 2) (negsuc a)) (is_nat d)) (neg (pos (2 * suc a + d))) (omega arith)

-- T9: 7/2 rounds to 4, -7/2 to -4.
pub seven-halves : rounded (pos 7) 2 ≡ pos 4
unfolding rounded
seven-halves = refl

pub minus-seven-halves : rounded (negsuc 6) 2 ≡ negsuc 3
unfolding rounded
minus-seven-halves = refl
