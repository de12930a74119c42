-- The cut stays within its bound, leaves what is within it, keeps order, and mirrors. Assumes nothing.
--
-- Each law goes by the cases of the two tests in `cut`; in each case it is an order of whole numbers, which omega closes.
use mathlib.Core.Path.{◌≡◌, refl}
use mathlib.Core.Bool.{Bool, true, false, cond}
use Prim.Native.Nat.{ℕ, zero, suc}
use native.Mathlib.Omega.{arith}
use lib.IntN.{ℤ, pos, neg_ℤ, ◌-ℤ◌}
use lib.Signed.{lt_z, ◌≤ℤ◌, ◌<ℤ◌}
use Rattle.std.specs.Int.{int_max, int_min}
use Rattle.whole.specs.Range.{Within}
use Rattle.whole.specs.Cut.{cut}
use Rattle.whole.proofs.Bridge.{int, neg, minus, test-true, test-false}
use Rattle.whole.proofs.RangeLaws.{within-order, order-within}

-- The three cases.
pub cut-above : (n : ℕ) (z : ℤ) → lt_z (pos n) z ≡ true → cut n z ≡ pos n
unfolding cut
cut-above n z h = rw h

pub cut_below : (n : ℕ) (z : ℤ) → lt_z (pos n) z ≡ false → lt_z z (neg_ℤ (pos n)) ≡ true → cut n z ≡ neg_ℤ (pos n)
unfolding cut
cut_below n z h k = rw (h, k)

pub cut-between : (n : ℕ) (z : ℤ) → lt_z (pos n) z ≡ false → lt_z z (neg_ℤ (pos n)) ≡ false → cut n z ≡ z
unfolding cut
cut-between n z h k = rw (h, k)

-- Where the cut of z lies, by the side of the bound that z is on.
pub data Cutting (n : ℕ) (z : ℤ) : Type 0 where
  above : pos n <ℤ z → cut n z ≡ pos n → Cutting n z
  under : z <ℤ neg_ℤ (pos n) → cut n z ≡ neg_ℤ (pos n) → Cutting n z
  between : neg_ℤ (pos n) ≤ℤ z → z ≤ℤ pos n → cut n z ≡ z → Cutting n z

pub cutting : (n : ℕ) (z : ℤ) → Cutting n z
cutting n z = go (lt_z (pos n) z) refl (lt_z z (neg_ℤ (pos n))) refl
  where
    go : (a : Bool) → lt_z (pos n) z ≡ a → (b : Bool) → lt_z z (neg_ℤ (pos n)) ≡ b → Cutting n z
    go true h b k = above (test-true h) (cut-above n z h)
    go false h true k = under (test-true k) (cut_below n z h k)
    go false h false k = between (test-false k) (test-false h) (cut-between n z h k)

-- The larger of the bound below 0 and the smaller of z and the bound.
above-below : (n : ℕ) → lt_z (pos n) (neg_ℤ (pos n)) ≡ false
above-below zero = refl
above-below (suc n) = refl

pub cut-clamps : (n : ℕ) (z : ℤ) → int_max (neg_ℤ (pos n)) (int_min z (pos n)) ≡ cut n z
unfolding cut
cut-clamps n z = go (lt_z (pos n) z)
  where
    go : (a : Bool)
        → cond (lt_z (cond a (pos n) z) (neg_ℤ (pos n))) (neg_ℤ (pos n)) (cond a (pos n) z) ≡ cond a (pos n) (cond (lt_z z (neg_ℤ (pos n))) (neg_ℤ (pos n)) z)
    go true = rw (above-below n) refl
    go false = refl

-- 'cut to within'
pub cut-within : (n : ℕ) (z : ℤ) → Within n (cut n z)
cut-within n z = go (cutting n z)
  where
    go : Cutting n z → Within n (cut n z)
    go (above h e) = order-within (omega (arith, int, e, neg (pos n))) (omega (arith, int, e))
    go (under h e) = order-within (omega (arith, int, e, neg (pos n))) (omega (arith, int, e, neg (pos n)))
    go (between h k e) = order-within (omega (arith, int, e)) (omega (arith, int, e))

-- A number within the bound is left.
pub cut_same : (n : ℕ) (z : ℤ) → Within n z → cut n z ≡ z
cut_same n z w = go (cutting n z)
  where
    go : Cutting n z → cut n z ≡ z
    go (above h e) = absurd (omega (arith, int, (within-order w).1))
    go (under h e) = absurd (omega (arith, int, (within-order w).0))
    go (between h k e) = e

-- The cut keeps order.
pub cut-le : (n : ℕ) {y z : ℤ} → y ≤ℤ z → cut n y ≤ℤ cut n z
cut-le n {y} {z} h = go (cutting n y) (cutting n z)
  where
    go : Cutting n y → Cutting n z → cut n y ≤ℤ cut n z
    go (above a e) (above b f) = omega (arith, int, e, f)
    go (above a e) (under b f) = absurd (omega (arith, int, neg (pos n)))
    go (above a e) (between b c f) = absurd (omega (arith, int))
    go (under a e) (above b f) = omega (arith, int, e, f, neg (pos n))
    go (under a e) (under b f) = omega (arith, int, e, f)
    go (under a e) (between b c f) = omega (arith, int, e, f)
    go (between a d e) (above b f) = omega (arith, int, e, f)
    go (between a d e) (under b f) = absurd (omega (arith, int))
    go (between a d e) (between b c f) = omega (arith, int, e, f)

-- The cut of the mirrored number is the mirrored cut.
pub cut-odd : (n : ℕ) (z : ℤ) → cut n (neg_ℤ z) ≡ neg_ℤ (cut n z)
cut-odd n z = go (cutting n z) (cutting n (neg_ℤ z))
  where
    go : Cutting n z → Cutting n (neg_ℤ z) → cut n (neg_ℤ z) ≡ neg_ℤ (cut n z)
    go (above a e) (above b f) = absurd (omega (arith, int, neg z, neg (pos n)))
    go (above a e) (under b f) = omega (arith, int, e, f, neg (cut n z), neg (pos n))
    go (above a e) (between b c f) = absurd (omega (arith, int, neg z, neg (pos n)))
    go (under a e) (above b f) = omega (arith, int, e, f, neg (cut n z), neg (pos n))
    go (under a e) (under b f) = absurd (omega (arith, int, neg z, neg (pos n)))
    go (under a e) (between b c f) = absurd (omega (arith, int, neg z, neg (pos n)))
    go (between a d e) (above b f) = absurd (omega (arith, int, neg z, neg (pos n)))
    go (between a d e) (under b f) = absurd (omega (arith, int, neg z, neg (pos n)))
    go (between a d e) (between b c f) = omega (arith, int, e, f, neg (cut n z), neg z)

-- 0 - n, as the code has it.
pub less_zero : (n : ℕ) → pos 0 -ℤ pos n ≡ neg_ℤ (pos n)
less_zero n = omega (arith, int, minus (pos 0) (pos n), neg (pos n))
