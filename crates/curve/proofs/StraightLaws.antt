-- The bracket of the straight curve is one quotient. Assumes nothing.
--
-- Where a curve is on stop 0's side of the level exactly at the stops k with k · d ≤ n, and not at stop 64, the last of these stops is the
-- quotient of n by d, and so that is the bracket, for every positive d: `quotient-bracket`. Over a side whose ends are d apart the straight
-- curve goes d in each sixty-fourth, so at stop k it is k · d from 64 · z1, and a level that is a from z1 is 64 · a from there. A rising curve
-- is below it as long as k · d < 64 · a, so n is one less than 64 · a; a falling one is not below it as long as k · d ≤ 64 · a, so n is 64 · a.
use mathlib.Core.Path.{◌≡◌, sym, ap, ◌∙◌}
use mathlib.Core.Bool.{Bool, true, false, not}
use Prim.Native.Nat.{ℕ, ◌+◌, ◌*◌, ◌-◌, ◌/◌, ◌≤◌, ◌<◌}
use native.Mathlib.Nat.{div-lt_iff_lt-mul, le-div_iff_mul-le}
use native.Mathlib.Omega.{arith}
use lib.IntN.{ℤ, pos, ◌-ℤ◌}
use lib.Signed.{◌≤ℤ◌, ◌<ℤ◌}
use Rattle.whole.proofs.Bridge.{Is, gain, loss, is_int, is_nat, is_add, is_mul, is_lt, is_le, minus, int, test-true, test-false, true-test, false-test}
use Rattle.curve.specs.Below.{below, is_crossed}
use Rattle.curve.specs.Curve.{straight_at, scaled}
use Rattle.curve.specs.Bracket.{bracket_of}
use Rattle.curve.proofs.CrossLaws.{xor-true}
use Rattle.curve.proofs.BracketLaws.{bracket_is}

-- The quotient of n by d is the last number of times that d goes into n: so it is the bracket of a curve that keeps to its first side just
-- so long, and has left it at stop 64.
module _ (curve : ℕ → ℤ) (level : ℤ) (start : Bool) {n d : ℕ} where
  pub quotient-bracket :
      0 < d → n < 64 * d
      → ((k : ℕ) → k ≤ 64 → k * d ≤ n → below level (curve k) ≡ start)
      → ((k : ℕ) → k ≤ 64 → n < k * d → below level (curve k) ≡ not start)
      → n / d ≡ bracket_of curve level
  quotient-bracket positive most on off =
      let w : n / d < 64 = (div-lt_iff_lt-mul positive).1 most in
      let first : below level (curve 0) ≡ start = on 0 (omega arith) (omega arith) in
      sym (bracket_is curve level
      (record {
        within = w;
        before = λ i l. on i (omega arith) ((le-div_iff_mul-le positive).0 l) ∙ sym first;
        after = off (n / d + 1) (omega arith) ((div-lt_iff_lt-mul positive).0 (omega arith)) ∙ ap not (sym first);
      }))

-- A level that crosses a side lies between its ends.
pub rising-order : (z1 z2 level : ℤ) → is_crossed level z1 z2 ≡ true → below level z1 ≡ true → (z1 <ℤ level) × (level ≤ℤ z2)
rising-order z1 z2 level e t = (test-true t, test-false (xor-true (below level z1) (below level z2) e ∙ ap not t))

pub falling-order : (z1 z2 level : ℤ) → is_crossed level z1 z2 ≡ true → below level z1 ≡ false → (level ≤ℤ z1) × (z2 <ℤ level)
falling-order z1 z2 level e t = (test-false t, test-true (xor-true (below level z1) (below level z2) e ∙ ap not t))

-- A height n higher than z, or n lower; the curve at stop k between two heights; a level.
higher_is : (z h : ℤ) {n : ℕ} → pos n ≡ h -ℤ z → Is h (gain z + n) (loss z)
higher_is z h e = record { is = omega (arith, int, minus h z) }

lower_is : (z h : ℤ) {n : ℕ} → pos n ≡ z -ℤ h → Is h (gain z) (loss z + n)
lower_is z h e = record { is = omega (arith, int, minus z h) }

stop_is : {z1 z2 : ℤ} {p n q m : ℕ} → Is z1 p n → Is z2 q m → (k : ℕ) → Is (straight_at z1 z2 k) (p * (64 - k) + q * k) (n * (64 - k) + m * k)
stop_is i j k = record { is = omega (arith, (is_add (is_mul i (is_nat (64 - k))) (is_mul j (is_nat k))).is) }

level_is : {z : ℤ} {p n : ℕ} → Is z p n → Is (scaled 0 z) (64 * p) (64 * n)
level_is i = record { is = omega (arith, (is_mul (is_nat 64) i).is) }

stops : (k b : ℕ) → k ≤ 64 → b * (64 - k) + b * k ≡ 64 * b
stops k b h = let e : (64 - k) + k ≡ 64 = omega arith in omega (arith, ap (λ x. b * x) e)

-- A side that rises by d, and a level a above its lower-numbered station.
module _ (z1 z2 level : ℤ) {a d : ℕ} (to : pos a ≡ level -ℤ z1) (up : pos d ≡ z2 -ℤ z1) where
  stop-rising : (k : ℕ) → Is (straight_at z1 z2 k) (gain z1 * (64 - k) + (gain z1 + d) * k) (loss z1 * (64 - k) + loss z1 * k)
  stop-rising = stop_is (is_int z1) (higher_is z1 z2 up)

  rising-below : (k : ℕ) → k ≤ 64 → k * d < 64 * a → below (scaled 0 level) (straight_at z1 z2 k) ≡ true
  rising-below k h l =
      true-test (is_lt (stop-rising k) (level_is (higher_is z1 level to)) (omega (arith, stops k (gain z1) h, stops k (loss z1) h)))

  rising_not_below : (k : ℕ) → k ≤ 64 → 64 * a ≤ k * d → below (scaled 0 level) (straight_at z1 z2 k) ≡ false
  rising_not_below k h l =
      false-test (is_le (level_is (higher_is z1 level to)) (stop-rising k) (omega (arith, stops k (gain z1) h, stops k (loss z1) h)))

  pub rising-bracket : z1 <ℤ level → level ≤ℤ z2 → (64 * a - 1) / d ≡ bracket_of (straight_at z1 z2) (scaled 0 level)
  rising-bracket h l =
      let some : 0 < a = omega (arith, int, minus level z1) in
      let most : a ≤ d = omega (arith, int, minus level z1, minus z2 z1) in
      quotient-bracket (straight_at z1 z2) (scaled 0 level) true (omega arith) (omega arith)
      (λ k m i. rising-below k m (omega arith)) (λ k m i. rising_not_below k m (omega arith))

-- A side that falls by d, and a level a below its lower-numbered station.
module _ (z1 z2 level : ℤ) {a d : ℕ} (to : pos a ≡ z1 -ℤ level) (down : pos d ≡ z1 -ℤ z2) where
  stop-falling : (k : ℕ) → Is (straight_at z1 z2 k) (gain z1 * (64 - k) + gain z1 * k) (loss z1 * (64 - k) + (loss z1 + d) * k)
  stop-falling = stop_is (is_int z1) (lower_is z1 z2 down)

  falling_not_below : (k : ℕ) → k ≤ 64 → k * d ≤ 64 * a → below (scaled 0 level) (straight_at z1 z2 k) ≡ false
  falling_not_below k h l =
      false-test (is_le (level_is (lower_is z1 level to)) (stop-falling k) (omega (arith, stops k (gain z1) h, stops k (loss z1) h)))

  falling-below : (k : ℕ) → k ≤ 64 → 64 * a < k * d → below (scaled 0 level) (straight_at z1 z2 k) ≡ true
  falling-below k h l =
      true-test (is_lt (stop-falling k) (level_is (lower_is z1 level to)) (omega (arith, stops k (gain z1) h, stops k (loss z1) h)))

  pub falling-bracket : z2 <ℤ level → 64 * a / d ≡ bracket_of (straight_at z1 z2) (scaled 0 level)
  falling-bracket h =
      let most : a < d = omega (arith, int, minus z1 level, minus z1 z2) in
      quotient-bracket (straight_at z1 z2) (scaled 0 level) false (omega arith) (omega arith) falling_not_below falling-below
