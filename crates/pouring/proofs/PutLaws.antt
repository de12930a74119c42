-- Up to eight digits of a number, and four of them as one number. Assumes nothing.
use mathlib.Core.Path.{◌≡◌, sym, ap, ◌∙◌}
use mathlib.Core.List.{List, [], ◌∷◌, ◌++◌, append_assoc}
use Prim.Native.Nat.{ℕ, ◌+◌, ◌-◌, ◌*◌, ◌/◌, ◌%◌, ◌≤◌, ◌<◌}
use native.Mathlib.Omega.{arith}
use native.Mathlib.Nat.{div-add-mod}
use Rattle.shapes.specs.Bytes.{digits}
use Rattle.shapes.proofs.BytesLaws.{digits_one}
use Rattle.shapes.proofs.DigitLaws.{digits_push}
use Rattle.pouring.specs.Poured.{four}

-- Four digits are the bytes of one number in base 256, by products in place of quotients.
abbrev packed : ℕ → ℕ
packed n = 808464432 + 16777216 * n - 167706624 * (6554 * n / 65536) - 655104 * (5243 * n / 524288) - 2559 * (8389 * n / 8388608)

pub packed-bytes : (n : ℕ) → n < 10000 → (packed n % 256 ≡ 48 + n / 1000) × (packed n / 256 % 256 ≡ 48 + n / 100 % 10)
    × (packed n / 256 / 256 % 256 ≡ 48 + n / 10 % 10) × (packed n / 256 / 256 / 256 ≡ 48 + n % 10)
packed-bytes n h =
    let a : 6554 * n / 65536 ≡ n / 10 = omega arith in
    let b : 5243 * n / 524288 ≡ n / 10 / 10 = omega arith in
    let c : 8389 * n / 8388608 ≡ n / 10 / 10 / 10 = omega arith in
    let d : n / 100 ≡ n / 10 / 10 = omega arith in
    let e : n / 1000 ≡ n / 10 / 10 / 10 = omega arith in
    rw (a, b, c, d, e) (bytes n (n / 10) (n / 10 / 10) (n / 10 / 10 / 10) (n % 10) (n / 10 % 10) (n / 10 / 10 % 10) (omega arith) (omega arith) (omega arith) (omega arith) (omega arith) (omega arith))
  where
    bytes : (n p q r x y z : ℕ) → n ≡ 10 * p + x → p ≡ 10 * q + y → q ≡ 10 * r + z → y < 10 → z < 10 → r < 10
        → let v = 808464432 + 16777216 * n - 167706624 * p - 655104 * q - 2559 * r in
        (v % 256 ≡ 48 + r) × (v / 256 % 256 ≡ 48 + z) × (v / 256 / 256 % 256 ≡ 48 + y) × (v / 256 / 256 / 256 ≡ 48 + x)
    bytes n p q r x y z h i j k l m =
        let u = 48 + y + 256 * (48 + x) in
        let w = 48 + z + 256 * u in
        let v : 808464432 + 16777216 * n - 167706624 * p - 655104 * q - 2559 * r ≡ 48 + r + 256 * w = omega arith in
        let e : (48 + r + 256 * w) / 256 ≡ w = omega arith in
        let f : w / 256 ≡ u = omega arith in
        rw (v, e, f) (omega arith, omega arith, omega arith, omega arith)

-- A digit more, and the last one of a number.
digits_on : (q r : ℕ) → 1 ≤ q → q < 1000000000000000000 → r < 10 → digits (10 * q + r) ≡ digits q ++ ((48 + r) ∷ [])
digits_on q r h i j = digits_push 10 48 (omega arith) 17 q r h i j

digits_last : (n : ℕ) → 10 ≤ n → n < 1000000000000000000 → digits n ≡ digits (n / 10) ++ ((48 + n % 10) ∷ [])
digits_last n h l = ap digits (sym (div-add-mod n 10)) ∙ digits_on (n / 10) (n % 10) (omega arith) (omega arith) (omega arith)

pub digits-two : (n : ℕ) → 10 ≤ n → n < 100 → digits n ≡ (48 + n / 10) ∷ (48 + n % 10) ∷ []
digits-two n h l = digits_last n h (omega arith) ∙ ap (λ (l : List ℕ). l ++ ((48 + n % 10) ∷ [])) (digits_one 10 48 19 (n / 10) (omega arith) (omega arith))

pub digits-three : (n : ℕ) → 100 ≤ n → n < 1000 → digits n ≡ (48 + n / 100) ∷ (48 + n / 10 % 10) ∷ (48 + n % 10) ∷ []
digits-three n h l =
    let e : n / 10 / 10 ≡ n / 100 = omega arith in
    digits_last n (omega arith) (omega arith) ∙ rw (digits-two (n / 10) (omega arith) (omega arith), e)

pub digits-four : (n : ℕ) → 1000 ≤ n → n < 10000 → digits n ≡ four n
digits-four n h l =
    let e : n / 10 / 100 ≡ n / 1000 = omega arith in
    let f : n / 10 / 10 ≡ n / 100 = omega arith in
    digits_last n (omega arith) (omega arith) ∙ rw (digits-three (n / 10) (omega arith) (omega arith), e, f)

-- The four lowest, and those above them.
pub digits_above : (n : ℕ) → 10000 ≤ n → n < 100000000 → digits n ≡ digits (n / 10000) ++ four (n % 10000)
digits_above n h l =
    let m = n % 10000 in
    ap digits parts ∙ on (n / 10000) (m / 1000) (m / 100 % 10) (m / 10 % 10) (m % 10) (omega arith) (omega arith) (omega arith) (omega arith) (omega arith) (omega arith)
  where
    parts : n ≡ 10 * (10 * (10 * (10 * (n / 10000) + n % 10000 / 1000) + n % 10000 / 100 % 10) + n % 10000 / 10 % 10) + n % 10000 % 10
    parts = omega arith

    on : (k a b c d : ℕ) → 1 ≤ k → k < 10000 → a < 10 → b < 10 → c < 10 → d < 10
        → digits (10 * (10 * (10 * (10 * k + a) + b) + c) + d) ≡ digits k ++ ((48 + a) ∷ (48 + b) ∷ (48 + c) ∷ (48 + d) ∷ [])
    on k a b c d h i p q r s =
        rw (
          digits_on (10 * (10 * (10 * k + a) + b) + c) d (omega arith) (omega arith) s,
          digits_on (10 * (10 * k + a) + b) c (omega arith) (omega arith) r,
          digits_on (10 * k + a) b (omega arith) (omega arith) q,
          digits_on k a h (omega arith) p,
        )
        (simp append_assoc)
