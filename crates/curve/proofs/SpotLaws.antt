-- A spot is the middle of its bracket's piece of the side; a crossed side carries one spot and no other, an uncrossed side none; and
-- the spots of two levels stand in order of height. Assumes nothing.
--
-- The spot's coordinates are document 01's, with dx multiplied out. In 128ths the side is 128 · dx long, so that dx is 1/128 of it.
-- That there is one spot is what BracketLaws says of the bracket of either style's curve, whose ends are the stations by CurveLaws.
-- Where the side rises, the bracket of a higher level comes no sooner, and where it falls, no later; each bracket further is two
-- 128ths of the side.
use mathlib.Core.Path.{◌≡◌, refl, sym, ap, ◌∙◌, subst, subst₂}
use mathlib.Core.Bool.{Bool, true, false, not, true≢false}
use Prim.Native.Nat.{ℕ, ◌+◌, ◌*◌, ◌-◌, ◌≤◌, ◌<◌}
use native.Mathlib.Nat.{mul-le-mul_left, mul-le-mul_right}
use native.Mathlib.Omega.{arith}
use lib.IntN.{ℤ, pos, ◌+ℤ◌, ◌-ℤ◌, ◌*ℤ◌}
use lib.Signed.{◌≤ℤ◌, ◌<ℤ◌}
use Rattle.whole.proofs.Bridge.{is_int, is_nat, is_add, is_mul, is_eq, int, minus, test-true, test-false}
use Rattle.survey.specs.Limits.{most_coordinate}
use Rattle.curve.specs.declared.side.End.{End}
use Rattle.curve.specs.declared.spot.Spot.{Spot}
use Rattle.curve.specs.Below.{below, is_crossed}
use Rattle.curve.specs.Curve.{curve_of, scaled}
use Rattle.curve.specs.Bracket.{bracket_of, Bracket}
use Rattle.curve.specs.Spot.{spot_at, spot_of, stop_at, Drawn, Onward}
use Rattle.curve.proofs.CrossLaws.{xor-true}
use Rattle.curve.proofs.BracketLaws.{bracket-exists, bracket-unique, bracket-rising, bracket-falling}
use Rattle.curve.proofs.CurveLaws.{stop_first, ends-crossed, scaled-le}

-- 2k + 1 of the 128 parts.
pub odd-le : (x k : ℕ) → k < 64 → (2 * k + 1) * x ≤ 127 * x
odd-le x k h = mul-le-mul_right x (odd h)
  where
    odd : k < 64 → 2 * k + 1 ≤ 127
    odd h = omega arith

module _ (x1 x2 k : ℕ) (within : k < 64) where
  -- '128·x1 + (2k+1)·dx'. 'It is exact.'
  pub spot-exact : pos (spot_at x1 x2 k) ≡ pos 128 *ℤ pos x1 +ℤ pos (2 * k + 1) *ℤ (pos x2 -ℤ pos x1)
  unfolding spot_at
  spot-exact =
      is_eq (is_nat (128 * x1 + (2 * k + 1) * x2 - (2 * k + 1) * x1))
      (is_add (is_mul (is_nat 128) (is_nat x1)) (is_mul (is_nat (2 * k + 1)) (minus (pos x2) (pos x1))))
      (omega (arith, odd-le x1 k within))

  -- A spot lies as the coordinates do, in 128ths: no further than 1,048,448.
  pub spot-le : x1 ≤ most_coordinate → x2 ≤ most_coordinate → spot_at x1 x2 k ≤ 128 * most_coordinate
  unfolding spot_at
  spot-le h l =
      let rest = 127 - 2 * k in
      let all : (2 * k + 1) + rest ≡ 128 = omega arith in
      omega (arith, odd-le x1 k within, mul-le-mul_left (2 * k + 1) l, mul-le-mul_left rest h, ap (λ (m : ℕ). m * x1) all)

  -- 'it is 1/128 of the side from either end of that piece'
  pub spot-middle : (pos (spot_at x1 x2 k) ≡ stop_at x1 x2 k +ℤ (pos x2 -ℤ pos x1)) × (stop_at x1 x2 (k + 1) ≡ pos (spot_at x1 x2 k) +ℤ (pos x2 -ℤ pos x1))
  spot-middle =
      let d = pos x2 -ℤ pos x1 in
      let start = is_mul (is_nat 128) (is_nat x1) in (
        spot-exact
            ∙ is_eq (is_add start (is_mul (is_nat (2 * k + 1)) (is_int d))) (is_add (is_add start (is_mul (is_nat (2 * k)) (is_int d))) (is_int d)) (omega arith),
        is_eq (is_add start (is_mul (is_nat (2 * (k + 1))) (is_int d))) (is_add (is_add start (is_mul (is_nat (2 * k + 1)) (is_int d))) (is_int d)) (omega arith)
            ∙ ap (λ (z : ℤ). z +ℤ d) (sym spot-exact),
      )

-- m brackets further is 2m 128ths of the side further.
spot-further : (x1 x2 j m : ℕ) → j + m < 64 → pos (spot_at x1 x2 (j + m)) ≡ pos (spot_at x1 x2 j) +ℤ pos (2 * m) *ℤ (pos x2 -ℤ pos x1)
spot-further x1 x2 j m h =
    let d = pos x2 -ℤ pos x1 in
    let start = is_mul (is_nat 128) (is_nat x1) in
    spot-exact x1 x2 (j + m) h
    ∙ is_eq (is_add start (is_mul (is_nat (2 * (j + m) + 1)) (is_int d)))
    (is_add (is_add start (is_mul (is_nat (2 * j + 1)) (is_int d))) (is_mul (is_nat (2 * m)) (is_int d))) (omega arith)
    ∙ ap (λ (z : ℤ). z +ℤ pos (2 * m) *ℤ d) (sym (spot-exact x1 x2 j (omega arith)))

spots-onward : (low high : End) {j k : ℕ} → j ≤ k → k < 64 → Onward low high (spot_of low high j) (spot_of low high k)
spots-onward low high {j} {k} h l =
    let e : j + (k - j) ≡ k = omega arith in
    subst (λ (n : ℕ). Onward low high (spot_of low high j) (spot_of low high n)) e
    (record {
      n = 2 * (k - j);
      x-onward = spot-further low.x high.x j (k - j) (omega arith);
      y-onward = spot-further low.y high.y j (k - j) (omega arith);
    })

-- Of a crossed side that rises, the start is below the level; of one that falls, it is not.
start-below : (level : ℤ) {z1 z2 : ℤ} → z1 <ℤ z2 → is_crossed level z1 z2 ≡ true → below level z1 ≡ true
start-below level {z1} {z2} h c = go (below level z1) refl (xor-true (below level z1) (below level z2) c)
  where
    go : (b : Bool) → below level z1 ≡ b → below level z2 ≡ not b → below level z1 ≡ true
    go true e f = e
    go false e f =
        let l : level ≤ℤ z1 = test-false e in
        let m : z2 <ℤ level = test-true f in
        absurd (omega (arith, int))

start-above : (level : ℤ) {z1 z2 : ℤ} → z2 <ℤ z1 → is_crossed level z1 z2 ≡ true → below level z1 ≡ false
start-above level {z1} {z2} h c = go (below level z1) refl (xor-true (below level z1) (below level z2) c)
  where
    go : (b : Bool) → below level z1 ≡ b → below level z2 ≡ not b → below level z1 ≡ false
    go false e f = e
    go true e f =
        let l : z1 <ℤ level = test-true e in
        let m : level ≤ℤ z2 = test-false f in
        absurd (omega (arith, int))

module _ (style : ℕ) (low high : End) where
  -- A crossed side has a bracket, in either style.
  pub side-bracket :
      (level : ℤ) → is_crossed level low.z high.z ≡ true
      → Bracket (curve_of style low high) (scaled style level) (bracket_of (curve_of style low high) (scaled style level))
  side-bracket level h = bracket-exists (curve_of style low high) (scaled style level) (ends-crossed style low high level ∙ h)

  -- 'exactly one drawn spot if one end is below the level and the other isn't'
  pub drawn-exists :
      (level : ℤ) → is_crossed level low.z high.z ≡ true
      → Drawn style low high level (spot_of low high (bracket_of (curve_of style low high) (scaled style level)))
  drawn-exists level h =
      record {
        crossed = h;
        k = bracket_of (curve_of style low high) (scaled style level);
        bracket = side-bracket level h;
        at = refl;
      }

  pub drawn-unique : {level : ℤ} {s t : Spot} → Drawn style low high level s → Drawn style low high level t → s ≡ t
  drawn-unique {level} d e =
      d.at ∙ ap (spot_of low high) (bracket-unique (curve_of style low high) (scaled style level) d.bracket e.bracket) ∙ sym e.at

  -- 'otherwise none', whatever the curve does between
  pub drawn_none : {level : ℤ} {s : Spot} → is_crossed level low.z high.z ≡ false → Drawn style low high level s → ⊥
  drawn_none h d = true≢false (sym d.crossed ∙ h)

  module _ {a b : ℤ} {s t : Spot} (order : a ≤ℤ b) (at_a : Drawn style low high a s) (at_b : Drawn style low high b t) where
    spots-rising : low.z <ℤ high.z → Onward low high s t
    spots-rising h =
        subst₂ (Onward low high) (sym at_a.at) (sym at_b.at)
        (spots-onward low high
        (bracket-rising (curve_of style low high) (scaled-le style order) at_a.bracket at_b.bracket (stop_first style low high a ∙ start-below a h at_a.crossed))
        at_b.bracket.within)

    spots-falling : high.z <ℤ low.z → Onward low high t s
    spots-falling h =
        subst₂ (Onward low high) (sym at_b.at) (sym at_a.at)
        (spots-onward low high
        (bracket-falling (curve_of style low high) (scaled-le style order) at_a.bracket at_b.bracket (stop_first style low high b ∙ start-above b h at_b.crossed))
        at_a.bracket.within)

    -- 'Along a side, spots of two levels in one style stand in order of height; they may coincide': the higher level's spot is as
    -- near the higher end, or nearer.
    pub spots-ordered : (low.z <ℤ high.z → Onward low high s t) × (high.z <ℤ low.z → Onward low high t s)
    spots-ordered = (spots-rising, spots-falling)
