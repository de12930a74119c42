-- A side whose bracket can be asked is in range and crossed; and what its door then leaves. Assumes nothing.
use mathlib.Core.Path.{◌≡◌}
use mathlib.Core.Bool.{Bool, true, false, cond, not, ◌&&◌, ◌||◌}
use Prim.Native.Nat.{ℕ}
use borrow.Author.Tests.{not-true, ltb-false}
use lib.IntN.{ℤ, pos, neg_ℤ}
use lib.Signed.{lt_z}
use Rattle.lists.proofs.TestLaws.{and_left, and_right, or_left, or_right}
use Rattle.whole.specs.Range.{Within}
use Rattle.whole.proofs.Bridge.{test-false}
use Rattle.whole.proofs.RangeLaws.{order-within}
use Rattle.survey.specs.Limits.{most_coordinate, beyond, most_height, most_slope}
use Rattle.curve.specs.declared.side.End.{End}
use Rattle.curve.specs.Below.{is_crossed}
use Rattle.curve.specs.Side.{InRange}
use Rattle.parts.specs.Parts.{flag}
use Rattle.parts.specs.Sides.{is_height, is_slope, are_slopes, can_end, can_draw}

-- A number that is neither too low nor too high.
between : (n : ℕ) (z : ℤ) → not (lt_z z (neg_ℤ (pos n)) || lt_z (pos n) z) ≡ true → Within n z
between n z h =
    let low = lt_z z (neg_ℤ (pos n)) in
    let high = lt_z (pos n) z in
    let f = not-true (low || high) h in
    order-within (test-false (or_left low high f)) (test-false (or_right low high f))

height-within : (z : ℤ) → is_height z ≡ true → Within most_height z
unfolding is_height
height-within z h = between most_height z h

slope-within : (p : ℤ) → is_slope p ≡ true → Within most_slope p
unfolding is_slope
slope-within p h = between most_slope p h

end-range : (e : End) → can_end e ≡ true → InRange e
unfolding can_end
end-range e h =
    let slopes = are_slopes e.p e.q e.r e.s e.t in
    let y = and_right (not (beyond e.x)) (not (beyond e.y) && (is_height e.z && slopes)) h in
    let z = and_right (not (beyond e.y)) (is_height e.z && slopes) y in
    let p = and_right (is_height e.z) slopes z in
    let q = and_right (is_slope e.p) (is_slope e.q && (is_slope e.r && (is_slope e.s && is_slope e.t))) p in
    let r = and_right (is_slope e.q) (is_slope e.r && (is_slope e.s && is_slope e.t)) q in
    let s = and_right (is_slope e.r) (is_slope e.s && is_slope e.t) r in
    record {
      x-range = ltb-false most_coordinate e.x (not-true (beyond e.x) (and_left (not (beyond e.x)) (not (beyond e.y) && (is_height e.z && slopes)) h));
      y-range = ltb-false most_coordinate e.y (not-true (beyond e.y) (and_left (not (beyond e.y)) (is_height e.z && slopes) y));
      z-range = height-within e.z (and_left (is_height e.z) slopes z);
      p-range = slope-within e.p (and_left (is_slope e.p) (is_slope e.q && (is_slope e.r && (is_slope e.s && is_slope e.t))) p);
      q-range = slope-within e.q (and_left (is_slope e.q) (is_slope e.r && (is_slope e.s && is_slope e.t)) q);
      r-range = slope-within e.r (and_left (is_slope e.r) (is_slope e.s && is_slope e.t) r);
      s-range = slope-within e.s (and_left (is_slope e.s) (is_slope e.t) s);
      t-range = slope-within e.t (and_right (is_slope e.s) (is_slope e.t) s);
    }

pub record Drawable (low high : End) (level : ℤ) : Type 0 where
  pub low_in : InRange low
  pub high_in : InRange high
  pub level_in : Within most_height level
  pub crossed : is_crossed level low.z high.z ≡ true

pub drawable : (low high : End) (level : ℤ) → can_draw low high level ≡ true → Drawable low high level
unfolding can_draw
drawable low high level h =
    let cross = is_crossed level low.z high.z in
    let b = and_right (can_end low) (can_end high && (is_height level && cross)) h in
    let l = and_right (can_end high) (is_height level && cross) b in
    record {
      low_in = end-range low (and_left (can_end low) (can_end high && (is_height level && cross)) h);
      high_in = end-range high (and_left (can_end high) (is_height level && cross) b);
      level_in = height-within level (and_left (is_height level) cross l);
      crossed = and_right (is_height level) cross l;
    }

-- What a door with three references says, asked and not asked.
pub asked-three :
    {b : Bool} {k k₁ x x₁ y y₁ : ℕ} (k₀ x₀ y₀ : ℕ) → b ≡ true → k ≡ k₁ → x ≡ x₁ → y ≡ y₁
    → (1 ≡ flag b) × (k ≡ cond b k₁ k₀) × (x ≡ cond b x₁ x₀) × (y ≡ cond b y₁ y₀)
asked-three k₀ x₀ y₀ e f g h = (rw e, rw e f, rw e g, rw e h)

pub not_asked-three :
    {b : Bool} (k₁ x₁ y₁ k₀ x₀ y₀ : ℕ) → b ≡ false
    → (0 ≡ flag b) × (k₀ ≡ cond b k₁ k₀) × (x₀ ≡ cond b x₁ x₀) × (y₀ ≡ cond b y₁ y₀)
not_asked-three k₁ x₁ y₁ k₀ x₀ y₀ e = (rw e, rw e, rw e, rw e)
