-- Either style's curve starts at its lower-numbered station and ends at its higher. Assumes nothing.
--
-- At stop 0 the straight curve is 64 · z1, and the weights of the smooth one are 2 ^ 30, 0, .., 0; at stop 64 the other way round. So
-- each is its scale times the station's height, and a scale keeps what is below.
use mathlib.Core.Path.{◌≡◌, refl, ap, ◌∙◌}
use mathlib.Core.Bool.{Bool, true, false, cond, xor}
use mathlib.Core.List.{List, [], ◌∷◌}
use Prim.Native.Nat.{ℕ, ◌+◌, ◌*◌, ◌^◌, ◌≤◌, ◌<◌}
use native.Mathlib.Nat.{mul-le-mul_left, mul-lt-mul_of_pos_left}
use native.Mathlib.Omega.{arith}
use lib.IntN.{ℤ, pos, ◌*ℤ◌}
use lib.ListN.{get_or}
use lib.Signed.{◌≤ℤ◌, ◌<ℤ◌}
use Rattle.whole.proofs.Bridge.{gain, loss, is_nat, is_int, is_mul, is_lt, is_le, int, test-true, test-false, true-test, false-test}
use Rattle.whole.proofs.Polynomial.{var, lit, ◌:+◌, ◌:*◌}
use Rattle.whole.proofs.Solver.{identity}
use Rattle.curve.specs.declared.side.End.{End}
use Rattle.curve.specs.Below.{below, is_crossed}
use Rattle.curve.specs.Weights.{weight_of}
use Rattle.curve.specs.Bracket.{bracket_of}
use Rattle.curve.specs.Curve.{straight_at, control_heights, weighed, smooth_at, is_straight, curve_of, scale_of, scaled}

-- A scale keeps what is below.
pub below-scaled : (n : ℕ) → 0 < n → (level z : ℤ) → below (pos n *ℤ level) (pos n *ℤ z) ≡ below level z
below-scaled n h level z = go (below level z) refl
  where
    go : (b : Bool) → below level z ≡ b → below (pos n *ℤ level) (pos n *ℤ z) ≡ b
    go true e =
        let o : z <ℤ level = test-true e in
        let l : gain z + loss level < gain level + loss z = omega (arith, int) in
        true-test (is_lt (is_mul (is_nat n) (is_int z)) (is_mul (is_nat n) (is_int level)) (omega (arith, mul-lt-mul_of_pos_left l h)))
    go false e =
        let o : level ≤ℤ z = test-false e in
        let l : gain level + loss z ≤ gain z + loss level = omega (arith, int) in
        false-test (is_le (is_mul (is_nat n) (is_int level)) (is_mul (is_nat n) (is_int z)) (omega (arith, mul-le-mul_left n l)))

-- The straight curve at its ends.
straight_first : (z1 z2 : ℤ) → straight_at z1 z2 0 ≡ pos 64 *ℤ z1
straight_first z1 z2 = identity (z1 ∷ z2 ∷ []) (var 0 :* lit (pos 64) :+ var 1 :* lit (pos 0)) (lit (pos 64) :* var 0) refl

straight_last : (z1 z2 : ℤ) → straight_at z1 z2 64 ≡ pos 64 *ℤ z2
straight_last z1 z2 = identity (z1 ∷ z2 ∷ []) (var 0 :* lit (pos 0) :+ var 1 :* lit (pos 64)) (lit (pos 64) :* var 1) refl

-- The smooth curve at its ends, whatever the control heights between.
abbrev heights : List ℤ → List ℤ
heights h = get_or h 0 (pos 0) ∷ get_or h 1 (pos 0) ∷ get_or h 2 (pos 0) ∷ get_or h 3 (pos 0) ∷ get_or h 4 (pos 0) ∷ get_or h 5 (pos 0) ∷ []

smooth_first : (h : List ℤ) → smooth_at h 0 ≡ pos (2 ^ 30) *ℤ get_or h 0 (pos 0)
unfolding smooth_at weighed weight_of
smooth_first h =
    identity (heights h)
    (lit (pos 1073741824) :* var 0 :+ lit (pos 0) :* var 1 :+ lit (pos 0) :* var 2 :+ lit (pos 0) :* var 3 :+ lit (pos 0) :* var 4 :+ lit (pos 0) :* var 5)
    (lit (pos 1073741824) :* var 0) refl

smooth_last : (h : List ℤ) → smooth_at h 64 ≡ pos (2 ^ 30) *ℤ get_or h 5 (pos 0)
unfolding smooth_at weighed weight_of
smooth_last h =
    identity (heights h)
    (lit (pos 0) :* var 0 :+ lit (pos 0) :* var 1 :+ lit (pos 0) :* var 2 :+ lit (pos 0) :* var 3 :+ lit (pos 0) :* var 4 :+ lit (pos 1073741824) :* var 5)
    (lit (pos 1073741824) :* var 5) refl

scale_is : (z : ℤ) → pos (2 ^ 30) *ℤ (pos 5120 *ℤ z) ≡ pos (5120 * 2 ^ 30) *ℤ z
scale_is z = identity (z ∷ []) (lit (pos 1073741824) :* (lit (pos 5120) :* var 0)) (lit (pos 5497558138880) :* var 0) refl

-- The curve at stop 0 is below exactly where the lower-numbered station is, and at stop 64 where the higher is.
module _ (style : ℕ) (low high : End) where
  curve_first : curve_of style low high 0 ≡ scaled style low.z
  unfolding curve_of control_heights
  curve_first = go (is_straight style)
    where
      go : (b : Bool) → cond b (straight_at low.z high.z) (smooth_at (control_heights low high)) 0 ≡ pos (cond b 64 (5120 * 2 ^ 30)) *ℤ low.z
      go true = straight_first low.z high.z
      go false = smooth_first (control_heights low high) ∙ scale_is low.z

  curve_last : curve_of style low high 64 ≡ scaled style high.z
  unfolding curve_of control_heights
  curve_last = go (is_straight style)
    where
      go : (b : Bool) → cond b (straight_at low.z high.z) (smooth_at (control_heights low high)) 64 ≡ pos (cond b 64 (5120 * 2 ^ 30)) *ℤ high.z
      go true = straight_last low.z high.z
      go false = smooth_last (control_heights low high) ∙ scale_is high.z

  scale-positive : 0 < scale_of style
  scale-positive = go (is_straight style)
    where
      go : (b : Bool) → 0 < cond b 64 (5120 * 2 ^ 30)
      go true = omega arith
      go false = omega arith

  pub stop_first : (level : ℤ) → below (scaled style level) (curve_of style low high 0) ≡ below level low.z
  stop_first level = ap (below (scaled style level)) curve_first ∙ below-scaled (scale_of style) scale-positive level low.z

  pub stop_last : (level : ℤ) → below (scaled style level) (curve_of style low high 64) ≡ below level high.z
  stop_last level = ap (below (scaled style level)) curve_last ∙ below-scaled (scale_of style) scale-positive level high.z

  -- So the curve's ends differ exactly where the stations do.
  pub ends-crossed :
      (level : ℤ) → xor (below (scaled style level) (curve_of style low high 0)) (below (scaled style level) (curve_of style low high 64))
      ≡ is_crossed level low.z high.z
  ends-crossed level = λ i. xor (stop_first level i) (stop_last level i)

-- A scale keeps the order of levels.
pub scaled-le : (style : ℕ) {a b : ℤ} → a ≤ℤ b → scaled style a ≤ℤ scaled style b
scaled-le style {a} {b} h =
    let l : gain a + loss b ≤ gain b + loss a = omega (arith, int) in
    is_le (is_mul (is_nat (scale_of style)) (is_int a)) (is_mul (is_nat (scale_of style)) (is_int b)) (omega (arith, mul-le-mul_left (scale_of style) l))

-- The bracket by style.
module _ (low high : End) (level : ℤ) (style : ℕ) where
  pub straight-bracket :
      is_straight style ≡ true
      → bracket_of (straight_at low.z high.z) (scaled 0 level) ≡ bracket_of (curve_of style low high) (scaled style level)
  unfolding curve_of
  straight-bracket e = rw e

  pub smooth-bracket :
      is_straight style ≡ false
      → bracket_of (smooth_at (control_heights low high)) (scaled 1 level) ≡ bracket_of (curve_of style low high) (scaled style level)
  unfolding curve_of
  smooth-bracket e = rw e
