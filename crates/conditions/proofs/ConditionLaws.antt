-- The conditions, by the tests that the code makes. Assumes nothing.
use mathlib.Core.Path.{◌≡◌, refl, ap, ◌∙◌}
use mathlib.Core.Bool.{Bool, true, false, true≢false, not, ◌&&◌, ◌||◌, and-false}
use mathlib.Core.List.{List}
use Prim.Native.Nat.{ℕ, ◌≤◌, ◌<◌}
use native.Mathlib.Omega.{arith}
use borrow.Author.Tests.{lt-ltb, le-ltb, leb-true, leb-false, eq-eqb, ne_eqb}
use lib.Dec.{ltb}
use lib.IntN.{ℤ, pos, negsuc}
use lib.Signed.{lt_z, le_z}
use Rattle.lists.specs.Lowest.{some}
use Rattle.whole.specs.Turn.{turn}
use Rattle.survey.specs.Survey.{Survey, count, place_of}
use Rattle.sweep.specs.Page.{is_before, every}
use Rattle.sweep.specs.Sweep.{Three}
use Rattle.hull.specs.Hull.{is_right, is_between, is_hull_side}
use Rattle.held.specs.Held.{is_held}
use Rattle.woven.specs.Accepted.{is_corner, is_inner, is_unused}

-- The coordinates' range is far within that of `turn_at`.
pub near : {x : ℕ} → x ≤ 8191 → x ≤ 1073741823
near h = omega arith

-- Whether a number is above 0, or below it, where it is asked whether it is at most 0.
pub most_zero : (z : ℤ) → le_z z (pos 0) ≡ true → lt_z (pos 0) z ≡ false
most_zero (pos n) e = le-ltb 0 n (leb-true n 0 e)
most_zero (negsuc n) e = refl

pub above_zero : (z : ℤ) → le_z z (pos 0) ≡ false → (lt_z (pos 0) z ≡ true) × (lt_z z (pos 0) ≡ false)
above_zero (pos n) e = (lt-ltb 0 n (leb-false n 0 e), le-ltb n 0 (omega (arith, leb-false n 0 e)))
above_zero (negsuc n) e = absurd (true≢false e)

module _ (s : Survey) where
  pub inner_is : (t : Three ℕ) (k : ℕ) {held corner : Bool} → k < count s → is_held (place_of s) (place_of s k) t ≡ held → is_corner k t ≡ corner
      → is_inner s t k ≡ (held && not corner)
  unfolding is_inner
  inner_is t k l e f = λ i. lt-ltb k (count s) l i && (e i && not (f i))

  -- A station beside a side, by the turn there.
  module _ (i j w : ℕ) where
    abbrev turned : ℤ
    turned = turn (place_of s i) (place_of s j) (place_of s w)

    pub beside-right : lt_z turned (pos 0) ≡ true → (is_right s i j w || is_between s i j w) ≡ true
    unfolding is_right
    beside-right e = λ r. e r || is_between s i j w

    abbrev amid : Bool
    amid =
        (is_before (place_of s i) (place_of s w) && is_before (place_of s w) (place_of s j))
        || (is_before (place_of s j) (place_of s w) && is_before (place_of s w) (place_of s i))

    pub beside-left : lt_z turned (pos 0) ≡ false → lt_z (pos 0) turned ≡ true → (is_right s i j w || is_between s i j w) ≡ false
    unfolding is_right is_between
    beside-left e f = λ r. e r || (not (e r || f r) && amid)

    pub beside-line : lt_z turned (pos 0) ≡ false → lt_z (pos 0) turned ≡ false → (is_right s i j w || is_between s i j w) ≡ amid
    unfolding is_right is_between
    beside-line e f = λ r. e r || (not (e r || f r) && amid)

  module _ (i j : ℕ) where
    abbrev beside : Bool
    beside = some (λ w. is_right s i j w || is_between s i j w) (count s)

    pub hull_not : i ≡ j → is_hull_side s i j ≡ false
    unfolding is_hull_side
    hull_not e =
        ap (λ b. (ltb i (count s) && ltb j (count s)) && (not b && not beside)) (eq-eqb i j e) ∙ and-false (ltb i (count s) && ltb j (count s))

    pub hull_is : i < count s → j < count s → (i ≡ j → ⊥) → is_hull_side s i j ≡ not beside
    unfolding is_hull_side
    hull_is li lj d = λ r. (lt-ltb i (count s) li r && lt-ltb j (count s) lj r) && (not (ne_eqb i j d r) && not beside)

  -- A station in use, by whether the triangles leave it out.
  pub unused_is : (ts : List (Three ℕ)) (k : ℕ) → k < count s → is_unused s ts k ≡ every (λ t. not (is_corner k t)) ts
  unfolding is_unused
  unused_is ts k l = λ r. lt-ltb k (count s) l r && every (λ t. not (is_corner k t)) ts
