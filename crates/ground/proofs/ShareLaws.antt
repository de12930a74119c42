-- Where the drawn spot of a level stands on a crossed side, counted in 128ths of the side from either end; and that the spots of two
-- levels stand in order. Assumes nothing.
--
-- From the side's lower-numbered station a spot is 2k + 1 parts away for the bracket k, from the other one the rest of 128. Along a side
-- from a station below both levels to one below neither, the higher level's spot is as far, or farther: the order of the brackets.
use mathlib.Core.Path.{◌≡◌, sym, ap, ◌∙◌}
use mathlib.Core.Bool.{Bool, true, false, cond, not}
use mathlib.Core.List.{List}
use Prim.Native.Nat.{ℕ, ◌+◌, ◌*◌, ◌-◌, ◌≤◌, ◌<◌}
use native.Mathlib.Omega.{arith}
use native.Mathlib.Decide.{dec_lt}
use borrow.Author.Tests.{lt-ltb, le-ltb}
use lib.Dec.{ltb}
use lib.IntN.{ℤ}
use lib.Signed.{◌≤ℤ◌, ◌<ℤ◌}
use Rattle.whole.proofs.Bridge.{int, test-true, test-false, true-test, false-test}
use Rattle.survey.specs.Survey.{Survey, count, place_of, height_of}
use Rattle.curve.specs.Below.{below, is_crossed}
use Rattle.curve.specs.Bracket.{bracket_of, Bracket}
use Rattle.curve.specs.Curve.{curve_of, scaled}
use Rattle.curve.proofs.CrossLaws.{true-xor}
use Rattle.curve.proofs.BracketLaws.{bracket-rising, bracket-falling}
use Rattle.curve.proofs.CurveLaws.{stop_first, scaled-le}
use Rattle.curve.proofs.SpotLaws.{side-bracket, spot-exact}
use Rattle.trace.specs.Side.{◌⟶◌, side_of}
use Rattle.trace.proofs.StepLaws.{not_self}
use Rattle.spots.specs.Lines.{is_below, end_at, spot_between, spot_on}
use Rattle.ground.specs.Segments.{standing, spot_place}
use Rattle.ground.proofs.AlongLaws.{Along, along_back}

-- The bracket of the side from station i to station j, and how many 128ths of the side its spot is from i.
unfoldable pub bracket_on : Survey → List ℤ → ℕ → ℤ → ℕ → ℕ → ℕ
bracket_on s slopes style level i j = bracket_of (curve_of style (end_at s slopes i) (end_at s slopes j)) (scaled style level)

unfoldable pub share_of : Survey → List ℤ → ℕ → ℤ → ℕ → ℕ → ℕ
share_of s slopes style level i j = cond (ltb i j) (2 * bracket_on s slopes style level i j + 1) (127 - 2 * bracket_on s slopes style level j i)

-- The spot on the side between stations i and j, by its shares of the side.
pub record Shared (s : Survey) (slopes : List ℤ) (style : ℕ) (level : ℤ) (i j : ℕ) : Type 0 where
  pub some_from : 0 < share_of s slopes style level i j
  pub some_to : 0 < share_of s slopes style level j i
  pub all : share_of s slopes style level i j + share_of s slopes style level j i ≡ 128
  pub forth : Along (place_of s i) (place_of s j) (share_of s slopes style level i j) (spot_place s slopes style level (i ⟶ j))
  pub back : Along (place_of s j) (place_of s i) (share_of s slopes style level j i) (spot_place s slopes style level (i ⟶ j))

pub below_is : (s : Survey) (level : ℤ) {i : ℕ} → i < count s → is_below s level i ≡ below level (height_of s i)
below_is s level {i} h = rw (lt-ltb i (count s) h)

-- A test that is the negation of another is what the other is the negation of.
pub not_back : (f : Bool) {g : Bool} → g ≡ not f → f ≡ not g
not_back true e = ap not (sym e)
not_back false e = ap not (sym e)

module _ (s : Survey) (slopes : List ℤ) (style : ℕ) (level : ℤ) where
  -- Stations on the two sides of the level are the ends of a crossed side.
  pub crossed_is : {i j : ℕ} → i < count s → j < count s → is_below s level j ≡ not (is_below s level i) → is_crossed level (height_of s i) (height_of s j) ≡ true
  crossed_is {i} {j} hi hj e =
      true-xor (below level (height_of s i)) (below level (height_of s j)) (sym (below_is s level hj) ∙ e ∙ ap not (below_is s level hi))

  bracket-on : {i j : ℕ} → i < count s → j < count s → is_below s level j ≡ not (is_below s level i)
      → Bracket (curve_of style (end_at s slopes i) (end_at s slopes j)) (scaled style level) (bracket_on s slopes style level i j)
  unfolding bracket_on
  bracket-on {i} {j} hi hj e = side-bracket style (end_at s slopes i) (end_at s slopes j) level (crossed_is hi hj e)

  -- 'A side runs from its lower-numbered station to its higher', whichever way it is named.
  spot_up : {i j : ℕ} → i < j → spot_place s slopes style level (i ⟶ j) ≡ standing (spot_between s slopes style level i j)
  unfolding spot_place side_of spot_on
  spot_up {i} {j} h = rw (lt-ltb i j h)

  spot-down : {i j : ℕ} → i < j → spot_place s slopes style level (j ⟶ i) ≡ standing (spot_between s slopes style level i j)
  unfolding spot_place side_of spot_on
  spot-down {i} {j} h = rw (le-ltb j i (omega arith))

  share_up : {i j : ℕ} → i < j → share_of s slopes style level i j ≡ 2 * bracket_on s slopes style level i j + 1
  unfolding share_of
  share_up {i} {j} h = rw (lt-ltb i j h)

  share-down : {i j : ℕ} → i < j → share_of s slopes style level j i ≡ 127 - 2 * bracket_on s slopes style level i j
  unfolding share_of
  share-down {i} {j} h = rw (le-ltb j i (omega arith))

  -- The spot of a crossed side from its lower-numbered station.
  along_up : {i j : ℕ} → i < count s → j < count s → is_below s level j ≡ not (is_below s level i)
      → Along (place_of s i) (place_of s j) (2 * bracket_on s slopes style level i j + 1) (standing (spot_between s slopes style level i j))
  unfolding bracket_on
  along_up {i} {j} hi hj e =
      let low = end_at s slopes i in
      let high = end_at s slopes j in
      let k = bracket_of (curve_of style low high) (scaled style level) in
      let within = (side-bracket style low high level (crossed_is hi hj e)).within in
      record { x-along = spot-exact low.x high.x k within; y-along = spot-exact low.y high.y k within }

  pub shared : {i j : ℕ} → i < count s → j < count s → is_below s level j ≡ not (is_below s level i) → Shared s slopes style level i j
  shared {i} {j} hi hj e = go (dec_lt i j) (dec_lt j i)
    where
      back : is_below s level i ≡ not (is_below s level j)
      back = not_back (is_below s level i) e

      go : Dec (i < j) → Dec (j < i) → Shared s slopes style level i j
      go (yes h) _ =
          let within = (bracket-on hi hj e).within in
          let all : share_of s slopes style level i j + share_of s slopes style level j i ≡ 128 = omega (arith, share_up h, share-down h) in
          let forth : Along (place_of s i) (place_of s j) (share_of s slopes style level i j) (spot_place s slopes style level (i ⟶ j)) =
          rw (share_up h, spot_up h) (along_up hi hj e) in
          record {
            some_from = omega (arith, share_up h);
            some_to = omega (arith, share-down h);
            all = all;
            forth = forth;
            back = along_back (place_of s i) (place_of s j) all forth;
          }
      go (no _) (yes h) =
          let within = (bracket-on hj hi back).within in
          let all : share_of s slopes style level j i + share_of s slopes style level i j ≡ 128 = omega (arith, share_up h, share-down h) in
          let forth : Along (place_of s j) (place_of s i) (share_of s slopes style level j i) (spot_place s slopes style level (i ⟶ j)) =
          rw (share_up h, spot-down h) (along_up hj hi back) in
          record {
            some_from = omega (arith, share-down h);
            some_to = omega (arith, share_up h);
            all = omega arith;
            forth = along_back (place_of s j) (place_of s i) all forth;
            back = forth;
          }
      go (no h) (no k) =
          let same : i ≡ j = omega arith in
          absurd (not_self (is_below s level i) (ap (is_below s level) same ∙ e))

-- Two levels, the one not above the other, and a side from a station below the lower level to one that is not below the higher.
module _ (s : Survey) (slopes : List ℤ) (style : ℕ) {a b : ℤ} (order : a ≤ℤ b) where
  -- What is below a level is below every higher one.
  pub below-rises : (i : ℕ) → i < count s → is_below s a i ≡ true → is_below s b i ≡ true
  below-rises i h e =
      let l : height_of s i <ℤ a = test-true (sym (below_is s a h) ∙ e) in
      below_is s b h ∙ true-test {a = height_of s i} {b = b} (omega (arith, int))

  pub below-falls : (i : ℕ) → i < count s → is_below s b i ≡ false → is_below s a i ≡ false
  below-falls i h e =
      let l : b ≤ℤ height_of s i = test-false (sym (below_is s b h) ∙ e) in
      below_is s a h ∙ false-test {a = height_of s i} {b = a} (omega (arith, int))

  -- The higher level's spot is as far from the station below, or farther.
  pub share-rises : {i j : ℕ} → i < count s → j < count s → is_below s a i ≡ true → is_below s b j ≡ false
      → share_of s slopes style a i j ≤ share_of s slopes style b i j
  share-rises {i} {j} hi hj e f = go (dec_lt i j) (dec_lt j i)
    where
      at_a : is_below s a j ≡ not (is_below s a i)
      at_a = below-falls j hj f ∙ ap not (sym e)

      at_b : is_below s b j ≡ not (is_below s b i)
      at_b = f ∙ ap not (sym (below-rises i hi e))

      back_a : is_below s a i ≡ not (is_below s a j)
      back_a = e ∙ ap not (sym (below-falls j hj f))

      back_b : is_below s b i ≡ not (is_below s b j)
      back_b = below-rises i hi e ∙ ap not (sym f)

      go : Dec (i < j) → Dec (j < i) → share_of s slopes style a i j ≤ share_of s slopes style b i j
      go (yes h) _ =
          let low = end_at s slopes i in
          let high = end_at s slopes j in
          omega (
            arith,
            share_up s slopes style a h,
            share_up s slopes style b h,
            bracket-rising (curve_of style low high) (scaled-le style order) (bracket-on s slopes style a hi hj at_a) (bracket-on s slopes style b hi hj at_b)
                (stop_first style low high a ∙ sym (below_is s a hi) ∙ e),
          )
      go (no _) (yes h) =
          let low = end_at s slopes j in
          let high = end_at s slopes i in
          omega (
            arith,
            share-down s slopes style a h,
            share-down s slopes style b h,
            bracket-falling (curve_of style low high) (scaled-le style order) (bracket-on s slopes style a hj hi back_a)
                (bracket-on s slopes style b hj hi back_b)
                (stop_first style low high b ∙ sym (below_is s b hj) ∙ f),
          )
      go (no h) (no k) =
          let same : i ≡ j = omega arith in
          absurd (not_self (is_below s a i) (ap (is_below s a) same ∙ at_a))
