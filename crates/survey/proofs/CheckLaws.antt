-- What each of the four checks says of the stations, and which case of `checked` holds. Assumes nothing.
--
-- The test of refusal 4 looks at stations 0 and 1 and each third one, where the definition looks at all three: two different places
-- fix a line, and places in line with both are in line with each other (`line-turn`).
use mathlib.Core.Path.{◌≡◌, refl, sym, ap, ◌∙◌}
use mathlib.Core.Bool.{Bool, true, false, true≢false, not, ◌&&◌}
use Prim.Native.Nat.{ℕ, ◌<◌, ◌≤◌}
use native.Mathlib.Omega.{arith}
use borrow.Author.Tests.{lt-ltb, le-ltb, ltb-false, eqb-true, leb-true, eq-eqb}
use lib.Dec.{eqb, leb}
use lib.IntN.{ℤ, pos, neg_ℤ}
use lib.ListN.{length, get_or, get_or-eq_default}
use native.Mathlib.Decide.{dec_lt}
use lib.Signed.{lt_z, ◌≤ℤ◌}
use Rattle.lists.specs.Lowest.{lowest, some}
use Rattle.lists.proofs.TestLaws.{and_left, and_right, or_left, or_right}
use Rattle.lists.proofs.LowestLaws.{lowest-fails, lowest_none, some-true, some-false, none_found}
use Rattle.whole.specs.Place.{Place}
use Rattle.whole.specs.Range.{Within}
use Rattle.whole.specs.Turn.{turn}
use Rattle.whole.proofs.Bridge.{test-false, false-test, int}
use Rattle.whole.proofs.RangeLaws.{order-within, within-order}
use Rattle.whole.proofs.OrderLaws.{same_place}
use Rattle.whole.proofs.TurnLaws.{line-turn}
use Rattle.survey.specs.Limits.{most_coordinate, most_height, beyond}
use Rattle.survey.specs.Survey.{Survey, count, place_of, height_of}
use Rattle.survey.specs.Checks.{is_counted, is_out_of_range, is_same, is_repeat, is_nonzero, is_turn, is_one_line, checked}
use Rattle.std.specs.Prelude.{Ok, Err}
use Rattle.survey.specs.declared.refusal.Refusal.TheVariants.{Count, Range, SamePlace, OneLine}

-- Refusal 1.
pub record Counted (s : Survey) : Type 0 where
  pub ys-count : length s.ys ≡ count s
  pub zs-count : length s.zs ≡ count s
  pub least : 3 ≤ count s
  pub most : count s ≤ 1024

pub counted : (s : Survey) → is_counted s ≡ true → Counted s
counted s h =
    let a = eqb (length s.ys) (count s) in
    let b = eqb (length s.zs) (count s) in
    let r = and_right a _ h in
    let t = and_right b _ r in
    record {
      ys-count = eqb-true _ _ (and_left a _ h);
      zs-count = eqb-true _ _ (and_left b _ r);
      least = leb-true 3 (count s) (and_left (leb 3 (count s)) (leb (count s) 1024) t);
      most = leb-true (count s) 1024 (and_right (leb 3 (count s)) (leb (count s) 1024) t);
    }

-- Refusal 2.
module _ (s : Survey) where
  pub record InRange (k : ℕ) : Type 0 where
    pub x : (place_of s k).x ≤ most_coordinate
    pub y : (place_of s k).y ≤ most_coordinate
    pub z : Within most_height (height_of s k)

  pub in_range : (k : ℕ) → is_out_of_range s k ≡ false → InRange k
  in_range k h =
      let r = or_right (beyond (place_of s k).x) _ h in
      let t = or_right (beyond (place_of s k).y) _ r in
      record {
        x = ltb-false most_coordinate _ (or_left _ _ h);
        y = ltb-false most_coordinate _ (or_left _ _ r);
        z = order-within (test-false (or_left (lt_z (height_of s k) (neg_ℤ (pos most_height))) _ t)) (test-false (or_right (lt_z (height_of s k) (neg_ℤ (pos most_height))) _ t));
      }

  pub range_in : (k : ℕ) → InRange k → is_out_of_range s k ≡ false
  range_in k h =
      simp (
        le-ltb most_coordinate (place_of s k).x h.x,
        le-ltb most_coordinate (place_of s k).y h.y,
        false-test (within-order h.z).0,
        false-test (within-order h.z).1,
      )

  module _ (none : count s ≤ lowest (is_out_of_range s) (count s)) where
    pub all_in_range : (k : ℕ) → k < count s → InRange k
    all_in_range k h = in_range k (lowest-fails (is_out_of_range s) (count s) k (omega arith))

    -- Past its last entry a list reads 0.
    pub x_all : (i : ℕ) → get_or s.xs i 0 ≤ most_coordinate
    x_all i = go (dec_lt i (count s))
      where
        go : Dec (i < count s) → get_or s.xs i 0 ≤ most_coordinate
        go (yes h) = (all_in_range i h).x
        go (no h) = rw (get_or-eq_default s.xs 0 {n = i} (omega arith)) (omega arith)

    pub y_all : length s.ys ≡ count s → (i : ℕ) → get_or s.ys i 0 ≤ most_coordinate
    y_all e i = go (dec_lt i (count s))
      where
        go : Dec (i < count s) → get_or s.ys i 0 ≤ most_coordinate
        go (yes h) = (all_in_range i h).y
        go (no h) = rw (get_or-eq_default s.ys 0 {n = i} (omega (arith, e))) (omega arith)

  -- Refusal 3.
  pub same_is : (j k : ℕ) → j < count s → k < count s → is_same s j k ≡ (eqb (place_of s j).x (place_of s k).x && eqb (place_of s j).y (place_of s k).y)
  same_is j k h l = simp (lt-ltb _ _ h, lt-ltb _ _ l)

  -- Stations of which none repeats an earlier one stand apart, and back.
  pub apart : count s ≤ lowest (is_repeat s) (count s) → (j k : ℕ) → j < k → k < count s → place_of s j ≡ place_of s k → ⊥
  unfolding is_repeat
  apart none j k h l same =
      let f : is_repeat s k ≡ false = lowest-fails (is_repeat s) (count s) k (omega arith) in
      true≢false
      (sym
      (same_is j k (omega arith) l
      ∙ ap (λ (p : Place). eqb p.x (place_of s k).x && eqb p.y (place_of s k).y) same
      ∙ simp (eq-eqb (place_of s k).x (place_of s k).x refl, eq-eqb (place_of s k).y (place_of s k).y refl))
      ∙ none_found (λ i. is_same s i k) k f j h)

  pub apart_none : ((j k : ℕ) → j < k → k < count s → place_of s j ≡ place_of s k → ⊥) → lowest (is_repeat s) (count s) ≡ count s
  unfolding is_repeat
  apart_none apart = lowest_none (is_repeat s) (count s) (λ k h. some-false (λ j. is_same s j k) k (λ j l. differ j k l h (is_same s j k) refl))
    where
      differ : (j k : ℕ) → j < k → k < count s → (b : Bool) → is_same s j k ≡ b → is_same s j k ≡ false
      differ j k l h false e = e
      differ j k l h true e =
          let f = sym (same_is j k (omega arith) h) ∙ e in
          absurd
          (apart j k l h
          (same_place
          (eqb-true (place_of s j).x (place_of s k).x (and_left _ _ f))
          (eqb-true (place_of s j).y (place_of s k).y (and_right (eqb (place_of s j).x (place_of s k).x) _ f))))

  -- Refusal 4.
  pub turn_is : (i j k : ℕ) → i < count s → j < count s → k < count s → is_turn s i j k ≡ is_nonzero (turn (place_of s i) (place_of s j) (place_of s k))
  turn_is i j k f g h = simp (lt-ltb _ _ f, lt-ltb _ _ g, lt-ltb _ _ h)

-- A number below 0 is not 0; one that is not below 0 is not 0 if it is above.
pub nonzero-low : (z : ℤ) → lt_z z (pos 0) ≡ true → is_nonzero z ≡ true
nonzero-low z h = rw h

pub nonzero_not_low : (z : ℤ) → lt_z z (pos 0) ≡ false → is_nonzero z ≡ lt_z (pos 0) z
nonzero_not_low z h = rw h

pub zero_is : (z : ℤ) → is_nonzero z ≡ false → z ≡ pos 0
zero_is z h =
    let a : pos 0 ≤ℤ z = test-false (or_left (lt_z z (pos 0)) (lt_z (pos 0) z) h) in
    let b : z ≤ℤ pos 0 = test-false (or_right (lt_z z (pos 0)) (lt_z (pos 0) z) h) in
    omega (arith, int)

pub is_zero : (z : ℤ) → z ≡ pos 0 → is_nonzero z ≡ false
is_zero z e = ap is_nonzero e

module _ (s : Survey) (two : 1 < count s) (differ : place_of s 0 ≡ place_of s 1 → ⊥) where
  -- Where no station is off the line of stations 0 and 1, all are on one line; where one is, they are not.
  in_line : some (is_turn s 0 1) (count s) ≡ false → (k : ℕ) → k < count s → turn (place_of s 0) (place_of s 1) (place_of s k) ≡ pos 0
  in_line e k h = zero_is _ (sym (turn_is s 0 1 k (omega arith) two h) ∙ none_found (is_turn s 0 1) (count s) e k h)

  pub one_line_by_two : is_one_line s ≡ not (some (is_turn s 0 1) (count s))
  unfolding is_one_line
  one_line_by_two = go (some (is_turn s 0 1) (count s)) refl
    where
      rows : ℕ → ℕ → Bool
      rows i j = some (is_turn s i j) (count s)

      go : (b : Bool) → some (is_turn s 0 1) (count s) ≡ b → not (some (λ i. some (rows i) (count s)) (count s)) ≡ not b
      go true e = ap not (some-true (λ i. some (rows i) (count s)) (count s) 0 (omega arith) (some-true (rows 0) (count s) 1 two e))
      go false e =
          ap not
          (some-false (λ i. some (rows i) (count s)) (count s)
          (λ i f.
          some-false (rows i) (count s)
          (λ j g.
          some-false (is_turn s i j) (count s)
          (λ k h.
          turn_is s i j k f g h
          ∙ is_zero _ (line-turn _ _ _ _ _ differ (in_line e i f) (in_line e j g) (in_line e k h))))))

-- The cases of `checked`.
module _ (s : Survey) where
  pub is_refused-count : is_counted s ≡ false → checked s ≡ Err Count
  unfolding checked
  is_refused-count h = rw h

  pub is_refused-range : is_counted s ≡ true → lowest (is_out_of_range s) (count s) < count s → checked s ≡ Err (Range (lowest (is_out_of_range s) (count s)))
  unfolding checked
  is_refused-range h l = rw (h, lt-ltb _ _ l)

  pub is_refused_same :
      is_counted s ≡ true → count s ≤ lowest (is_out_of_range s) (count s) → lowest (is_repeat s) (count s) < count s
      → checked s ≡ Err (SamePlace (lowest (is_repeat s) (count s)))
  unfolding checked
  is_refused_same h k l = rw (h, le-ltb _ _ k, lt-ltb _ _ l)

  pub is_refused-line :
      is_counted s ≡ true → count s ≤ lowest (is_out_of_range s) (count s) → count s ≤ lowest (is_repeat s) (count s) → is_one_line s ≡ true
      → checked s ≡ Err OneLine
  unfolding checked
  is_refused-line h k l m = rw (h, le-ltb _ _ k, le-ltb _ _ l, m)

  pub is-passed :
      is_counted s ≡ true → count s ≤ lowest (is_out_of_range s) (count s) → count s ≤ lowest (is_repeat s) (count s) → is_one_line s ≡ false
      → checked s ≡ Ok tt
  unfolding checked
  is-passed h k l m = rw (h, le-ltb _ _ k, le-ltb _ _ l, m)
