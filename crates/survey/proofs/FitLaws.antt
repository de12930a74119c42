-- A survey passes the checks exactly if it is `Fit`: in range, with distinct places not all on one line. Assumes nothing.
--
-- Each check that does not refuse gives its part of `Fit`, and each part of `Fit` keeps its check from refusing.
use mathlib.Core.Path.{◌≡◌, refl, sym, ap, ◌∙◌}
use mathlib.Core.Bool.{Bool, true, false, true≢false, not, ◌&&◌}
use mathlib.Core.List.{[], ◌∷◌}
use Prim.Native.Nat.{ℕ, ◌<◌, ◌≤◌}
use native.Mathlib.Omega.{arith}
use native.Mathlib.Decide.{dec_lt}
use borrow.Author.Tests.{not-false, lt-ltb, ltb-true, eq-eqb, le-leb}
use lib.IntN.{pos}
use Rattle.lists.specs.Lowest.{lowest, some}
use Rattle.lists.proofs.TestLaws.{and_left, and_right}
use Rattle.lists.proofs.LowestLaws.{lowest_none, some-true, some-found}
use Rattle.whole.specs.Turn.{turn}
use Rattle.survey.specs.Survey.{Survey, survey, count, place_of, in_use}
use Rattle.survey.specs.Checks.{is_counted, is_out_of_range, is_repeat, is_nonzero, is_turn, is_one_line, checked}
use Rattle.survey.specs.Fit.{OffLine, Fit}
use Rattle.std.specs.Prelude.{Ok, Err, ⊤}
use Rattle.survey.specs.Answer.{Answer}
use Rattle.survey.specs.declared.refusal.Refusal.{Refusal}
use Rattle.survey.specs.declared.refusal.Refusal.TheVariants.{Count, OneLine}
use Rattle.survey.proofs.CheckLaws.{counted, all_in_range, range_in, apart, apart_none, turn_is, is_zero, zero_is, is_refused-count, is_refused-range, is_refused_same, is_refused-line, is-passed}

-- Some third station turns with i and j; some two stations turn with i.
abbrev turns_with : Survey → ℕ → ℕ → Bool
turns_with s i j = some (is_turn s i j) (count s)

abbrev turns : Survey → ℕ → Bool
turns s i = some (turns_with s i) (count s)

pub refused_not_passed : {r : Refusal} → ◌≡◌ {A = Answer ⊤} (Err r) (Ok tt) → ⊥
refused_not_passed e = let z : ◌≡◌ {A = ℕ} 0 1 = cc in omega arith

module _ (s : Survey) where
  -- Three stations that are not in line, found by the test and shown to it.
  off_line : is_one_line s ≡ false → OffLine s
  unfolding is_one_line
  off_line h =
      let i = lowest (turns s) (count s) in
      let e = some-found (turns s) (count s) (not-false _ h) in
      let j = lowest (turns_with s i) (count s) in
      let f = some-found (turns_with s i) (count s) e in
      let k = lowest (is_turn s i j) (count s) in
      let g = some-found (is_turn s i j) (count s) f in
      let used = and_left (in_use s i && (in_use s j && in_use s k)) _ g in
      record {
        i = i;
        j = j;
        k = k;
        i-used = and_left (in_use s i) _ used;
        j-used = and_left (in_use s j) _ (and_right (in_use s i) _ used);
        k-used = and_right (in_use s j) _ (and_right (in_use s i) _ used);
        turned = λ z. true≢false (sym (and_right (in_use s i && (in_use s j && in_use s k)) _ g) ∙ is_zero _ z);
      }

  not_one_line : OffLine s → is_one_line s ≡ false
  unfolding is_one_line
  not_one_line t =
      ap not
      (some-true (turns s) (count s) t.i i< (some-true (turns_with s t.i) (count s) t.j j< (some-true (is_turn s t.i t.j) (count s) t.k k< turned)))
    where
      i< : t.i < count s
      i< = ltb-true t.i (count s) t.i-used

      j< : t.j < count s
      j< = ltb-true t.j (count s) t.j-used

      k< : t.k < count s
      k< = ltb-true t.k (count s) t.k-used

      turned : is_turn s t.i t.j t.k ≡ true
      turned = turn_is s t.i t.j t.k i< j< k< ∙ go (is_nonzero (turn (place_of s t.i) (place_of s t.j) (place_of s t.k))) refl
        where
          go : (b : Bool) → is_nonzero (turn (place_of s t.i) (place_of s t.j) (place_of s t.k)) ≡ b → b ≡ true
          go true e = refl
          go false e = absurd (t.turned (zero_is _ e))

  -- 'Every survey in range, with distinct places not all on one line, is accepted'.
  pub fit_passed : Fit s → checked s ≡ Ok tt
  fit_passed f =
      is-passed s
      (simp (eq-eqb _ _ f.ys-count, eq-eqb _ _ f.zs-count, le-leb _ _ f.least, le-leb _ _ f.most))
      (omega (arith, lowest_none (is_out_of_range s) (count s) (λ k h. range_in s k (record { x = f.x-range k h; y = f.y-range k h; z = f.z-range k h }))))
      (omega (arith, apart_none s (λ j k h l. f.apart j k h (lt-ltb _ _ (before h l)) (lt-ltb _ _ l))))
      (not_one_line f.spread)
    where
      before : {j k : ℕ} → j < k → k < count s → j < count s
      before h l = omega arith

  -- And no other is.
  pub passed-fit : checked s ≡ Ok tt → Fit s
  passed-fit h = by_count (is_counted s) refl
    where
      by_line : is_counted s ≡ true → count s ≤ lowest (is_out_of_range s) (count s) → count s ≤ lowest (is_repeat s) (count s) → (b : Bool) → is_one_line s ≡ b → Fit s
      by_line c r a true e = absurd (refused_not_passed (sym (is_refused-line s c r a e) ∙ h))
      by_line c r a false e =
          let n = counted s c in
          record {
            ys-count = n.ys-count;
            zs-count = n.zs-count;
            least = n.least;
            most = n.most;
            x-range = λ k l. (all_in_range s r k l).x;
            y-range = λ k l. (all_in_range s r k l).y;
            z-range = λ k l. (all_in_range s r k l).z;
            apart = λ j k l u v. apart s a j k l (ltb-true k (count s) v);
            spread = off_line e;
          }

      by_place : is_counted s ≡ true → count s ≤ lowest (is_out_of_range s) (count s) → Dec (lowest (is_repeat s) (count s) < count s) → Fit s
      by_place c r (yes l) = absurd (refused_not_passed (sym (is_refused_same s c r l) ∙ h))
      by_place c r (no l) = by_line c r (omega arith) (is_one_line s) refl

      by_range : is_counted s ≡ true → Dec (lowest (is_out_of_range s) (count s) < count s) → Fit s
      by_range c (yes l) = absurd (refused_not_passed (sym (is_refused-range s c l) ∙ h))
      by_range c (no l) = by_place c (omega arith) (dec_lt (lowest (is_repeat s) (count s)) (count s))

      by_count : (b : Bool) → is_counted s ≡ b → Fit s
      by_count true c = by_range c (dec_lt (lowest (is_out_of_range s) (count s)) (count s))
      by_count false c = absurd (refused_not_passed (sym (is_refused-count s c) ∙ h))

-- T11: 'three stations on a line: 4.'
pub three_in_line : checked (survey (0 ∷ 1 ∷ 2 ∷ []) (0 ∷ 1 ∷ 2 ∷ []) (pos 0 ∷ pos 0 ∷ pos 0 ∷ [])) ≡ Err OneLine
unfolding checked is_repeat is_one_line turn
three_in_line = refl

-- T12: 'two stations, both at one place: 1.'
pub two_at_one_place : checked (survey (5 ∷ 5 ∷ []) (5 ∷ 5 ∷ []) (pos 0 ∷ pos 0 ∷ [])) ≡ Err Count
unfolding checked
two_at_one_place = refl

-- The survey that document 01 prints passes.
pub printed-survey : checked (survey (0 ∷ 8 ∷ 0 ∷ []) (0 ∷ 0 ∷ 8 ∷ []) (pos 0 ∷ pos 10 ∷ pos 10 ∷ [])) ≡ Ok tt
unfolding checked is_repeat is_one_line turn
printed-survey = refl
