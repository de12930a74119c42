-- The sums of a station: what the code adds up is what the definition does, no sum is too large, and NZ is above 0. Assumes nothing.
--
-- The station itself stands for a missing neighbour: its step is nothing, NZ of a pair with it is 0, and the pair is skipped. Each pair
-- adds the size of its NZ, so that the sum never falls; and it rises where a pair turns, as the first neighbour and one off its line do.
use mathlib.Core.Path.{◌≡◌, refl, sym, ap, ◌∙◌, subst}
use mathlib.Core.Bool.{Bool, true, false, true≢false, cond, ◌&&◌}
use mathlib.Core.List.{List, [], ◌∷◌, map}
use Prim.Native.Nat.{ℕ, ◌+◌, ◌*◌, ◌≤◌, ◌<◌}
use native.Mathlib.Omega.{arith}
use lib.IntN.{ℤ, pos, neg_ℤ, ◌+ℤ◌, ◌-ℤ◌, ◌*ℤ◌}
use lib.ListN.{length, get_or}
use lib.Signed.{lt_z, ◌≤ℤ◌, ◌<ℤ◌}
use Rattle.whole.specs.Range.{Within}
use Rattle.whole.specs.Turn.{across, climb, turn}
use Rattle.whole.proofs.Bridge.{int, minus, add, neg, test-true, test-false}
use Rattle.whole.proofs.RangeLaws.{within-sub, within-diff}
use Rattle.whole.proofs.SignLaws.{mul-zero}
use Rattle.survey.specs.Survey.{Survey, place_of, in_use}
use Rattle.survey.specs.Checks.{is_turn, is_nonzero}
use Rattle.survey.proofs.CheckLaws.{is_zero}
use Rattle.lists.proofs.TestLaws.{and_right}
use Rattle.survey.specs.Limits.{most_coordinate}
use Rattle.normal.specs.declared.Step.{Step}
use Rattle.normal.specs.declared.Normal.{Normal}
use Rattle.nearest.specs.Places.{places, Placed}
use Rattle.nearest.specs.Nearest.{neighbours}
use Rattle.normal.specs.Normal.{normal_of, none, added_part, added, added_with, added_all, step_to, normal_at, Short, Small}
use Rattle.nearest.proofs.MemberLaws.{In, here, there, Every, every_tail, any_found}
use Rattle.normal.proofs.NormalLaws.{four-small}
use Rattle.nearest.proofs.NeighbourLaws.{near-below, neighbour-below, neighbour-few, neighbours-turn}

-- A pair with NZ = 0 is skipped.
added-skip : (sum n : Normal) → n.nz ≡ pos 0 → added sum n ≡ sum
unfolding added
added-skip sum n e = λ i. record { nx = added_part sum.nx n.nx (e i); ny = added_part sum.ny n.ny (e i); nz = added_part sum.nz n.nz (e i) }

module _ (s : Survey) (h : ℕ → ℤ) (i : ℕ) where
  across_self : across (place_of s i) (place_of s i) ≡ pos 0
  unfolding across
  across_self = omega (arith, int, minus (pos (place_of s i).x) (pos (place_of s i).x))

  climb_self : climb (place_of s i) (place_of s i) ≡ pos 0
  unfolding climb
  climb_self = omega (arith, int, minus (pos (place_of s i).y) (pos (place_of s i).y))

  -- A pair with the station itself.
  self_skip : (sum : Normal) (a : Step) → added sum (normal_of a (step_to s h i i)) ≡ sum
  self_skip sum a =
      added-skip sum (normal_of a (step_to s h i i))
      (omega (
        arith,
        int,
        mul-zero a.dx climb_self,
        mul-zero a.dy across_self,
        minus (a.dx *ℤ climb (place_of s i) (place_of s i)) (a.dy *ℤ across (place_of s i) (place_of s i)),
      ))

  abbrev to : ℕ → Step
  to k = step_to s h i k

  -- Six pairs, where station i stands for what is missing.
  four-steps :
      (l : List ℕ) → length l ≤ 4
      → added_all none (to (get_or l 0 i) ∷ to (get_or l 1 i) ∷ to (get_or l 2 i) ∷ to (get_or l 3 i) ∷ []) ≡ added_all none (map to l)
  four-steps [] f = self_skip _ (to i) ∙ self_skip _ (to i) ∙ self_skip _ (to i) ∙ self_skip _ (to i) ∙ self_skip _ (to i) ∙ self_skip _ (to i)
  four-steps (a ∷ []) f = self_skip _ (to i) ∙ self_skip _ (to i) ∙ self_skip _ (to i) ∙ self_skip _ (to a) ∙ self_skip _ (to a) ∙ self_skip _ (to a)
  four-steps (a ∷ b ∷ []) f = self_skip _ (to i) ∙ self_skip _ (to b) ∙ self_skip _ (to b) ∙ self_skip _ (to a) ∙ self_skip _ (to a)
  four-steps (a ∷ b ∷ c ∷ []) f = self_skip _ (to c) ∙ self_skip _ (to b) ∙ ap (λ (m : Normal). added m (normal_of (to b) (to c))) (self_skip _ (to a))
  four-steps (a ∷ b ∷ c ∷ d ∷ []) f = refl
  four-steps (a ∷ b ∷ c ∷ d ∷ e ∷ l) f = absurd (omega arith)

-- Only the heights of station i and of its neighbours count.
steps-agree : (s : Survey) (h k : ℕ → ℤ) (i : ℕ) (l : List ℕ) → h i ≡ k i → Every (λ j. h j ≡ k j) l → map (step_to s h i) l ≡ map (step_to s k i) l
steps-agree s h k i [] e f = refl
steps-agree s h k i (a ∷ l) e f = λ t.
    record { dx = across (place_of s i) (place_of s a); dy = climb (place_of s i) (place_of s a); dz = f a (here refl) t -ℤ e t } ∷ steps-agree s h k i l e (every_tail f) t

-- The sum of NZ never falls, and rises with a pair that turns.
data Added (sum n r : ℤ) : Type 0 where
  risen : sum <ℤ r → Added sum n r
  level : n ≡ pos 0 → r ≡ sum → Added sum n r

added-nz : (sum n : ℤ) → Added sum n (added_part sum n n)
added-nz sum n = go (lt_z n (pos 0)) refl (lt_z (pos 0) n) refl
  where
    go : (a : Bool) → lt_z n (pos 0) ≡ a → (b : Bool) → lt_z (pos 0) n ≡ b → Added sum n (cond a (sum +ℤ neg_ℤ n) (cond b (sum +ℤ n) sum))
    go true e b f = let k : n <ℤ pos 0 = test-true e in risen (omega (arith, int, neg n, add sum (neg_ℤ n)))
    go false e true f = let k : pos 0 <ℤ n = test-true f in risen (omega (arith, int, add sum n))
    go false e false f =
        let a : pos 0 ≤ℤ n = test-false e in
        let b : n ≤ℤ pos 0 = test-false f in
        level (omega (arith, int)) refl

added-le : {sum n r : ℤ} → Added sum n r → sum ≤ℤ r
added-le {sum} {n} {r} (risen h) = omega (arith, int)
added-le {sum} {n} {r} (level h e) = omega (arith, int)

added-lt : {sum n r : ℤ} → (n ≡ pos 0 → ⊥) → Added sum n r → sum <ℤ r
added-lt u (risen h) = h
added-lt u (level h e) = absurd (u h)

nz-le : (sum n : Normal) → sum.nz ≤ℤ (added sum n).nz
unfolding added
nz-le sum n = added-le (added-nz sum.nz n.nz)

nz-lt : (sum n : Normal) → (n.nz ≡ pos 0 → ⊥) → sum.nz <ℤ (added sum n).nz
unfolding added
nz-lt sum n u = added-lt u (added-nz sum.nz n.nz)

with_le : (sum : Normal) (a : Step) (l : List Step) → sum.nz ≤ℤ (added_with sum a l).nz
with_le sum a [] = omega (arith, int)
with_le sum a (b ∷ l) = omega (arith, int, nz-le sum (normal_of a b), with_le (added sum (normal_of a b)) a l)

all_le : (sum : Normal) (l : List Step) → sum.nz ≤ℤ (added_all sum l).nz
all_le sum [] = omega (arith, int)
all_le sum (a ∷ l) = omega (arith, int, with_le sum a l, all_le (added_with sum a l) l)

with_lt : (f : ℕ → Step) (sum : Normal) (a : Step) (l : List ℕ) {k : ℕ} → In k l → ((normal_of a (f k)).nz ≡ pos 0 → ⊥) → sum.nz <ℤ (added_with sum a (map f l)).nz
with_lt f sum a (j ∷ l) (here e) u =
    let v : (normal_of a (f j)).nz ≡ pos 0 → ⊥ = subst (λ m. (normal_of a (f m)).nz ≡ pos 0 → ⊥) e u in
    omega (arith, int, nz-lt sum (normal_of a (f j)) v, with_le (added sum (normal_of a (f j))) a (map f l))
with_lt f sum a (j ∷ l) (there m) u = omega (arith, int, nz-le sum (normal_of a (f j)), with_lt f (added sum (normal_of a (f j))) a l m u)
with_lt f sum a [] {k = k} x'' u = elim x'' [ ]

module _ {xs ys : List ℕ} (g : Placed xs ys) (h : ℕ → ℤ) (i : ℕ) (i< : i < length xs) where
  abbrev s : Survey
  s = places xs ys

  pub sum_is_four :
      added_all none (to s h i (get_or (neighbours s i) 0 i) ∷ to s h i (get_or (neighbours s i) 1 i) ∷ to s h i (get_or (neighbours s i) 2 i) ∷ to s h i (get_or (neighbours s i) 3 i) ∷ [])
      ≡ normal_at s h i
  unfolding normal_at
  sum_is_four = four-steps s h i (neighbours s i) (neighbour-few g i i<)

  pub sum-agree : (k : ℕ → ℤ) → ((j : ℕ) → j < length xs → h j ≡ k j) → normal_at s h i ≡ normal_at s k i
  unfolding normal_at
  sum-agree k e = ap (added_all none) (steps-agree s h k i (neighbours s i) (e i i<) (λ j m. e j (neighbour-below g i i< j m)))

  -- NZ of a pair is the turn from the one to the other.
  turn-nz : (a k : ℕ) → is_turn s i a k ≡ true → (normal_of (to s h i a) (to s h i k)).nz ≡ pos 0 → ⊥
  unfolding turn across climb
  turn-nz a k e z =
      true≢false (sym (and_right (in_use s i && (in_use s a && in_use s k)) (is_nonzero (turn (place_of s i) (place_of s a) (place_of s k))) e) ∙ is_zero _ z)

  -- The sum of NZ is above 0, so that no division is by 0.
  pub sum-positive : pos 0 <ℤ (normal_at s h i).nz
  unfolding normal_at
  sum-positive =
      let t = neighbours-turn g i i< in
      let f = any_found (is_turn s i t.first) t.rest t.turns in
      rw t.are (omega (
        arith,
        int,
        with_lt (to s h i) none (to s h i t.first) t.rest f.listed (turn-nz t.first f.at f.passes),
        all_le (added_with none (to s h i t.first) (map (to s h i) t.rest)) (map (to s h i) t.rest),
      ))

  module _ (bound : ℕ) (within : (k : ℕ) → k < length xs → Within bound (h k)) where
    pub step-short : (k : ℕ) → k < length xs → Short (bound + bound) (step_to s h i k)
    unfolding across climb
    step-short k k< =
        record {
          dx = within-diff (place_of s k).x (place_of s i).x (g.x-range k k<) (g.x-range i i<);
          dy = within-diff (place_of s k).y (place_of s i).y (g.y-range k k<) (g.y-range i i<);
          dz = within-sub (within k k<) (within i i<);
        }

    pub sum-small : most_coordinate ≤ bound + bound → Small (6 * (16382 * (bound + bound))) (normal_at s h i)
    sum-small l =
        subst (Small (6 * (16382 * (bound + bound)))) sum_is_four
        (four-small l (step-short _ (near-below g i i< 0)) (step-short _ (near-below g i i< 1)) (step-short _ (near-below g i i< 2)) (step-short _ (near-below g i i< 3)))
