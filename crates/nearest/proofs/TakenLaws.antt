-- The neighbours in the page's own words: how many are taken, that they are the nearest, and what 'on one line' means. Assumes nothing.
use mathlib.Core.Path.{◌≡◌, refl, sym, ap, ◌∙◌}
use mathlib.Core.Bool.{Bool, true, false, true≢false, cond, not, ◌&&◌}
use mathlib.Core.List.{List, [], ◌∷◌}
use Prim.Native.Nat.{ℕ, zero, suc, ◌+◌, ◌-◌, ◌<◌, ◌≤◌, min}
use native.Mathlib.Omega.{arith}
use native.Mathlib.Decide.{ℕ_discrete}
use borrow.Author.Tests.{lt-ltb, eq-eqb, ne_eqb}
use lib.Dec.{eqb, ltb}
use lib.IntN.{pos}
use lib.ListN.{length, take, length-take}
use Rattle.whole.specs.Turn.{turn}
use Rattle.whole.proofs.TurnLaws.{turn-start, turn_end, line-turn}
use Rattle.survey.specs.Survey.{Survey, count, place_of}
use Rattle.survey.specs.Checks.{is_turn}
use Rattle.survey.proofs.CheckLaws.{turn_is, zero_is}
use Rattle.nearest.specs.Places.{places, Placed}
use Rattle.nearest.specs.Nearest.{put, sorted, distance_from, is_other, nearest, taken, any}
use Rattle.nearest.proofs.MemberLaws.{In, here, there, Every, Split, early, late, split, any_true}
use Rattle.nearest.proofs.NearestLaws.{Nearer, sorted_in, sorted-ordered, ordered_first}
use Rattle.nearest.proofs.LineLaws.{first_below, first_apart, places-differ}

put-length : (distance : ℕ → ℕ) (k : ℕ) (l : List ℕ) → length (put distance k l) ≡ suc (length l)
put-length distance k [] = refl
put-length distance k (j ∷ l) = go (ltb (distance k) (distance j)) (put-length distance k l)
  where
    go : (t : Bool) → length (put distance k l) ≡ suc (length l) → length (cond t (k ∷ j ∷ l) (j ∷ put distance k l)) ≡ suc (suc (length l))
    go true r = refl
    go false r = ap suc r

-- Of the numbers below m, all but i are others.
data Passed (i m n : ℕ) : Type 0 where
  before : m ≤ i → n ≡ m → Passed i m n
  after : i < m → n + 1 ≡ m → Passed i m n

others-passed : (s : Survey) (i m : ℕ) → m ≤ count s → Passed i m (length (sorted (distance_from s i) (is_other s i) m))
others-passed s i zero h = before (omega arith) refl
others-passed s i (suc m) h = go (ℕ_discrete m i) (others-passed s i m (omega arith))
  where
    l : List ℕ
    l = sorted (distance_from s i) (is_other s i) m

    is : is_other s i m ≡ not (eqb m i)
    is = ap (λ b. b && not (eqb m i)) (lt-ltb m (count s) h)

    one_more : (m ≡ i → ⊥) → length (sorted (distance_from s i) (is_other s i) (suc m)) ≡ suc (length l)
    one_more u = rw (is ∙ ap not (ne_eqb m i u)) (put-length (distance_from s i) m l)

    no_more : m ≡ i → length (sorted (distance_from s i) (is_other s i) (suc m)) ≡ length l
    no_more u = rw (is ∙ ap not (eq-eqb m i u))

    go : Dec (m ≡ i) → Passed i m (length l) → Passed i (suc m) (length (sorted (distance_from s i) (is_other s i) (suc m)))
    go (yes u) (before k e) = after (omega arith) (omega (arith, no_more u))
    go (yes u) (after k e) = absurd (omega arith)
    go (no u) (before k e) = before (omega arith) (omega (arith, one_more u))
    go (no u) (after k e) = after (omega arith) (omega (arith, one_more u))

-- 'the four nearest others (fewer if n is under 5)': two of three stations, three of four, and four of more.
pub taken-count : (s : Survey) (i : ℕ) → i < count s → length (taken s i) ≡ min 4 (count s - 1)
unfolding nearest
taken-count s i h =
    length-take 4 (sorted (distance_from s i) (is_other s i) (count s))
    ∙ ap (min 4) (go (others-passed s i (count s) (omega arith)))
  where
    go : {n : ℕ} → Passed i (count s) n → n ≡ count s - 1
    go (before k e) = absurd (omega arith)
    go (after k e) = omega arith

-- 'squared distance, ties to the lower number': each that is taken comes before every other that is not.
pub taken-nearest :
    (s : Survey) (i : ℕ) {j k : ℕ} → In j (taken s i) → k < count s → is_other s i k ≡ true → (In k (taken s i) → ⊥) → Nearer (distance_from s i) j k
unfolding nearest
taken-nearest s i {j} {k} m h e out =
    go (split 4 (sorted (distance_from s i) (is_other s i) (count s)) (sorted_in (distance_from s i) (is_other s i) (count s) h e))
  where
    go : Split k 4 (sorted (distance_from s i) (is_other s i) (count s)) → Nearer (distance_from s i) j k
    go (early r) = absurd (out r)
    go (late r) = ordered_first (distance_from s i) 4 (sorted-ordered (distance_from s i) (is_other s i) (count s)) m r

-- 'the nearest station off that line, same ties': the first of those that pass a test comes before every other that passes.
pub first_nearest :
    (s : Survey) (i : ℕ) (p : ℕ → Bool) {a k : ℕ} → In a (take 1 (nearest s i p)) → k < count s → p k ≡ true → (In k (take 1 (nearest s i p)) → ⊥)
    → Nearer (distance_from s i) a k
unfolding nearest
first_nearest s i p {a} {k} m h e out = go (split 1 (sorted (distance_from s i) p (count s)) (sorted_in (distance_from s i) p (count s) h e))
  where
    go : Split k 1 (sorted (distance_from s i) p (count s)) → Nearer (distance_from s i) a k
    go (early r) = absurd (out r)
    go (late r) = ordered_first (distance_from s i) 1 (sorted-ordered (distance_from s i) p (count s)) m r

-- 'these and the station lie on one line': where none of them is off the line of the station and the first, no three of them turn.
module _ {xs ys : List ℕ} (g : Placed xs ys) (i : ℕ) (i< : i < length xs) {a : ℕ} {l : List ℕ} (are : nearest (places xs ys) i (is_other (places xs ys) i) ≡ a ∷ l) where
  abbrev s : Survey
  s = places xs ys

  pub one_line :
      (m : List ℕ) → Every (λ k. k < length xs) m → any (is_turn s i a) m ≡ false → {j k n : ℕ} → In j (i ∷ a ∷ m) → In k (i ∷ a ∷ m) → In n (i ∷ a ∷ m)
      → turn (place_of s j) (place_of s k) (place_of s n) ≡ pos 0
  one_line m below e hj hk hn = line-turn _ _ _ _ _ (places-differ g i i< a a< (first_apart g i i< are)) (in_line hj) (in_line hk) (in_line hn)
    where
      a< : a < length xs
      a< = first_below g i i< are

      in_line : {k : ℕ} → In k (i ∷ a ∷ m) → turn (place_of s i) (place_of s a) (place_of s k) ≡ pos 0
      in_line (here u) = ap (λ k. turn (place_of s i) (place_of s a) (place_of s k)) u ∙ turn-start (place_of s i) (place_of s a)
      in_line (there (here u)) = ap (λ k. turn (place_of s i) (place_of s a) (place_of s k)) u ∙ turn_end (place_of s i) (place_of s a)
      in_line {k} (there (there r)) = zero_is _ (sym (turn_is s i a k i< a< (below k r)) ∙ off (is_turn s i a k) refl)
        where
          off : (t : Bool) → is_turn s i a k ≡ t → is_turn s i a k ≡ false
          off true f = absurd (true≢false (sym (any_true (is_turn s i a) m r f) ∙ e))
          off false f = f
