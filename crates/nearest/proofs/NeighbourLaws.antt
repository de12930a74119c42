-- The four that the code keeps are the neighbours, which are stations, at most four, and turn. Assumes nothing.
--
-- Fewer than four others are all taken, and one of them is off the line; so the code replaces only where it holds four.
use mathlib.Core.Path.{◌≡◌, refl, sym, ap, ◌∙◌, subst}
use mathlib.Core.Bool.{Bool, true, false, true≢false, cond, ◌||◌, or-false}
use mathlib.Core.List.{List, [], ◌∷◌, ◌++◌}
use Prim.Native.Nat.{ℕ, ◌-◌, ◌<◌, ◌≤◌}
use native.Mathlib.Omega.{arith}
use native.Mathlib.Decide.{ℕ_discrete}
use lib.ListN.{length, get_or, take, length-append, length-take}
use Rattle.survey.specs.Survey.{Survey}
use Rattle.survey.specs.Checks.{is_turn}
use Rattle.nearest.specs.Places.{places, Placed}
use Rattle.nearest.specs.Nearest.{sorted, distance_from, is_other, nearest, any, replaced, corrected, taken, neighbours}
use Rattle.nearest.specs.Four.{near_of, has_off_line}
use Rattle.nearest.proofs.MemberLaws.{In, here, Every, every_cons, every_tail, every_take, every_append, get_d_every, in_append, any_true, any_found}
use Rattle.nearest.proofs.NearestLaws.{sorted-below, sorted_in}
use Rattle.nearest.proofs.LineLaws.{other_true, turn_self, first_below, rest_off_line, replacement}

module _ {xs ys : List ℕ} (g : Placed xs ys) (i : ℕ) (i< : i < length xs) where
  abbrev s : Survey
  s = places xs ys

  -- The three tests of the code.
  has-off-line : (a : ℕ) (l : List ℕ) → a < length xs → has_off_line s i (near_of i (a ∷ l)) ≡ any (is_turn s i a) (take 3 l)
  has-off-line a [] h = rw (turn_self g i i< a h)
  has-off-line a (b ∷ []) h = rw (turn_self g i i< a h)
  has-off-line a (b ∷ c ∷ []) h = rw (turn_self g i i< a h)
  has-off-line a (b ∷ c ∷ d ∷ l) h = ap (λ t. is_turn s i a b || (is_turn s i a c || t)) (sym (or-false (is_turn s i a d)))

  -- A station has other stations.
  pub others-some : nearest s i (is_other s i) ≡ [] → ⊥
  unfolding nearest
  others-some e = go (ℕ_discrete 0 i)
    where
      none : {k : ℕ} → k < length xs → (k ≡ i → ⊥) → ⊥
      none h u = elim (subst (In _) e (sorted_in (distance_from s i) (is_other s i) (length xs) h (other_true g i i< h u))) [ ]

      go : Dec (0 ≡ i) → ⊥
      go (yes u) = none {k = 1} (omega (arith, g.least)) (λ v. omega arith)
      go (no u) = none {k = 0} (omega (arith, g.least)) u

  -- What stands for the others is a station.
  pub other_below : (j : ℕ) → get_or (nearest s i (is_other s i)) j i < length xs
  unfolding nearest
  other_below j =
      get_d_every {P = λ k. k < length xs} (sorted (distance_from s i) (is_other s i) (length xs)) j i (sorted-below (distance_from s i) (is_other s i) (length xs)) i<

  -- One of those taken is off the line: they stay.
  pub near-kept :
      (l : List ℕ) → nearest s i (is_other s i) ≡ l → has_off_line s i (near_of i l) ≡ true → near_of i l ≡ near_of i (corrected s i (take 4 l))
  near-kept [] e h = refl
  near-kept (a ∷ []) e h = absurd (true≢false (sym h ∙ has-off-line a [] (first_below g i i< e)))
  near-kept (a ∷ b ∷ []) e h = rw (sym (has-off-line a (b ∷ []) (first_below g i i< e)) ∙ h)
  near-kept (a ∷ b ∷ c ∷ []) e h = rw (sym (has-off-line a (b ∷ c ∷ []) (first_below g i i< e)) ∙ h)
  near-kept (a ∷ b ∷ c ∷ d ∷ l) e h = rw (sym (has-off-line a (b ∷ c ∷ d ∷ l) (first_below g i i< e)) ∙ h)

  -- None is: there are four of them, and the last is replaced.
  pub near-replaced :
      (l : List ℕ) → nearest s i (is_other s i) ≡ l → has_off_line s i (near_of i l) ≡ false
      → record { a = get_or l 0 i; b = get_or l 1 i; c = get_or l 2 i; d = get_or (nearest s i (is_turn s i (get_or l 0 i))) 0 i } ≡ near_of i (corrected s i (take 4 l))
  near-replaced [] e h = absurd (others-some e)
  near-replaced (a ∷ []) e h = absurd (true≢false (sym (rest_off_line g i i< e)))
  near-replaced (a ∷ b ∷ []) e h = absurd (true≢false (sym (rest_off_line g i i< e) ∙ sym (has-off-line a (b ∷ []) (first_below g i i< e)) ∙ h))
  near-replaced (a ∷ b ∷ c ∷ []) e h = absurd (true≢false (sym (rest_off_line g i i< e) ∙ sym (has-off-line a (b ∷ c ∷ []) (first_below g i i< e)) ∙ h))
  near-replaced (a ∷ b ∷ c ∷ d ∷ l) e h =
      rw (sym (has-off-line a (b ∷ c ∷ d ∷ l) (first_below g i i< e)) ∙ h) (ap (λ (k : ℕ). record { a = a; b = b; c = c; d = k }) (first (nearest s i (is_turn s i a))))
    where
      first : (m : List ℕ) → get_or m 0 i ≡ get_or (take 1 m) 0 i
      first [] = refl
      first (k ∷ m) = refl

  -- The neighbours are stations, and at most four.
  nearest-below : (p : ℕ → Bool) → Every (λ k. k < length xs) (nearest s i p)
  unfolding nearest
  nearest-below p = sorted-below (distance_from s i) p (length xs)

  replaced-below : (a : ℕ) (l : List ℕ) → Every (λ k. k < length xs) l → Every (λ k. k < length xs) (replaced s i a l)
  replaced-below a l e = go (any (is_turn s i a) l)
    where
      go : (t : Bool) → Every (λ k. k < length xs) (cond t l (take (length l - 1) l ++ take 1 (nearest s i (is_turn s i a))))
      go true = e
      go false = every_append (take (length l - 1) l) _ (every_take (length l - 1) l e) (every_take 1 _ (nearest-below (is_turn s i a)))

  corrected-below : (l : List ℕ) → Every (λ k. k < length xs) l → Every (λ k. k < length xs) (corrected s i l)
  corrected-below [] e = e
  corrected-below (a ∷ l) e = every_cons (e a (here refl)) (replaced-below a l (every_tail e))

  pub neighbour-below : Every (λ k. k < length xs) (neighbours s i)
  unfolding neighbours
  neighbour-below = corrected-below (taken s i) (every_take 4 _ (nearest-below (is_other s i)))

  pub near-below : (j : ℕ) → get_or (neighbours s i) j i < length xs
  near-below j = get_d_every {P = λ k. k < length xs} (neighbours s i) j i neighbour-below i<

  replaced-few : (a : ℕ) (l : List ℕ) → length l ≤ 3 → length (replaced s i a l) ≤ 3
  replaced-few a l h = go (any (is_turn s i a) l)
    where
      last : (m : List ℕ) → length (take 1 m) ≤ 1
      last m = rw length-take (omega arith)

      go : (t : Bool) → length (cond t l (take (length l - 1) l ++ take 1 (nearest s i (is_turn s i a)))) ≤ 3
      go true = h
      go false = simp length-append (omega (arith, length-take (length l - 1) l, last (nearest s i (is_turn s i a))))

  corrected-few : (l : List ℕ) → length l ≤ 4 → length (corrected s i l) ≤ 4
  corrected-few [] h = h
  corrected-few (a ∷ l) h = omega (arith, replaced-few a l (omega arith))

  pub neighbour-few : length (neighbours s i) ≤ 4
  unfolding neighbours
  neighbour-few = corrected-few (taken s i) (rw length-take (omega arith))

  -- Some neighbour is off the line of station i and its first neighbour.
  pub record Turning : Type 0 where
    pub first : ℕ
    pub rest : List ℕ
    pub are : neighbours s i ≡ first ∷ rest
    pub turns : any (is_turn s i first) rest ≡ true

  turning : (l : List ℕ) → nearest s i (is_other s i) ≡ l → Turning
  unfolding neighbours
  turning [] e = absurd (others-some e)
  turning (a ∷ l) e =
      record { first = a; rest = replaced s i a (take 3 l); are = ap (λ m. corrected s i (take 4 m)) e; turns = go (any (is_turn s i a) (take 3 l)) refl }
    where
      go :
          (t : Bool) → any (is_turn s i a) (take 3 l) ≡ t
          → any (is_turn s i a) (cond t (take 3 l) (take (length (take 3 l) - 1) (take 3 l) ++ take 1 (nearest s i (is_turn s i a)))) ≡ true
      go true f = f
      go false f =
          let r = any_found (is_turn s i a) (take 1 (nearest s i (is_turn s i a))) (replacement g i i< e (nearest s i (is_turn s i a)) refl) in
          any_true (is_turn s i a) _ (in_append (take (length (take 3 l) - 1) (take 3 l)) _ r.listed) r.passes

  pub neighbours-turn : Turning
  neighbours-turn = turning (nearest s i (is_other s i)) refl
