-- After the checks there is a station off the line of station i and its first neighbour. Assumes nothing.
--
-- Two different places fix a line, and places in line with both are in line with each other (`line-turn`). So if no station were off
-- the line, no three would turn. Of the others of station i, which `nearest` all holds, one is therefore off the line.
use mathlib.Core.Path.{◌≡◌, refl, sym, ap, ◌∙◌, subst}
use mathlib.Core.Bool.{Bool, true, false, true≢false, not}
use mathlib.Core.List.{List, [], ◌∷◌}
use Prim.Native.Nat.{ℕ, ◌<◌}
use native.Mathlib.Omega.{arith}
use native.Mathlib.Decide.{dec_lt}
use borrow.Author.Tests.{lt-ltb, ltb-true, eq-eqb, ne_eqb}
use lib.Dec.{ltb, eqb}
use lib.IntN.{pos}
use lib.ListN.{length, take}
use Rattle.lists.specs.Lowest.{lowest, some}
use Rattle.lists.proofs.TestLaws.{and_right}
use Rattle.lists.proofs.LowestLaws.{some-found, none_found}
use Rattle.whole.specs.Turn.{turn}
use Rattle.whole.proofs.TurnLaws.{turn-start, turn_end, line-turn}
use Rattle.survey.specs.Survey.{Survey, place_of}
use Rattle.survey.specs.Checks.{is_turn}
use Rattle.survey.proofs.CheckLaws.{turn_is, zero_is, is_zero}
use Rattle.nearest.specs.Places.{places, Placed}
use Rattle.nearest.specs.Nearest.{distance_from, is_other, nearest, any}
use Rattle.nearest.proofs.MemberLaws.{In, here, there, any_true}
use Rattle.nearest.proofs.NearestLaws.{sorted-below, sorted-pass, sorted_in}

module _ {xs ys : List ℕ} (g : Placed xs ys) (i : ℕ) (i< : i < length xs) where
  abbrev s : Survey
  s = places xs ys

  -- An other station is one below the count that is not i.
  pub other_true : {k : ℕ} → k < length xs → (k ≡ i → ⊥) → is_other s i k ≡ true
  other_true {k} h u = simp (lt-ltb _ _ h, ne_eqb k i u)

  pub other_apart : {k : ℕ} → is_other s i k ≡ true → k ≡ i → ⊥
  other_apart {k} e u = true≢false (sym (and_right (ltb k (length xs)) (not (eqb k i)) e) ∙ ap not (eq-eqb k i u))

  -- No station is off a line that it fixes.
  pub turn_self : (a : ℕ) → a < length xs → is_turn s i a i ≡ false
  turn_self a h = turn_is s i a i i< h i< ∙ is_zero _ (turn-start (place_of s i) (place_of s a))

  turn_first : (a : ℕ) → a < length xs → is_turn s i a a ≡ false
  turn_first a h = turn_is s i a a i< h h ∙ is_zero _ (turn_end (place_of s i) (place_of s a))

  module _ (a : ℕ) (a< : a < length xs) (differ : a ≡ i → ⊥) where
    pub places-differ : place_of s i ≡ place_of s a → ⊥
    places-differ = go (dec_lt i a)
      where
        go : Dec (i < a) → place_of s i ≡ place_of s a → ⊥
        go (yes h) e = g.apart i a h (lt-ltb _ _ i<) (lt-ltb _ _ a<) e
        go (no h) e = g.apart a i (above a differ h) (lt-ltb _ _ a<) (lt-ltb _ _ i<) (sym e)
          where
            above : (a : ℕ) → (a ≡ i → ⊥) → (i < a → ⊥) → a < i
            above a u v = omega arith

    -- 'a station off the line' of stations i and a.
    pub some_off_line : some (is_turn s i a) (length xs) ≡ true
    some_off_line = go (some (is_turn s i a) (length xs)) refl
      where
        in_line : some (is_turn s i a) (length xs) ≡ false → (k : ℕ) → k < length xs → turn (place_of s i) (place_of s a) (place_of s k) ≡ pos 0
        in_line e k h = zero_is _ (sym (turn_is s i a k i< a< h) ∙ none_found (is_turn s i a) (length xs) e k h)

        go : (b : Bool) → some (is_turn s i a) (length xs) ≡ b → b ≡ true
        go true e = refl
        go false e =
            let o = g.spread in
            absurd
            (o.turned
            (line-turn _ _ _ _ _ places-differ (in_line e o.i (ltb-true _ _ o.i-used)) (in_line e o.j (ltb-true _ _ o.j-used)) (in_line e o.k (ltb-true _ _ o.k-used))))

    -- It is another station, and not the one that fixes the line.
    off : ℕ
    off = lowest (is_turn s i a) (length xs)

    off_below : off < length xs
    unfolding off
    off_below = ltb-true _ _ some_off_line

    off_turns : is_turn s i a off ≡ true
    unfolding off
    off_turns = some-found (is_turn s i a) (length xs) some_off_line

    not_off : {k : ℕ} → is_turn s i a k ≡ false → off ≡ k → ⊥
    not_off e u = true≢false (sym off_turns ∙ ap (is_turn s i a) u ∙ e)

    off_in : {l : List ℕ} → nearest s i (is_other s i) ≡ a ∷ l → In off l
    unfolding nearest
    off_in {l} e =
        past (subst (In off) e (sorted_in (distance_from s i) (is_other s i) (length xs) off_below (other_true off_below (not_off (turn_self a a<)))))
      where
        past : In off (a ∷ l) → In off l
        past (here u) = absurd (not_off (turn_first a a<) u)
        past (there m) = m

  module _ {a : ℕ} {l : List ℕ} (e : nearest s i (is_other s i) ≡ a ∷ l) where
    first_in : In a (nearest s i (is_other s i))
    first_in = subst (In a) (sym e) (here refl)

    pub first_below : a < length xs
    unfolding nearest
    first_below = sorted-below (distance_from s i) (is_other s i) (length xs) a first_in

    pub first_apart : a ≡ i → ⊥
    unfolding nearest
    first_apart = other_apart (sorted-pass (distance_from s i) (is_other s i) (length xs) a first_in)

    -- Of all others, some is off the line of station i and the first.
    pub rest_off_line : any (is_turn s i a) l ≡ true
    rest_off_line = any_true (is_turn s i a) l (off_in a first_below first_apart e) (off_turns a first_below first_apart)

    -- 'the nearest station off that line' exists.
    pub replacement : (m : List ℕ) → nearest s i (is_turn s i a) ≡ m → any (is_turn s i a) (take 1 m) ≡ true
    unfolding nearest
    replacement [] f =
        elim (subst (In _) f (sorted_in (distance_from s i) (is_turn s i a) (length xs) (off_below a first_below first_apart) (off_turns a first_below first_apart))) [ ]
    replacement (k ∷ m) f =
        any_true (is_turn s i a) (k ∷ []) (here refl) (sorted-pass (distance_from s i) (is_turn s i a) (length xs) k (subst (In k) (sym f) (here refl)))
