-- Two passes over the sides of a sound mesh in a row give the lines of the page (`scanned-lines`). Assumes nothing.
--
-- What a pass has behind it can start no line any more: it is not crossed, or may not start one, or is marked. So the entry at which a
-- line starts is the lowest that can, and the marks are those of the lines before it. After the pass for open lines no unmarked crossed
-- side is a hull side, so every one left has an entry as it runs, and the pass for closed lines meets it.
use Prim.Native.Nat.{ℕ, zero, suc, ◌+◌, ◌*◌, ◌≤◌, ◌<◌}
use native.Mathlib.Omega.{arith}
use native.Mathlib.Decide.{dec_lt, ℕ_discrete}
use borrow.Author.Tests.{lt-ltb, le-ltb, ltb-true}
use mathlib.Core.Path.{◌≡◌, refl, sym, ap, ap₂, ◌∙◌, subst}
use mathlib.Core.Bool.{Bool, true, false, true≢false, cond, not, ◌&&◌, ◌||◌, beq}
use mathlib.Core.List.{List, [], ◌∷◌, ◌++◌}
use mathlib.Core.Logic.{◌⊎◌, inl, inr}
use mathlib.Core.Option.{Option, none, some, none-ne-some, some-injective}
use lib.Dec.{ltb, eqb}
use lib.ListN.{length, get_or, set, length-set}
use lib.Seq.{get_or-set_same, get_or-set_other}
use Rattle.lists.proofs.TestLaws.{and_left, and_right}
use Rattle.sweep.specs.Sweep.{Three}
use Rattle.trace.specs.Side.{Directed, ◌⟶◌, bit, is_same, reversed, side_of, left_corner, is_there, is_side, inward_by, inward}
use Rattle.trace.specs.Crossed.{is_crossed, Before, crossed}
use Rattle.trace.specs.Lines.{Line, line, strike, passed, open_lines, closed_lines, lines_over, lines}
use Rattle.tracing.specs.Marks.{unmarked, marking}
use Rattle.trace.specs.Mesh.{count, Has, Sound}
use Rattle.trace.specs.Rule.{Lowest, IsHull, AnySide}
use Rattle.tracing.specs.Scan.{Row, Ordered, no_marks, mark_all, line_from, is_rising, may_start, starts, scan, scanned}
use Rattle.trace.specs.Walk.{out, next, onward, walk}
use Rattle.trace.proofs.CountLaws.{Tested, passes, fails, tested, same_is, not_same}
use Rattle.trace.proofs.CrossedLaws.{crossed_once}
use Rattle.tracing.proofs.LoopLaws.{unmarked_all, unmarked-count, unmarked-sorted, strike-marks, open_turn, open-end, closed-turn, closed-end}
use Rattle.trace.proofs.MeshLaws.{has_turned, has_left, left_has}
use Rattle.trace.proofs.OrderLaws.{Sorted, crossed-sorted}
use Rattle.trace.proofs.StepLaws.{side-reversed, side-cases}

-- A side is crossed whichever way it is run.
crossed-side : (below : ℕ → Bool) (d : Directed) → is_crossed below (side_of d) ≡ is_crossed below d
unfolding is_crossed
crossed-side below (a ⟶ b) = by (side-cases (a ⟶ b))
  where
    swap : (p q : Bool) → not (beq p q) ≡ not (beq q p)
    swap true true = refl
    swap true false = refl
    swap false true = refl
    swap false false = refl

    by : (side_of (a ⟶ b) ≡ a ⟶ b) ⊎ (side_of (a ⟶ b) ≡ b ⟶ a) → is_crossed below (side_of (a ⟶ b)) ≡ not (beq (below a) (below b))
    by (inl e) = ap (is_crossed below) e
    by (inr e) = ap (is_crossed below) e ∙ swap (below b) (below a)

side-rising : (d : Directed) → is_rising d ≡ true → side_of d ≡ d
unfolding side_of
side-rising (x ⟶ y) q = rw q

and_both : {p q : Bool} → p ≡ true → q ≡ true → (p && q) ≡ true
and_both e f = rw (e, f)

-- Marks one after another.
pub mark-append : (row : Row) (p q : List Directed) (marks : List ℕ) → mark_all row (p ++ q) marks ≡ mark_all row q (mark_all row p marks)
unfolding mark_all
mark-append row [] q marks = refl
mark-append row (d ∷ p) q marks = mark-append row p q _

pub mark-length : (row : Row) (p : List Directed) (marks : List ℕ) → length (mark_all row p marks) ≡ length marks
unfolding mark_all
mark-length row [] marks = refl
mark-length row (d ∷ p) marks = mark-length row p _ ∙ length-set marks _ 1

-- A directed side of a triangle is a side of the mesh.
pub has_side : (ts : List (Three ℕ)) (n : ℕ) → Sound ts n → (a b c : ℕ) → Has a b c ts → is_side (left_corner ts) (side_of (a ⟶ b)) ≡ true
unfolding is_side side_of
has_side ts n sound a b c h = by (dec_lt a b)
  where
    there : left_corner ts (a ⟶ b) ≡ some c
    there = has_left sound.single h

    or_right : (t : Bool) → (t || true) ≡ true
    or_right true = refl
    or_right false = refl

    by : Dec (a < b) → is_side (left_corner ts) (cond (ltb a b) (a ⟶ b) (b ⟶ a)) ≡ true
    by (yes l) = ap (λ t. is_side (left_corner ts) (cond t (a ⟶ b) (b ⟶ a))) (lt-ltb a b l) ∙ rising (lt-ltb a b l)
      where
        rising : ltb a b ≡ true → is_side (left_corner ts) (a ⟶ b) ≡ true
        rising e = rw (e, there)
    by (no l) = ap (λ t. is_side (left_corner ts) (cond t (a ⟶ b) (b ⟶ a))) (le-ltb a b (omega arith)) ∙ falling (lt-ltb b a (apart (omega arith) (sound.apart a b c h)))
      where
        falling : ltb b a ≡ true → is_side (left_corner ts) (b ⟶ a) ≡ true
        falling e = rw (e, there) (or_right (is_there (left_corner ts (b ⟶ a))))

        apart : b ≤ a → (a ≡ b → ⊥) → b < a
        apart k f = go (dec_lt b a)
          where
            go : Dec (b < a) → b < a
            go (yes m) = m
            go (no m) = absurd (f (omega arith))

module _ (ts : List (Three ℕ)) (n : ℕ) (sound : Sound ts n) (below : ℕ → Bool) (row : Row) (ordered : Ordered ts row) where
  abbrev left : Directed → Option ℕ
  left = left_corner ts

  abbrev m : ℕ
  m = row.count

  abbrev steps : ℕ
  steps = row.steps

  corner_has : (a b c : ℕ) → left (a ⟶ b) ≡ some c → Has a b c ts
  corner_has a b c e = left_has a b c ts e

  mesh-side : (a b c : ℕ) → Has a b c ts → is_side left (side_of (a ⟶ b)) ≡ true
  mesh-side a b c h = has_side ts n sound a b c h

  corner-side : (d : Directed) (c : ℕ) → left d ≡ some c → is_side left (side_of d) ≡ true
  corner-side (a ⟶ b) c e = mesh-side a b c (corner_has a b c e)

  -- The crossed sides, each once.
  abbrev all : List Directed
  all = crossed left below n

  in_all : (d : Directed) → count d all ≡ bit (is_side left d && is_crossed below d)
  in_all d = crossed_once ts n sound below d

  sorted : (u : Directed → Bool) → Sorted (unmarked u all)
  sorted u = unmarked-sorted u all (crossed-sorted left below n)

  -- An unmarked crossed side, and that it is among the unused ones.
  unused_there : (u : Directed → Bool) (d : Directed) → is_side left d ≡ true → is_crossed below d ≡ true → u d ≡ true → 0 < count d (unmarked u all)
  unused_there u d e f g = let c = unmarked-count u d all ∙ ap₂ (λ x y. bit x * y) g (in_all d ∙ ap bit (and_both e f)) in omega (arith, c)

  record Unused (u : Directed → Bool) (d : Directed) : Type 0 where
    is-side : is_side left d ≡ true
    is-crossed : is_crossed below d ≡ true
    is_unmarked : u d ≡ true

  there_unused : (u : Directed → Bool) (d : Directed) → 0 < count d (unmarked u all) → Unused u d
  there_unused u d h = by (u d) refl (is_side left d && is_crossed below d) refl (unmarked-count u d all ∙ ap (λ x. bit (u d) * x) (in_all d))
    where
      by : (t : Bool) → u d ≡ t → (s : Bool) → (is_side left d && is_crossed below d) ≡ s → count d (unmarked u all) ≡ bit (u d) * bit (is_side left d && is_crossed below d)
          → Unused u d
      by true e true f g = record { is-side = and_left (is_side left d) (is_crossed below d) f; is-crossed = and_right (is_side left d) (is_crossed below d) f; is_unmarked = e }
      by true e false f g = absurd (let k = g ∙ ap₂ (λ x y. bit x * bit y) e f in omega (arith, h, k))
      by false e s f g = absurd (let k = g ∙ ap₂ (λ x y. bit x * bit y) e f in omega (arith, h, k))

  -- ---- the sides of a line are sides of the mesh
  abbrev EachSide : List Directed → Type 0
  EachSide [] = Unit {0}
  EachSide (d ∷ p) = (is_side left (side_of d) ≡ true) × EachSide p

  each_append : (p q : List Directed) → EachSide p → EachSide q → EachSide (p ++ q)
  each_append [] q e f = f
  each_append (d ∷ p) q e f = (e.0, each_append p q e.1 f)

  next-side : (d y : Directed) → next left below d ≡ some y → is_side left (side_of y) ≡ true
  unfolding next
  next-side (a ⟶ b) y e = by (left (a ⟶ b)) refl e
    where
      by : (r : Option ℕ) → left (a ⟶ b) ≡ r → out below (a ⟶ b) r ≡ some y → is_side left (side_of y) ≡ true
      by none p q = absurd (none-ne-some y q)
      by (some c) p q = way (beq (below c) (below b)) (some-injective _ y q)
        where
          h : Has a b c ts
          h = corner_has a b c p

          way : (t : Bool) → cond t (a ⟶ c) (c ⟶ b) ≡ y → is_side left (side_of y) ≡ true
          way true r = ap (λ d. is_side left (side_of d)) (sym r) ∙ ap (is_side left) (sym (side-reversed (a ⟶ c))) ∙ mesh-side c a b (has_turned (has_turned h))
          way false r = ap (λ d. is_side left (side_of d)) (sym r) ∙ ap (is_side left) (sym (side-reversed (c ⟶ b))) ∙ mesh-side b c a (has_turned h)

  walk-sides : (s : Directed) (fuel : ℕ) (d : Directed) → EachSide (walk (next left below) s fuel d)
  unfolding walk
  walk-sides s zero d = tt
  walk-sides s (suc fuel) d = by (next left below d) refl (walk-sides s fuel)
    where
      by : (r : Option Directed) → next left below d ≡ r → ((y : Directed) → EachSide (walk (next left below) s fuel y))
          → EachSide (onward r s (walk (next left below) s fuel))
      by none e ih = tt
      by (some y) e ih = way (is_same y s)
        where
          way : (t : Bool) → EachSide (cond t [] (y ∷ walk (next left below) s fuel y))
          way true = tt
          way false = (next-side d y e, ih y)

  entry-side : (i : ℕ) → i < m → is_side left (side_of (row.entry i)) ≡ true
  entry-side i h = let c = ordered.entries i h in corner-side (row.entry i) c.0 c.1

  line-sides : (i : ℕ) → i < m → EachSide (line_from left row below i)
  line-sides i h = (entry-side i h, walk-sides (row.entry i) steps (row.entry i))

  -- ---- marks in the slice and marks of the definition
  abbrev Agree : List ℕ → (Directed → Bool) → Type 0
  Agree marks u = (d : Directed) → is_side left d ≡ true → eqb (get_or marks (row.place d) 0) 0 ≡ u d

  and-false : (t : Bool) → (t && false) ≡ false
  and-false true = refl
  and-false false = refl

  and-true : (t : Bool) → (t && true) ≡ t
  and-true true = refl
  and-true false = refl

  mark_one : (marks : List ℕ) (u : Directed → Bool) (e : Directed) → steps ≤ length marks → is_side left (side_of e) ≡ true → Agree marks u
      → Agree (set marks (row.place (side_of e)) 1) (λ x. u x && not (is_same (side_of e) x))
  mark_one marks u e h f a d g = by (tested (is_same (side_of e) d))
    where
      by : Tested (is_same (side_of e) d) → eqb (get_or (set marks (row.place (side_of e)) 1) (row.place d) 0) 0 ≡ (u d && not (is_same (side_of e) d))
      by (passes p) =
          let q = ap (λ x. row.place x) (same_is (side_of e) d p) in
          let w = ordered.placed (side_of e) f in
          ap (λ k. eqb (get_or (set marks (row.place (side_of e)) 1) k 0) 0) (sym q)
          ∙ ap (λ k. eqb k 0) (get_or-set_same marks (row.place (side_of e)) 1 0 (omega (arith, w, h)))
          ∙ sym (ap (λ t. u d && not t) p ∙ and-false (u d))
      by (fails p) =
          let q : row.place d ≡ row.place (side_of e) → ⊥ = λ r. not_same (side_of e) d p (sym (ordered.place-unique d (side_of e) g f r)) in
          ap (λ k. eqb k 0) (get_or-set_other marks (row.place (side_of e)) (row.place d) 1 0 q) ∙ a d g ∙ sym (ap (λ t. u d && not t) p ∙ and-true (u d))

  mark-agree : (p : List Directed) (marks : List ℕ) (u : Directed → Bool) → steps ≤ length marks → EachSide p → Agree marks u → Agree (mark_all row p marks) (marking u p)
  unfolding mark_all
  mark-agree [] marks u h s a = a
  mark-agree (e ∷ p) marks u h s a =
      mark-agree p (set marks (row.place (side_of e)) 1) (λ x. u x && not (is_same (side_of e) x)) (omega (arith, h, length-set marks (row.place (side_of e)) 1)) s.1
      (mark_one marks u e h s.0 a)

  -- ---- the starts
  -- What may start a line: the three tests.
  module _ (closed : Bool) (marks : List ℕ) (i : ℕ) where
    abbrev crosses : Bool
    crosses = is_crossed below (row.entry i)

    abbrev is_free : List ℕ → Bool
    is_free l = eqb (get_or l (row.place (side_of (row.entry i))) 0) 0

    start-crossed : starts closed left row below marks i ≡ true → crosses ≡ true
    unfolding starts
    start-crossed e = and_left crosses (is_free marks && may_start closed left (row.entry i)) e

    start-free : starts closed left row below marks i ≡ true → is_free marks ≡ true
    unfolding starts
    start-free e = and_left (is_free marks) (may_start closed left (row.entry i)) (and_right crosses (is_free marks && may_start closed left (row.entry i)) e)

    start-may : starts closed left row below marks i ≡ true → may_start closed left (row.entry i) ≡ true
    unfolding starts
    start-may e = and_right (is_free marks) (may_start closed left (row.entry i)) (and_right crosses (is_free marks && may_start closed left (row.entry i)) e)

    start_all : crosses ≡ true → is_free marks ≡ true → may_start closed left (row.entry i) ≡ true → starts closed left row below marks i ≡ true
    unfolding starts
    start_all e f g = and_both e (and_both f g)

    -- What starts a line with one mark more does so without it, and is not what is marked.
    free-less : (k : ℕ) → k < length marks → is_free (set marks k 1) ≡ true → (is_free marks ≡ true) × (row.place (side_of (row.entry i)) ≡ k → ⊥)
    free-less k h e = by (ℕ_discrete (row.place (side_of (row.entry i))) k)
      where
        by : Dec (row.place (side_of (row.entry i)) ≡ k) → (is_free marks ≡ true) × (row.place (side_of (row.entry i)) ≡ k → ⊥)
        by (yes q) = absurd (true≢false (sym e ∙ ap (λ j. eqb (get_or (set marks k 1) j 0) 0) q ∙ ap (λ x. eqb x 0) (get_or-set_same marks k 1 0 h)))
        by (no q) = (ap (λ x. eqb x 0) (sym (get_or-set_other marks k (row.place (side_of (row.entry i))) 1 0 q)) ∙ e, q)

  start-less : (closed : Bool) (i : ℕ) (p : List Directed) (marks : List ℕ) → steps ≤ length marks → EachSide p
      → starts closed left row below (mark_all row p marks) i ≡ true → starts closed left row below marks i ≡ true
  unfolding mark_all
  start-less closed i [] marks h s e = e
  start-less closed i (d ∷ p) marks h s e =
      let r = start-less closed i p (set marks (row.place (side_of d)) 1) (omega (arith, h, length-set marks (row.place (side_of d)) 1)) s.1 e in
      let w = ordered.placed (side_of d) s.0 in
      start_all closed marks i (start-crossed closed (set marks (row.place (side_of d)) 1) i r)
      (free-less closed marks i (row.place (side_of d)) (omega (arith, w, h)) (start-free closed (set marks (row.place (side_of d)) 1) i r)).0
      (start-may closed (set marks (row.place (side_of d)) 1) i r)

  -- A line's own start starts no other.
  start-used : (closed : Bool) (i : ℕ) → i < m → (marks : List ℕ) → steps ≤ length marks → starts closed left row below (mark_all row (line_from left row below i) marks) i ≡ true → ⊥
  unfolding mark_all
  start-used closed i h marks l e =
      let s = line-sides i h in
      let r = start-less closed i (walk (next left below) (row.entry i) steps (row.entry i)) (set marks (row.place (side_of (row.entry i))) 1)
      (omega (arith, l, length-set marks (row.place (side_of (row.entry i))) 1)) s.1 e in
      let w = ordered.placed (side_of (row.entry i)) s.0 in
      (free-less closed marks i (row.place (side_of (row.entry i))) (omega (arith, w, l)) (start-free closed (set marks (row.place (side_of (row.entry i))) 1) i r)).1 refl

  -- All entries before i can start no line of a kind.
  abbrev Past : Bool → List ℕ → ℕ → Type 0
  Past closed marks i = (j : ℕ) → j < i → starts closed left row below marks j ≡ true → ⊥

  past_more : (closed : Bool) (marks : List ℕ) (i : ℕ) (p : List Directed) → steps ≤ length marks → EachSide p → Past closed marks i → Past closed (mark_all row p marks) i
  past_more closed marks i p h s past j l e = past j l (start-less closed j p marks h s e)

  past-line : (closed : Bool) (marks : List ℕ) (i : ℕ) → i < m → steps ≤ length marks → Past closed marks i → Past closed (mark_all row (line_from left row below i) marks) (suc i)
  past-line closed marks i h l past j k e = by (ℕ_discrete j i)
    where
      by : Dec (j ≡ i) → ⊥
      by (yes q) = start-used closed i h marks l (subst (λ t. starts closed left row below (mark_all row (line_from left row below i) marks) t ≡ true) q e)
      by (no q) = past_more closed marks i (line_from left row below i) l (line-sides i h) past j (omega arith) e

  past-pass : (closed : Bool) (marks : List ℕ) (i : ℕ) → starts closed left row below marks i ≡ false → Past closed marks i → Past closed marks (suc i)
  past-pass closed marks i f past j k e = by (ℕ_discrete j i)
    where
      by : Dec (j ≡ i) → ⊥
      by (yes q) = true≢false (sym (subst (λ t. starts closed left row below marks t ≡ true) q e) ∙ f)
      by (no q) = past j (omega arith) e

  -- ---- hull sides
  -- A directed side with a triangle on its left and none on its right is the way in; and the way in is such a one.
  hull-inward : (s : Directed) (c : ℕ) → left s ≡ some c → left (reversed s) ≡ none → inward left (side_of s) ≡ some s
  unfolding inward
  hull-inward (a ⟶ b) c e f = by (side-cases (a ⟶ b))
    where
      by : (side_of (a ⟶ b) ≡ a ⟶ b) ⊎ (side_of (a ⟶ b) ≡ b ⟶ a) → inward left (side_of (a ⟶ b)) ≡ some (a ⟶ b)
      by (inl q) = ap (inward left) q ∙ ap₂ (inward_by (a ⟶ b)) e f
      by (inr q) = ap (inward left) q ∙ ap₂ (inward_by (b ⟶ a)) f e

  record Inward (d s : Directed) : Type 0 where
    corner : ℕ
    there : left s ≡ some corner
    alone : left (reversed s) ≡ none
    side : side_of s ≡ d

  inward-hull : (i j : ℕ) (s : Directed) → is_side left (i ⟶ j) ≡ true → inward left (i ⟶ j) ≡ some s → Inward (i ⟶ j) s
  unfolding inward is_side side_of
  inward-hull i j s e f = by (left (i ⟶ j)) (left (j ⟶ i)) refl refl (and_right (ltb i j) (is_there (left (i ⟶ j)) || is_there (left (j ⟶ i))) e) f
    where
      lt : ltb i j ≡ true
      lt = and_left (ltb i j) (is_there (left (i ⟶ j)) || is_there (left (j ⟶ i))) e

      by : (x y : Option ℕ) → left (i ⟶ j) ≡ x → left (j ⟶ i) ≡ y → (is_there x || is_there y) ≡ true → inward_by (i ⟶ j) x y ≡ some s → Inward (i ⟶ j) s
      by none none p q g r = absurd (true≢false (sym g))
      by none (some c) p q g r =
          let k : j ⟶ i ≡ s = some-injective (j ⟶ i) s r in
          subst (Inward (i ⟶ j)) k (record { corner = c; there = q; alone = p; side = rw (falls (ltb-true i j lt)) })
        where
          falls : i < j → ltb j i ≡ false
          falls h = le-ltb j i (omega arith)
      by (some c) none p q g r =
          let k : i ⟶ j ≡ s = some-injective (i ⟶ j) s r in
          subst (Inward (i ⟶ j)) k (record { corner = c; there = p; alone = q; side = rw lt })
      by (some c) (some k) p q g r = absurd (none-ne-some s r)

  -- ---- entries of directed sides
  entry-corner : (i : ℕ) → i < m → (c : ℕ) × (left (row.entry i) ≡ some c)
  entry-corner i h = ordered.entries i h

  -- The mark of an entry's side.
  entry_free : (marks : List ℕ) (u : Directed → Bool) (i : ℕ) (d : Directed) → Agree marks u → is_side left d ≡ true → side_of (row.entry i) ≡ d → is_free false marks i marks ≡ u d
  entry_free marks u i d a h e = ap (λ x. eqb (get_or marks (row.place x) 0) 0) e ∙ a d h

  entry-crosses : (i : ℕ) (d : Directed) → side_of (row.entry i) ≡ d → is_crossed below (row.entry i) ≡ is_crossed below d
  entry-crosses i d e = sym (crossed-side below (row.entry i)) ∙ ap (is_crossed below) e

  -- An unused hull side has an entry that starts an open line; an unused side that is no hull side has one that starts a closed line.
  record Starting (closed : Bool) (marks : List ℕ) (d : Directed) : Type 0 where
    at : ℕ
    within : at < m
    side : side_of (row.entry at) ≡ d
    ready : starts closed left row below marks at ≡ true

  open-start : (marks : List ℕ) (u : Directed → Bool) (d s : Directed) → Agree marks u → Unused u d → inward left d ≡ some s → Starting false marks d
  open-start marks u (i ⟶ j) s a f e =
      let w = inward-hull i j s f.is-side e in
      let k = ordered.hulls s w.corner w.there w.alone in
      let side = ap side_of k.2 ∙ w.side in
      record {
        at = k.0;
        within = k.1;
        side = side;
        ready =
            start_all false marks k.0 (entry-crosses k.0 (i ⟶ j) side ∙ f.is-crossed) (entry_free marks u k.0 (i ⟶ j) a f.is-side side ∙ f.is_unmarked)
            (ap (λ x. not (is_there (left (reversed x)))) k.2 ∙ ap (λ x. not (is_there x)) w.alone);
      }

  closed-start : (marks : List ℕ) (u : Directed → Bool) (d : Directed) → Agree marks u → Unused u d → inward left d ≡ none → Starting true marks d
  unfolding inward is_side side_of
  closed-start marks u (i ⟶ j) a f e = by (left (i ⟶ j)) (left (j ⟶ i)) refl refl e
    where
      lt : ltb i j ≡ true
      lt = and_left (ltb i j) (is_there (left (i ⟶ j)) || is_there (left (j ⟶ i))) f.is-side

      by : (x y : Option ℕ) → left (i ⟶ j) ≡ x → left (j ⟶ i) ≡ y → inward_by (i ⟶ j) x y ≡ none → Starting true marks (i ⟶ j)
      by none y p z r = absurd (none-ne-some (j ⟶ i) (sym r))
      by (some c) none p z r = absurd (none-ne-some (i ⟶ j) (sym r))
      by (some c) (some k) p z r =
          let q = ordered.inners i j c k (ltb-true i j lt) p z in
          let side = ap side_of q.2 ∙ rises in
          record {
            at = q.0;
            within = q.1;
            side = side;
            ready =
                start_all true marks q.0 (entry-crosses q.0 (i ⟶ j) side ∙ f.is-crossed) (entry_free marks u q.0 (i ⟶ j) a f.is-side side ∙ f.is_unmarked)
                (ap is_rising q.2 ∙ lt);
          }
        where
          rises : side_of (i ⟶ j) ≡ i ⟶ j
          rises = rw lt

  -- The side of an entry that starts a line is unused.
  start-unused : (closed : Bool) (marks : List ℕ) (u : Directed → Bool) (i : ℕ) → i < m → Agree marks u → starts closed left row below marks i ≡ true → Unused u (side_of (row.entry i))
  start-unused closed marks u i h a e =
      record {
        is-side = entry-side i h;
        is-crossed = crossed-side below (row.entry i) ∙ start-crossed closed marks i e;
        is_unmarked = sym (a (side_of (row.entry i)) (entry-side i h)) ∙ start-free closed marks i e;
      }

  -- It is the lowest, where no entry before it can start a line.
  start-least : (closed : Bool) (marks : List ℕ) (i : ℕ) → i < m → Past closed marks i → (d : Directed) → Starting closed marks d
      → (d ≡ side_of (row.entry i)) ⊎ Before (side_of (row.entry i)) d
  start-least closed marks i h past d s = by (dec_lt s.at i)
    where
      by : Dec (s.at < i) → (d ≡ side_of (row.entry i)) ⊎ Before (side_of (row.entry i)) d
      by (yes l) = absurd (past s.at l s.ready)
      by (no l) = subst (λ x. (x ≡ side_of (row.entry i)) ⊎ Before (side_of (row.entry i)) x) s.side (ordered.in_order i s.at (omega arith) s.within)

  -- ---- the pass for open lines
  record Opened (marks : List ℕ) (u : Directed → Bool) (fuel : ℕ) (ls : List Line) : Type 0 where
    is : ls ≡ open_lines left below steps fuel (unmarked u all)
    sides : EachSide (passed ls)
    past : Past false (mark_all row (passed ls) marks) m

  -- No hull side is unused where no entry can start an open line.
  no_hull : (marks : List ℕ) (u : Directed → Bool) → Agree marks u → Past false marks m → (d : Directed) → 0 < count d (unmarked u all) → inward left d ≡ none
  no_hull marks u a past d h = by (inward left d) refl
    where
      by : (r : Option Directed) → inward left d ≡ r → inward left d ≡ none
      by none e = e
      by (some s) e = let k = open-start marks u d s a (there_unused u d h) e in absurd (past k.at k.within k.ready)

  open_none : (fuel : ℕ) (marks : List ℕ) (u : Directed → Bool) → Agree marks u → Past false marks m → open_lines left below steps fuel (unmarked u all) ≡ []
  unfolding open_lines
  open_none zero marks u a past = refl
  open_none (suc fuel) marks u a past = open-end left below steps fuel (unmarked u all) (no_hull marks u a past)

  open_one : (marks : List ℕ) (u : Directed → Bool) (i fuel : ℕ) → i < m → Agree marks u → Past false marks i → starts false left row below marks i ≡ true
      → open_lines left below steps (suc fuel) (unmarked u all) ≡ line false (line_from left row below i) ∷ open_lines left below steps fuel (unmarked (marking u (line_from left row below i)) all)
  open_one marks u i fuel h a past e =
      let f = start-unused false marks u i h a e in
      let c = entry-corner i h in
      let alone = missing (left (reversed (row.entry i))) (start-may false marks i e) in
      let w = hull-inward (row.entry i) c.0 c.1 alone in
      open_turn left below steps fuel (unmarked u all) (side_of (row.entry i)) (row.entry i) (sorted u)
      (record {
        there = unused_there u (side_of (row.entry i)) f.is-side f.is-crossed f.is_unmarked;
        has = λ q. none-ne-some (row.entry i) (sym q ∙ w);
        least = λ d t hull. start-least false marks i h past d (hull-start d t hull);
      }) w
      ∙ ap (λ t. line false (line_from left row below i) ∷ open_lines left below steps fuel t) (strike-marks (line_from left row below i) u all (crossed-sorted left below n))
    where
      missing : (r : Option ℕ) → not (is_there r) ≡ true → r ≡ none
      missing none q = refl
      missing (some c) q = absurd (true≢false (sym q))

      hull-start : (d : Directed) → 0 < count d (unmarked u all) → IsHull left d → Starting false marks d
      hull-start d t hull = by (inward left d) refl
        where
          by : (r : Option Directed) → inward left d ≡ r → Starting false marks d
          by none q = absurd (hull q)
          by (some s) q = open-start marks u d s a (there_unused u d t) q

  open-pass : (k i fuel : ℕ) (marks : List ℕ) (u : Directed → Bool) → i + k ≡ m → k ≤ fuel → steps ≤ length marks → Agree marks u → Past false marks i
      → Opened marks u fuel (scan false left row below marks i k)
  unfolding scan passed mark_all
  open-pass zero i fuel marks u e h l a past =
      let q : i ≡ m = omega (arith, e) in
      let done = subst (Past false marks) q past in
      record { is = sym (open_none fuel marks u a done); sides = tt; past = done }
  open-pass (suc k) i zero marks u e h l a past = absurd (omega arith)
  open-pass (suc k) i (suc fuel) marks u e h l a past = by (tested (starts false left row below marks i)) (open-pass k (suc i))
    where
      il : i < m
      il = omega (arith, e)

      p : List Directed
      p = line_from left row below i

      by : Tested (starts false left row below marks i)
          → ((fuel : ℕ) (marks : List ℕ) (u : Directed → Bool) → suc i + k ≡ m → k ≤ fuel → steps ≤ length marks → Agree marks u → Past false marks (suc i)
          → Opened marks u fuel (scan false left row below marks (suc i) k))
          → Opened marks u (suc fuel) (cond (starts false left row below marks i) (line false p ∷ scan false left row below (mark_all row p marks) (suc i) k) (scan false left row below marks (suc i) k))
      by (passes t) go =
          rw t
          (let r = go fuel (mark_all row p marks) (marking u p) (omega (arith, e)) (omega arith) (omega (arith, l, mark-length row p marks))
          (mark-agree p marks u l (line-sides i il) a) (past-line false marks i il l past) in
          record {
            is = ap (λ t. line false p ∷ t) r.is ∙ sym (open_one marks u i fuel il a past t);
            sides = each_append p _ (line-sides i il) r.sides;
            past = subst (λ t. Past false t m) (sym (mark-append row p _ marks)) r.past;
          })
      by (fails t) go = rw t (go (suc fuel) marks u (omega (arith, e)) (omega arith) l a (past-pass false marks i t past))

  -- ---- the pass for closed lines
  no_side : (marks : List ℕ) (u : Directed → Bool) → Agree marks u → Past false marks m → Past true marks m → (d : Directed) → 0 < count d (unmarked u all) → ⊥
  no_side marks u a hulls past d h =
      let k = closed-start marks u d a (there_unused u d h) (no_hull marks u a hulls d h) in
      past k.at k.within k.ready

  closed_none : (fuel : ℕ) (marks : List ℕ) (u : Directed → Bool) → Agree marks u → Past false marks m → Past true marks m → closed_lines left below steps fuel (unmarked u all) ≡ []
  unfolding closed_lines
  closed_none zero marks u a hulls past = refl
  closed_none (suc fuel) marks u a hulls past = closed-end left below steps fuel (unmarked u all) (no_side marks u a hulls past)

  closed_one : (marks : List ℕ) (u : Directed → Bool) (i fuel : ℕ) → i < m → Agree marks u → Past false marks m → Past true marks i → starts true left row below marks i ≡ true
      → closed_lines left below steps (suc fuel) (unmarked u all) ≡ line true (line_from left row below i) ∷ closed_lines left below steps fuel (unmarked (marking u (line_from left row below i)) all)
  closed_one marks u i fuel h a hulls past e =
      let f = start-unused true marks u i h a e in
      let runs = side-rising (row.entry i) (start-may true marks i e) in
      closed-turn left below steps fuel (unmarked u all) (row.entry i) (sorted u)
      (subst (Lowest AnySide (unmarked u all)) runs
      (record {
        there = unused_there u (side_of (row.entry i)) f.is-side f.is-crossed f.is_unmarked;
        has = tt;
        least = λ d t any. start-least true marks i h past d (closed-start marks u d a (there_unused u d t) (no_hull marks u a hulls d t));
      }))
      ∙ ap (λ t. line true (line_from left row below i) ∷ closed_lines left below steps fuel t) (strike-marks (line_from left row below i) u all (crossed-sorted left below n))

  closed-pass : (k i fuel : ℕ) (marks : List ℕ) (u : Directed → Bool) → i + k ≡ m → k ≤ fuel → steps ≤ length marks → Agree marks u → Past false marks m → Past true marks i
      → scan true left row below marks i k ≡ closed_lines left below steps fuel (unmarked u all)
  unfolding scan
  closed-pass zero i fuel marks u e h l a hulls past = let q : i ≡ m = omega (arith, e) in sym (closed_none fuel marks u a hulls (subst (Past true marks) q past))
  closed-pass (suc k) i zero marks u e h l a hulls past = absurd (omega arith)
  closed-pass (suc k) i (suc fuel) marks u e h l a hulls past = by (tested (starts true left row below marks i)) (closed-pass k (suc i))
    where
      il : i < m
      il = omega (arith, e)

      p : List Directed
      p = line_from left row below i

      by : Tested (starts true left row below marks i)
          → ((fuel : ℕ) (marks : List ℕ) (u : Directed → Bool) → suc i + k ≡ m → k ≤ fuel → steps ≤ length marks → Agree marks u → Past false marks m → Past true marks (suc i)
          → scan true left row below marks (suc i) k ≡ closed_lines left below steps fuel (unmarked u all))
          → cond (starts true left row below marks i) (line true p ∷ scan true left row below (mark_all row p marks) (suc i) k) (scan true left row below marks (suc i) k)
          ≡ closed_lines left below steps (suc fuel) (unmarked u all)
      by (passes t) go =
          rw t
          (ap (λ t. line true p ∷ t)
          (go fuel (mark_all row p marks) (marking u p) (omega (arith, e)) (omega arith) (omega (arith, l, mark-length row p marks)) (mark-agree p marks u l (line-sides i il) a)
          (past_more false marks m p l (line-sides i il) hulls) (past-line true marks i il l past))
          ∙ sym (closed_one marks u i fuel il a hulls past t))
      by (fails t) go = rw t (go (suc fuel) marks u (omega (arith, e)) (omega arith) l a hulls (past-pass true marks i t past))

  -- ---- both passes
  -- No mark, and nothing is met.
  zero-at : (k i : ℕ) → get_or (no_marks k) i 0 ≡ 0
  zero-at zero i = refl
  zero-at (suc k) zero = refl
  zero-at (suc k) (suc i) = zero-at k i

  unmarked-length : (k : ℕ) → length (no_marks k) ≡ k
  unmarked-length zero = refl
  unmarked-length (suc k) = ap suc (unmarked-length k)

  -- The lines by the two passes are the lines of the page.
  pub scanned-lines : (room : ℕ) → steps ≤ room → scanned left row below (no_marks room) ≡ lines ts below n
  unfolding scanned lines lines_over
  scanned-lines room h =
      ap₂ ◌++◌ (o.is ∙ ap (open_lines left below steps steps) (unmarked_all all)) closes
      ∙ ap (λ (k : ℕ). lines_over left below k (crossed left below n)) ordered.steps-are
    where
      none_marked : Agree (no_marks room) (λ d. true)
      none_marked d s = ap (λ k. eqb k 0) (zero-at room (row.place d))

      long : steps ≤ length (no_marks room)
      long = omega (arith, h, unmarked-length room)

      o : Opened (no_marks room) (λ d. true) steps (scan false left row below (no_marks room) 0 m)
      o = open-pass m 0 steps (no_marks room) (λ d. true) (omega arith) ordered.few long none_marked (λ j k e. absurd (omega arith))

      opens : List Line
      opens = scan false left row below (no_marks room) 0 m

      opens-are : opens ≡ open_lines left below steps steps all
      opens-are = o.is ∙ ap (open_lines left below steps steps) (unmarked_all all)

      closes : scan true left row below (mark_all row (passed opens) (no_marks room)) 0 m ≡ closed_lines left below steps steps (strike (passed (open_lines left below steps steps all)) all)
      closes =
          closed-pass m 0 steps (mark_all row (passed opens) (no_marks room)) (marking (λ d. true) (passed opens)) (omega arith) ordered.few
          (omega (arith, long, mark-length row (passed opens) (no_marks room))) (mark-agree (passed opens) (no_marks room) (λ d. true) long o.sides none_marked) o.past
          (λ j k e. absurd (omega arith))
          ∙ ap (closed_lines left below steps steps)
          (sym (strike-marks (passed opens) (λ d. true) all (crossed-sorted left below n))
          ∙ ap₂ (λ p l. strike p l) (ap passed opens-are) (unmarked_all all))
