-- The definitions one turn of a loop at a time: a search that finds the lowest side finds the start of the next line, and to strike
-- a line out is to mark its sides. Assumes nothing.
--
-- A loop that traces lines holds marks u; its unused sides are `unmarked u (crossed left below n)`, which are in order. What it has
-- written, and the lines over these, are all the lines.
use Prim.Native.Nat.{ℕ, suc, ◌+◌, ◌*◌, ◌<◌}
use native.Mathlib.Omega.{arith}
use mathlib.Core.Path.{◌≡◌, refl, sym, ◌∙◌, ap}
use mathlib.Core.Bool.{Bool, true, false, cond, not, ◌&&◌}
use mathlib.Core.Option.{Option, none, some}
use mathlib.Core.List.{List, [], ◌∷◌, ◌++◌}
use Rattle.trace.specs.Side.{Directed, bit, is_same, side_of, inward}
use Rattle.trace.specs.Lines.{remove, strike, first_hull, line, open_lines, closed_lines}
use Rattle.trace.specs.Walk.{next, path}
use Rattle.tracing.specs.Marks.{unmarked, marking}
use Rattle.trace.specs.Mesh.{count}
use Rattle.trace.specs.Rule.{Lowest, IsHull, AnySide}
use Rattle.trace.proofs.CountLaws.{Tested, passes, fails, tested, same_is, same_not, count_none, count_head, count-later}
use Rattle.trace.proofs.OrderLaws.{before_self, Sorted, none_left, least, head-lowest, first_lowest, first_none}
use Rattle.trace.proofs.OnlyLaws.{lowest-unique}

-- ---- marks
-- With no mark all are unused.
pub unmarked_all : (l : List Directed) → unmarked (λ d. true) l ≡ l
unfolding unmarked
unmarked_all [] = refl
unmarked_all (x ∷ l) = ap (λ m. x ∷ m) (unmarked_all l)

-- A side stands among the unmarked ones as often as in the list, or not at all.
pub unmarked-count : (u : Directed → Bool) (d : Directed) (l : List Directed) → count d (unmarked u l) ≡ bit (u d) * count d l
unfolding unmarked count
unmarked-count u d [] = omega arith
unmarked-count u d (x ∷ l) = by (tested (u x)) (tested (is_same d x)) (unmarked-count u d l)
  where
    by : Tested (u x) → Tested (is_same d x) → count d (unmarked u l) ≡ bit (u d) * count d l
        → count d (cond (u x) (x ∷ unmarked u l) (unmarked u l)) ≡ bit (u d) * (bit (is_same d x) + count d l)
    by (passes p) (passes q) ih = let e = same_is d x q in let f : u d ≡ true = cc in rw p (rw (f, q) (omega (arith, rw f at ih)))
    by (fails p) (passes q) ih = let e = same_is d x q in let f : u d ≡ false = cc in rw p (rw f (omega (arith, rw f at ih)))
    by (passes p) (fails q) ih = rw (p, q) (omega (arith, ih))
    by (fails p) (fails q) ih = rw (p, q) (omega (arith, ih))

-- What is unmarked stays in order.
pub unmarked-sorted : (u : Directed → Bool) (l : List Directed) → Sorted l → Sorted (unmarked u l)
unfolding unmarked
unmarked-sorted u [] none_left = none_left
unmarked-sorted u (x ∷ l) (least f s) = by (u x) (unmarked-sorted u l s)
  where
    by : (t : Bool) → Sorted (unmarked u l) → Sorted (cond t (x ∷ unmarked u l) (unmarked u l))
    by true ih = least (λ d (h : 0 < count d (unmarked u l)). f d (there d h)) ih
      where
        there : (d : Directed) → 0 < count d (unmarked u l) → 0 < count d l
        there d h = way (u d) (count d l) (rw (unmarked-count u d l) at h)
          where
            way : (t : Bool) (k : ℕ) → 0 < bit t * k → 0 < k
            way true k h = omega arith
            way false k h = absurd (omega arith)
    by false ih = ih

-- Marks that agree on a list leave the same of it.
unmarked_same : (u v : Directed → Bool) (l : List Directed) → ((d : Directed) → 0 < count d l → u d ≡ v d) → unmarked u l ≡ unmarked v l
unfolding unmarked
unmarked_same u v [] f = refl
unmarked_same u v (x ∷ l) f = rw (f x (count_head x l), unmarked_same u v l (λ d h. f d (count-later d x l h)))

-- To take one out is to mark it.
remove-marks : (y : Directed) (u : Directed → Bool) (l : List Directed) → Sorted l → remove y (unmarked u l) ≡ unmarked (λ d. u d && not (is_same y d)) l
unfolding unmarked remove
remove-marks y u [] none_left = refl
remove-marks y u (x ∷ l) (least f s) = by (tested (u x)) (tested (is_same y x)) (remove-marks y u l s)
  where
    and-true : (t : Bool) → t ≡ (t && true)
    and-true true = refl
    and-true false = refl

    others : y ≡ x → (d : Directed) → 0 < count d l → u d ≡ (u d && not (is_same y d))
    others q d h = rw (same_not y d (λ r. before_self x d (f d h) (sym q ∙ r))) (and-true (u d))

    by : Tested (u x) → Tested (is_same y x) → remove y (unmarked u l) ≡ unmarked (λ d. u d && not (is_same y d)) l
        → remove y (cond (u x) (x ∷ unmarked u l) (unmarked u l))
        ≡ cond (u x && not (is_same y x)) (x ∷ unmarked (λ d. u d && not (is_same y d)) l) (unmarked (λ d. u d && not (is_same y d)) l)
    by (fails p) q ih = rw p ih
    by (passes p) (passes q) ih = rw (p, q) (unmarked_same u _ l (others (same_is y x q)))
    by (passes p) (fails q) ih = rw (p, q) (ap (λ t. x ∷ t) ih)

-- To strike out a line is to mark its sides.
pub strike-marks : (p : List Directed) (u : Directed → Bool) (l : List Directed) → Sorted l → strike p (unmarked u l) ≡ unmarked (marking u p) l
unfolding strike
strike-marks [] u l s = refl
strike-marks (d ∷ p) u l s = rw (remove-marks (side_of d) u l s) (strike-marks p _ l s)

-- Marking line after line is marking all their sides.
pub marking-append : (u : Directed → Bool) (p q : List Directed) → marking (marking u p) q ≡ marking u (p ++ q)
marking-append u [] q = refl
marking-append u (d ∷ p) q = marking-append (λ x. u x && not (is_same (side_of d) x)) p q

-- ---- the search for a start
-- The lowest hull side of a list in order is the first; where there is none, none is first.
pub hull_first : (left : Directed → Option ℕ) (l : List Directed) (e s : Directed) → Sorted l → Lowest (IsHull left) l e → inward left e ≡ some s
    → first_hull left l ≡ some s
hull_first left l e s so low i = by (first_hull left l) refl
  where
    by : (m : Option Directed) → first_hull left l ≡ m → first_hull left l ≡ some s
    by none q = absurd (low.has (first_none left l q e low.there))
    by (some t) q =
        let r = first_lowest left l t so q in
        let h = lowest-unique r.0 e r.1 low in
        q ∙ sym r.2 ∙ ap (inward left) h ∙ i

pub hull_none : (left : Directed → Option ℕ) (l : List Directed) → ((d : Directed) → 0 < count d l → inward left d ≡ none) → first_hull left l ≡ none
unfolding first_hull
hull_none left [] f = refl
hull_none left (x ∷ l) f = rw (f x (count_head x l)) (hull_none left l (λ d h. f d (count-later d x l h)))

-- The lowest side of a list in order is its first.
pub side_first : (l : List Directed) (s : Directed) → Sorted l → Lowest AnySide l s → (m : List Directed) × (l ≡ s ∷ m)
side_first [] s so low = absurd (count_none s low.there)
side_first (x ∷ l) s so low = (l, ap (λ y. y ∷ l) (lowest-unique x s (head-lowest x l so) low))

no_side : (l : List Directed) → ((d : Directed) → 0 < count d l → ⊥) → l ≡ []
no_side [] f = refl
no_side (x ∷ l) f = absurd (f x (count_head x l))

-- ---- one turn
module _ (left : Directed → Option ℕ) (below : ℕ → Bool) (fuel k : ℕ) (l : List Directed) where
  abbrev follow : Directed → Option Directed
  follow = next left below

  pub open_turn : (e s : Directed) → Sorted l → Lowest (IsHull left) l e → inward left e ≡ some s
      → open_lines left below fuel (suc k) l ≡ line false (path follow fuel s) ∷ open_lines left below fuel k (strike (path follow fuel s) l)
  unfolding open_lines
  open_turn e s so low i = rw (hull_first left l e s so low i)

  pub open-end : ((d : Directed) → 0 < count d l → inward left d ≡ none) → open_lines left below fuel (suc k) l ≡ []
  unfolding open_lines
  open-end f = rw (hull_none left l f)

  pub closed-turn : (s : Directed) → Sorted l → Lowest AnySide l s
      → closed_lines left below fuel (suc k) l ≡ line true (path follow fuel s) ∷ closed_lines left below fuel k (strike (path follow fuel s) l)
  unfolding closed_lines
  closed-turn s so low = rw (side_first l s so low).1

  pub closed-end : ((d : Directed) → 0 < count d l → ⊥) → closed_lines left below fuel (suc k) l ≡ []
  unfolding closed_lines
  closed-end f = rw (no_side l f)
