-- All lines of a level, open ones and then closed ones: they follow the rule and take each unused crossed side once. Assumes nothing.
--
-- The unused sides stay even, proper and in order from line to line, and each line takes one at least. When no hull side is left the
-- open lines are done; when no side is left all are.
use Prim.Native.Nat.{ℕ, zero, suc, ◌+◌, ◌≤◌, ◌<◌}
use native.Mathlib.Omega.{arith}
use mathlib.Core.Path.{◌≡◌, refl, sym, ◌∙◌, ap, subst}
use mathlib.Core.Bool.{Bool, true, false}
use mathlib.Core.Option.{Option, none, some}
use mathlib.Core.List.{List, [], ◌∷◌, ◌++◌, map, append_assoc, map-append}
use lib.ListN.{length, length-append, length-map}
use Rattle.trace.specs.Side.{Directed, side_of, inward}
use Rattle.trace.specs.Lines.{remove, strike, first_hull, Line, line, open_from, open_lines, closed_lines, passed, lines_over, vertices}
use Rattle.trace.specs.Walk.{next, path}
use Rattle.trace.specs.Mesh.{count}
use Rattle.trace.specs.Rule.{Lowest, IsHull, Opens, no_hull, opened, Closes, none_left, closed, Rule}
use Rattle.trace.proofs.CountLaws.{count_none, count_head, count-append}
use Rattle.trace.proofs.StepLaws.{Mesh}
use Rattle.trace.proofs.WalkLaws.{Even}
use Rattle.trace.proofs.OrderLaws.{Sorted, strike-less, strike-sorted, head-lowest, first_lowest, first_none}
use Rattle.trace.proofs.StartLaws.{Proper, edge, inner, inward-some, inner-enters}
use Rattle.trace.proofs.LineLaws.{Good, Drawn, drawn}

-- Every line is good.
abbrev pub All : (Directed → Option ℕ) → (ℕ → Bool) → List Line → Type 0
All left below [] = Unit {0}
All left below (l ∷ ls) = Good left below l × All left below ls

-- What tracing the lines ls over the unused sides l comes to; m is what is left.
pub record Traced (left : Directed → Option ℕ) (below : ℕ → Bool) (l : List Directed) (ls : List Line) (m : List Directed) : Type 0 where
  pub good : All left below ls
  pub once : (d : Directed) → count d l ≡ count d (vertices ls) + count d m
  pub size : length l ≡ length (vertices ls) + length m
  pub even : Even (next left below) below true m

-- ---- lists of lines
pub strike-append : (p q l : List Directed) → strike (p ++ q) l ≡ strike q (strike p l)
unfolding strike
strike-append [] q l = refl
strike-append (d ∷ p) q l = strike-append p q (remove (side_of d) l)

pub vertices-cons : (c : Bool) (p : List Directed) (ls : List Line) → vertices (line c p ∷ ls) ≡ map side_of p ++ vertices ls
unfolding vertices passed
vertices-cons c p ls = map-append side_of p (passed ls)

pub passed-append : (ls ms : List Line) → passed (ls ++ ms) ≡ passed ls ++ passed ms
unfolding passed
passed-append [] ms = refl
passed-append (line c p ∷ ls) ms = ap (λ q. p ++ q) (passed-append ls ms) ∙ sym (append_assoc p (passed ls) (passed ms))

pub vertices-append : (ls ms : List Line) → vertices (ls ++ ms) ≡ vertices ls ++ vertices ms
unfolding vertices
vertices-append ls ms = ap (map side_of) (passed-append ls ms) ∙ map-append side_of (passed ls) (passed ms)

all_append : (left : Directed → Option ℕ) (below : ℕ → Bool) (ls ms : List Line) → All left below ls → All left below ms → All left below (ls ++ ms)
all_append left below [] ms g h = h
all_append left below (l ∷ ls) ms g h = (g.0, all_append left below ls ms g.1 h)

module _ (left : Directed → Option ℕ) (below : ℕ → Bool) (mesh : Mesh left) where
  -- One line more, before what holds of the others.
  one_more : {c : Bool} {s : Directed} {fuel : ℕ} {l m : List Directed} {ls : List Line} → Drawn left below mesh c s fuel l
      → Traced left below (strike (path (next left below) fuel s) l) ls m → Traced left below l (line c (path (next left below) fuel s) ∷ ls) m
  one_more {c} {s} {fuel} {l} {m} {ls} w t =
      record {
        good = (w.is_good, t.good);
        once = λ d. rw (vertices-cons c (path (next left below) fuel s) ls)
            (omega (arith, count-append d (map side_of (path (next left below) fuel s)) (vertices ls), w.once d, t.once d));
        size = rw (vertices-cons c (path (next left below) fuel s) ls)
            (omega (arith, length-append (map side_of (path (next left below) fuel s)) (vertices ls), length-map (path (next left below) fuel s) side_of, w.size, t.size));
        even = t.even;
      }

  nothing : (l : List Directed) → Even (next left below) below true l → Traced left below l [] l
  unfolding vertices passed count
  nothing l ev = record { good = tt; once = λ d. omega arith; size = omega arith; even = ev }

  -- What the unused sides are like.
  pub record Unused (fuel k : ℕ) (l : List Directed) : Type 0 where
    pub even : Even (next left below) below true l
    pub proper : Proper left below l
    pub sorted : Sorted l
    pub short : length l ≤ fuel
    pub few : length l ≤ k

  -- They are so after a line too.
  unused-less : {c : Bool} {s : Directed} {fuel k : ℕ} {l : List Directed} → Drawn left below mesh c s fuel l → Unused fuel (suc k) l
      → Unused fuel k (strike (path (next left below) fuel s) l)
  unused-less {c} {s} {fuel} {k} {l} w u =
      record {
        even = w.even;
        proper = λ d h. u.proper d (omega (arith, strike-less d (path (next left below) fuel s) l));
        sorted = strike-sorted (path (next left below) fuel s) l u.sorted;
        short = omega (arith, w.size, u.short);
        few = omega (arith, w.size, u.few);
      }

  no_length : (l : List Directed) → length l ≤ 0 → l ≡ []
  no_length [] h = refl
  no_length (x ∷ l) h = absurd (omega arith)

  -- ---- the open lines
  abbrev OpenTraced : List Directed → List Line → Type 0
  OpenTraced l ls = Opens left below l ls (strike (passed ls) l) × Traced left below l ls (strike (passed ls) l)

  open-traced : (fuel k : ℕ) (l : List Directed) → Unused fuel k l → OpenTraced l (open_lines left below fuel k l)
  unfolding open_lines passed strike
  open-traced fuel zero l u = (no_hull {l = l} (λ d h. absurd (count_none d (rw (no_length l u.few) at h))), nothing l u.even)
  open-traced fuel (suc k) l u = by (first_hull left l) refl (open-traced fuel k)
    where
      by : (f : Option Directed) → first_hull left l ≡ f → ((m : List Directed) → Unused fuel k m → OpenTraced m (open_lines left below fuel k m))
          → OpenTraced l (open_from f (next left below) fuel l (open_lines left below fuel k))
      by none e ih = (no_hull (first_none left l e), nothing l u.even)
      by (some s) e ih = subst Goal (sym (strike-append p (passed ls) l)) (opened low.1 low.2 w.walk_is rest.0, one_more w rest.1)
        where
          p : List Directed
          p = path (next left below) fuel s

          ls : List Line
          ls = open_lines left below fuel k (strike p l)

          Goal : List Directed → Type 0
          Goal m = Opens left below l (line false p ∷ ls) m × Traced left below l (line false p ∷ ls) m

          low : (d : Directed) × Lowest (IsHull left) l d × (inward left d ≡ some s)
          low = first_lowest left l s u.sorted e

          w : Drawn left below mesh false s fuel l
          w =
              let i = inward-some left below l low.0 s (u.proper low.0 low.1.there) low.1.there low.2 in
              drawn left below mesh false s fuel l i.0 (edge i.1) u.even u.short

          rest : OpenTraced (strike p l) ls
          rest = ih (strike p l) (unused-less w u)

  -- No hull side is left.
  opens_none : {l m : List Directed} {ls : List Line} → Opens left below l ls m → (d : Directed) → 0 < count d m → inward left d ≡ none
  opens_none (no_hull f) d h = f d h
  opens_none (opened a b c r) d h = opens_none r d h

  -- ---- the closed lines
  closed-traced : (fuel k : ℕ) (l : List Directed) → ((d : Directed) → 0 < count d l → inward left d ≡ none) → Unused fuel k l
      → Closes left below l (closed_lines left below fuel k l) × Traced left below l (closed_lines left below fuel k l) []
  unfolding closed_lines
  closed-traced fuel zero [] f u = (none_left, nothing [] u.even)
  closed-traced fuel zero (x ∷ l) f u = absurd (omega (arith, u.few))
  closed-traced fuel (suc k) [] f u = (none_left, nothing [] u.even)
  closed-traced fuel (suc k) (s ∷ l) f u =
      let p = path (next left below) fuel s in
      let h = closed-traced fuel k (strike p (s ∷ l)) (λ d g. f d (omega (arith, strike-less d p (s ∷ l)))) (unused-less w u) in
      (closed (head-lowest s l u.sorted) w.walk_is h.0, one_more w h.1)
    where
      w : Drawn left below mesh true s fuel (s ∷ l)
      w =
          let x = u.proper s (count_head s l) in
          drawn left below mesh true s fuel (s ∷ l) (inner-enters left below (s ∷ l) s x (count_head s l) (f s (count_head s l))) (inner x.low f) u.even u.short

  -- ---- all lines
  both : {l m r : List Directed} {ls ms : List Line} → Traced left below l ls m → Traced left below m ms r → Traced left below l (ls ++ ms) r
  both {ls = ls} {ms = ms} t u =
      record {
        good = all_append left below ls ms t.good u.good;
        once = λ d. rw (vertices-append ls ms) (omega (arith, count-append d (vertices ls) (vertices ms), t.once d, u.once d));
        size = rw (vertices-append ls ms) (omega (arith, length-append (vertices ls) (vertices ms), t.size, u.size));
        even = u.even;
      }

  pub lines-traced : (fuel : ℕ) (l : List Directed) → Unused fuel fuel l
      → Rule left below l (lines_over left below fuel l) × Traced left below l (lines_over left below fuel l) []
  unfolding lines_over
  lines-traced fuel l u = (
    record { opens = opens; closes = closed_lines left below fuel fuel rest; rest = rest; whole = refl; open_first = o.0; closed_then = c.0 },
    both o.1 c.1,
  )
    where
      opens : List Line
      opens = open_lines left below fuel fuel l

      rest : List Directed
      rest = strike (passed opens) l

      o : OpenTraced l opens
      o = open-traced fuel fuel l u

      left_over : Unused fuel fuel rest
      left_over =
          record {
            even = o.1.even;
            proper = λ d h. u.proper d (omega (arith, strike-less d (passed opens) l));
            sorted = strike-sorted (passed opens) l u.sorted;
            short = omega (arith, o.1.size, u.short);
            few = omega (arith, o.1.size, u.few);
          }

      c : Closes left below rest (closed_lines left below fuel fuel rest) × Traced left below rest (closed_lines left below fuel fuel rest) []
      c = closed-traced fuel fuel rest (opens_none o.0) left_over
