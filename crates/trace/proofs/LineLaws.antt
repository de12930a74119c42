-- One line from its start: an open one goes from hull side to hull side, a closed one comes round; each takes its sides once. Assumes
-- nothing.
use Prim.Native.Nat.{ℕ, suc, ◌+◌, ◌≤◌}
use native.Mathlib.Omega.{arith}
use mathlib.Core.Path.{◌≡◌, refl}
use mathlib.Core.Bool.{Bool, true, false}
use mathlib.Core.Option.{Option, none, some}
use mathlib.Core.List.{List, [], ◌∷◌, map}
use lib.ListN.{length}
use Rattle.trace.specs.Side.{Directed, reversed, side_of}
use Rattle.trace.specs.Lines.{remove, strike, Line, line}
use Rattle.trace.specs.Walk.{next, walk, path}
use Rattle.trace.specs.Mesh.{count}
use Rattle.trace.specs.Rule.{Walk, hull, round, on}
use Rattle.trace.specs.Promise.{last_of}
use Rattle.trace.proofs.CountLaws.{count-remove, length-remove}
use Rattle.trace.proofs.StepLaws.{Runs, Mesh, no_back, none_next}
use Rattle.trace.proofs.WalkLaws.{Even, Walked, walked}
use Rattle.trace.proofs.StartLaws.{Enters, Fit, edge, inner, even_any, begun, kind}

-- Each side of a line leads to the next.
abbrev pub Links : (Directed → Option Directed) → Directed → List Directed → Type 0
Links follow d [] = Unit {0}
Links follow d (y ∷ p) = (follow d ≡ some y) × Links follow y p

-- An open line starts and ends on hull sides and has two sides or more; a closed one starts as its first side runs, comes round, and
-- has three or more.
pub data Good (left : Directed → Option ℕ) (below : ℕ → Bool) : Line → Type 0 where
  good-open : {s : Directed} {p : List Directed} → left (reversed s) ≡ none → left (last_of s p) ≡ none → 1 ≤ length p → Links (next left below) s p
      → Good left below (line false (s ∷ p))
  good-closed : {s : Directed} {p : List Directed} → side_of s ≡ s → next left below (last_of s p) ≡ some s → 2 ≤ length p → Links (next left below) s p
      → Good left below (line true (s ∷ p))

module _ (left : Directed → Option ℕ) (below : ℕ → Bool) (mesh : Mesh left) where
  -- Each side of a walk leads to the next; an open one ends at the hull, a closed one before its start.
  links : {s d : Directed} {c : Bool} {p : List Directed} → Walk (next left below) s c d p → Links (next left below) d p
  links (hull e) = tt
  links (round e) = tt
  links (on e ne w) = (e, links w)

  ends_open : {s d : Directed} {p : List Directed} → Walk (next left below) s false d p → left (last_of d p) ≡ none
  ends_open (hull {d = d} e) = none_next left below d e
  ends_open (on e ne w) = ends_open w

  ends-closed : {s d : Directed} {p : List Directed} → Walk (next left below) s true d p → next left below (last_of d p) ≡ some s
  ends-closed (round e) = e
  ends-closed (on e ne w) = ends-closed w

  -- An open line has two sides or more, a closed one three or more.
  long-open : {s d : Directed} {p : List Directed} → (left d ≡ none → ⊥) → Walk (next left below) s false d p → 1 ≤ length p
  long-open f (hull {d = d} e) = absurd (f (none_next left below d e))
  long-open f (on e ne w) = omega arith

  long-closed : (s d : Directed) {p : List Directed} → d ≡ s → (o : Bool) → Runs below o s → Walk (next left below) s true d p → 2 ≤ length p
  long-closed s d q o r (round e) = absurd (no_back left below mesh o s s r (cc) (cc))
  long-closed s d q o r (on {y = y} e ne (round f)) = absurd (no_back left below mesh o s y r (cc) f)
  long-closed s d q o r (on e ne (on f nf w)) = omega arith

  good : (l p : List Directed) (c : Bool) (s : Directed) → Enters left below l s → Fit left l s c → Walk (next left below) s c s p
      → Good left below (line c (s ∷ p))
  good l p c s en (edge h) w = good-open h (ends_open w) (long-open en.front w) (links w)
  good l p c s en (inner v f) w = good-closed v (ends-closed w) (long-closed s s refl en.flag en.runs w) (links w)

  -- The line from a start, over unused sides that are even and proper.
  pub record Drawn (c : Bool) (s : Directed) (fuel : ℕ) (l : List Directed) : Type 0 where
    pub is_good : Good left below (line c (path (next left below) fuel s))
    pub walk_is : Walk (next left below) s c s (walk (next left below) s fuel s)
    pub even : Even (next left below) below true (strike (path (next left below) fuel s) l)
    pub size : length l ≡ suc (length (walk (next left below) s fuel s)) + length (strike (path (next left below) fuel s) l)
    pub once : (d : Directed) → count d l ≡ count d (map side_of (path (next left below) fuel s)) + count d (strike (path (next left below) fuel s) l)

  pub drawn : (c : Bool) (s : Directed) (fuel : ℕ) (l : List Directed) → Enters left below l s → Fit left l s c → Even (next left below) below true l
      → length l ≤ fuel
      → Drawn c s fuel l
  unfolding strike count
  drawn c s fuel l en fit ev h =
      record {
        is_good = good l _ c s en fit w.rule;
        walk_is = w.rule;
        even = even_any left below mesh en.flag true (strike (path (next left below) fuel s) l) w.even;
        size = omega (arith, w.size, length-remove (side_of s) l en.there);
        once = λ d. omega (arith, w.once d, count-remove d (side_of s) l en.there);
      }
    where
      w : Walked (next left below) below en.flag s c s (remove (side_of s) l) (walk (next left below) s fuel s)
      w = walked left below mesh en.flag c s fuel s (remove (side_of s) l)
          (en.runs, begun left below mesh l s en (even_any left below mesh true en.flag l ev), kind left below mesh l c s en fit)
          (omega (arith, length-remove (side_of s) l en.there))
