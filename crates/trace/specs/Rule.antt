-- The rule of document 01, "Lines", as relations: no count of steps, and "lowest" by the order of sides. A list stands for the sides
-- in it. Assumes nothing.
use Rattle.std.specs.Prelude.{Bool, true, false, List, [], ◌∷◌, ◌++◌, ◌⊎◌, ◌≡◌, ℕ, ◌<◌}
use Rattle.std.proofs.Math.Option.{Option, none, some}
use Rattle.trace.specs.Side.{Directed, inward}
use Rattle.trace.specs.Crossed.{Before}
use Rattle.trace.specs.Lines.{Line, line, strike}
use Rattle.trace.specs.Walk.{next}
use Rattle.trace.specs.Mesh.{count}

-- e is the lowest of those sides of l that have P.
pub record Lowest (P : Directed → Type 0) (l : List Directed) (e : Directed) : Type 0 where
  pub there : 0 < count e l
  pub has : P e
  pub least : (d : Directed) → 0 < count d l → P d → (d ≡ e) ⊎ Before e d

-- A hull side; any side.
abbrev pub IsHull : (Directed → Option ℕ) → Directed → Type 0
IsHull left d = inward left d ≡ none → ⊥

abbrev pub AnySide : Directed → Type 0
AnySide d = Unit {0}

-- The sides after d of a line that started at s: an open one goes on 'until a hull side', a closed one 'until the start comes round;
-- the start isn't repeated'.
pub data Walk (follow : Directed → Option Directed) (s : Directed) : Bool → Directed → List Directed → Type 0 where
  hull : {d : Directed} → follow d ≡ none → Walk follow s false d []
  round : {d : Directed} → follow d ≡ some s → Walk follow s true d []
  on : {c : Bool} {d y : Directed} {p : List Directed} → follow d ≡ some y → (y ≡ s → ⊥) → Walk follow s c y p → Walk follow s c d (y ∷ p)

-- 'Open lines first: start at the lowest unused crossed hull side', over the unused crossed sides l, until no hull side is left; m is
-- what is left.
pub data Opens (left : Directed → Option ℕ) (below : ℕ → Bool) : List Directed → List Line → List Directed → Type 0 where
  no_hull : {l : List Directed} → ((d : Directed) → 0 < count d l → inward left d ≡ none) → Opens left below l [] l
  opened : {l m p : List Directed} {e s : Directed} {ls : List Line} → Lowest (IsHull left) l e → inward left e ≡ some s → Walk (next left below) s false s p
      → Opens left below (strike (s ∷ p) l) ls m → Opens left below l (line false (s ∷ p) ∷ ls) m

-- 'Then closed lines: start at the lowest unused crossed side, first into the triangle left of it as it runs', until none is left.
pub data Closes (left : Directed → Option ℕ) (below : ℕ → Bool) : List Directed → List Line → Type 0 where
  none_left : Closes left below [] []
  closed : {l p : List Directed} {s : Directed} {ls : List Line} → Lowest AnySide l s → Walk (next left below) s true s p
      → Closes left below (strike (s ∷ p) l) ls → Closes left below l (line true (s ∷ p) ∷ ls)

-- First the open lines, then the closed ones.
pub record Rule (left : Directed → Option ℕ) (below : ℕ → Bool) (l : List Directed) (ls : List Line) : Type 0 where
  pub opens : List Line
  pub closes : List Line
  pub rest : List Directed
  pub whole : ls ≡ opens ++ closes
  pub open_first : Opens left below l opens rest
  pub closed_then : Closes left below rest closes
