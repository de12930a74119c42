-- What is promised of the lines of a level: document 01, "Lines". Assumes nothing.
use Rattle.std.specs.Prelude.{Bool, true, false, ◌&&◌, List, [], ◌∷◌, ◌⊎◌, ◌≡◌, ℕ, ◌*◌, ◌≤◌, length}
use Rattle.sweep.specs.Sweep.{Three}
use Rattle.trace.specs.Side.{Directed, ◌⟶◌, bit, reversed, side_of, left_corner, is_side}
use Rattle.trace.specs.Crossed.{is_crossed, sides, crossed}
use Rattle.trace.specs.Lines.{Line, line, vertices}
use Rattle.trace.specs.Mesh.{count, Has}
use Rattle.trace.specs.Rule.{Rule}

-- y is another side of a triangle that has a ⟶ b.
abbrev pub Share : List (Three ℕ) → Directed → Directed → Type 0
Share ts (a ⟶ b) y = (c : ℕ) × Has a b c ts × ((y ≡ a ⟶ c) ⊎ (y ≡ c ⟶ b))

-- No triangle lies left of a ⟶ b: a side of the mesh so directed is a hull side, and leads out.
abbrev pub Outer : List (Three ℕ) → Directed → Type 0
Outer ts (a ⟶ b) = (c : ℕ) → Has a b c ts → ⊥

-- The last side of a line that starts with d; and each side of it shares a triangle with the next.
abbrev pub last_of : Directed → List Directed → Directed
last_of d [] = d
last_of d (y ∷ p) = last_of y p

abbrev pub Neighbours : List (Three ℕ) → Directed → List Directed → Type 0
Neighbours ts d [] = Unit {0}
Neighbours ts d (y ∷ p) = Share ts d y × Neighbours ts y p

-- An open line goes from hull side to hull side and has two vertices or more; a closed one starts as its first side runs, so into the
-- triangle left of it, comes round over a triangle, and has three or more.
pub data Sensible (ts : List (Three ℕ)) : Line → Type 0 where
  open-line : {s : Directed} {p : List Directed} → Outer ts (reversed s) → Outer ts (last_of s p) → 2 ≤ length (s ∷ p) → Neighbours ts s p
      → Sensible ts (line false (s ∷ p))
  closed-line : {s : Directed} {p : List Directed} → side_of s ≡ s → Share ts (last_of s p) s → 3 ≤ length (s ∷ p) → Neighbours ts s p
      → Sensible ts (line true (s ∷ p))

abbrev pub Every : List (Three ℕ) → List Line → Type 0
Every ts [] = Unit {0}
Every ts (l ∷ ls) = Sensible ts l × Every ts ls

-- A crossed side of the mesh, as it runs.
abbrev pub is_crossed_side : List (Three ℕ) → (ℕ → Bool) → Directed → Bool
is_crossed_side ts below d = is_side (left_corner ts) d && is_crossed below d

-- The lines ls follow the rule; each crossed side is the side of one vertex, and no other is that of any; all lines are sensible; and
-- there are as many vertices as crossed sides, so no more than sides, and at most half as many lines.
pub record Meets (ts : List (Three ℕ)) (below : ℕ → Bool) (n : ℕ) (ls : List Line) : Type 0 where
  pub rule : Rule (left_corner ts) below (crossed (left_corner ts) below n) ls
  pub each : (d : Directed) → count d (vertices ls) ≡ bit (is_crossed_side ts below d)
  pub sensible : Every ts ls
  pub total : length (vertices ls) ≡ length (crossed (left_corner ts) below n)
  pub most : length (vertices ls) ≤ length (sides (left_corner ts) n)
  pub half : 2 * length ls ≤ length (vertices ls)
