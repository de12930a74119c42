-- The lines of T3 to T6, as the sides of their vertices, by computation. Assumes nothing.
use Prim.Native.Nat.{ℕ}
use mathlib.Core.Path.{◌≡◌, refl}
use mathlib.Core.Bool.{Bool}
use mathlib.Core.List.{List, [], ◌∷◌}
use lib.ListN.{get_or}
use lib.Dec.{ltb}
use Rattle.sweep.specs.Sweep.{Three, tri}
use Rattle.trace.specs.Side.{Directed, ◌⟶◌, is_same, side_of, left_corner, is_side, inward}
use Rattle.trace.specs.Crossed.{is_crossed, row, rows, crossed}
use Rattle.trace.specs.Lines.{remove, strike, first_hull, open_lines, closed_lines, passed, lines_over, lines, vertices, record_of, records}
use Rattle.trace.specs.Walk.{next, walk}

-- The triangles of T1 and of T2.
abbrev Q : List (Three ℕ)
Q = tri 0 1 2 ∷ tri 1 3 2 ∷ []

abbrev Q5 : List (Three ℕ)
Q5 = tri 0 4 2 ∷ tri 0 1 4 ∷ tri 1 3 4 ∷ tri 2 4 3 ∷ []

-- Station i is below the level.
abbrev under : ℕ → List ℕ → ℕ → Bool
under level z i = ltb (get_or z i 0) level

-- The vertices of a level's lines are on the sides vs, and their records are rs.
pub record Drawn (ts : List (Three ℕ)) (n level : ℕ) (z : List ℕ) (vs : List Directed) (rs : List ℕ) : Type 0 where
  pub vertices-are : vertices (lines ts (under level z) n) ≡ vs
  pub records-are : records (lines ts (under level z) n) ≡ rs

-- At level 10 the same sides are crossed as at 5, for equal is not below; at level 0 none is.
pub record KnownLines : Type 0 where
  pub T3 : Drawn Q 4 5 (0 ∷ 10 ∷ 10 ∷ 0 ∷ []) (0 ⟶ 1 ∷ 0 ⟶ 2 ∷ 1 ⟶ 3 ∷ 2 ⟶ 3 ∷ []) (4 ∷ 4 ∷ [])
  pub T4 : Drawn Q 4 10 (0 ∷ 10 ∷ 10 ∷ 0 ∷ []) (0 ⟶ 1 ∷ 0 ⟶ 2 ∷ 1 ⟶ 3 ∷ 2 ⟶ 3 ∷ []) (4 ∷ 4 ∷ [])
  pub T5 : Drawn Q 4 0 (0 ∷ 10 ∷ 10 ∷ 0 ∷ []) [] []
  pub T6 : Drawn Q5 5 5 (0 ∷ 0 ∷ 0 ∷ 0 ∷ 10 ∷ []) (0 ⟶ 4 ∷ 2 ⟶ 4 ∷ 3 ⟶ 4 ∷ 1 ⟶ 4 ∷ []) (9 ∷ [])

pub known-lines : KnownLines
unfolding
    is_same side_of left_corner is_side inward is_crossed row rows crossed next walk remove strike first_hull open_lines closed_lines passed
    lines_over lines vertices record_of records
known-lines =
    record {
      T3 = record { vertices-are = refl; records-are = refl };
      T4 = record { vertices-are = refl; records-are = refl };
      T5 = record { vertices-are = refl; records-are = refl };
      T6 = record { vertices-are = refl; records-are = refl };
    }
