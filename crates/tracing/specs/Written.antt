-- How the code has stations below a level, and the sides of lines, in slices of numbers. Assumes nothing.
use Rattle.std.specs.Prelude.{Bool, ◌&&◌, List, [], ◌∷◌, map, ◌≡◌, ℕ, suc, ◌+◌, ◌*◌, ltb, ℤ, pos, length, get_or, set}
use Rattle.std.specs.Int.Signed.{lt_z}
use Rattle.trace.specs.Side.{Directed, ◌⟶◌, side_of}
use Rattle.neighbours.specs.Half.{runs_by}
use Rattle.tracing.specs.Tracing.{Halves, mark_by, HalfLine, passed_by, records_by}

-- Station k is below the level by its height.
abbrev pub below_in : List ℤ → ℤ → ℕ → Bool
below_in z level k = ltb k (length z) && lt_z (get_or z k (pos 0)) level

-- A side as one number: its lower station, then its higher one.
abbrev pub pair_of : Directed → ℕ
pair_of (a ⟶ b) = a * 65536 + b

unfoldable pub side_number : Directed → ℕ
side_number d = pair_of (side_of d)

abbrev pub sides_of : List Directed → List ℕ
sides_of p = map side_number p

-- The side of a half-side, and those of a list of them.
abbrev pub side_by : (ℕ → ℕ) → ℕ → ℕ
side_by corner g = side_number (runs_by corner g)

abbrev pub sides_by : (ℕ → ℕ) → List ℕ → List ℕ
sides_by corner p = map (side_by corner) p

-- The numbers of a list written one after another, from place k on.
unfoldable pub write_all : ℕ → List ℕ → List ℕ → List ℕ
write_all k [] room = room
write_all k (x ∷ l) room = write_all (suc k) l (set room k x)

-- The half-sides of p are marked, and their sides written from place k on: marks and sides then, and the place after them.
pub record Left (mesh : Halves) (p : List ℕ) (marks sides : List ℕ) (k : ℕ) (marks' sides' : List ℕ) (k' : ℕ) : Type 0 where
  pub marked : marks' ≡ mark_by mesh.across p marks
  pub written : sides' ≡ write_all k (sides_by mesh.corner p) sides
  pub place : k' ≡ k + length p

-- The lines ls are marked and written, and their records from place m on.
pub record Lined
    (mesh : Halves)
    (ls : List HalfLine)
    (marks sides : List ℕ)
    (k : ℕ)
    (recorded : List ℕ)
    (m : ℕ)
    (marks' sides' : List ℕ)
    (k' : ℕ)
    (recorded' : List ℕ)
    (m' : ℕ)
    : Type 0 where
  pub left : Left mesh (passed_by ls) marks sides k marks' sides' k'
  pub records-are : recorded' ≡ write_all m (records_by ls) recorded
  pub count : m' ≡ m + length ls
