-- Records and the sides in order as numbers in a lent room: first the corners, three to a triangle; behind them the neighbours, three to a
-- triangle; behind those one half-side for each side. Assumes nothing.
use Rattle.std.specs.Prelude.{List, [], ◌∷◌, ◌++◌, map, ◌≡◌, ℕ, zero, suc, get_or, drop}
use Rattle.std.proofs.Math.Option.{Option, none, some}
use Rattle.sweep.specs.Sweep.{Three, tri, flat}
use Rattle.trace.specs.Side.{Directed, reversed, left_corner}
use Rattle.trace.specs.Crossed.{sides}
use Rattle.neighbours.specs.Half.{half_of}
use Rattle.neighbours.specs.Records.{Record, records_of}

-- A neighbour as a number: 32767 for none at the hull.
abbrev pub number_of : Option ℕ → ℕ
number_of none = 32767
number_of (some h) = h

abbrev pub neighbours_in : List Record → List ℕ
neighbours_in rs = map number_of (flat (map (λ (r : Record). r.neighbours) rs))

-- The half-side that stands for a side: the one that runs as the side does; at the hull, the only one.
abbrev pub or_other : Option ℕ → Option ℕ → ℕ
or_other (some h) other = h
or_other none other = number_of other

unfoldable pub half_for : List (Three ℕ) → Directed → ℕ
half_for ts d = or_other (half_of ts d) (half_of ts (reversed d))

-- 'Sides are ordered by (lower, higher) station': one half-side for each side of triangles on stations below n.
unfoldable pub order : List (Three ℕ) → ℕ → List ℕ
order ts n = map (half_for ts) (sides (left_corner ts) n)

-- The t triangles whose corners stand at the front of a list.
unfoldable pub threes : ℕ → List ℕ → List (Three ℕ)
threes zero l = []
threes (suc t) l = tri (get_or l 0 0) (get_or l 1 0) (get_or l 2 0) ∷ threes t (drop 3 l)

-- A room that holds the records of the triangles ts and their sides in order, and whatever else behind.
pub record Holds (ts : List (Three ℕ)) (n : ℕ) (room : List ℕ) : Type 0 where
  pub rest : List ℕ
  pub room_is : room ≡ flat ts ++ (neighbours_in (records_of ts) ++ (order ts n ++ rest))
