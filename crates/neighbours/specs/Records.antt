-- The mesh as records: 'for each triangle, its three corners and three neighbours, or none at the hull'. A neighbour is named by the
-- half-side over which one comes into it: `triangle_of` of that is its triangle. Assumes nothing.
use Rattle.std.specs.Prelude.{List, [], ◌∷◌, map, ◌≡◌, ℕ, suc, ◌+◌, ◌*◌, ◌<◌, length, get_or}
use Rattle.std.proofs.Math.Option.{Option, none, some}
use Rattle.sweep.specs.Sweep.{Three, tri, flat}
use Rattle.trace.specs.Side.{reversed}
use Rattle.neighbours.specs.Half.{corner_in, side_at, twin}

-- A triangle's corners, and its neighbours: the one across the side from each corner to the next.
pub record Record : Type 0 where
  pub corners : Three ℕ
  pub neighbours : Three (Option ℕ)

-- The triangle list of some records.
abbrev pub list_of : List Record → List (Three ℕ)
list_of rs = map (λ (r : Record). r.corners) rs

-- The records of a triangle list: those of its triangles us, the first of which has number k.
abbrev pub record_at : List (Three ℕ) → ℕ → Three ℕ → Record
record_at ts k t = record { corners = t; neighbours = tri (twin ts (3 * k)) (twin ts (3 * k + 1)) (twin ts (3 * k + 2)) }

unfoldable pub records_from : List (Three ℕ) → ℕ → List (Three ℕ) → List Record
records_from ts k [] = []
records_from ts k (t ∷ us) = record_at ts k t ∷ records_from ts (suc k) us

abbrev pub records_of : List (Three ℕ) → List Record
records_of ts = records_from ts 0 ts

-- What a record says lies across half-side h does: a half-side that runs the same side the other way; and where it names none, there is
-- none.
pub data Across (ts : List (Three ℕ)) (h : ℕ) : Option ℕ → Type 0 where
  neighbour : {g : ℕ} → g < 3 * length ts → side_at ts g ≡ reversed (side_at ts h) → Across ts h (some g)
  hull : ((g : ℕ) → g < 3 * length ts → side_at ts g ≡ reversed (side_at ts h) → ⊥) → Across ts h none

pub record RightAt (ts : List (Three ℕ)) (k : ℕ) (r : Record) : Type 0 where
  pub first : Across ts (3 * k) r.neighbours.a
  pub second : Across ts (3 * k + 1) r.neighbours.b
  pub third : Across ts (3 * k + 2) r.neighbours.c

pub data RightFrom (ts : List (Three ℕ)) : ℕ → List Record → Type 0 where
  none_left : {k : ℕ} → RightFrom ts k []
  one_more : {k : ℕ} {r : Record} {rs : List Record} → RightAt ts k r → RightFrom ts (suc k) rs → RightFrom ts k (r ∷ rs)

-- The records say the same as the triangle list.
pub record SaySame (ts : List (Three ℕ)) (rs : List Record) : Type 0 where
  pub listed : list_of rs ≡ ts
  pub right : RightFrom ts 0 rs

-- The corner at which half-side h starts, and what lies across it, by the records.
abbrev pub corner_of : List Record → ℕ → ℕ
corner_of rs h = corner_in (flat (list_of rs)) h

abbrev pub across_of : List Record → ℕ → Option ℕ
across_of rs h = get_or (flat (map (λ (r : Record). r.neighbours) rs)) h none
