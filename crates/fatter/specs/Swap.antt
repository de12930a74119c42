-- Swaps of shared sides: document 02, L1. A mesh is a list of triangles of station numbers, each written counterclockwise. Assumes nothing.
use Rattle.std.specs.Prelude.{Bool, true, false, cond, ◌&&◌, List, map, ◌≡◌, ℕ, zero, suc, ◌+◌, ◌*◌, ltb, pos, nat_abs}
use Rattle.std.proofs.Math.Option.{Option, none, some as found}
use Rattle.std.specs.Int.Signed.{lt_z}
use Rattle.lists.specs.Lowest.{lowest, some}
use Rattle.whole.specs.Place.{Place}
use Rattle.survey.specs.Survey.{Survey, count, place_of}
use Rattle.sweep.specs.Members.{total}
use Rattle.sweep.specs.Sweep.{Three, tri}
use Rattle.trace.specs.Side.{◌⟶◌, left_corner}
use Rattle.hull.specs.MeshOf.{runs, twice_of}
use Rattle.circle.specs.Circle.{circle}

-- 'the far corner of one triangle lies strictly inside the circle through the other's corners': of the side from i to j, with the
-- corner of the triangle left of it and that of the triangle right of it. A side with one triangle stays.
abbrev pub is_far_inside : Survey → ℕ → ℕ → Option ℕ → Option ℕ → Bool
is_far_inside s i j none r = false
is_far_inside s i j (found l) none = false
is_far_inside s i j (found l) (found r) = lt_z (pos 0) (circle (place_of s i) (place_of s j) (place_of s l) (place_of s r))

-- 'A side may be swapped', named by its lower and its higher station; 'ties stay'.
unfoldable pub may_swap : Survey → List (Three ℕ) → ℕ → ℕ → Bool
may_swap s ts i j = ltb i j && is_far_inside s i j (left_corner ts (i ⟶ j)) (left_corner ts (j ⟶ i))

-- 'the lowest such side, by (lower, higher) station': its lower station, then its higher one; and whether there is one.
unfoldable pub swaps_at : Survey → List (Three ℕ) → ℕ → Bool
swaps_at s ts i = some (may_swap s ts i) (count s)

unfoldable pub lower : Survey → List (Three ℕ) → ℕ
lower s ts = lowest (swaps_at s ts) (count s)

unfoldable pub higher : Survey → List (Three ℕ) → ℕ
higher s ts = lowest (may_swap s ts (lower s ts)) (count s)

unfoldable pub is_left : Survey → List (Three ℕ) → Bool
is_left s ts = some (swaps_at s ts) (count s)

-- The side from i to j, with the corners l left and r right of it, for the side from r to l: of the two triangles i, j, l and j, i, r
-- come i, r, l and r, j, l. Every other triangle stays.
unfoldable pub exchange : ℕ → ℕ → ℕ → ℕ → Three ℕ → Three ℕ
exchange i j l r t = cond (ltb 0 (runs i j t)) (tri i r l) (cond (ltb 0 (runs j i t)) (tri r j l) t)

abbrev pub swap_by : List (Three ℕ) → ℕ → ℕ → Option ℕ → Option ℕ → List (Three ℕ)
swap_by ts i j none r = ts
swap_by ts i j (found l) none = ts
swap_by ts i j (found l) (found r) = map (exchange i j l r) ts

-- One swap: of the side from i to j, and of the lowest side that may be swapped.
unfoldable pub swap : List (Three ℕ) → ℕ → ℕ → List (Three ℕ)
swap ts i j = swap_by ts i j (left_corner ts (i ⟶ j)) (left_corner ts (j ⟶ i))

unfoldable pub swap_lowest : Survey → List (Three ℕ) → List (Three ℕ)
swap_lowest s ts = swap ts (lower s ts) (higher s ts)

-- 'Always take the lowest such side .. until none is left': us is what is left of ts.
pub data Swapped (s : Survey) : List (Three ℕ) → List (Three ℕ) → Type 0 where
  none_left : {ts : List (Three ℕ)} → is_left s ts ≡ false → Swapped s ts ts
  one_more : {ts us : List (Three ℕ)} → is_left s ts ≡ true → Swapped s (swap_lowest s ts) us → Swapped s ts us

-- The number that falls with every swap: twice the area of each triangle times the sum of its corners' squared distances from (0, 0).
abbrev pub square_of : Place → ℕ
square_of p = p.x * p.x + p.y * p.y

unfoldable pub load : Survey → Three ℕ → ℕ
load s t = nat_abs (twice_of s t) * (square_of (place_of s t.a) + square_of (place_of s t.b) + square_of (place_of s t.c))

unfoldable pub slack : Survey → List (Three ℕ) → ℕ
slack s ts = total (load s) ts

-- At most k swaps; all of them, since there are no more than the slack (`swaps-end`).
unfoldable pub swaps_up_to : Survey → ℕ → List (Three ℕ) → List (Three ℕ)
swaps_up_to s zero ts = ts
swaps_up_to s (suc k) ts = elim (is_left s ts) [ true ↦ swaps_up_to s k (swap_lowest s ts) | false ↦ ts ]

unfoldable pub swaps : Survey → List (Three ℕ) → List (Three ℕ)
swaps s ts = swaps_up_to s (slack s ts) ts
