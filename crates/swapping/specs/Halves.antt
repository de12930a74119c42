-- A mesh as half-sides: each of the three sides of each triangle, as that triangle runs it. Half-side h belongs to triangle h / 3; its
-- numbers are the station C h that it starts from and its twin W h, the half-side that runs back, or a number past the last where there
-- is none. A swap is two stores among the corners and six among the twins. Assumes nothing.
use Rattle.std.specs.Prelude.{cond, List, ◌≡◌, ℕ, ◌+◌, ◌*◌, ◌<◌, eqb, get_or}
use Rattle.sweep.specs.Sweep.{Three, tri}
use Rattle.neighbours.specs.Half.{after, before}

-- C with x at h.
unfoldable pub put : ℕ → ℕ → (ℕ → ℕ) → ℕ → ℕ
put h x C g = cond (eqb g h) x (C g)

-- The triangle of three half-sides, and triangle k of a list.
abbrev pub triangle_at : (ℕ → ℕ) → ℕ → Three ℕ
triangle_at C k = tri (C (3 * k)) (C (3 * k + 1)) (C (3 * k + 2))

abbrev pub at : List (Three ℕ) → ℕ → Three ℕ
at ts k = get_or ts k (tri 0 0 0)

-- The half-sides below m have their twins: a half-side that runs back is the twin, and a twin runs back.
pub record Twinned (C W : ℕ → ℕ) (m : ℕ) : Type 0 where
  pub found : (h g : ℕ) → h < m → g < m → C g ≡ C (after h) → C (after g) ≡ C h → W h ≡ g
  pub from : (h : ℕ) → h < m → W h < m → C (W h) ≡ C (after h)
  pub to : (h : ℕ) → h < m → W h < m → C (after (W h)) ≡ C h

-- The swap of the side of the half-sides e and f, which run along it either way: e, from i to j, comes to run from i to r, and the one
-- after it from r to l; f, from j to i, comes to run from j to l, and the one after it from l to r.
unfoldable pub swap_corners : ℕ → ℕ → (ℕ → ℕ) → ℕ → ℕ
swap_corners e f C = put (after e) (C (before f)) (put (after f) (C (before e)) C)

unfoldable pub swap_twins : ℕ → ℕ → (ℕ → ℕ) → ℕ → ℕ
swap_twins e f W =
    put (after e) (after f)
    (put (after f) (after e) (put (W (after f)) e (put (W (after e)) f (put e (W (after f)) (put f (W (after e)) W)))))
