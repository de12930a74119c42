-- The circle through three places, and whether a fourth lies inside it, in whole numbers: document 02, L1. Assumes nothing.
use Rattle.std.specs.Prelude.{◌≡◌, ℕ, ◌<◌, ℤ, pos, ◌+ℤ◌, ◌-ℤ◌, ◌*ℤ◌, ◌<ℤ◌}
use Rattle.whole.specs.Place.{Place}
use Rattle.whole.specs.Turn.{across, climb, turn}

-- The square of the distance of two places.
unfoldable pub apart : Place → Place → ℤ
unfolding across climb
apart a b = across a b *ℤ across a b +ℤ climb a b *ℤ climb a b

-- The circle number of a counterclockwise triangle a, b, c and a place d: positive where d lies 'strictly inside the circle through'
-- a, b and c, and nowhere else (`inside-circle`, `circle-inside`). The determinant of the three rows x, y, x² + y² of a, b, c seen
-- from d.
unfoldable pub circle : Place → Place → Place → Place → ℤ
circle a b c d = apart a d *ℤ turn b c d +ℤ apart b d *ℤ turn c a d +ℤ apart c d *ℤ turn a b d

-- The square of the distance of p from the place (u, v) / k, times k².
unfoldable pub away : ℕ → ℤ → ℤ → Place → ℤ
away k u v p = (pos k *ℤ pos p.x -ℤ u) *ℤ (pos k *ℤ pos p.x -ℤ u) +ℤ (pos k *ℤ pos p.y -ℤ v) *ℤ (pos k *ℤ pos p.y -ℤ v)

-- A circle through a, b and c, with its centre at (u, v) / k, and a place d strictly inside it. It needs no square roots: the
-- centre is as far from the three, and nearer to d. Every circle through three places off one line has its centre at such a place.
pub record InCircle (a b c d : Place) : Type 0 where
  pub k : ℕ
  pub u : ℤ
  pub v : ℤ
  pub some : 0 < k
  pub ab : away k u v a ≡ away k u v b
  pub bc : away k u v b ≡ away k u v c
  pub within : away k u v d <ℤ away k u v a
