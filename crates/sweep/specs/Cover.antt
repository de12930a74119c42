-- Triangles and places: corners, places inside, places in k-ths. Assumes nothing.
use Rattle.std.specs.Prelude.{List, ◌≡◌, ℕ, ◌*◌, ℤ, pos, ◌≤ℤ◌, ◌<ℤ◌}
use Rattle.whole.specs.Place.{Place, place}
use Rattle.whole.specs.Turn.{turn}
use Rattle.sweep.specs.Members.{In}
use Rattle.sweep.specs.Sweep.{Triangle, tri}

pub data Corner (w : Place) (t : Triangle) : Type 0 where
  at_a : w ≡ t.a → Corner w t
  at_b : w ≡ t.b → Corner w t
  at_c : w ≡ t.c → Corner w t

-- 'Triangles are written counterclockwise', on stations.
pub record Fine (done : List Place) (t : Triangle) : Type 0 where
  pub left : pos 0 <ℤ turn t.a t.b t.c
  pub in_a : In t.a done
  pub in_b : In t.b done
  pub in_c : In t.c done

-- w lies in the triangle, edges counted, as the test O sees it; w lies strictly inside.
pub record Holds (O : Place → Place → Place → ℤ) (t : Triangle) (w : Place) : Type 0 where
  pub ab : pos 0 ≤ℤ O t.a t.b w
  pub bc : pos 0 ≤ℤ O t.b t.c w
  pub ca : pos 0 ≤ℤ O t.c t.a w

pub record Inside (t : Triangle) (p : Place) : Type 0 where
  pub ab : pos 0 <ℤ turn t.a t.b p
  pub bc : pos 0 <ℤ turn t.b t.c p
  pub ca : pos 0 <ℤ turn t.c t.a p

-- A place, and a triangle, of the plane stretched k times: places in k-ths are places there.
abbrev pub scale : ℕ → Place → Place
scale k a = place (k * a.x) (k * a.y)

abbrev pub big : ℕ → Triangle → Triangle
big k t = tri (scale k t.a) (scale k t.b) (scale k t.c)
