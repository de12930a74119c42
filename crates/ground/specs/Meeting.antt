-- How two segments meet: document 02, L11. Assumes nothing.
use Rattle.std.specs.Prelude.{◌≡◌, ℕ, ◌+◌, ◌<◌, pos}
use Rattle.whole.specs.Place.{Place}
use Rattle.whole.specs.Turn.{bend}
use Rattle.ground.specs.Sides.{mixed}

-- The segments from p to q and from u to v meet in a place inside both.
pub record MeetInside (p q u v : Place) : Type 0 where
  pub m : ℕ
  pub n : ℕ
  pub i : ℕ
  pub j : ℕ
  pub some-m : 0 < m
  pub some-n : 0 < n
  pub some-i : 0 < i
  pub some-j : 0 < j
  pub parts : m + n ≡ i + j
  pub same : mixed m p n q ≡ mixed i u j v

-- They 'cross properly': they meet so, and do not run along one line, as parallel segments do that meet. Segments of which an end lies on the
-- other only touch.
pub record CrossProperly (p q u v : Place) : Type 0 where
  pub meet : MeetInside p q u v
  pub across : bend p q u v ≡ pos 0 → ⊥
