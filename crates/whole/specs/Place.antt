-- Places of the plane, and their order: document 01, "The four jobs" and "Mesh". x grows to the right and y upward. Assumes nothing.
use Rattle.std.specs.Prelude.{◌≡◌, ℕ, ◌<◌}

pub record Place : Type 0 where
  pub x : ℕ
  pub y : ℕ

abbrev pub place : ℕ → ℕ → Place
place x y = record { x = x; y = y }

-- 'by rising x, then rising y': a comes before b.
pub data Before (a b : Place) : Type 0 where
  rightward : a.x < b.x → Before a b
  upward : a.x ≡ b.x → a.y < b.y → Before a b
