-- Numbers in blocks of 64, with the lowest of each block beside them, so that the lowest of all is found by a look at the blocks and at
-- one of them. Assumes nothing.
use Rattle.std.specs.Prelude.{List, ◌≡◌, ℕ, ◌+◌, ◌*◌, ◌≤◌, ◌<◌, length, get_or}

-- The lowest of the numbers from a to z - 1 stands at r.
pub record LeastIn (ks : List ℕ) (a z r : ℕ) : Type 0 where
  pub from : a ≤ r
  pub to : r < z
  pub least : (g : ℕ) → a ≤ g → g < z → get_or ks r 0 ≤ get_or ks g 0

-- t is the lowest number of block b.
pub record Top (ks : List ℕ) (b t : ℕ) : Type 0 where
  pub at : ℕ
  pub within : at < length ks
  pub from : 64 * b ≤ at
  pub to : at < 64 * b + 64
  pub is : get_or ks at 0 ≡ t
  pub least : (g : ℕ) → g < length ks → 64 * b ≤ g → g < 64 * b + 64 → t ≤ get_or ks g 0

-- The lowest number of every block; no block is empty.
pub record Tops (ks tops : List ℕ) : Type 0 where
  pub enough : length ks ≤ 64 * length tops
  pub no_more : 64 * length tops < length ks + 64
  pub each : (b : ℕ) → b < length tops → Top ks b (get_or tops b 0)

-- The lowest of all stands at r.
pub record Least (ks : List ℕ) (r : ℕ) : Type 0 where
  pub within : r < length ks
  pub least : (g : ℕ) → g < length ks → get_or ks r 0 ≤ get_or ks g 0
