-- Stations among the numbers of a list. Assumes nothing.
use Rattle.std.specs.Prelude.{List, ◌≡◌, ℕ, ◌<◌, get_or}

-- k is among the first m numbers of a list.
pub record Named (l : List ℕ) (m k : ℕ) : Type 0 where
  pub at : ℕ
  pub within : at < m
  pub is : get_or l at 0 ≡ k

-- What is marked is among them.
pub record Marked (l : List ℕ) (m : ℕ) (marks : List ℕ) : Type 0 where
  pub named : (k : ℕ) → (get_or marks k 0 ≡ 0 → ⊥) → Named l m k
