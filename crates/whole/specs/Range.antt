-- How far a whole number is from 0, as the clauses of `src/` say it. Assumes nothing.
use Rattle.std.specs.Prelude.{ℕ, ◌≤◌, ℤ, nat_abs}

-- z lies from -n to n.
pub record Within (n : ℕ) (z : ℤ) : Type 0 where
  pub by : nat_abs z ≤ n
