-- The rounding rule: document 01, "Slopes", as document 02 has it. The slopes, second slopes, D and E all cite `rounded`. Assumes nothing.
use Rattle.std.specs.Prelude.{ℕ, suc, ◌+◌, ◌*◌, ◌/◌, ◌≤◌, ◌≡◌, ℤ, pos, negsuc, neg_ℤ, nat_abs, ◌-ℤ◌, ◌*ℤ◌}

-- 'Each quotient is rounded to the nearest whole number', and 'a half must go away from zero': the size of n / d and a half more, over
-- 2 * d, rounded down; then the sign of n. -(n + 1) is `negsuc n`.
unfoldable pub rounded : ℤ → ℕ → ℤ
rounded (pos n) d = pos ((2 * n + d) / (2 * d))
rounded (negsuc n) d = neg_ℤ (pos ((2 * suc n + d) / (2 * d)))

-- How far n / d is from the whole number k, times d.
abbrev pub off_by : ℤ → ℕ → ℤ → ℕ
off_by n d k = nat_abs (n -ℤ pos d *ℤ k)

-- The same rule without a division: no whole number is nearer to n / d than r, and of those that are as near none is further from zero.
pub record Nearest (n : ℤ) (d : ℕ) (r : ℤ) : Type 0 where
  pub nearest : (k : ℤ) → off_by n d r ≤ off_by n d k
  pub away : (k : ℤ) → off_by n d k ≡ off_by n d r → nat_abs k ≤ nat_abs r
