-- The lowest number that passes a test: the shape of every search of document 01 ('lowest such station', 'the first triangle in the
-- list', 'the first sixty-fourth'). Assumes nothing.
use Rattle.std.specs.Prelude.{Bool, cond, ℕ, zero, suc, ltb, Option, Some, None}

-- The lowest of i, .., i + k - 1 that passes p, and i + k where none does.
abbrev pub lowest_from : (ℕ → Bool) → ℕ → ℕ → ℕ
lowest_from p zero i = i
lowest_from p (suc k) i = cond (p i) i (lowest_from p k (suc i))

-- The lowest number below n that passes p, and n where none does.
abbrev pub lowest : (ℕ → Bool) → ℕ → ℕ
lowest p n = lowest_from p n 0

-- Some number below n passes p.
abbrev pub some : (ℕ → Bool) → ℕ → Bool
some p n = ltb (lowest p n) n

-- k, if it is below n.
abbrev pub if_below : ℕ → ℕ → Option ℕ
if_below k n = cond (ltb k n) (Some k) None

-- The lowest number below n that passes p, if one does.
abbrev pub found : (ℕ → Bool) → ℕ → Option ℕ
found p n = if_below (lowest p n) n
