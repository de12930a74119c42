-- The weights of the six control heights: document 01, "The curve along a side". Assumes nothing.
use Rattle.std.specs.Prelude.{ℕ, zero, suc, ◌+◌, ◌*◌, ◌-◌, ◌^◌, ◌/◌, ◌%◌, List}
use Rattle.lists.specs.Table.{table}

-- C(n,i): the number of ways to take i of n.
abbrev pub choose : ℕ → ℕ → ℕ
choose n zero = 1
choose zero (suc i) = 0
choose (suc n) (suc i) = choose n i + choose n (suc i)

-- 'The weights at k are C(5,i)·k^i·(64-k)^(5-i) for i = 0 to 5.'
unfoldable pub weight_of : ℕ → ℕ → ℕ
weight_of k i = choose 5 i * k ^ i * (64 - k) ^ (5 - i)

-- 'They are held as one constant table of 65 rows of six weights': the weight of control height i at stop k stands at 6k + i.
unfoldable pub weight_table : List ℕ
weight_table = table (λ j. weight_of (j / 6) (j % 6)) 390
