-- The weights' table has the binomial rule at every entry, and each of its rows sums to 2 ^ 30. Assumes nothing.
--
-- The table is the list of the rule's 390 values, which the checker computes and compares with the constant of the code; what holds
-- of every value of a function's table then holds at each entry. The sums are one test, computed over the 65 rows.
use mathlib.Core.Path.{◌≡◌, refl, ap, ◌∙◌}
use mathlib.Core.Bool.{Bool, not}
use mathlib.Core.List.{[], ◌∷◌}
use Prim.Native.Nat.{ℕ, zero, suc, ◌+◌, ◌*◌, ◌/◌, ◌%◌, ◌^◌, ◌<◌, ◌≤◌}
use native.Mathlib.Omega.{arith}
use borrow.Author.Tests.{eqb-true, not-false}
use lib.Dec.{eqb}
use lib.ListN.{get_or}
use Rattle.lists.specs.Table.{table}
use Rattle.lists.proofs.LowestLaws.{none_found}
use Rattle.lists.proofs.TableLaws.{table-entry}
use Rattle.curve.specs.Weights.{weight_of, weight_table}

-- The weight of control height i at stop k stands at 6 * k + i.
pub weight-table_at : (k i : ℕ) → k ≤ 64 → i < 6 → get_or weight_table (6 * k + i) 0 ≡ weight_of k i
unfolding weight_table
weight-table_at k i hk hi =
    let q : (6 * k + i) / 6 ≡ k = omega arith in
    let r : (6 * k + i) % 6 ≡ i = omega arith in
    table-entry (λ j. weight_of (j / 6) (j % 6)) 390 (6 * k + i) 0 (omega arith)
    ∙ ap (λ (n : ℕ). weight_of n ((6 * k + i) % 6)) q
    ∙ ap (weight_of k) r

-- 'each row sums to 2^30'
abbrev pub row_sum : ℕ → ℕ
row_sum k = weight_of k 0 + weight_of k 1 + weight_of k 2 + weight_of k 3 + weight_of k 4 + weight_of k 5

is_off : ℕ → Bool
is_off k = not (eqb (row_sum k) (2 ^ 30))

pub row-sum : (k : ℕ) → k ≤ 64 → row_sum k ≡ 2 ^ 30
unfolding is_off weight_of
row-sum k h = eqb-true (row_sum k) (2 ^ 30) (not-false (eqb (row_sum k) (2 ^ 30)) (none_found is_off 65 refl k (omega arith)))

-- The same of the list that `table` is proved to give: of row k, the six entries from 6k on.
pub table-row-sum : (k : ℕ) → k ≤ 64
    → get_or weight_table (6 * k + 0) 0 + get_or weight_table (6 * k + 1) 0 + get_or weight_table (6 * k + 2) 0 + get_or weight_table (6 * k + 3) 0
    + get_or weight_table (6 * k + 4) 0 + get_or weight_table (6 * k + 5) 0 ≡ 2 ^ 30
table-row-sum k h =
    let at : (i : ℕ) → i < 6 → get_or weight_table (6 * k + i) 0 ≡ weight_of k i = λ i l. weight-table_at k i h l in
    omega (
      arith,
      at 0 (omega arith),
      at 1 (omega arith),
      at 2 (omega arith),
      at 3 (omega arith),
      at 4 (omega arith),
      at 5 (omega arith),
      row-sum k h,
    )

-- So no weight exceeds 2 ^ 30.
pub weight-le : (k i : ℕ) → k ≤ 64 → i < 6 → weight_of k i ≤ 1073741824
weight-le k zero h l = omega (arith, row-sum k h)
weight-le k (suc zero) h l = omega (arith, row-sum k h)
weight-le k (suc (suc zero)) h l = omega (arith, row-sum k h)
weight-le k (suc (suc (suc zero))) h l = omega (arith, row-sum k h)
weight-le k (suc (suc (suc (suc zero)))) h l = omega (arith, row-sum k h)
weight-le k (suc (suc (suc (suc (suc zero))))) h l = omega (arith, row-sum k h)
weight-le k (suc (suc (suc (suc (suc (suc i)))))) h l = absurd (omega arith)

-- T10: 'weights at 32: 2^25 times 1, 5, 10, 10, 5, 1.'
pub weights_at_32 : table (weight_of 32) 6 ≡ 2 ^ 25 ∷ 2 ^ 25 * 5 ∷ 2 ^ 25 * 10 ∷ 2 ^ 25 * 10 ∷ 2 ^ 25 * 5 ∷ 2 ^ 25 ∷ []
unfolding weight_of
weights_at_32 = refl
