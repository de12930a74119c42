-- The cut to a bound: document 01, "Slopes" and "The curve along a side". Assumes nothing.
use Rattle.std.specs.Prelude.{cond, ℕ, ℤ, pos, neg_ℤ}
use Rattle.std.specs.Int.Signed.{lt_z}

-- 'cut to within ±268,435,456', for any bound: a number beyond the bound becomes the bound on its side.
unfoldable pub cut : ℕ → ℤ → ℤ
cut bound z = cond (lt_z (pos bound) z) (pos bound) (cond (lt_z z (neg_ℤ (pos bound))) (neg_ℤ (pos bound)) z)
