-- How many vertices the first lines have. Assumes nothing.
use mathlib.Core.Path.{◌≡◌, ap}
use mathlib.Core.List.{List}
use Prim.Native.Nat.{ℕ, zero, suc, ◌+◌, ◌<◌, ◌≤◌}
use native.Mathlib.Numerals.{add-one}
use native.Mathlib.Decide.{dec_lt}
use native.Mathlib.Omega.{arith}
use lib.ListN.{length, get_or}
use Rattle.plotting.specs.Records.{vertices_of, vertices_before}

module _ (records : List ℕ) where
  pub before_more : (i : ℕ) → vertices_before records (i + 1) ≡ vertices_before records i + vertices_of (get_or records i 0)
  before_more i = ap (vertices_before records) (add-one i)

  before-le : (n i : ℕ) → i ≤ n → vertices_before records i ≤ vertices_before records n
  before-le zero i h = let e : i ≡ 0 = omega arith in rw e (omega arith)
  before-le (suc n) i h = go (dec_lt i (suc n)) (before-le n i)
    where
      go :
          Dec (i < suc n) → (i ≤ n → vertices_before records i ≤ vertices_before records n)
          → vertices_before records i ≤ vertices_before records (suc n)
      go (yes l) g = omega (arith, g (omega arith))
      go (no l) g = let e : i ≡ suc n = omega arith in rw e (omega arith)

  -- The vertices of line i end before those of all do.
  pub line-within : (i : ℕ) → i < length records → vertices_before records i + vertices_of (get_or records i 0) ≤ vertices_before records (length records)
  line-within i h = omega (arith, before_more i, before-le (length records) (i + 1) (omega arith))
