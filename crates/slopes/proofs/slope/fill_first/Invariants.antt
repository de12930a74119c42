-- `fill_first` meets its contract: after i turns p and q of the first i stations stand in the two slices. Assumes nothing.
use mathlib.Core.Path.{◌≡◌}
use mathlib.Core.List.{List, ◌++◌}
use Prim.Native.Nat.{ℕ}
use lib.IntN.{ℤ}
use lib.ListN.{drop}
use Rattle.lists.specs.Table.{table}
use Rattle.nearest.specs.Places.{places, value_in}
use Rattle.slopes.specs.Slopes.{slope_p, slope_q}
use Rattle.slopes.proofs.slope.fill_first.Given as goal

-- the first i values of f stand in the list
abbrev pub Filled : (ℕ → ℤ) → ℕ → List ℤ → List ℤ → Type 0
Filled f i old now = now ≡ table f i ++ drop i old

abbrev pub invariant-loop-i : goal.invariant-loop-i
invariant-loop-i l =
    Filled (slope_p (places l.x l.y) (value_in l.z)) l.i l.initial.p l.p × Filled (slope_q (places l.x l.y) (value_in l.z)) l.i l.initial.q l.q
