-- `lowest_between` meets its contract: the best of the keys passed is known, and so is its place. Assumes nothing.
use mathlib.Core.Path.{◌≡◌}
use Prim.Native.Nat.{ℕ, ◌≤◌, ◌<◌}
use lib.ListN.{get_or}
use Rattle.tops.proofs.lowest_between.Given as goal

abbrev pub invariant-loop-i : goal.invariant-loop-i
invariant-loop-i l =
    (l.i ≤ l.z) × (l.a ≤ l.best) × (l.best < l.i) × ((g : ℕ) → l.a ≤ g → g < l.i → get_or l.keys l.best 0 ≤ get_or l.keys g 0) × (l.least ≡ get_or l.keys l.best 0)
