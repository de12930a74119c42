-- `nearest_where` meets its contract: after k turns f holds the first four of those below k that pass the test. Assumes nothing.
use mathlib.Core.Path.{◌≡◌}
use mathlib.Core.Bool.{Bool}
use Prim.Native.Nat.{ℕ}
use lib.ListN.{length}
use Rattle.nearest.specs.Places.{places}
use Rattle.nearest.specs.Nearest.{sorted, distance_from}
use Rattle.nearest.specs.Four.{four_of, Tests, Rising}
use Rattle.nearest.proofs.nearest_where.Given as goal

abbrev pub invariant-loop-k : goal.invariant-loop-k
invariant-loop-k g l =
    ((p : ℕ → Bool) → Tests (goal.F-post g l.passes) (length l.x) p → l.f ≡ four_of (distance_from (places l.x l.y) l.i) l.i (sorted (distance_from (places l.x l.y) l.i) p l.k))
    × Rising l.f
