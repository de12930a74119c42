-- What one chain gives to the sums over directed sides and to the count. Assumes nothing.
use mathlib.Core.Path.{◌≡◌}
use mathlib.Core.List.{List, ◌∷◌}
use Prim.Native.Nat.{ℕ, suc, ◌+◌}
use native.Mathlib.Omega.{arith}
use lib.ListN.{length}
use lib.IntN.{ℤ}
use Rattle.whole.specs.Place.{Place}
use Rattle.sweep.specs.Sweep.{Triangle, pairs}
use Rattle.sweep.proofs.Stack.{Pops, end, keep, drop}
use Rattle.sweep.specs.Members.{total}
use Rattle.sweep.specs.Boundary.{back, around, along}

-- The sums of one chain: the triangles' sides are the new chain and, backwards, the old chain with q put on its top.
pub fan-sum : (g : Place → Place → ℕ) {O : Place → Place → Place → ℤ} {q t : Place} {l m : List Place} {ts : List Triangle} → Pops O q t l m ts →
    total (around g) ts + along (back g) q m + along g q (t ∷ l) ≡ total (around (back g)) ts + along g q m + along (back g) q (t ∷ l)
unfolding pairs total
fan-sum g end = omega arith
fan-sum g (keep h) = omega arith
fan-sum g (drop h r) = omega (arith, fan-sum g r)

-- The count of one chain: each pop moves one from the chain to the triangles.
pub fan-count : {O : Place → Place → Place → ℤ} {q t : Place} {l m : List Place} {ts : List Triangle} → Pops O q t l m ts → length ts + length m ≡ suc (length l)
fan-count end = omega arith
fan-count (keep h) = omega arith
fan-count (drop h r) = omega (arith, fan-count r)
