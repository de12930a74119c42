-- `left_of` meets its contract: each turn goes down one side that is seen. Assumes nothing.
use mathlib.Core.Path.{◌≡◌}
use Prim.Native.Nat.{◌≤◌}
use Rattle.triangles.specs.Chain.{places_of, is_seen_at, down_to}
use Rattle.triangles.proofs.chain.left_of.Given as goal

abbrev pub invariant-loop-j : goal.invariant-loop-j
invariant-loop-j l =
    (l.j ≤ l.a) × (down_to (is_seen_at (places_of l.x l.y) l.upper l.chain l.q) l.j ≡ down_to (is_seen_at (places_of l.x l.y) l.upper l.chain l.q) l.a)
