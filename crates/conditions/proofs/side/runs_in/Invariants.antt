-- `runs_in` meets its contract: the sum over the triangles so far. Assumes nothing.
use mathlib.Core.Path.{◌≡◌}
use Prim.Native.Nat.{◌≤◌, ◌*◌}
use Rattle.neighbours.specs.Room.{threes}
use Rattle.hull.specs.MeshOf.{runs_in}
use Rattle.conditions.proofs.side.runs_in.Given as goal

abbrev pub invariant-loop-k : goal.invariant-loop-k
invariant-loop-k l = (l.sum ≡ runs_in l.i l.j (threes l.k l.triangles)) × (l.sum ≤ 3 * l.k)
