-- `put_vertices` meets its contract: after i turns the first i vertices are put. Assumes nothing.
use Prim.Native.Nat.{◌+◌, ◌*◌, ◌≤◌}
use lib.ListN.{length}
use Rattle.pouring.proofs.PouredLaws.{Put}
use Rattle.plotting.specs.Bytes.{vertices_bytes}
use Rattle.plotting.proofs.put_vertices.Given as goal

abbrev pub invariant-loop-x : goal.invariant-loop-x
invariant-loop-x l =
    (l.next ≤ l.at + 60 * length l.yielded) × Put l.initial.out l.at (vertices_bytes l.x l.y 0 (length l.yielded)) l.next l.out
