-- `put_stations` meets its contract: after i turns the lines of the first i stations are put. Assumes nothing.
use Prim.Native.Nat.{◌+◌, ◌*◌, ◌≤◌}
use Rattle.lists.specs.Rows.{rows}
use Rattle.pouring.proofs.PouredLaws.{Put}
use Rattle.rendering.specs.Lines.{station_text}
use Rattle.composing.proofs.put_stations.Given as goal

abbrev pub invariant-loop-i : goal.invariant-loop-i
invariant-loop-i l =
    Put l.initial.text l.at (rows (station_text l.tags l.x l.y l.z) l.i) l.next l.text × (l.next ≤ l.at + 128 * l.i)
