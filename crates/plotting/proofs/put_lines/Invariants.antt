-- `put_lines` meets its contract: after i turns the first i lines are put. Assumes nothing.
use mathlib.Core.Path.{◌≡◌}
use Prim.Native.Nat.{◌+◌, ◌*◌, ◌≤◌}
use Rattle.pouring.proofs.PouredLaws.{Put}
use Rattle.plotting.specs.Records.{vertices_before}
use Rattle.plotting.specs.Bytes.{lines_bytes}
use Rattle.plotting.proofs.put_lines.Given as goal

abbrev pub invariant-loop-r : goal.invariant-loop-r
invariant-loop-r l =
    (l.from ≡ vertices_before l.records l.r-index) × (l.next ≤ 60 * (1 + l.r-index + l.from)) × Put l.initial.out l.at (lines_bytes l.records l.x l.y l.r-index) l.next l.out
