-- `run` meets its contract: what is read and what is left of the line come to the whole line. Assumes nothing.
use mathlib.Core.Path.{◌≡◌}
use Prim.Native.Nat.{◌+◌, ◌≤◌, max}
use lib.ListN.{length, drop}
use Rattle.shapes.specs.Line.{line_in}
use Rattle.shapes.specs.Bytes.{part_of}
use Rattle.shapes.proofs.line.run.Given as goal

abbrev pub invariant-loop-at : goal.invariant-loop-at
invariant-loop-at l =
    (part_of l.shape l.part (line_in (drop l.at l.piece)) ≡ part_of l.shape l.initial.part (line_in (drop l.from l.piece)))
    × (l.at + length (line_in (drop l.at l.piece)) ≡ l.from + length (line_in (drop l.from l.piece)))
    × (l.at ≤ max l.from (length l.piece))
