-- `put_levels` meets its contract: after k turns the lines of the first k levels are put. Assumes nothing.
use Prim.Native.Nat.{◌+◌, ◌*◌, ◌≤◌}
use Rattle.lists.specs.Rows.{rows}
use Rattle.pouring.proofs.PouredLaws.{Put}
use Rattle.rendering.specs.Lines.{level_text}
use Rattle.composing.proofs.put_levels.Given as goal

abbrev pub invariant-loop-level : goal.invariant-loop-level
invariant-loop-level l =
    Put l.initial.text l.at (rows (level_text l.levels) l.level-index) l.next l.text × (l.next ≤ l.at + 32 * l.level-index)
