-- `tag_number` meets its contract: after j turns the number is that of the first j bytes. Assumes nothing.
use mathlib.Core.Path.{◌≡◌}
use Prim.Native.Nat.{◌≤◌}
use Rattle.rendering.specs.Filed.{tag_byte_of, packed}
use Rattle.tags.proofs.tag_number.Given as goal

abbrev pub invariant-loop-j : goal.invariant-loop-j
invariant-loop-j l = (l.size ≤ 8) × (l.number ≡ packed (tag_byte_of l.tags l.i) l.j)
