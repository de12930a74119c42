-- Between two turns of the loop the cursor, the reader and the lists come to what the whole text comes to; the cursor moves on.
use Rattle.std.proofs.Common.{length, ◌-◌, ◌≡◌, ◌≤◌}
use Rattle.feeding.specs.Reader.{most_lines, Housed}
use Rattle.gathering.specs.Values.{comes_to}
use Rattle.gathering.proofs.held.read_lines.Given as goal

abbrev pub invariant-loop-lines : goal.invariant-loop-lines
invariant-loop-lines l = record {
  text : l.lines.text.now ≡ l.text;
  within : l.lines.at ≤ length l.text;
  comes : comes_to l.text l.lines.at l.r l.values l.seen ≡ comes_to l.text 0 l.fn.start l.fn.values l.fn.seen;
  housed : Housed l.r l.seen l.marks;
  room : most_lines ≤ length l.values;
}

abbrev pub decreases-loop-lines : goal.decreases-loop-lines
decreases-loop-lines l = length l.lines.text.now - l.lines.at
