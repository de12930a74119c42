-- `collect` meets its contract: the lines are read from the reader before the first of them, and the text ends where the last of them does.
-- Assumes nothing.
use native.Mathlib.Omega.{arith}
use mathlib.Core.Path.{ap, ◌∙◌}
use Rattle.forms.specs.Form.{ended}
use Rattle.formats.proofs.PlaceLaws.{ahead-most}
use Rattle.feeding.proofs.MarkLaws.{marked_none}
use Rattle.gathering.proofs.FaultLaws.{fault-numbered}
use Rattle.gathering.proofs.values.collect.Goals as goal

pub read_lines-r-requires : goal.read_lines-r-requires
read_lines-r-requires c =
    let none = marked_none c.args.seen.now c.args.marks.now in
    let most = ahead-most c.args.first in
    (rw c.start.ensures (record { lines = omega (arith, most.0); tags = omega (arith, most.1, c.requires.1); places = c.requires.2; marked = none }), c.requires.0)

pub finish-requires : goal.finish-requires
finish-requires c =
    let e = rw c.start.ensures at c.read_lines-r.ensures.0 in
    (c.read_lines-r.ensures.1, fault-numbered _ _ _ _ _ _ _ _ e)

pub returns : goal.returns
returns c = record {
  values_after = c.finish.ensures.values_value ∙ ap ended (rw c.start.ensures at c.read_lines-r.ensures.0);
  result_bound = c.finish.ensures.result_bound;
}
