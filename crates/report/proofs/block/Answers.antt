-- `block` meets its contract: at each return the tests that led there say which case of the answer holds; only the last one writes.
-- Assumes nothing.
use mathlib.Core.Path.{refl, sym, ap, ◌∙◌}
use mir.Syntax.{w32}
use mir.Facts.{to_z-of_z}
use Rattle.formats.specs.Lines.{told}
use Rattle.report.specs.Report.{block_text, block_of}
use borrow.Author.Rules.{rules}
use Rattle.report.specs.Writer.{block_answer}
use Rattle.report.proofs.LevelLaws.{inside}
use Rattle.report.proofs.block.Goals as goal

pub returns-then-is_outside : goal.returns-then-is_outside
unfolding block_answer
returns-then-is_outside c =
    let far = rw (to_z-of_z {w = w32} {z = c.args.level} c.ranges.level) at c.is_outside.ensures in
    record {
      value = rw (sym far ∙ c.if-is_outside.true);
      room_after = refl;
    }

pub told_as-told-requires : goal.told_as-told-requires
told_as-told-requires c =
    let a = c.args in
    let f = to_z-of_z {w = w32} {z = a.level} c.ranges.level in
    let near = rw f at c.is_outside.ensures in
    rw f (inside a.level a.served a.unserved (sym near ∙ c.if-is_outside.false)).0

pub returns : goal.returns
unfolding block_answer block_of
returns c =
    let a = c.args in
    let f = to_z-of_z {w = w32} {z = a.level} c.ranges.level in
    let near = rw f at c.is_outside.ensures in
    let written = rw (c.told_as-told.ensures ∙ ap told f) at (c.write_fitted.ensures (block_text c.told_as-told.result a.served a.unserved) (λ old new r h. search rules)) in
    record { value = rw (sym near ∙ c.if-is_outside.false) written.0; room_after = written.1 }
