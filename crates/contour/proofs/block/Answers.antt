-- `block` meets its contract: at each return the tests that led there say which case of the answer holds; only the last one writes.
-- Assumes nothing.
use mathlib.Core.Path.{refl, sym, ap, ◌∙◌}
use borrow.Author.Tests.{not-true, not-false}
use mir.Syntax.{w32}
use mir.Facts.{to_z-of_z}
use Rattle.formats.specs.Lines.{told}
use Rattle.contour.specs.Contour.{block_of}
use Rattle.contour.specs.Writer.{block_answer}
use Rattle.contour.proofs.LevelLaws.{inside}
use Rattle.contour.proofs.AnswerLaws.{listed}
use Rattle.contour.proofs.block.Goals as goal

pub returns-then-not-is_listed : goal.returns-then-not-is_listed
unfolding block_answer
returns-then-not-is_listed c =
    record {
      value = rw (sym c.is_listed.ensures ∙ not-true _ c.if-not-is_listed.true-raw);
      room_after = refl;
    }

pub returns-then-is_outside : goal.returns-then-is_outside
unfolding block_answer
returns-then-is_outside c =
    let far = rw (to_z-of_z {w = w32} {z = c.args.level} c.ranges.level) at c.is_outside.ensures in
    record {
      value = rw (sym c.is_listed.ensures ∙ not-false _ c.if-not-is_listed.false-raw, sym far ∙ c.if-is_outside.true);
      room_after = refl;
    }

pub told_as-requires : goal.told_as-requires
told_as-requires c =
    let a = c.args in
    let f = to_z-of_z {w = w32} {z = a.level} c.ranges.level in
    let near = rw f at c.is_outside.ensures in
    rw f (inside a.level a.x.now a.y.now (sym near ∙ c.if-is_outside.false)).0

pub write_block-requires : goal.write_block-requires
write_block-requires c =
    let a = c.args in
    let near = rw (to_z-of_z {w = w32} {z = a.level} c.ranges.level) at c.is_outside.ensures in
    let n = inside a.level a.x.now a.y.now (sym near ∙ c.if-is_outside.false) in
    (listed a.records.now a.x.now a.y.now (sym c.is_listed.ensures ∙ not-false _ c.if-not-is_listed.false-raw), n.1, n.2)

pub returns : goal.returns
unfolding block_answer block_of
returns c =
    let f = to_z-of_z {w = w32} {z = c.args.level} c.ranges.level in
    let inside = rw f at c.is_outside.ensures in
    let written = rw (c.told_as.ensures ∙ ap told f) at c.write_block.ensures in
    record {
      value = rw (sym c.is_listed.ensures ∙ not-false _ c.if-not-is_listed.false-raw, sym inside ∙ c.if-is_outside.false) written.0;
      room_after = written.1;
    }
