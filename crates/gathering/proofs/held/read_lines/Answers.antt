-- `read_lines` meets its contract: where the cursor is at the end of the text, nothing is left to read. Assumes nothing.
use mathlib.Core.Path.{refl, sym, ◌∙◌}
use native.Mathlib.Omega.{arith}
use lib.ListN.{take}
use Rattle.feeding.specs.Reader.{meant}
use Rattle.feeding.proofs.ReaderLaws.{feed_none}
use Rattle.gathering.proofs.held.read_lines.Goals as goal

pub loop-lines-init : goal.loop-lines-init
loop-lines-init c = record { text = refl; within = omega arith; comes = refl; housed = c.requires.0; room = c.requires.1 }

pub line_at-s-requires : goal.line_at-s-requires
line_at-s-requires c = (c.loop-lines-test.true, c.loop-lines.invariant.housed, c.loop-lines.invariant.room)

pub loop-lines-preserved : goal.loop-lines-preserved
loop-lines-preserved c =
    let i = c.loop-lines.invariant in
    let told = rw i.text at c.line_at-s.ensures in record {
      text = i.text;
      within = told.within;
      comes = told.comes ∙ i.comes;
      housed = told.housed;
      room = omega (arith, i.room, c.line_at-s.auto.values);
    }

pub returns : goal.returns
returns c =
    let l = c.loop-lines in
    let i = l.invariant in
    let over = rw i.text at c.loop-lines-test.false in
    (sym (feed_none (meant l.r (take l.r.lines l.values) l.seen) c.args.text.now l.lines.at over) ∙ i.comes, omega (arith, i.housed.lines))
