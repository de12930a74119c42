use mathlib.Core.Path.{sym, ap, ◌∙◌}
use Prim.Native.Nat.{◌+◌}
use native.Mathlib.Omega.{arith}
use borrow.Author.Tests.{eq-eqb, ne_eqb}
use lib.ListN.{length, drop}
use Rattle.shapes.specs.declared.line.Part.{Part}
use Rattle.shapes.specs.Line.{line_in}
use Rattle.shapes.specs.Bytes.{part_of}
use Rattle.shapes.proofs.LineLaws.{part-more, line-more, line-stops, line-done}
use Rattle.shapes.proofs.line.run.Goals as goal

pub returns-then-piece-at-eq10 : goal.returns-then-piece-at-eq10
unfolding part_of
returns-then-piece-at-eq10 c =
    let l = c.loop-at in
    let e = line-stops c.args.piece.now l.at (omega arith) (eq-eqb _ _ c.if-piece-at-eq10.true) in record {
      part_value = sym (ap (part_of c.args.shape l.part) e) ∙ l.invariant.0;
      at_value = omega (arith, ap length e, l.invariant.1);
    }

pub loop-at-preserved : goal.loop-at-preserved
loop-at-preserved c =
    let s = c.args.shape in
    let t = c.args.piece.now in
    let l = c.loop-at in
    let e = line-more t l.at (omega arith) (ne_eqb _ _ c.if-piece-at-eq10.false) in (
      ap (λ (p : Part). part_of s p (line_in (drop (l.at + 1) t))) c.line_on-part.ensures
          ∙ sym (ap (part_of s l.part) e ∙ part-more s l.part _ (line_in (drop (l.at + 1) t))) ∙ l.invariant.0,
      omega (arith, ap length e, l.invariant.1),
      omega arith,
    )

pub returns : goal.returns
unfolding part_of
returns c =
    let l = c.loop-at in
    let e = line-done c.args.piece.now l.at (omega arith) in record {
      part_value = sym (ap (part_of c.args.shape l.part) e) ∙ l.invariant.0;
      at_value = omega (arith, ap length e, l.invariant.1, l.invariant.2, c.max.ensures);
    }
