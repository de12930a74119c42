-- `end_line` meets its contract. Assumes nothing.
use mathlib.Core.Path.{sym, ◌∙◌}
use native.Mathlib.Numerals.{add-one}
use native.Mathlib.Omega.{arith}
use Rattle.formats.proofs.PlaceLaws.{ahead-less, place-line, place-next}
use Rattle.feeding.proofs.reader.end_line.Goals as goal

pub returns-in-Ok-clause-by_index : goal.returns-in-Ok-clause-by_index
returns-in-Ok-clause-by_index c =
    let p = c.args.r.place in
    let v = c.in-Ok.value in
    let e = sym c.line_told.ensures ∙ c.in-Ok.is in
    let g = c.keep_tag-tags in
    λ vs. rw (c.requires.1, place-line p.line _ _ _ c.requires.2, e, place-next p.line _ _ _ v, c.next.ensures, g.ensures.seen_after, add-one)

pub returns-in-Ok-clause-housed : goal.returns-in-Ok-clause-housed
returns-in-Ok-clause-housed c =
    let h = c.requires.0 in
    let p = c.args.r.place in
    let e = sym c.line_told.ensures ∙ c.in-Ok.is in
    let n = c.next in
    let l = rw (← n.ensures) at (ahead-less p.line p.left p.least _ c.args.part c.in-Ok.value c.requires.2 e) in
    let g = c.keep_tag-tags in record {
      lines = omega (arith, h.lines, l.0);
      tags = omega (arith, h.tags, l.1, g.ensures.value, g.auto.seen);
      places = g.auto.marks ∙ h.places;
      marked = g.ensures.marked;
    }
