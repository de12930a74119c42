-- `step` meets its contract. Assumes nothing.
use mathlib.Core.Path.{sym, ◌∙◌}
use native.Mathlib.Omega.{arith}
use Rattle.formats.proofs.PlaceLaws.{place-line, end-form}
use Rattle.feeding.proofs.ReaderLaws.{no-fault, feed-fault, feed-failed, feed-end, line_out, line-over}
use Rattle.feeding.proofs.reader.step.Goals as goal

pub returns-then-is_some-clause-by_index : goal.returns-then-is_some-clause-by_index
returns-then-is_some-clause-by_index c = λ vs. feed-fault c.args.r.fault _ _ _ _ (sym c.is_some.ensures ∙ c.if-is_some.true)

pub returns-then-is_end-clause-by_index : goal.returns-then-is_end-clause-by_index
returns-then-is_end-clause-by_index c =
    let p = c.args.r.place in
    let e = no-fault c.args.r.fault (sym c.is_some.ensures ∙ c.if-is_some.false) in
    let d = sym c.is_end.ensures ∙ c.if-is_end.true in
    λ vs. rw (e, end-form p.line _ _ _ d, feed-end _ _ _ _ _ c.requires.1, feed-failed) cc

pub returns-then-piece-reached-clause-by_index : goal.returns-then-piece-reached-clause-by_index
returns-then-piece-reached-clause-by_index c =
    let p = c.args.r.place in
    let e = no-fault c.args.r.fault (sym c.is_some.ensures ∙ c.if-is_some.false) in
    let d = sym c.is_end.ensures ∙ c.if-is_end.false in
    let run = c.run-reached in
    let g = rw c.shape_at.ensures at run.ensures.part_value in
    λ vs. rw (e, place-line p.line _ _ _ d, g)
    (line_out _ _ _ _ vs _ _ _ c.requires.1 (omega (arith, run.ensures.at_value, c.if-piece-reached.true)))

pub returns-clause-by_index : goal.returns-clause-by_index
returns-clause-by_index c =
    let a = c.args in
    let p = a.r.place in
    let e = no-fault a.r.fault (sym c.is_some.ensures ∙ c.if-is_some.false) in
    let d = sym c.is_end.ensures ∙ c.if-is_end.false in
    let run = c.run-reached in
    let g = rw c.shape_at.ensures at run.ensures.part_value in
    let n = run.ensures.at_value in
    let k = c.end_line.ensures in
    let l = c.if-piece-reached.false in
    λ vs. rw (k.by_index vs, k.at_value.0, n, e, place-line p.line _ _ _ d, g) (line-over _ _ _ _ vs a.piece.now a.from _ (omega (arith, n)))
