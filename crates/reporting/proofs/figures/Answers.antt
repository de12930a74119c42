-- `figures` meets its contract: ready rooms are at hand for every level, and its figures are done in the room. Assumes nothing.
use mathlib.Core.Path.{ap, ◌∙◌}
use mathlib.Core.List.{List, ◌++◌}
use Prim.Native.Nat.{ℕ}
use native.Mathlib.Omega.{arith}
use lib.IntN.{pos}
use lib.ListN.{length, get_or, take, drop}
use mir.Syntax.{w32}
use Rattle.survey.specs.Survey.{survey}
use Rattle.curve.proofs.HeldLaws.{held, held_is}
use Rattle.neighbours.specs.Room.{threes}
use Rattle.served.specs.Figures.{figures_of}
use Rattle.survey.specs.declared.answers.Figures.{Figures}
use Rattle.contour.specs.Writer.{room_after}
use Rattle.report.specs.Report.{block_of}
use Rattle.report.specs.Writer.{block_answer}
use Rattle.program.proofs.DoneLaws.{written}
use Rattle.program.proofs.ReadyLaws.{xs-taken, ys-taken, zs-taken, few-levels, level_in, of_level}
use Rattle.reporting.specs.Reporting.{level_figures}
use Rattle.reporting.proofs.FigureLaws.{at_hand, figures-done}
use Rattle.reporting.proofs.figures.Goals as goal

pub offset_bounds-levels-k : goal.offset_bounds-levels-k
offset_bounds-levels-k c = omega (arith, few-levels c.requires.0 c.args.k c.requires.1)

pub bounds-levels-k : goal.bounds-levels-k
bounds-levels-k c = few-levels c.requires.0 c.args.k c.requires.1

pub slice_bounds-count-end : goal.slice_bounds-count-end
slice_bounds-count-end c = xs-taken c.requires.0

pub slice_bounds-count-end-2 : goal.slice_bounds-count-end-2
slice_bounds-count-end-2 c = ys-taken c.requires.0

pub slice_bounds-count-end-3 : goal.slice_bounds-count-end-3
slice_bounds-count-end-3 c = zs-taken c.requires.0

pub count-counted-requires : goal.count-counted-requires
count-counted-requires c =
    let r = c.requires.0 in
    (at_hand r, held w32 (level_in r c.args.k c.requires.1) tt)

pub returns : goal.returns
returns c =
    let a = c.args in
    let o = a.opened in
    let room = a.room.now in
    let s = survey (take o.stations a.x.now) (take o.stations a.y.now) (take o.stations a.z.now) in
    let ts = threes o.triangles a.work.now in
    let level = get_or a.levels.now a.k (pos 0) in
    let r = c.requires.0 in
    let within = level_in r a.k c.requires.1 in
    let same = held_is w32 within tt in
    let p = at_hand r in
    let counted = c.count-counted.ensures ∙ ap (figures_of s ts o.style) same in
    let served_is = ap (λ (f : Figures). f.served) counted in
    let unserved_is = ap (λ (f : Figures). f.unserved) counted in
    let w = c.block-w in
    let done =
    w.ensures.value
    ∙ (λ i. block_answer (same i) (served_is i) (unserved_is i) (length room))
    ∙ figures-done s p.fit ts p.mesh o.style level within (length room) (omega arith) in
    let put = w.ensures.room_after ∙ (λ i. room_after (block_of (same i) (served_is i) (unserved_is i)) w.result room) in
    let out = written (level_figures s ts o.style level) room done c.bytes_of.ensures put in
    let text = of_level r a.k c.requires.1 level_figures in
    record {
      value = out.0 ∙ ap length text;
      room_after = out.1 ∙ ap (λ (l : List ℕ). l ++ drop c.bytes_of.result room) text;
    }
