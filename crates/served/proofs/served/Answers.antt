-- `served` meets its contract: each test is one case of `counted`, and a survey that passes the checks is fit. Assumes nothing.
use mathlib.Core.Path.{refl, sym, ap, ◌∙◌}
use mathlib.Core.List.{List, ◌++◌}
use Prim.Native.Nat.{ℕ}
use native.Mathlib.Omega.{arith}
use lib.ListN.{length, drop, replicate, length-append}
use lib.Seq.{drop_at, length-take-le}
use mir.Syntax.{w32}
use mir.Facts.{to_z-of_z}
use Rattle.lists.proofs.TestLaws.{or_right}
use Rattle.survey.specs.Survey.{survey}
use Rattle.survey.specs.Answer.{Answer, figures_done}
use Rattle.survey.specs.declared.answers.Figures.{Figures}
use Rattle.survey.proofs.FitLaws.{passed-fit}
use Rattle.curve.proofs.HeldLaws.{held}
use Rattle.mesh.specs.Kinds.{is_no_kind, triangles_of}
use Rattle.lines.specs.Job.{is_wrong}
use Rattle.lines.proofs.JobLaws.{level_in}
use Rattle.served.specs.Job.{figures_over}
use Rattle.served.proofs.JobLaws.{not_tight, refused-number, refused-room, done}
use Rattle.served.proofs.served.Goals as goal

pub returns-then-is_wrong : goal.returns-then-is_wrong
returns-then-is_wrong c =
    let a = c.args in
    let s = survey a.x.now a.y.now a.z.now in
    let e = sym c.check.ensures ∙ c.in_ok-check.was in
    let w = sym (c.is_wrong.ensures ∙ ap (λ z. is_wrong a.kind z a.style) (to_z-of_z c.ranges.level)) ∙ c.if-is_wrong.true in
    record {
      value = sym (refused-number s a.kind a.level a.style (length a.slopes.now) (length a.work.now) e w);
      slopes_after = refl;
      work_after = refl;
    }

pub is_tight-requires : goal.is_tight-requires
is_tight-requires c =
    let a = c.args in
    omega (arith, (passed-fit (survey a.x.now a.y.now a.z.now) (sym c.check.ensures ∙ c.in_ok-check.was)).most)

pub returns-then-is_tight : goal.returns-then-is_tight
returns-then-is_tight c =
    let a = c.args in
    let s = survey a.x.now a.y.now a.z.now in
    let e = sym c.check.ensures ∙ c.in_ok-check.was in
    let w = sym (c.is_wrong.ensures ∙ ap (λ z. is_wrong a.kind z a.style) (to_z-of_z c.ranges.level)) ∙ c.if-is_wrong.false in
    let tight = sym c.is_tight.ensures ∙ c.if-is_tight.true in
    record {
      value = sym (refused-room s a.kind a.level a.style (length a.slopes.now) (length a.work.now) e w tight);
      slopes_after = refl;
      work_after = refl;
    }

pub work_room-worked-requires : goal.work_room-worked-requires
work_room-worked-requires c =
    let a = c.args in
    omega (arith, (passed-fit (survey a.x.now a.y.now a.z.now) (sym c.check.ensures ∙ c.in_ok-check.was)).most)

pub slice_bounds-count_once-end : goal.slice_bounds-count_once-end
slice_bounds-count_once-end c =
    let a = c.args in
    let room = not_tight (length a.x.now) (length a.slopes.now) (length a.work.now) (sym c.is_tight.ensures ∙ c.if-is_tight.false) in
    omega (arith, c.work_room-worked.ensures, room.1)

pub count_once-figures-requires : goal.count_once-figures-requires
count_once-figures-requires c =
    let a = c.args in
    let s = survey a.x.now a.y.now a.z.now in
    let w = sym (c.is_wrong.ensures ∙ ap (λ z. is_wrong a.kind z a.style) (to_z-of_z c.ranges.level)) ∙ c.if-is_wrong.false in
    let room = not_tight (length a.x.now) (length a.slopes.now) (length a.work.now) (sym c.is_tight.ensures ∙ c.if-is_tight.false) in
    let k = c.work_room-worked in (
      passed-fit s (sym c.check.ensures ∙ c.in_ok-check.was),
      held w32 (level_in a.level a.style (or_right (is_no_kind a.kind) _ w)) tt,
      room.0,
      omega (arith, k.ensures, length-take-le k.result a.work.now (omega (arith, k.ensures, room.1))),
    )

pub clear-requires : goal.clear-requires
clear-requires c =
    let a = c.args in
    let room = not_tight (length a.x.now) (length a.slopes.now) (length a.work.now) (sym c.is_tight.ensures ∙ c.if-is_tight.false) in
    let d = c.count_once-figures in
    let k = c.work_room-worked in
    let part = length-take-le k.result a.work.now (omega (arith, k.ensures, room.1)) in
    omega (arith, length-append d.new.work (drop k.result a.work.now), d.auto.work, part)

-- The figures, with their two fields written out.
abbrev both : Figures → Answer Figures
both f = figures_done f.served f.unserved

pub returns : goal.returns
returns c =
    let a = c.args in
    let s = survey a.x.now a.y.now a.z.now in
    let e = sym c.check.ensures ∙ c.in_ok-check.was in
    let h = to_z-of_z c.ranges.level in
    let w = sym (c.is_wrong.ensures ∙ ap (λ z. is_wrong a.kind z a.style) h) ∙ c.if-is_wrong.false in
    let tight = sym c.is_tight.ensures ∙ c.if-is_tight.false in
    let room = not_tight (length a.x.now) (length a.slopes.now) (length a.work.now) tight in
    let d = c.count_once-figures in
    let k = c.work_room-worked in
    let part = length-take-le k.result a.work.now (omega (arith, k.ensures, room.1)) in record {
      value = ap both d.ensures.value
          ∙ ap (λ z. figures_over s (triangles_of a.kind s) a.style z) h
          ∙ sym (done s a.kind a.level a.style (length a.slopes.now) (length a.work.now) e w tight);
      slopes_after = d.ensures.slopes_after;
      work_after = c.clear.ensures
          ∙ ap (λ (l : List ℕ). replicate k.result 0 ++ l) (drop_at d.new.work (drop k.result a.work.now) k.result (d.auto.work ∙ part))
          ∙ ap (λ (m : ℕ). replicate m 0 ++ drop m a.work.now) k.ensures;
    }
