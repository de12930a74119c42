-- `lines` meets its contract: each arm of the match, and each test, is one case of `drawn`. Assumes nothing.
use Rattle.trace.specs.Lines.{records as records_of}
use Rattle.lines.proofs.JobLaws.{not_short, level_in, refused_why, refused-number, refused-room, done}
use Rattle.lines.specs.Job.{lengths, is_wrong}
use Rattle.lists.proofs.TestLaws.{or_right}
use Rattle.spots.specs.Lines.{lines_of, spots_of, xs_of, ys_of}
use Rattle.slopes.specs.Job.{slopes_of}
use Rattle.curve.proofs.HeldLaws.{held}
use Rattle.survey.proofs.FitLaws.{passed-fit}
use Rattle.survey.specs.Answer.{lines_done}
use Rattle.survey.specs.Survey.{survey}
use mir.Syntax.{w32}
use mir.Facts.{to_z-of_z}
use lib.ListN.{length, drop, replicate, length-append}
use lib.Seq.{drop_at, length-take-le}
use native.Mathlib.Omega.{arith}
use mathlib.Core.List.{◌++◌}
use mathlib.Core.Path.{refl, sym, ap, ap₂, ◌∙◌}
use Rattle.mesh.specs.Kinds.{is_no_kind, triangles_of}
use Rattle.lines.proofs.lines.Goals as goal

pub returns-then-is_wrong : goal.returns-then-is_wrong
returns-then-is_wrong c =
    let a = c.args in
    let s = survey a.x.now a.y.now a.z.now in
    let room = lengths (length a.vx.now) (length a.vy.now) (length a.records.now) (length a.slopes.now) (length a.work.now) in
    let e = sym c.check.ensures ∙ c.in_ok-check.was in
    let w = sym (c.is_wrong.ensures ∙ ap (λ z. is_wrong a.kind z a.style) (to_z-of_z c.ranges.level)) ∙ c.if-is_wrong.true in
    record {
      answer = sym (refused-number s (triangles_of a.kind s) (is_wrong a.kind a.level a.style) a.level a.style room e w);
      of_x = refl;
      of_y = refl;
      of_records = refl;
      of_slopes = refl;
      of_work = refl;
    }

pub is_short-requires : goal.is_short-requires
is_short-requires c =
    let a = c.args in
    let f = passed-fit (survey a.x.now a.y.now a.z.now) (sym c.check.ensures ∙ c.in_ok-check.was) in
    (f.least, f.most)

pub returns-then-is_short : goal.returns-then-is_short
returns-then-is_short c =
    let a = c.args in
    let s = survey a.x.now a.y.now a.z.now in
    let room = lengths (length a.vx.now) (length a.vy.now) (length a.records.now) (length a.slopes.now) (length a.work.now) in
    let e = sym c.check.ensures ∙ c.in_ok-check.was in
    let w = sym (c.is_wrong.ensures ∙ ap (λ z. is_wrong a.kind z a.style) (to_z-of_z c.ranges.level)) ∙ c.if-is_wrong.false in
    let r = sym c.is_short.ensures ∙ c.if-is_short.true in
    record {
      answer = sym (refused-room s (triangles_of a.kind s) (is_wrong a.kind a.level a.style) a.level a.style room e w r);
      of_x = refl;
      of_y = refl;
      of_records = refl;
      of_slopes = refl;
      of_work = refl;
    }

pub work_room-worked-requires : goal.work_room-worked-requires
work_room-worked-requires c =
    let a = c.args in
    let m = (passed-fit (survey a.x.now a.y.now a.z.now) (sym c.check.ensures ∙ c.in_ok-check.was)).most in
    omega (arith, m)

pub slice_bounds-draw_once-end : goal.slice_bounds-draw_once-end
slice_bounds-draw_once-end c =
    let a = c.args in
    let room = lengths (length a.vx.now) (length a.vy.now) (length a.records.now) (length a.slopes.now) (length a.work.now) in
    let r = not_short (length a.x.now) room (sym c.is_short.ensures ∙ c.if-is_short.false) in
    omega (arith, c.work_room-worked.ensures, r.work)

pub draw_once-traced-requires : goal.draw_once-traced-requires
draw_once-traced-requires c =
    let a = c.args in
    let s = survey a.x.now a.y.now a.z.now in
    let room = lengths (length a.vx.now) (length a.vy.now) (length a.records.now) (length a.slopes.now) (length a.work.now) in
    let e = sym c.check.ensures ∙ c.in_ok-check.was in
    let w = sym (c.is_wrong.ensures ∙ ap (λ z. is_wrong a.kind z a.style) (to_z-of_z c.ranges.level)) ∙ c.if-is_wrong.false in
    let r = not_short (length a.x.now) room (sym c.is_short.ensures ∙ c.if-is_short.false) in
    let k = c.work_room-worked.ensures in (
      passed-fit s e,
      held w32 (level_in a.level a.style (or_right (is_no_kind a.kind) _ w)) tt,
      r.x,
      r.y,
      r.records,
      r.slopes,
      omega (arith, k, length-take-le c.work_room-worked.result a.work.now (omega (arith, k, r.work))),
    )

pub clear-requires : goal.clear-requires
clear-requires c =
    let a = c.args in
    let room = lengths (length a.vx.now) (length a.vy.now) (length a.records.now) (length a.slopes.now) (length a.work.now) in
    let r = not_short (length a.x.now) room (sym c.is_short.ensures ∙ c.if-is_short.false) in
    let d = c.draw_once-traced in
    let k = c.work_room-worked in
    let part = length-take-le k.result a.work.now (omega (arith, k.ensures, r.work)) in
    omega (arith, length-append d.new.work (drop k.result a.work.now), d.auto.work, part)

pub returns : goal.returns
returns c =
    let a = c.args in
    let s = survey a.x.now a.y.now a.z.now in
    let room = lengths (length a.vx.now) (length a.vy.now) (length a.records.now) (length a.slopes.now) (length a.work.now) in
    let e = sym c.check.ensures ∙ c.in_ok-check.was in
    let h = to_z-of_z c.ranges.level in
    let w = sym (c.is_wrong.ensures ∙ ap (λ z. is_wrong a.kind z a.style) h) ∙ c.if-is_wrong.false in
    let r = sym c.is_short.ensures ∙ c.if-is_short.false in
    let d = c.draw_once-traced in
    let g = d.ensures in
    let n = slopes_of s in
    let ts = triangles_of a.kind s in
    let k = c.work_room-worked in
    let part = length-take-le k.result a.work.now (omega (arith, k.ensures, (not_short (length a.x.now) room r).work)) in record {
      answer = ap₂ lines_done (g.counts.0 ∙ ap (λ z. length (lines_of s ts z)) h) (g.counts.1 ∙ ap (λ z. length (spots_of s ts n a.style z)) h) ∙ sym (done s (triangles_of a.kind s) (is_wrong a.kind a.level a.style) a.level a.style room e w r);
      of_x = g.of_x ∙ ap (λ z. xs_of (spots_of s ts n a.style z) ++ drop d.result.vertices a.vx.now) h;
      of_y = g.of_y ∙ ap (λ z. ys_of (spots_of s ts n a.style z) ++ drop d.result.vertices a.vy.now) h;
      of_records = g.of_records ∙ ap (λ z. records_of (lines_of s ts z) ++ drop d.result.lines a.records.now) h;
      of_slopes = g.of_slopes;
      of_work = c.clear.ensures
          ∙ ap (λ l. replicate k.result 0 ++ l) (drop_at d.new.work (drop k.result a.work.now) k.result (d.auto.work ∙ part))
          ∙ ap (λ m. replicate m 0 ++ drop m a.work.now) k.ensures;
    }
