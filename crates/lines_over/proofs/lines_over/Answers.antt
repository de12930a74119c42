-- `lines_over` meets its contract: each arm of the match, and each test, is one case of `drawn_on`. Assumes nothing.
use Rattle.trace.specs.Lines.{records as records_of}
use mathlib.Core.Path.{◌≡◌, refl, sym, ap, ap₂, ◌∙◌}
use mathlib.Core.Bool.{false}
use mathlib.Core.List.{◌++◌}
use native.Mathlib.Omega.{arith}
use lib.ListN.{length, take, drop, replicate, length-append}
use lib.Seq.{drop_at, length-take-le}
use mir.Syntax.{w32}
use mir.Facts.{to_z-of_z}
use Rattle.survey.specs.Survey.{survey}
use Rattle.std.specs.Prelude.{Ok}
use Rattle.survey.specs.Answer.{lines_done}
use Rattle.curve.proofs.HeldLaws.{held}
use Rattle.slopes.specs.Job.{slopes_of}
use Rattle.spots.specs.Lines.{lines_of, spots_of, xs_of, ys_of}
use Rattle.neighbours.proofs.RoomLaws.{length-threes}
use Rattle.hull.proofs.SoundLaws.{mesh-triangles-fit}
use Rattle.woven.specs.Accepted.{whole_in, supplied_in, checked_over}
use Rattle.woven.proofs.AcceptedLaws.{passed-mesh}
use Rattle.lines.specs.Job.{lengths, is_off, is_short}
use Rattle.lines.proofs.JobLaws.{not_short, level_in, refused_why, refused-number, refused-room, done}
use Rattle.lines_over.proofs.lines_over.Goals as goal

pub returns-then-is_off : goal.returns-then-is_off
returns-then-is_off c =
    let a = c.args in
    let s = survey a.x.now a.y.now a.z.now in
    let l = a.triangles.now in
    let passed : checked_over s l ≡ (Ok tt) = sym c.check.ensures ∙ c.in_ok-check.was in
    let ts = supplied_in l in
    let off = is_off a.level a.style in
    let room = lengths (length a.vx.now) (length a.vy.now) (length a.records.now) (length a.slopes.now) (length a.work.now) in
    let w = sym (c.is_off.ensures ∙ ap (λ z. is_off z a.style) (to_z-of_z c.ranges.level)) ∙ c.if-is_off.true in
    record {
      answer = sym (refused-number s ts off a.level a.style room passed w);
      of_x = refl;
      of_y = refl;
      of_records = refl;
      of_slopes = refl;
      of_work = refl;
    }

pub is_short-requires : goal.is_short-requires
is_short-requires c =
    let a = c.args in
    let s = survey a.x.now a.y.now a.z.now in
    let l = a.triangles.now in
    let passed : checked_over s l ≡ (Ok tt) = sym c.check.ensures ∙ c.in_ok-check.was in
    let f = (passed-mesh s l passed).0 in
    (f.least, f.most)

pub returns-then-is_short : goal.returns-then-is_short
returns-then-is_short c =
    let a = c.args in
    let s = survey a.x.now a.y.now a.z.now in
    let l = a.triangles.now in
    let passed : checked_over s l ≡ (Ok tt) = sym c.check.ensures ∙ c.in_ok-check.was in
    let ts = supplied_in l in
    let off = is_off a.level a.style in
    let room = lengths (length a.vx.now) (length a.vy.now) (length a.records.now) (length a.slopes.now) (length a.work.now) in
    let in_range : is_off a.level a.style ≡ false = sym (c.is_off.ensures ∙ ap (λ z. is_off z a.style) (to_z-of_z c.ranges.level)) ∙ c.if-is_off.false in
    let w = sym c.is_short.ensures ∙ c.if-is_short.true in
    record {
      answer = sym (refused-room s ts off a.level a.style room passed in_range w);
      of_x = refl;
      of_y = refl;
      of_records = refl;
      of_slopes = refl;
      of_work = refl;
    }

pub work_room-worked-requires : goal.work_room-worked-requires
work_room-worked-requires c =
    let a = c.args in
    let s = survey a.x.now a.y.now a.z.now in
    let l = a.triangles.now in
    let passed : checked_over s l ≡ (Ok tt) = sym c.check.ensures ∙ c.in_ok-check.was in
    omega (arith, (passed-mesh s l passed).0.most)

pub slice_bounds-draw_over-end : goal.slice_bounds-draw_over-end
slice_bounds-draw_over-end c =
    let a = c.args in
    let room = lengths (length a.vx.now) (length a.vy.now) (length a.records.now) (length a.slopes.now) (length a.work.now) in
    let long : is_short (length a.x.now) room ≡ false = sym c.is_short.ensures ∙ c.if-is_short.false in
    let enough = not_short (length a.x.now) room long in
    omega (arith, c.work_room-worked.ensures, enough.work)

pub draw_over-traced-requires : goal.draw_over-traced-requires
draw_over-traced-requires c =
    let a = c.args in
    let s = survey a.x.now a.y.now a.z.now in
    let l = a.triangles.now in
    let passed : checked_over s l ≡ (Ok tt) = sym c.check.ensures ∙ c.in_ok-check.was in
    let room = lengths (length a.vx.now) (length a.vy.now) (length a.records.now) (length a.slopes.now) (length a.work.now) in
    let in_range : is_off a.level a.style ≡ false = sym (c.is_off.ensures ∙ ap (λ z. is_off z a.style) (to_z-of_z c.ranges.level)) ∙ c.if-is_off.false in
    let long : is_short (length a.x.now) room ≡ false = sym c.is_short.ensures ∙ c.if-is_short.false in
    let enough = not_short (length a.x.now) room long in
    let lent = c.work_room-worked.result in
    let front : length (take lent a.work.now) ≡ lent = length-take-le lent _ (omega (arith, c.work_room-worked.ensures, enough.work)) in
    let m = passed-mesh s l passed in (
      m.0,
      m.2,
      omega (arith, mesh-triangles-fit s m.0 (supplied_in l) m.2, length-threes (whole_in l) l, m.0.most),
      omega (arith, m.1),
      held w32 (level_in a.level a.style in_range) tt,
      enough.x,
      enough.y,
      enough.records,
      enough.slopes,
      omega (arith, c.work_room-worked.ensures, front),
    )

pub clear-requires : goal.clear-requires
clear-requires c =
    let a = c.args in
    let room = lengths (length a.vx.now) (length a.vy.now) (length a.records.now) (length a.slopes.now) (length a.work.now) in
    let long : is_short (length a.x.now) room ≡ false = sym c.is_short.ensures ∙ c.if-is_short.false in
    let enough = not_short (length a.x.now) room long in
    let lent = c.work_room-worked.result in
    let front : length (take lent a.work.now) ≡ lent = length-take-le lent _ (omega (arith, c.work_room-worked.ensures, enough.work)) in
    let d = c.draw_over-traced in
    omega (arith, length-append d.new.work (drop lent a.work.now), d.auto.work, front)

pub returns : goal.returns
returns c =
    let a = c.args in
    let s = survey a.x.now a.y.now a.z.now in
    let l = a.triangles.now in
    let passed : checked_over s l ≡ (Ok tt) = sym c.check.ensures ∙ c.in_ok-check.was in
    let ts = supplied_in l in
    let off = is_off a.level a.style in
    let room = lengths (length a.vx.now) (length a.vy.now) (length a.records.now) (length a.slopes.now) (length a.work.now) in
    let in_range : is_off a.level a.style ≡ false = sym (c.is_off.ensures ∙ ap (λ z. is_off z a.style) (to_z-of_z c.ranges.level)) ∙ c.if-is_off.false in
    let long : is_short (length a.x.now) room ≡ false = sym c.is_short.ensures ∙ c.if-is_short.false in
    let enough = not_short (length a.x.now) room long in
    let lent = c.work_room-worked.result in
    let front : length (take lent a.work.now) ≡ lent = length-take-le lent _ (omega (arith, c.work_room-worked.ensures, enough.work)) in
    let h = to_z-of_z c.ranges.level in
    let d = c.draw_over-traced in
    let g = d.ensures in
    let p = slopes_of s in
    let part = d.new.work in
    let kept = d.auto.work ∙ front in record {
      answer = ap₂ lines_done (g.counts.0 ∙ ap (λ z. length (lines_of s ts z)) h) (g.counts.1 ∙ ap (λ z. length (spots_of s ts p a.style z)) h)
          ∙ sym (done s ts off a.level a.style room passed in_range long);
      of_x = g.of_x ∙ ap (λ z. xs_of (spots_of s ts p a.style z) ++ drop d.result.vertices a.vx.now) h;
      of_y = g.of_y ∙ ap (λ z. ys_of (spots_of s ts p a.style z) ++ drop d.result.vertices a.vy.now) h;
      of_records = g.of_records ∙ ap (λ z. records_of (lines_of s ts z) ++ drop d.result.lines a.records.now) h;
      of_slopes = g.of_slopes;
      of_work = c.clear.ensures
          ∙ ap (λ b. replicate lent 0 ++ b) (drop_at part (drop lent a.work.now) lent kept)
          ∙ ap (λ m. replicate m 0 ++ drop m a.work.now) c.work_room-worked.ensures;
    }
