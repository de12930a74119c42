-- `draw_recorded` meets its contract: the slopes are made, the level is drawn, and the slope room is zero again. Assumes nothing.
use Rattle.trace.specs.Lines.{records as records_of}
use mathlib.Core.Path.{ap, ◌∙◌}
use mathlib.Core.List.{◌++◌}
use native.Mathlib.Omega.{arith}
use lib.ListN.{length, drop}
use mir.Syntax.{w32}
use Rattle.survey.specs.Rooms.{slope_room}
use Rattle.survey.specs.Survey.{survey}
use Rattle.curve.proofs.HeldLaws.{held, held_is}
use Rattle.neighbours.specs.Room.{threes}
use Rattle.slopes.specs.Job.{slopes_of}
use Rattle.spots.specs.Lines.{lines_of, spots_of, xs_of, ys_of}
use Rattle.spots.proofs.GivenLaws.{slopes-cleared}
use Rattle.lines.proofs.draw_recorded.Goals as goal

pub draw-traced-requires : goal.draw-traced-requires
draw-traced-requires c =
    let a = c.args in (
      record {
        fit = c.requires.0;
        mesh = c.requires.1;
        holds = c.requires.2;
        rest = drop (slope_room (length a.x.now)) a.slopes.now;
        slopes-are = c.put_slopes.ensures;
      },
      c.requires.3,
      held w32 c.requires.4 tt,
      c.requires.5,
      c.requires.6,
      c.requires.7,
    )

pub slope_room-requires : goal.slope_room-requires
slope_room-requires c = let m = c.requires.0.most in omega (arith, m)

pub clear-requires : goal.clear-requires
clear-requires c = omega (arith, c.slope_room.ensures, c.put_slopes.auto.room, c.requires.8)

pub returns : goal.returns
returns c =
    let a = c.args in
    let s = survey a.x.now a.y.now a.z.now in
    let ts = threes a.recorded.triangles a.work.now in
    let h = held_is w32 c.requires.4 tt in
    let d = c.draw-traced in
    let e = d.ensures in
    let n = slopes_of s in record {
      counts = (e.counts.0 ∙ ap (λ l. length (lines_of s ts l)) h, e.counts.1 ∙ ap (λ l. length (spots_of s ts n a.style l)) h);
      of_x = e.of_x ∙ ap (λ l. xs_of (spots_of s ts n a.style l) ++ drop d.result.vertices a.vx.now) h;
      of_y = e.of_y ∙ ap (λ l. ys_of (spots_of s ts n a.style l) ++ drop d.result.vertices a.vy.now) h;
      of_records = e.of_records ∙ ap (λ l. records_of (lines_of s ts l) ++ drop d.result.lines a.records.now) h;
      of_slopes = slopes-cleared s c.requires.0 a.style a.slopes.now c.slope_room.ensures c.put_slopes.ensures c.clear.ensures;
    }
