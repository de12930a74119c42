-- `draw` meets its contract: the walk over the prepared records gives the lines, and the numbers of their sides the spots. Assumes nothing.
use Rattle.spots.proofs.GivenLaws.{given-long}
use Rattle.lines.proofs.DrawLaws.{lines_fit, passed-fit, traced-are, sides-crossing, sides-spots, total-spots}
use Rattle.hull.proofs.SoundLaws.{mesh-sound, mesh-triangles-fit}
use Rattle.lines.proofs.RoomLaws.{part-front}
use Rattle.neighbours.proofs.RoomLaws.{length-threes}
use Rattle.spots.specs.Prepared.{Crossing}
use Rattle.spots.specs.Lines.{lines_of, spot_at}
use Rattle.neighbours.specs.Room.{order, threes, Holds}
use Rattle.tracing.specs.Written.{below_in, side_number, sides_of}
use Rattle.trace.specs.Lines.{lines, passed, records as records_of}
use Rattle.trace.specs.Mesh.{Sound}
use Rattle.curve.proofs.HeldLaws.{held, held_is}
use Rattle.survey.specs.Survey.{survey}
use Rattle.lists.specs.Table.{table}
use mir.Syntax.{w32}
use lib.ListN.{length, get_or, take, drop, length-append, length-map}
use lib.Seq.{drop_at, length-take-le}
use native.Mathlib.Omega.{arith}
use Prim.Native.Nat.{ℕ, ◌*◌, ◌/◌, ◌%◌, ◌≤◌, ◌<◌}
use mathlib.Core.List.{List, ◌++◌}
use mathlib.Core.Path.{◌≡◌, sym, ap, ap₂, ◌∙◌, subst}
use Rattle.lines.proofs.draw.Goals as goal

pub vertex_room-requires : goal.vertex_room-requires
vertex_room-requires c = let f = c.requires.0.fit in let m = f.most in (f.least, omega (arith, m))

pub slice_bounds-trace-end-2 : goal.slice_bounds-trace-end-2
slice_bounds-trace-end-2 c = sym (length-take-le _ _ (let r = c.vertex_room.ensures in omega (arith, r, c.requires.3)))

pub trace-traced-requires : goal.trace-traced-requires
trace-traced-requires c =
    let a = c.args in
    let s = survey a.x.now a.y.now a.z.now in
    let p = c.requires.0 in
    let ts = threes a.recorded.triangles a.work.now in
    let h = held_is w32 c.requires.2 tt in
    let e = (λ i. lines ts (below_in a.z.now (h i)) (length a.z.now)) ∙ traced-are s p.fit ts p.mesh a.level in
    let r = c.vertex_room.ensures in
    let long = length-take-le c.vertex_room.result a.vx.now (omega (arith, r, c.requires.3)) in
    let most = p.fit.most in
    let v = passed-fit s p.fit ts p.mesh a.level in
    let l = lines_fit s p.fit ts p.mesh a.level in (
      subst (Sound ts) (sym p.fit.zs-count) (mesh-sound s ts p.mesh),
      subst (λ n. Holds ts n a.work.now) (sym p.fit.zs-count) p.holds,
      c.requires.1 ∙ ap (λ n. length (order ts n)) (sym p.fit.zs-count),
      omega (arith, length-threes a.recorded.triangles a.work.now, mesh-triangles-fit s p.fit ts p.mesh, most),
      omega (arith, p.fit.zs-count, most),
      omega (arith, long, r, most),
      omega (arith, ap (λ ls. length (passed ls)) e, v, long, r),
      omega (arith, ap length e, l, c.requires.5),
    )

pub fill_spots-requires : goal.fill_spots-requires
fill_spots-requires c =
    let a = c.args in
    let s = survey a.x.now a.y.now a.z.now in
    let p = c.requires.0 in
    let ts = threes a.recorded.triangles a.work.now in
    let h = held_is w32 c.requires.2 tt in
    let e = (λ i. lines ts (below_in a.z.now (h i)) (length a.z.now)) ∙ traced-are s p.fit ts p.mesh a.level in
    let w = c.trace-traced in
    let n = w.ensures.1 ∙ ap (λ ls. length (passed ls)) e in
    let r = c.vertex_room.ensures in
    let v = passed-fit s p.fit ts p.mesh a.level in
    let q : w.new.sides ++ drop c.vertex_room.result a.vx.now ≡ sides_of (passed (lines_of s ts a.level)) ++ drop w.result.vertices a.vx.now =
    ap (λ l. l ++ drop c.vertex_room.result a.vx.now) (w.ensures.2 ∙ ap (λ ls. sides_of (passed ls) ++ drop w.result.vertices (take c.vertex_room.result a.vx.now)) e)
    ∙ part-front (sides_of (passed (lines_of s ts a.level))) a.vx.now w.result.vertices c.vertex_room.result (omega (arith, n, v, r)) in
    let vx = w.new.sides ++ drop c.vertex_room.result a.vx.now in (
      record {
        ys-count = p.fit.ys-count;
        zs-count = p.fit.zs-count;
        most = p.fit.most;
        five = subst (λ l. 5 * length a.x.now ≤ length l) (sym p.slopes-are) (given-long s p.fit a.style p.rest);
      },
      held w32 c.requires.2 tt,
      λ k (g : k < w.result.vertices).
          subst (λ z. Crossing s a.slopes.now z (get_or vx k 0 / 65536) (get_or vx k 0 % 65536)) (sym h)
          (subst (λ l. Crossing s l a.level (get_or vx k 0 / 65536) (get_or vx k 0 % 65536)) (sym p.slopes-are)
          (sides-crossing s p.fit ts p.mesh a.style p.rest a.level (drop w.result.vertices a.vx.now) q k (omega (arith, g, n)))),
      omega (arith, n, ap length q, length-append (sides_of (passed (lines_of s ts a.level))) (drop w.result.vertices a.vx.now), length-map (passed (lines_of s ts a.level)) side_number),
      omega (arith, n, v, c.requires.4),
    )

pub returns : goal.returns
returns c =
    let a = c.args in
    let s = survey a.x.now a.y.now a.z.now in
    let p = c.requires.0 in
    let ts = threes a.recorded.triangles a.work.now in
    let h = held_is w32 c.requires.2 tt in
    let e = (λ i. lines ts (below_in a.z.now (h i)) (length a.z.now)) ∙ traced-are s p.fit ts p.mesh a.level in
    let w = c.trace-traced in
    let n = w.ensures.1 ∙ ap (λ ls. length (passed ls)) e in
    let r = c.vertex_room.ensures in
    let v = passed-fit s p.fit ts p.mesh a.level in
    let q : w.new.sides ++ drop c.vertex_room.result a.vx.now ≡ sides_of (passed (lines_of s ts a.level)) ++ drop w.result.vertices a.vx.now =
    ap (λ l. l ++ drop c.vertex_room.result a.vx.now) (w.ensures.2 ∙ ap (λ ls. sides_of (passed ls) ++ drop w.result.vertices (take c.vertex_room.result a.vx.now)) e)
    ∙ part-front (sides_of (passed (lines_of s ts a.level))) a.vx.now w.result.vertices c.vertex_room.result (omega (arith, n, v, r)) in
    let vx = w.new.sides ++ drop c.vertex_room.result a.vx.now in
    let b : List ℕ = drop w.result.vertices a.vx.now in
    let g = c.fill_spots.ensures in record {
      counts = (w.ensures.0 ∙ ap length e, n ∙ total-spots s p.fit ts p.mesh a.style p.rest a.level b q);
      of_x = g.of_x
          ∙ (λ i. table (λ k. (spot_at s (p.slopes-are i) a.style (h i) (get_or vx k 0)).x) (n i) ++ drop w.result.vertices vx)
          ∙ ap₂ ◌++◌ (sides-spots s p.fit ts p.mesh a.style p.rest a.level b q (λ u. u.x)) (ap (drop w.result.vertices) q ∙ drop_at (sides_of (passed (lines_of s ts a.level))) b w.result.vertices (length-map (passed (lines_of s ts a.level)) side_number ∙ sym n));
      of_y = g.of_y
          ∙ (λ i. table (λ k. (spot_at s (p.slopes-are i) a.style (h i) (get_or vx k 0)).y) (n i) ++ drop w.result.vertices a.vy.now)
          ∙ ap (λ l. l ++ drop w.result.vertices a.vy.now) (sides-spots s p.fit ts p.mesh a.style p.rest a.level b q (λ u. u.y));
      of_records = w.ensures.3 ∙ ap (λ ls. records_of ls ++ drop w.result.lines a.records.now) e;
      of_work = w.ensures.4;
    }
