-- `draw_once` meets its contract: the records are those of the mesh of the kind. Assumes nothing.
use Rattle.trace.specs.Lines.{records as records_of}
use mathlib.Core.Path.{sym, ap, ◌∙◌, subst}
use mathlib.Core.List.{◌++◌}
use lib.ListN.{length, drop}
use mir.Syntax.{w32}
use Rattle.survey.specs.Survey.{survey}
use Rattle.curve.proofs.HeldLaws.{held, held_is}
use Rattle.neighbours.specs.Room.{order, threes, Holds}
use Rattle.neighbours.proofs.RoomLaws.{holds-threes}
use Rattle.hull.specs.MeshOf.{MeshOf}
use Rattle.slopes.specs.Job.{slopes_of}
use Rattle.mesh.proofs.KindLaws.{kind-mesh}
use Rattle.spots.specs.Lines.{lines_of, spots_of, xs_of, ys_of}
use Rattle.mesh.specs.Kinds.{triangles_of}
use Rattle.lines.proofs.draw_once.Goals as goal

pub put_records-recorded-requires : goal.put_records-recorded-requires
put_records-recorded-requires c = let p = c.requires in (p.0, p.6)

pub draw_recorded-requires : goal.draw_recorded-requires
draw_recorded-requires c =
    let a = c.args in
    let s = survey a.x.now a.y.now a.z.now in
    let k = c.put_records-recorded in
    let work = k.new.work in
    let e = ap (λ m. threes m work) k.ensures.0 ∙ holds-threes (triangles_of a.kind s) (length a.x.now) work k.ensures.2 in (
      c.requires.0,
      subst (MeshOf s) (sym e) (kind-mesh a.kind s c.requires.0),
      subst (λ ts. Holds ts (length a.x.now) work) (sym e) k.ensures.2,
      k.ensures.1 ∙ ap (λ ts. length (order ts (length a.x.now))) (sym e),
      held w32 c.requires.1 tt,
      c.requires.2,
      c.requires.3,
      c.requires.4,
      c.requires.5,
    )

pub returns : goal.returns
returns c =
    let a = c.args in
    let s = survey a.x.now a.y.now a.z.now in
    let h = held_is w32 c.requires.1 tt in
    let k = c.put_records-recorded in
    let work = k.new.work in
    let u = ap (λ m. threes m work) k.ensures.0 ∙ holds-threes (triangles_of a.kind s) (length a.x.now) work k.ensures.2 in
    let d = c.draw_recorded in
    let e = d.ensures in
    let n = slopes_of s in record {
      counts = (e.counts.0 ∙ (λ i. length (lines_of s (u i) (h i))), e.counts.1 ∙ (λ i. length (spots_of s (u i) n a.style (h i))));
      of_x = e.of_x ∙ (λ i. xs_of (spots_of s (u i) n a.style (h i)) ++ drop d.result.vertices a.vx.now);
      of_y = e.of_y ∙ (λ i. ys_of (spots_of s (u i) n a.style (h i)) ++ drop d.result.vertices a.vy.now);
      of_records = e.of_records ∙ (λ i. records_of (lines_of s (u i) (h i)) ++ drop d.result.lines a.records.now);
      of_slopes = e.of_slopes;
    }
