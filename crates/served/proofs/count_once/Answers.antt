-- `count_once` meets its contract: the triangles in the work room are those of the kind, and the slopes are cleared. Assumes nothing.
use mathlib.Core.Path.{◌≡◌, sym, subst, ◌∙◌}
use native.Mathlib.Omega.{arith}
use lib.ListN.{length, drop}
use mir.Syntax.{w32}
use Rattle.survey.specs.Rooms.{slope_room}
use Rattle.survey.specs.Survey.{survey}
use Rattle.curve.proofs.HeldLaws.{held, held_is}
use Rattle.neighbours.specs.Room.{threes}
use Rattle.neighbours.proofs.RoomLaws.{front-threes}
use Rattle.hull.specs.MeshOf.{MeshOf}
use Rattle.mesh.specs.Kinds.{triangles_of}
use Rattle.mesh.proofs.KindLaws.{kind-mesh, kind-fit}
use Rattle.spots.proofs.GivenLaws.{slopes-cleared}
use Rattle.served.specs.Figures.{figures_of}
use Rattle.served.proofs.count_once.Goals as goal

pub count-figures-requires : goal.count-figures-requires
count-figures-requires c =
    let a = c.args in
    let s = survey a.x.now a.y.now a.z.now in
    let p = c.requires in
    let f = c.fill-t in
    let fits = kind-fit a.kind s p.0 in
    let made : threes f.result f.new.room ≡ triangles_of a.kind s = front-threes (triangles_of a.kind s) _ f.new.room f.ensures.0 f.ensures.1 in (
      record {
        fit = p.0;
        mesh = subst (MeshOf s) (sym made) (kind-mesh a.kind s p.0);
        long = omega (arith, f.ensures.0, fits, p.0.least, p.3, f.auto.room);
        rest = drop (slope_room (length a.x.now)) a.slopes.now;
        slopes-are = c.put_slopes.ensures;
      },
      held w32 p.1 tt,
    )

pub returns : goal.returns
returns c =
    let a = c.args in
    let s = survey a.x.now a.y.now a.z.now in
    let f = c.fill-t in
    let made : threes f.result f.new.room ≡ triangles_of a.kind s = front-threes (triangles_of a.kind s) _ f.new.room f.ensures.0 f.ensures.1 in
    let h = held_is w32 c.requires.1 tt in record {
      value = c.count-figures.ensures ∙ (λ i. figures_of s (made i) a.style (h i));
      slopes_after = slopes-cleared s c.requires.0 a.style a.slopes.now c.slope_room.ensures c.put_slopes.ensures c.clear.ensures;
    }
