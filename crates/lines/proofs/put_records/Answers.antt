-- `put_records` meets its contract: the triangles of the kind stand in front, and their records are laid behind them. Assumes nothing.
use mathlib.Core.Path.{◌≡◌, sym, ap, ◌∙◌, subst}
use Prim.Native.Nat.{◌*◌, ◌≤◌}
use native.Mathlib.Omega.{arith}
use lib.ListN.{length}
use Rattle.survey.specs.Survey.{survey}
use Rattle.trace.specs.Crossed.{sides}
use Rattle.trace.specs.Mesh.{Sound}
use Rattle.trace.specs.Side.{left_corner}
use Rattle.neighbours.specs.Room.{order, threes, Holds}
use Rattle.neighbours.proofs.RoomLaws.{front-threes}
use Rattle.hull.proofs.SoundLaws.{mesh-sound, mesh-sides-fit}
use Rattle.mesh.proofs.KindLaws.{kind-mesh, kind-fit}
use Rattle.mesh.specs.Kinds.{triangles_of}
use Rattle.lines.proofs.put_records.Goals as goal

pub lay-sides-requires : goal.lay-sides-requires
lay-sides-requires c =
    let a = c.args in
    let f = c.requires.0 in
    let s = survey a.x.now a.y.now a.z.now in
    let ts = triangles_of a.kind s in
    let m = kind-mesh a.kind s f in
    let w = c.fill-t in
    let e : threes w.result w.new.room ≡ ts = front-threes ts _ _ w.ensures.0 w.ensures.1 in
    let fits = kind-fit a.kind s f in
    let k = mesh-sides-fit s f ts m in (
      subst (λ us. Sound us (length a.x.now)) (sym e) (mesh-sound s ts m),
      omega (arith, w.ensures.0, fits, f.most),
      omega (arith, f.most),
      subst (λ us. length (sides (left_corner us) (length a.x.now)) ≤ 3 * length a.x.now) (sym e) (omega (arith, k, f.least)),
      omega (arith, w.ensures.0, fits, f.least, c.requires.1, w.auto.room),
    )

pub returns : goal.returns
returns c =
    let a = c.args in
    let s = survey a.x.now a.y.now a.z.now in
    let w = c.fill-t in
    let l = c.lay-sides in
    let e : threes w.result w.new.room ≡ triangles_of a.kind s = front-threes (triangles_of a.kind s) _ _ w.ensures.0 w.ensures.1 in (
      w.ensures.0,
      l.ensures.0 ∙ ap (λ ts. length (order ts (length a.x.now))) e,
      subst (λ ts. Holds ts (length a.x.now) l.new.room) e l.ensures.1,
    )
