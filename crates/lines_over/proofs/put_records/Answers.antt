-- `put_records` meets its contract: the triangles stand in front, and their records are laid behind them. Assumes nothing.
use mathlib.Core.Path.{◌≡◌, refl, sym, ap, ◌∙◌, subst}
use Prim.Native.Nat.{◌*◌, ◌≤◌}
use native.Mathlib.Omega.{arith}
use lib.ListN.{length}
use Rattle.survey.specs.Survey.{survey}
use Rattle.trace.specs.Crossed.{sides}
use Rattle.trace.specs.Mesh.{Sound}
use Rattle.trace.specs.Side.{left_corner}
use Rattle.neighbours.specs.Room.{order, threes, Holds}
use Rattle.neighbours.proofs.RoomLaws.{length-threes}
use Rattle.hull.proofs.SoundLaws.{mesh-sound, mesh-sides-fit, mesh-triangles-fit}
use Rattle.lines_over.proofs.CopyLaws.{threes-copied}
use Rattle.lines_over.proofs.put_records.Goals as goal

pub copy-requires : goal.copy-requires
copy-requires c =
    let a = c.args in
    let s = survey a.x.now a.y.now a.z.now in
    let few = mesh-triangles-fit s c.requires.0 (threes a.t a.triangles.now) c.requires.1 in
    (c.requires.3, omega (arith, few, length-threes a.t a.triangles.now, c.requires.0.least, c.requires.4))

pub lay-sides-requires : goal.lay-sides-requires
lay-sides-requires c =
    let a = c.args in
    let f = c.requires.0 in
    let s = survey a.x.now a.y.now a.z.now in
    let ts = threes a.t a.triangles.now in
    let w = c.copy in
    let e : threes a.t w.new.to ≡ ts = ap (threes a.t) w.ensures ∙ threes-copied a.t a.triangles.now _ c.requires.3 in
    let few = mesh-triangles-fit s f ts c.requires.1 in
    let count = length-threes a.t a.triangles.now in
    let k = mesh-sides-fit s f ts c.requires.1 in (
      subst (λ us. Sound us (length a.x.now)) (sym e) (mesh-sound s ts c.requires.1),
      omega (arith, few, count, f.most),
      omega (arith, f.most),
      subst (λ us. length (sides (left_corner us) (length a.x.now)) ≤ 3 * length a.x.now) (sym e) (omega (arith, k, f.least)),
      omega (arith, few, count, f.least, c.requires.4, w.auto.to),
    )

pub returns : goal.returns
returns c =
    let a = c.args in
    let w = c.copy in
    let l = c.lay-sides in
    let e : threes a.t w.new.to ≡ threes a.t a.triangles.now =
    ap (threes a.t) w.ensures ∙ threes-copied a.t a.triangles.now _ c.requires.3 in (
      refl,
      l.ensures.0 ∙ ap (λ ts. length (order ts (length a.x.now))) e,
      subst (λ ts. Holds ts (length a.x.now) l.new.room) e l.ensures.1,
    )
