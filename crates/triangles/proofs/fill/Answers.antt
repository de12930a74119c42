-- `fill` meets its contract: the stations in order are those of the ranks, and the sweep over them makes the page's triangles. Assumes nothing.
use mathlib.Core.Path.{sym, ap, ◌∙◌, subst}
use mathlib.Core.List.{◌++◌, map}
use Prim.Native.Nat.{◌*◌}
use native.Mathlib.Omega.{arith}
use lib.ListN.{length, drop}
use Rattle.survey.specs.Survey.{survey}
use Rattle.triangles.specs.Chain.{places_of}
use Rattle.triangles.specs.Mesh.{lowest_first}
use Rattle.sweep.specs.Sweep.{flat}
use Rattle.triangles.specs.Growth.{swept, Rising}
use Rattle.triangles.proofs.FitLaws.{ranked, ranked-length, fit-rising, fit-triangles, fit_count, fit-x, fit-y}
use Rattle.triangles.proofs.fill.Goals as goal

pub put_in_order-requires : goal.put_in_order-requires
put_in_order-requires c =
    let v = survey c.args.x.now c.args.y.now c.args.z.now in
    let f = c.requires.0 in
    (f.ys-count, omega (arith, f.most), f.most, f.most, fit-x v f, fit-y v f)

pub sweep-requires : goal.sweep-requires
sweep-requires c =
    let a = c.args in
    let v = survey a.x.now a.y.now a.z.now in
    let f = c.requires.0 in
    let e = c.put_in_order.ensures in (
      f.least,
      ranked-length a.x.now a.y.now _ e,
      f.most,
      f.most,
      c.requires.1,
      subst (Rising (places_of a.x.now a.y.now)) (sym (ranked a.x.now a.y.now _ e)) (fit-rising v f),
      fit-x v f,
      fit-y v f,
    )

pub returns : goal.returns
returns c =
    let a = c.args in
    let e = c.put_in_order.ensures in
    let w = c.sweep.ensures in
    let v = survey a.x.now a.y.now a.z.now in
    let f = places_of a.x.now a.y.now in
    let o = ranked a.x.now a.y.now _ e in
    let rest = drop (3 * c.sweep.result) a.room.now in (
      w.0 ∙ ap (λ l. length (swept f l).tris) o ∙ fit_count v c.requires.0,
      w.1 ∙ ap (λ l. flat (map lowest_first (swept f l).tris) ++ rest) o ∙ ap (λ l. flat l ++ rest) (fit-triangles v c.requires.0),
    )
