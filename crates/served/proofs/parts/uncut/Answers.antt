-- `uncut` meets its contract: its one part is the area of the triangle. Assumes nothing.
use mathlib.Core.Path.{refl, sym, ◌∙◌, subst}
use mathlib.Core.List.{[], ◌∷◌}
use native.Mathlib.Omega.{arith}
use lib.IntN.{pos}
use Rattle.survey.specs.Survey.{survey}
use Rattle.ground.specs.Segments.{standing}
use Rattle.parcels.specs.Area.{twice_within}
use Rattle.served.specs.Figures.{Near}
use Rattle.served.proofs.FigureLaws.{near-place, whole-nonneg}
use Rattle.served.proofs.parts.uncut.Goals as goal

pub corner_at-p-requires : goal.corner_at-p-requires
corner_at-p-requires c =
    let a = c.args in
    let h = c.requires.3.stations.on_a in
    (h, omega (arith, c.requires.0, h), c.requires.1 a.a h, c.requires.2 a.a h)

pub corner_at-q-requires : goal.corner_at-q-requires
corner_at-q-requires c =
    let a = c.args in
    let h = c.requires.3.stations.on_b in
    (h, omega (arith, c.requires.0, h), c.requires.1 a.b h, c.requires.2 a.b h)

pub corner_at-r-requires : goal.corner_at-r-requires
corner_at-r-requires c =
    let a = c.args in
    let h = c.requires.3.stations.on_c in
    (h, omega (arith, c.requires.0, h), c.requires.1 a.c h, c.requires.2 a.c h)

pub around_three-requires : goal.around_three-requires
around_three-requires c =
    let a = c.args in
    let s = survey a.x.now a.y.now [] in
    let h = c.requires.3.stations in
    let p = c.corner_at-p.ensures in
    let q = c.corner_at-q.ensures in
    let r = c.corner_at-r.ensures in (
      subst Near (sym p) (near-place s a.a (c.requires.1 a.a h.on_a) (c.requires.2 a.a h.on_a)),
      subst Near (sym q) (near-place s a.b (c.requires.1 a.b h.on_b) (c.requires.2 a.b h.on_b)),
      subst Near (sym r) (near-place s a.c (c.requires.1 a.c h.on_c) (c.requires.2 a.c h.on_c)),
      rw (p, q, r) (whole-nonneg s [] 0 (pos 0) a.a a.b a.c c.requires.3),
    )

pub returns : goal.returns
returns c =
    let p = c.corner_at-p.ensures in
    let q = c.corner_at-q.ensures in
    let r = c.corner_at-r.ensures in
    (c.around_three.ensures.0 ∙ (λ i. twice_within (standing (p i) ∷ standing (q i) ∷ standing (r i) ∷ [])), refl, c.around_three.ensures.1)
