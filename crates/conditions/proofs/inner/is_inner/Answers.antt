-- `is_inner` meets its contract: a station that the triangle holds is asked whether it is a corner. Assumes nothing.
use mathlib.Core.Path.{refl, sym, ap, ◌∙◌}
use mathlib.Core.Bool.{not}
use Rattle.survey.specs.Survey.{survey}
use Rattle.sweep.specs.Sweep.{tri}
use Rattle.triangles.proofs.FitLaws.{fit-x, fit-y}
use Rattle.conditions.proofs.ConditionLaws.{inner_is}
use Rattle.conditions.proofs.inner.is_inner.Goals as goal

pub is_held-requires : goal.is_held-requires
is_held-requires c =
    let p = c.requires in
    let a = c.args in
    let s = survey a.x.now a.y.now a.z.now in
    (p.0.ys-count, p.1, p.2, p.3, fit-x s p.0, fit-y s p.0, fit-x s p.0 a.k, fit-y s p.0 a.k)

pub returns-then-is_held : goal.returns-then-is_held
returns-then-is_held c =
    let a = c.args in
    let s = survey a.x.now a.y.now a.z.now in
    ap not c.is_corner.ensures ∙ sym (inner_is s (tri a.a a.b a.c) a.k c.requires.4 (sym c.is_held.ensures ∙ c.if-is_held.true) refl)

pub returns-else-is_held : goal.returns-else-is_held
returns-else-is_held c =
    let a = c.args in
    let s = survey a.x.now a.y.now a.z.now in
    c.if-is_held.false ∙ sym (inner_is s (tri a.a a.b a.c) a.k c.requires.4 (sym c.is_held.ensures ∙ c.if-is_held.false) refl)
