-- `is_positive` meets its contract: coordinates are far within the range of `turn_at`. Assumes nothing.
use mathlib.Core.Path.{ap, ◌∙◌}
use lib.IntN.{pos}
use lib.Signed.{lt_z}
use mir.Syntax.{w64}
use mir.Facts.{to_z-of_z}
use Rattle.survey.specs.Survey.{survey}
use Rattle.triangles.proofs.FitLaws.{fit-x, fit-y}
use Rattle.conditions.proofs.ConditionLaws.{near}
use Rattle.conditions.proofs.inner.is_positive.Goals as goal

pub turn_at-requires : goal.turn_at-requires
turn_at-requires c =
    let a = c.args in
    let p = c.requires.0 in
    let s = survey a.x.now a.y.now a.z.now in
    (near (fit-x s p a.a), near (fit-y s p a.a), near (fit-x s p a.b), near (fit-y s p a.b), near (fit-x s p a.c), near (fit-y s p a.c))

pub returns : goal.returns
returns c =
    let t = c.turn_at in
    ap (lt_z (pos 0)) (to_z-of_z {w = w64} {z = t.result} (record { sfits = t.type_inv }) ∙ t.ensures)
