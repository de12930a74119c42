-- `is_beside` meets its contract: the turn at the station is above 0, below it, or 0. Assumes nothing.
use mathlib.Core.Path.{sym, ap, ◌∙◌}
use lib.IntN.{pos}
use lib.Signed.{lt_z}
use mir.Syntax.{w64}
use mir.Facts.{to_z-of_z}
use Rattle.survey.specs.Survey.{survey}
use Rattle.triangles.proofs.FitLaws.{fit-x, fit-y}
use Rattle.conditions.proofs.ConditionLaws.{near, most_zero, above_zero, beside-right, beside-left, beside-line}
use Rattle.conditions.proofs.side.is_beside.Goals as goal

pub turn_at-t-requires : goal.turn_at-t-requires
turn_at-t-requires c =
    let a = c.args in
    let p = c.requires.0 in
    let s = survey a.x.now a.y.now a.z.now in
    (near (fit-x s p a.i), near (fit-y s p a.i), near (fit-x s p a.j), near (fit-y s p a.j), near (fit-x s p a.w), near (fit-y s p a.w))

pub returns-then-t-lt0 : goal.returns-then-t-lt0
returns-then-t-lt0 c =
    let a = c.args in
    let t = c.turn_at-t in
    let f = to_z-of_z {w = w64} {z = t.result} (record { sfits = t.type_inv }) in
    c.if-t-lt0.true
    ∙ sym (beside-right (survey a.x.now a.y.now a.z.now) a.i a.j a.w
    (ap (λ z. lt_z z (pos 0)) (sym t.ensures) ∙ simp f at c.if-t-lt0.true))

pub returns-else-t-lt0 : goal.returns-else-t-lt0
returns-else-t-lt0 c =
    let a = c.args in
    let t = c.turn_at-t in
    let f = to_z-of_z {w = w64} {z = t.result} (record { sfits = t.type_inv }) in
    c.is_amid.ensures
    ∙ sym (beside-line (survey a.x.now a.y.now a.z.now) a.i a.j a.w
    (ap (λ z. lt_z z (pos 0)) (sym t.ensures) ∙ simp f at c.if-t-lt0.false)
    (ap (λ z. lt_z (pos 0) z) (sym t.ensures) ∙ most_zero t.result (simp f at c.if-t-le0.true)))

pub returns-else-t-le0 : goal.returns-else-t-le0
returns-else-t-le0 c =
    let a = c.args in
    let t = c.turn_at-t in
    let f = to_z-of_z {w = w64} {z = t.result} (record { sfits = t.type_inv }) in
    let h = above_zero t.result (simp f at c.if-t-le0.false) in
    c.if-t-le0.false
    ∙ sym (beside-left (survey a.x.now a.y.now a.z.now) a.i a.j a.w
    (ap (λ z. lt_z z (pos 0)) (sym t.ensures) ∙ h.1) (ap (λ z. lt_z (pos 0) z) (sym t.ensures) ∙ h.0))
