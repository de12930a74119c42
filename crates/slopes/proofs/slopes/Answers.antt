-- `slopes` meets its contract: a survey that passes the checks is fit. Assumes nothing.
use mathlib.Core.Path.{sym, ◌∙◌, subst}
use Prim.Native.Nat.{ℕ, ◌≤◌}
use native.Mathlib.Omega.{arith}
use lib.ListN.{length}
use Rattle.survey.specs.Survey.{survey}
use Rattle.survey.proofs.FitLaws.{passed-fit}
use Rattle.slopes.proofs.slopes.Goals as goal

pub slope_room-requires : goal.slope_room-requires
slope_room-requires c =
    let a = c.args in
    omega (arith, (passed-fit (survey a.x.now a.y.now a.z.now) (sym c.check.ensures ∙ c.in_ok-check.was)).most)

pub fill-requires : goal.fill-requires
fill-requires c =
    let a = c.args in (
      passed-fit (survey a.x.now a.y.now a.z.now) (sym c.check.ensures ∙ c.in_ok-check.was),
      subst (λ (n : ℕ). n ≤ length a.room.now) c.slope_room.ensures c.if-room-slope_room.false,
    )
