-- `parts_is_woven` meets its contract: what follows from the yes of `is_woven`. Assumes nothing.
use mathlib.Core.Path.{sym, ◌∙◌}
use native.Mathlib.Omega.{arith}
use Rattle.survey.specs.Survey.{survey}
use Rattle.survey.proofs.FitLaws.{passed-fit}
use Rattle.triangles.proofs.FitLaws.{ranked, ranked-length}
use Rattle.parts.proofs.quick.parts_is_woven.Goals as goal

pub returns-then-t-gt-MOST_TRIANGLES : goal.returns-then-t-gt-MOST_TRIANGLES
returns-then-t-gt-MOST_TRIANGLES c = λ e. absurd (omega (arith, e))

pub is_woven-requires : goal.is_woven-requires
is_woven-requires c =
    let a = c.args in
    let told = c.in-Ok.is in
    let o = c.check_in_order.ensures.1 told in (
      passed-fit (survey a.x.now a.y.now a.z.now) (sym c.check_in_order.ensures.0 ∙ told),
      ranked-length a.x.now a.y.now _ o,
      ranked a.x.now a.y.now _ o,
      omega (arith, c.if-t-gt-MOST_TRIANGLES.false),
      omega arith,
    )

pub returns-then-is_woven : goal.returns-then-is_woven
returns-then-is_woven c = λ _. c.is_woven.ensures c.if-is_woven.true

pub returns-in-Err : goal.returns-in-Err
returns-in-Err c = λ e. absurd (omega (arith, e))

pub returns-else-is_woven : goal.returns-else-is_woven
returns-else-is_woven c = λ e. absurd (omega (arith, e))
