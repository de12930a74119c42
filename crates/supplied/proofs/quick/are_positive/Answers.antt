-- `are_positive` meets its contract: the test of each triangle is `is_positive`. Assumes nothing.
use borrow.Author.Rules.{rules}
use borrow.Author.Tests.{tests}
use mathlib.Core.Path.{◌≡◌, refl, subst}
use mathlib.Core.Bool.{Bool, true, false}
use Prim.Native.Nat.{ℕ, ◌<◌}
use native.Mathlib.Omega.{arith}
use Rattle.std.specs.Bool.{MatchBool}
use Rattle.std.proofs.lemmas.Iterator.{cases_from_all, YieldsList-from_range}
use Rattle.survey.specs.Survey.{survey}
use Rattle.sweep.specs.Sweep.{triangle_in}
use Rattle.woven.specs.Accepted.{is_positive}
use Rattle.conditions.proofs.AnyLaws.{each-from_all}
use Rattle.supplied.proofs.quick.are_positive.Goals as goal

pub returns : goal.returns
returns c =
    λ e.
    let a = c.args in
    let p : ℕ → Bool = λ k. is_positive (survey a.x.now a.y.now a.z.now) (triangle_in a.triangles.now k) in
    subst (λ r. MatchBool r ((k : ℕ) → k < a.t → p k ≡ true) ((k : ℕ) × (k < a.t) × (p k ≡ false))) e
    (each-from_all p a.t c.all.result
    (cases_from_all _ _ _ (λ k. p k ≡ true) (λ k. p k ≡ false) c.all.ensures.ran (YieldsList-from_range 0 a.t a.t refl (omega arith))
    (λ x q k. search (rules, tests)) (λ x q k. search (rules, tests))))
