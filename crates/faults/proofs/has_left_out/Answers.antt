-- `has_left_out` meets its contract: the search's test is `is_left_out` at each station. Assumes nothing.
use borrow.Author.Rules.{rules}
use borrow.Author.Tests.{tests}
use mathlib.Core.Path.{◌≡◌, refl, sym, ap, ◌∙◌}
use mathlib.Core.Bool.{Bool, true, false, not}
use Prim.Native.Nat.{ℕ}
use native.Mathlib.Omega.{arith}
use lib.Dec.{ltb}
use lib.ListN.{length}
use Rattle.std.proofs.lemmas.Iterator.{cases_from_any, YieldsList-from_range}
use Rattle.lists.proofs.LowestLaws.{lowest-agree}
use Rattle.survey.specs.Survey.{survey}
use Rattle.sweep.specs.Page.{every}
use Rattle.neighbours.specs.Room.{threes}
use Rattle.woven.specs.Accepted.{is_corner, is_unused}
use Rattle.conditions.proofs.AnyLaws.{some-from_any}
use Rattle.conditions.proofs.ConditionLaws.{unused_is}
use Rattle.faults.proofs.has_left_out.Goals as goal

pub returns : goal.returns
returns c =
    let a = c.args in
    let n = length a.x.now in
    let s = survey a.x.now a.y.now a.z.now in
    let ts = threes a.t a.triangles.now in
    let p : ℕ → Bool = λ k. every (λ u. not (is_corner k u)) ts in
    some-from_any p n c.any.result
    (cases_from_any _ _ _ (λ k. p k ≡ true) (λ k. p k ≡ false) c.any.ensures.ran (YieldsList-from_range 0 n n refl (omega arith))
    (λ x q k. search (rules, tests)) (λ x q k. search (rules, tests)))
    ∙ ap (λ m. ltb m n) (lowest-agree p (is_unused s ts) n (λ k l. sym (unused_is s ts k l)))
