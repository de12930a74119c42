-- `is_left_out` meets its contract: the test of each triangle is that the station is none of its corners. Assumes nothing.
use borrow.Author.Rules.{rules}
use borrow.Author.Tests.{tests}
use mathlib.Core.Path.{◌≡◌, refl}
use mathlib.Core.Bool.{Bool, true, false, not}
use Prim.Native.Nat.{ℕ}
use native.Mathlib.Omega.{arith}
use Rattle.std.proofs.lemmas.Iterator.{cases_from_all, YieldsList-from_range}
use Rattle.sweep.specs.Sweep.{Three, triangle_in}
use Rattle.woven.specs.Accepted.{is_corner}
use Rattle.conditions.proofs.AnyLaws.{each-from_all}
use Rattle.conditions.proofs.TriangleLaws.{every-by}
use Rattle.faults.proofs.is_left_out.Goals as goal

pub returns : goal.returns
returns c =
    let a = c.args in
    let p : Three ℕ → Bool = λ u. not (is_corner a.k u) in
    let q : ℕ → Bool = λ i. p (triangle_in a.triangles.now i) in
    every-by p a.t a.triangles.now c.all.result
    (each-from_all q a.t c.all.result
    (cases_from_all _ _ _ (λ i. q i ≡ true) (λ i. q i ≡ false) c.all.ensures.ran (YieldsList-from_range 0 a.t a.t refl (omega arith))
    (λ x q k. search (rules, tests)) (λ x q k. search (rules, tests))))
