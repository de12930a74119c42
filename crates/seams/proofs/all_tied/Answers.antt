-- `all_tied` meets its contract: each half-side is one of the three of a triangle. Assumes nothing.
use mathlib.Core.Path.{◌≡◌, refl, subst}
use mathlib.Core.Bool.{true}
use Prim.Native.Nat.{ℕ, ◌+◌, ◌*◌, ◌/◌, ◌≤◌, ◌<◌}
use borrow.Author.Rules.{rules}
use borrow.Author.Tests.{tests}
use native.Mathlib.Omega.{arith}
use Rattle.std.proofs.lemmas.Bool.{MatchBool-at_true}
use Rattle.std.proofs.lemmas.Iterator.{cases_from_all, YieldsList-from_range}
use Rattle.std.proofs.lemmas.List.FromFn.{get_or-range_with_len, length-range_with_len}
use Rattle.seams.specs.Sewn.{passes}
use Rattle.seams.proofs.all_tied.Goals as goal

pub returns : goal.returns
returns c = λ e.
    let a = c.args in
    let Yes : ℕ → Type 0 = λ k. (i : ℕ) → 3 * k ≤ i → i < 3 * k + 3 → passes a.triangles.now a.twin.now a.next.now a.first.now a.m i ≡ true in
    let r = cases_from_all _ _ _ Yes (λ x. Unit {0}) c.all.ensures.ran (YieldsList-from_range 0 (a.m / 3) (a.m / 3) refl (omega arith)) (λ x q k. search (rules, tests)) (λ x q k. tt) in
    let w = MatchBool-at_true _ _ e r in
    record {
      each = λ h q.
          let l : h / 3 < a.m / 3 = omega (arith, q, c.requires) in
          subst Yes (get_or-range_with_len 0 (a.m / 3) (h / 3) 0 l) (w (h / 3) 0 (omega arith) (omega (arith, length-range_with_len 0 (a.m / 3)))) h (omega arith) (omega arith);
    }
