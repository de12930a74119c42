-- `round_div` meets its contract: on either side of 0 what is divided is `rounded`'s, and all of it fits an i64. Assumes nothing.
use mathlib.Core.Path.{◌≡◌, sym, ◌∙◌, subst}
use mathlib.Core.Bool.{true, false}
use Prim.Native.Nat.{ℕ, ◌<◌, ◌≤◌}
use native.Mathlib.Omega.{arith}
use lib.IntN.{ℤ, pos, ◌*ℤ◌}
use lib.Signed.{lt_z}
use mir.Syntax.{w64}
use mir.Val.{of_z}
use Rattle.whole.proofs.Expression.{Signed, var, nat, lit, InBounds, raw, ◌⊕◌, ◌⊖◌, ◌⊗◌, ◌⊘◌, holds, fits}
use Rattle.whole.proofs.RoundingLaws.{quot_above, quot_below}
use Rattle.whole.proofs.rounding.round_div.Goals as goal

abbrev v : ℤ → Signed
v n = var n 1152921504606846976

abbrev low : ℕ → Signed
low d = lit (pos 2) ⊗ nat d 1152921504606846976

-- the half more, and that it is small
abbrev more : ℕ → Signed
more d = nat d 1152921504606846976

small : (d : ℕ) → d ≤ 1152921504606846976 → InBounds (more d)
small d h = h

abbrev below : ℤ → ℕ → Signed
below n d = lit (pos 2) ⊗ v n ⊖ more d

abbrev above : ℤ → ℕ → Signed
above n d = lit (pos 2) ⊗ v n ⊕ more d

-- what the machine divides by, 2 * d, is not 0
positive : (d : ℕ) → d ≤ 1152921504606846976 → 0 < d → 0 < of_z w64 (raw w64 (low d))
positive d h k = subst (λ (z : ℤ). 0 < of_z w64 (pos 2 *ℤ z)) (sym (holds w64 (nat d 1152921504606846976) h tt)) (omega (arith, k))

pub overflow_mul-result : goal.overflow_mul-result
overflow_mul-result c = fits w64 (lit (pos 2) ⊗ v c.args.n) (tt, c.requires.0) tt

pub overflow_sub-result : goal.overflow_sub-result
overflow_sub-result c = fits w64 (below c.args.n c.args.d) ((tt, c.requires.0), small _ c.requires.2) tt

pub overflow_mul-result-then-n-lt0 : goal.overflow_mul-result-then-n-lt0
overflow_mul-result-then-n-lt0 c = fits w64 (low c.args.d) (tt, c.requires.2) tt

pub nonzero_div-result : goal.nonzero_div-result
nonzero_div-result c = (positive _ c.requires.2 c.requires.1, fits w64 (below c.args.n c.args.d ⊘ low c.args.d) (((tt, c.requires.0), small _ c.requires.2), (tt, c.requires.2)) tt)

pub overflow_mul-result-else-n-lt0 : goal.overflow_mul-result-else-n-lt0
overflow_mul-result-else-n-lt0 c = fits w64 (lit (pos 2) ⊗ v c.args.n) (tt, c.requires.0) tt

pub overflow_add-result : goal.overflow_add-result
overflow_add-result c = fits w64 (above c.args.n c.args.d) ((tt, c.requires.0), small _ c.requires.2) tt

pub overflow_mul-result-else-n-lt0-2 : goal.overflow_mul-result-else-n-lt0-2
overflow_mul-result-else-n-lt0-2 c = fits w64 (low c.args.d) (tt, c.requires.2) tt

pub nonzero_div-result-else-n-lt0 : goal.nonzero_div-result-else-n-lt0
nonzero_div-result-else-n-lt0 c = (positive _ c.requires.2 c.requires.1, fits w64 (above c.args.n c.args.d ⊘ low c.args.d) (((tt, c.requires.0), small _ c.requires.2), (tt, c.requires.2)) tt)

pub returns-then-n-lt0 : goal.returns-then-n-lt0
returns-then-n-lt0 c =
    let n = c.args.n in
    holds w64 (below n c.args.d ⊘ low c.args.d) (((tt, c.requires.0), small _ c.requires.2), (tt, c.requires.2)) tt
    ∙ quot_below n c.args.d (subst (λ (z : ℤ). lt_z z (pos 0) ≡ true) (holds w64 (v n) c.requires.0 tt) c.if-n-lt0.true)

pub returns-else-n-lt0 : goal.returns-else-n-lt0
returns-else-n-lt0 c =
    let n = c.args.n in
    holds w64 (above n c.args.d ⊘ low c.args.d) (((tt, c.requires.0), small _ c.requires.2), (tt, c.requires.2)) tt
    ∙ quot_above n c.args.d (subst (λ (z : ℤ). lt_z z (pos 0) ≡ false) (holds w64 (v n) c.requires.0 tt) c.if-n-lt0.false)
