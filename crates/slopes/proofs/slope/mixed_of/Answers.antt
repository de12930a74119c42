-- `mixed_of` meets its contract: the sum of two sums, and twice NZ, fit. Assumes nothing.
use mathlib.Core.Path.{sym, ◌∙◌, subst}
use Prim.Native.Nat.{◌*◌}
use native.Mathlib.Omega.{arith}
use lib.IntN.{ℤ, pos, ◌+ℤ◌}
use mir.Syntax.{w32, w64}
use mir.Facts.{to_z-of_z}
use Rattle.whole.specs.Range.{Within}
use Rattle.whole.proofs.RangeLaws.{within_more}
use Rattle.whole.proofs.Expression.{Signed, var, lit, ◌⊕◌, ◌⊖◌, holds, fits, within}
use Rattle.slopes.specs.Slopes.{slope}
use Rattle.normal.proofs.SignedLaws.{size_is, size-cast, size-positive, size-le, zero_minus}
use Rattle.slopes.proofs.slope.mixed_of.Goals as goal

abbrev sum : ℤ → ℤ → Signed
sum ny nx = var ny 281474976710656 ⊕ var nx 281474976710656

abbrev top : ℤ → ℤ → Signed
top ny nx = lit (pos 0) ⊖ sum ny nx

pub overflow_add-ny : goal.overflow_add-ny
overflow_add-ny c = fits w64 (sum c.args.ny c.args.nx) (c.requires.0, c.requires.1) tt

pub overflow_sub-ny : goal.overflow_sub-ny
overflow_sub-ny c = fits w64 (top c.args.ny c.args.nx) (tt, (c.requires.0, c.requires.1)) tt

pub overflow_cast-nz : goal.overflow_cast-nz
overflow_cast-nz c = size-cast c.requires.2 tt c.requires.3

pub overflow_mul-nz : goal.overflow_mul-nz
overflow_mul-nz c = omega (arith, size-le c.requires.2 tt c.requires.3)

pub slope_of-requires : goal.slope_of-requires
slope_of-requires c = (
  subst (Within 1152921504606846976) (sym (holds w64 (top c.args.ny c.args.nx) (tt, (c.requires.0, c.requires.1)) tt))
      (within_more (within (top c.args.ny c.args.nx) (tt, (c.requires.0, c.requires.1))) tt),
  omega (arith, size-positive c.requires.2 tt c.requires.3),
  omega (arith, size-le c.requires.2 tt c.requires.3),
)

pub returns : goal.returns
returns c =
    let r = c.slope_of in
    let e = holds w64 (top c.args.ny c.args.nx) (tt, (c.requires.0, c.requires.1)) tt ∙ zero_minus (c.args.ny +ℤ c.args.nx) in
    to_z-of_z {w = w32} {z = r.result} (record { sfits = r.type_inv })
    ∙ r.ensures
    ∙ (λ t. slope (e t) (2 * size_is c.requires.2 tt c.requires.3 t))
