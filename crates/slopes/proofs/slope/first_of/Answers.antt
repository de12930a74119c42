-- `first_of` meets its contract: 65,536 times the sum fits an i64. Assumes nothing.
use mathlib.Core.Path.{sym, ◌∙◌, subst}
use native.Mathlib.Omega.{arith}
use lib.IntN.{ℤ, negsuc}
use mir.Syntax.{w32, w64}
use mir.Facts.{to_z-of_z}
use Rattle.whole.specs.Range.{Within}
use Rattle.whole.proofs.RangeLaws.{within_more}
use Rattle.whole.proofs.Expression.{Signed, var, lit, ◌⊗◌, holds, fits, within}
use Rattle.slopes.specs.Slopes.{slope}
use Rattle.normal.proofs.SignedLaws.{size_is, size-cast, size-positive, size-le}
use Rattle.slopes.proofs.slope.first_of.Goals as goal

abbrev top : ℤ → Signed
top n = lit (negsuc 65535) ⊗ var n 8796093022208

pub overflow_mul-n : goal.overflow_mul-n
overflow_mul-n c = fits w64 (top c.args.n) (tt, c.requires.0) tt

pub overflow_cast-nz : goal.overflow_cast-nz
overflow_cast-nz c = size-cast c.requires.1 tt c.requires.2

pub slope_of-requires : goal.slope_of-requires
slope_of-requires c = (
  subst (Within 1152921504606846976) (sym (holds w64 (top c.args.n) (tt, c.requires.0) tt)) (within_more (within (top c.args.n) (tt, c.requires.0)) tt),
  size-positive c.requires.1 tt c.requires.2,
  omega (arith, size-le c.requires.1 tt c.requires.2),
)

pub returns : goal.returns
returns c =
    let r = c.slope_of in
    to_z-of_z {w = w32} {z = r.result} (record { sfits = r.type_inv })
    ∙ r.ensures
    ∙ (λ t. slope (holds w64 (top c.args.n) (tt, c.requires.0) tt t) (size_is c.requires.1 tt c.requires.2 t))
