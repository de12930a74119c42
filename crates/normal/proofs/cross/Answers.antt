-- `cross` meets its contract: its one expression fits an i64. Assumes nothing.
use lib.IntN.{ℤ}
use mir.Syntax.{w64}
use Rattle.whole.proofs.Expression.{Signed, var, ◌⊖◌, ◌⊗◌, holds, fits}
use Rattle.normal.proofs.cross.Goals as goal

abbrev part : ℤ → Signed
part z = var z 536870912

abbrev whole : ℤ → ℤ → ℤ → ℤ → Signed
whole a1 b1 a2 b2 = part a1 ⊗ part b2 ⊖ part b1 ⊗ part a2

pub overflow_mul-result : goal.overflow_mul-result
overflow_mul-result c = fits w64 (part c.args.a1 ⊗ part c.args.b2) (c.requires.0, c.requires.3) tt

pub overflow_mul-result-2 : goal.overflow_mul-result-2
overflow_mul-result-2 c = fits w64 (part c.args.b1 ⊗ part c.args.a2) (c.requires.1, c.requires.2) tt

pub overflow_sub-result : goal.overflow_sub-result
overflow_sub-result c = fits w64 (whole c.args.a1 c.args.b1 c.args.a2 c.args.b2) ((c.requires.0, c.requires.3), (c.requires.1, c.requires.2)) tt

pub returns : goal.returns
returns c = holds w64 (whole c.args.a1 c.args.b1 c.args.a2 c.args.b2) ((c.requires.0, c.requires.3), (c.requires.1, c.requires.2)) tt
