-- `rise_to` meets its contract: the difference of two heights or slopes fits an i64. Assumes nothing.
use lib.IntN.{ℤ}
use mir.Syntax.{w32, w64}
use Rattle.whole.proofs.Expression.{Signed, var, wide, ◌⊖◌, holds, fits}
use Rattle.nearest.specs.Places.{value_in}
use Rattle.normal.proofs.rise_to.Goals as goal

abbrev height : ℤ → Signed
height z = wide w32 (var z 268435456)

pub overflow_cast-result : goal.overflow_cast-result
overflow_cast-result c = fits w64 (height (value_in c.args.h.now c.args.k)) c.requires.3 tt

pub overflow_cast-result-2 : goal.overflow_cast-result-2
overflow_cast-result-2 c = fits w64 (height (value_in c.args.h.now c.args.i)) c.requires.2 tt

pub overflow_sub-result : goal.overflow_sub-result
overflow_sub-result c = fits w64 (height (value_in c.args.h.now c.args.k) ⊖ height (value_in c.args.h.now c.args.i)) (c.requires.3, c.requires.2) tt

pub returns : goal.returns
returns c = holds w64 (height (value_in c.args.h.now c.args.k) ⊖ height (value_in c.args.h.now c.args.i)) (c.requires.3, c.requires.2) tt
