-- `told_as` meets its contract: a height in its range, and 32,768, is not below 0. Assumes nothing.
use mathlib.Core.Path.{ap, ◌∙◌}
use native.Mathlib.Omega.{arith}
use lib.IntN.{pos, nat_abs}
use mir.Syntax.{w32}
use Rattle.whole.proofs.Expression.{var, lit, ◌⊕◌, fits, holds}
use Rattle.formats.proofs.ToldLaws.{sum_told, told-range}
use Rattle.formats.proofs.told.told_as.Goals as goal

pub overflow_add-result : goal.overflow_add-result
overflow_add-result c = fits w32 (var c.args.height 32767 ⊕ lit (pos 32768)) (c.requires, tt) tt

pub overflow_cast-result : goal.overflow_cast-result
overflow_cast-result c =
    let z = c.args.height in
    let e = holds w32 (var z 32767 ⊕ lit (pos 32768)) (c.requires, tt) tt ∙ sum_told z c.requires in
    rw e (tt, record { fits = omega (arith, (told-range z c.requires).1) })

pub returns : goal.returns
returns c = let z = c.args.height in ap nat_abs (holds w32 (var z 32767 ⊕ lit (pos 32768)) (c.requires, tt) tt ∙ sum_told z c.requires)
