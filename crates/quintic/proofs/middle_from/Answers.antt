-- `middle_from` meets its contract: its operations are those of `middle_of`, in their order, and its whole numbers fit an i32. Assumes nothing.
use mathlib.Core.Path.{◌∙◌}
use lib.IntN.{pos, ◌+ℤ◌, ◌*ℤ◌}
use Rattle.normal.proofs.SignedLaws.{zero_minus}
use mir.Syntax.{w32}
use Rattle.whole.proofs.Expression.{var, lit, ◌⊕◌, ◌⊖◌, ◌⊗◌, holds, fits}
use Rattle.quintic.specs.Real.{◌⊞◌, ◌⊟◌, ◌⊠◌, ◌⊘◌, whole}
use Rattle.quintic.specs.Quintic.{most_sum, middle_of}
use Rattle.quintic.proofs.middle_from.Goals as goal

pub overflow_mul-g1 : goal.overflow_mul-g1
overflow_mul-g1 c = fits w32 (lit (pos 3) ⊗ var c.args.sv most_sum) (tt, c.requires.1) tt

pub overflow_mul-g1-2 : goal.overflow_mul-g1-2
overflow_mul-g1-2 c = fits w32 (lit (pos 2) ⊗ var c.args.us most_sum) (tt, c.requires.0) tt

pub overflow_add-g1 : goal.overflow_add-g1
overflow_add-g1 c = fits w32 (lit (pos 3) ⊗ var c.args.sv most_sum ⊕ lit (pos 2) ⊗ var c.args.us most_sum) ((tt, c.requires.1), (tt, c.requires.0)) tt

pub overflow_sub-g1 : goal.overflow_sub-g1
overflow_sub-g1 c = fits w32 (lit (pos 0) ⊖ (lit (pos 3) ⊗ var c.args.sv most_sum ⊕ lit (pos 2) ⊗ var c.args.us most_sum)) (tt, ((tt, c.requires.1), (tt, c.requires.0))) tt

pub overflow_mul-g2 : goal.overflow_mul-g2
overflow_mul-g2 c = fits w32 (lit (pos 3) ⊗ var c.args.us most_sum) (tt, c.requires.0) tt

pub overflow_mul-g2-2 : goal.overflow_mul-g2-2
overflow_mul-g2-2 c = fits w32 (lit (pos 2) ⊗ var c.args.sv most_sum) (tt, c.requires.1) tt

pub overflow_add-g2 : goal.overflow_add-g2
overflow_add-g2 c = fits w32 (lit (pos 3) ⊗ var c.args.us most_sum ⊕ lit (pos 2) ⊗ var c.args.sv most_sum) ((tt, c.requires.0), (tt, c.requires.1)) tt

pub overflow_sub-p22 : goal.overflow_sub-p22
overflow_sub-p22 c = fits w32 (var c.args.us most_sum ⊖ var c.args.sv most_sum) (c.requires.0, c.requires.1) tt

pub returns : goal.returns
unfolding middle_of
returns c =
    let a = c.args in
    let g1 =
    holds w32 (lit (pos 0) ⊖ (lit (pos 3) ⊗ var a.sv most_sum ⊕ lit (pos 2) ⊗ var a.us most_sum)) (tt, ((tt, c.requires.1), (tt, c.requires.0))) tt
    ∙ zero_minus (pos 3 *ℤ a.sv +ℤ pos 2 *ℤ a.us) in
    let g2 = holds w32 (lit (pos 3) ⊗ var c.args.us most_sum ⊕ lit (pos 2) ⊗ var c.args.sv most_sum) ((tt, c.requires.0), (tt, c.requires.1)) tt in
    let less = holds w32 (var c.args.us most_sum ⊖ var c.args.sv most_sum) (c.requires.0, c.requires.1) tt in
    λ j.
    let p22 = (whole (g1 j) ⊠ a.h2 ⊞ whole (g2 j) ⊠ a.h3 ⊟ a.m) ⊘ whole (less j) in
    record { p22 = p22; p32 = a.h2 ⊟ p22; p23 = a.h3 ⊟ p22 }
