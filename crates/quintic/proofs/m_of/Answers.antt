-- `m_of` meets its contract: its operations are those of `m_of`, in their order, and its whole numbers fit an i32. Assumes nothing.
use lib.IntN.{pos}
use mir.Syntax.{w32}
use Rattle.whole.proofs.Expression.{var, lit, ◌⊕◌, ◌⊗◌, holds, fits}
use Rattle.quintic.specs.Real.{◌⊞◌, ◌⊟◌, ◌⊠◌, whole}
use Rattle.quintic.specs.Quintic.{most_sum, m_of}
use Rattle.quintic.proofs.m_of.Goals as goal

pub overflow_mul-result : goal.overflow_mul-result
overflow_mul-result c = fits w32 (lit (pos 5) ⊗ var c.args.sv most_sum) (tt, c.requires.1) tt

pub overflow_mul-result-2 : goal.overflow_mul-result-2
overflow_mul-result-2 c = fits w32 (lit (pos 4) ⊗ var c.args.sv most_sum) (tt, c.requires.1) tt

pub overflow_add-result : goal.overflow_add-result
overflow_add-result c = fits w32 (lit (pos 4) ⊗ var c.args.sv most_sum ⊕ var c.args.us most_sum) ((tt, c.requires.1), c.requires.0) tt

pub overflow_mul-result-3 : goal.overflow_mul-result-3
overflow_mul-result-3 c = fits w32 (lit (pos 4) ⊗ var c.args.us most_sum) (tt, c.requires.0) tt

pub overflow_add-result-2 : goal.overflow_add-result-2
overflow_add-result-2 c = fits w32 (lit (pos 4) ⊗ var c.args.us most_sum ⊕ var c.args.sv most_sum) ((tt, c.requires.0), c.requires.1) tt

pub overflow_mul-result-4 : goal.overflow_mul-result-4
overflow_mul-result-4 c = fits w32 (lit (pos 5) ⊗ var c.args.us most_sum) (tt, c.requires.0) tt

pub returns : goal.returns
unfolding m_of
returns c =
    let of-p50 = holds w32 (lit (pos 5) ⊗ var c.args.sv most_sum) (tt, c.requires.1) tt in
    let of-p41 = holds w32 (lit (pos 4) ⊗ var c.args.sv most_sum ⊕ var c.args.us most_sum) ((tt, c.requires.1), c.requires.0) tt in
    let of-p14 = holds w32 (lit (pos 4) ⊗ var c.args.us most_sum ⊕ var c.args.sv most_sum) ((tt, c.requires.0), c.requires.1) tt in
    let of-p05 = holds w32 (lit (pos 5) ⊗ var c.args.us most_sum) (tt, c.requires.0) tt in
    λ j. whole (of-p50 j) ⊠ c.args.p50 ⊟ whole (of-p41 j) ⊠ c.args.p41 ⊞ whole (of-p14 j) ⊠ c.args.p14 ⊟ whole (of-p05 j) ⊠ c.args.p05
