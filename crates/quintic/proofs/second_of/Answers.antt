-- `second_of` meets its contract: its whole numbers fit an i32. Assumes nothing.
use lib.IntN.{pos}
use mir.Syntax.{w32}
use Rattle.whole.proofs.Expression.{lit, ◌⊗◌, holds, fits}
use Rattle.quintic.specs.Real.{◌⊞◌, ◌⊠◌, whole}
use Rattle.quintic.proofs.StepLaws.{step}
use Rattle.quintic.proofs.second_of.Goals as goal

pub overflow_mul-result : goal.overflow_mul-result
overflow_mul-result c = fits w32 (step c.args.a ⊗ step c.args.a) (c.requires.0, c.requires.0) tt

pub overflow_mul-result-2 : goal.overflow_mul-result-2
overflow_mul-result-2 c = fits w32 (lit (pos 2) ⊗ step c.args.a) (tt, c.requires.0) tt

pub overflow_mul-result-3 : goal.overflow_mul-result-3
overflow_mul-result-3 c = fits w32 (lit (pos 2) ⊗ step c.args.a ⊗ step c.args.c) ((tt, c.requires.0), c.requires.1) tt

pub overflow_mul-result-4 : goal.overflow_mul-result-4
overflow_mul-result-4 c = fits w32 (step c.args.c ⊗ step c.args.c) (c.requires.1, c.requires.1) tt

pub returns : goal.returns
returns c =
    let aa = holds w32 (step c.args.a ⊗ step c.args.a) (c.requires.0, c.requires.0) tt in
    let ac = holds w32 (lit (pos 2) ⊗ step c.args.a ⊗ step c.args.c) ((tt, c.requires.0), c.requires.1) tt in
    let cc = holds w32 (step c.args.c ⊗ step c.args.c) (c.requires.1, c.requires.1) tt in
    λ j. whole (aa j) ⊠ c.args.zxx ⊞ whole (ac j) ⊠ c.args.zxy ⊞ whole (cc j) ⊠ c.args.zyy
