-- `cross_of` meets its contract: its whole numbers fit an i32. Assumes nothing.
use mir.Syntax.{w32}
use Rattle.whole.proofs.Expression.{◌⊕◌, ◌⊗◌, holds, fits}
use Rattle.quintic.specs.Real.{◌⊞◌, ◌⊠◌, whole}
use Rattle.quintic.proofs.StepLaws.{step}
use Rattle.quintic.proofs.cross_of.Goals as goal

pub overflow_mul-result : goal.overflow_mul-result
overflow_mul-result c = fits w32 (step c.args.a ⊗ step c.args.b) (c.requires.0, c.requires.1) tt

pub overflow_mul-result-2 : goal.overflow_mul-result-2
overflow_mul-result-2 c = fits w32 (step c.args.a ⊗ step c.args.d) (c.requires.0, c.requires.3) tt

pub overflow_mul-result-3 : goal.overflow_mul-result-3
overflow_mul-result-3 c = fits w32 (step c.args.b ⊗ step c.args.c) (c.requires.1, c.requires.2) tt

pub overflow_add-result : goal.overflow_add-result
overflow_add-result c = fits w32 (step c.args.a ⊗ step c.args.d ⊕ step c.args.b ⊗ step c.args.c) ((c.requires.0, c.requires.3), (c.requires.1, c.requires.2)) tt

pub overflow_mul-result-4 : goal.overflow_mul-result-4
overflow_mul-result-4 c = fits w32 (step c.args.c ⊗ step c.args.d) (c.requires.2, c.requires.3) tt

pub returns : goal.returns
returns c =
    let ab = holds w32 (step c.args.a ⊗ step c.args.b) (c.requires.0, c.requires.1) tt in
    let both = holds w32 (step c.args.a ⊗ step c.args.d ⊕ step c.args.b ⊗ step c.args.c) ((c.requires.0, c.requires.3), (c.requires.1, c.requires.2)) tt in
    let cd = holds w32 (step c.args.c ⊗ step c.args.d) (c.requires.2, c.requires.3) tt in
    λ j. whole (ab j) ⊠ c.args.zxx ⊞ whole (both j) ⊠ c.args.zxy ⊞ whole (cd j) ⊠ c.args.zyy
