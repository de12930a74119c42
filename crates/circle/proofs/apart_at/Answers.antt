-- `apart_at` meets its contract: its one expression, on coordinates up to 8,191, fits an i64 and is `apart` as it is written. Assumes
-- nothing.
use Prim.Native.Nat.{ℕ}
use mir.Syntax.{w64}
use Rattle.whole.specs.Turn.{across, climb}
use Rattle.whole.proofs.Expression.{Signed, nat, ◌⊕◌, ◌⊖◌, ◌⊗◌, holds, fits}
use Rattle.circle.specs.Circle.{apart}
use Rattle.circle.proofs.apart_at.Goals as goal

-- the step from one coordinate to another
abbrev step : ℕ → ℕ → Signed
step a b = nat b 8191 ⊖ nat a 8191

abbrev whole : ℕ → ℕ → ℕ → ℕ → Signed
whole ax ay bx by = step ax bx ⊗ step ax bx ⊕ step ay by ⊗ step ay by

pub overflow_sub-x : goal.overflow_sub-x
overflow_sub-x c = fits w64 (step c.args.ax c.args.bx) (c.requires.2, c.requires.0) tt

pub overflow_sub-y : goal.overflow_sub-y
overflow_sub-y c = fits w64 (step c.args.ay c.args.by) (c.requires.3, c.requires.1) tt

pub overflow_mul-result : goal.overflow_mul-result
overflow_mul-result c = fits w64 (step c.args.ax c.args.bx ⊗ step c.args.ax c.args.bx) ((c.requires.2, c.requires.0), (c.requires.2, c.requires.0)) tt

pub overflow_mul-result-2 : goal.overflow_mul-result-2
overflow_mul-result-2 c = fits w64 (step c.args.ay c.args.by ⊗ step c.args.ay c.args.by) ((c.requires.3, c.requires.1), (c.requires.3, c.requires.1)) tt

pub overflow_add-result : goal.overflow_add-result
overflow_add-result c =
    fits w64 (whole c.args.ax c.args.ay c.args.bx c.args.by)
    (((c.requires.2, c.requires.0), (c.requires.2, c.requires.0)), ((c.requires.3, c.requires.1), (c.requires.3, c.requires.1))) tt

pub returns : goal.returns
unfolding apart across climb
returns c =
    holds w64 (whole c.args.ax c.args.ay c.args.bx c.args.by)
    (((c.requires.2, c.requires.0), (c.requires.2, c.requires.0)), ((c.requires.3, c.requires.1), (c.requires.3, c.requires.1))) tt
