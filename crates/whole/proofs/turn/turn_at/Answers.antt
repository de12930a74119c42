-- `turn_at` meets its contract: its one expression, on coordinates below 2 ^ 30, fits an i64 and is `turn` as it is written.
-- Assumes nothing.
use Prim.Native.Nat.{ℕ}
use mir.Syntax.{w64}
use Rattle.whole.specs.Turn.{turn}
use Rattle.whole.proofs.Expression.{Signed, nat, ◌⊖◌, ◌⊗◌, holds, fits}
use Rattle.whole.proofs.turn.turn_at.Goals as goal

-- the step from one coordinate to another, and the product of two steps
abbrev step : ℕ → ℕ → Signed
step a b = nat b 1073741823 ⊖ nat a 1073741823

abbrev whole : ℕ → ℕ → ℕ → ℕ → ℕ → ℕ → Signed
whole ax ay bx by cx cy = step ax bx ⊗ step ay cy ⊖ step ay by ⊗ step ax cx

pub overflow_sub-result : goal.overflow_sub-result
overflow_sub-result c = fits w64 (step c.args.ax c.args.bx) (c.requires.2, c.requires.0) tt

pub overflow_sub-result-2 : goal.overflow_sub-result-2
overflow_sub-result-2 c = fits w64 (step c.args.ay c.args.cy) (c.requires.5, c.requires.1) tt

pub overflow_mul-result : goal.overflow_mul-result
overflow_mul-result c = fits w64 (step c.args.ax c.args.bx ⊗ step c.args.ay c.args.cy) ((c.requires.2, c.requires.0), (c.requires.5, c.requires.1)) tt

pub overflow_sub-result-3 : goal.overflow_sub-result-3
overflow_sub-result-3 c = fits w64 (step c.args.ay c.args.by) (c.requires.3, c.requires.1) tt

pub overflow_sub-result-4 : goal.overflow_sub-result-4
overflow_sub-result-4 c = fits w64 (step c.args.ax c.args.cx) (c.requires.4, c.requires.0) tt

pub overflow_mul-result-2 : goal.overflow_mul-result-2
overflow_mul-result-2 c = fits w64 (step c.args.ay c.args.by ⊗ step c.args.ax c.args.cx) ((c.requires.3, c.requires.1), (c.requires.4, c.requires.0)) tt

pub overflow_sub-result-5 : goal.overflow_sub-result-5
overflow_sub-result-5 c =
    fits w64 (whole c.args.ax c.args.ay c.args.bx c.args.by c.args.cx c.args.cy)
    (((c.requires.2, c.requires.0), (c.requires.5, c.requires.1)), ((c.requires.3, c.requires.1), (c.requires.4, c.requires.0))) tt

pub returns : goal.returns
unfolding turn
returns c =
    holds w64 (whole c.args.ax c.args.ay c.args.bx c.args.by c.args.cx c.args.cy)
    (((c.requires.2, c.requires.0), (c.requires.5, c.requires.1)), ((c.requires.3, c.requires.1), (c.requires.4, c.requires.0))) tt
