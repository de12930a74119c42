-- `run_to` meets its contract: the difference of two coordinates fits an i64. Assumes nothing.
use Prim.Native.Nat.{ℕ}
use lib.ListN.{get_or}
use mir.Syntax.{w64}
use Rattle.whole.proofs.Expression.{Signed, nat, ◌⊖◌, holds, fits}
use Rattle.normal.proofs.run_to.Goals as goal

abbrev step : ℕ → ℕ → Signed
step a b = nat b 8191 ⊖ nat a 8191

pub overflow_sub-result : goal.overflow_sub-result
overflow_sub-result c = fits w64 (step (get_or c.args.x.now c.args.i 0) (get_or c.args.x.now c.args.k 0)) (c.requires.3, c.requires.2) tt

pub returns : goal.returns
returns c = holds w64 (step (get_or c.args.x.now c.args.i 0) (get_or c.args.x.now c.args.k 0)) (c.requires.3, c.requires.2) tt
