-- `side_at` meets its contract: either way round. Assumes nothing.
use mathlib.Core.Path.{sym, ap}
use mathlib.Core.Bool.{cond}
use Prim.Native.Nat.{◌+◌, ◌-◌}
use Rattle.triangles.proofs.chain.side_at.Goals as goal

pub returns-then-falling : goal.returns-then-falling
returns-then-falling c = let a = c.args in ap (λ f. cond f (a.a - 1 - a.i) (a.j + a.i)) (sym c.if-falling.true)

pub returns-else-falling : goal.returns-else-falling
returns-else-falling c = let a = c.args in ap (λ f. cond f (a.a - 1 - a.i) (a.j + a.i)) (sym c.if-falling.false)
