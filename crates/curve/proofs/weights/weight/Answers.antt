-- `weight` meets its contract: the entry at 6k + i is the weight of control height i at stop k. Assumes nothing.
use mathlib.Core.Path.{ap, ◌∙◌}
use mathlib.Core.List.{List}
use Prim.Native.Nat.{ℕ, ◌+◌, ◌*◌}
use lib.ListN.{get_or}
use Rattle.curve.proofs.WeightLaws.{weight-table_at}
use Rattle.curve.proofs.weights.weight.Goals as goal

pub returns : goal.returns
returns c =
    let k = c.args.k in
    let i = c.args.i in
    ap (λ (t : List ℕ). get_or t (6 * k + i) 0) c.requires.0 ∙ weight-table_at k i c.requires.1 c.requires.2
