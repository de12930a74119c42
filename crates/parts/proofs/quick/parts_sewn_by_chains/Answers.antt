-- `parts_sewn_by_chains` meets its contract: what follows from the yes of the test. Assumes nothing.
use Prim.Native.Nat.{◌/◌}
use lib.ListN.{length}
use Rattle.seams.proofs.SewnLaws.{all_sewn}
use Rattle.parts.proofs.quick.parts_sewn_by_chains.Goals as goal

pub returns-then-are_sewn : goal.returns-then-are_sewn
returns-then-are_sewn c =
    let l = c.args.triangles.now in
    λ _. all_sewn l (length l / 3) (c.are_sewn.ensures c.if-are_sewn.true)
