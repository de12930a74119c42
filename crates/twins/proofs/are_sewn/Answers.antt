-- `are_sewn` meets its contract: whatever was guessed, all half-sides passed. Assumes nothing.
use mathlib.Core.Bool.{false≢true}
use Rattle.seams.proofs.SewnLaws.{all_sewn}
use Rattle.twins.proofs.are_sewn.Goals as goal

pub returns-then-triangles-t : goal.returns-then-triangles-t
returns-then-triangles-t c = λ e. absurd (false≢true e)

pub returns-then-are_sewn : goal.returns-then-are_sewn
returns-then-are_sewn c =
    let a = c.args in
    λ e. all_sewn a.triangles.now a.t (c.are_sewn.ensures c.if-are_sewn.true)

pub returns-else-are_sewn : goal.returns-else-are_sewn
returns-else-are_sewn c = λ e. all_sewn _ _ (c.are_sewn-else-are_sewn.ensures e)
