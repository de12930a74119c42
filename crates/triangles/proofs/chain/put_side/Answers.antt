-- `put_side` meets its contract: the triangle of a side of either chain. Assumes nothing.
use mathlib.Core.Path.{sym, ap, ◌∙◌}
use Rattle.triangles.specs.Chain.{triangle_at, put}
use Rattle.triangles.specs.Mesh.{lowest_first}
use Rattle.triangles.proofs.chain.put_side.Goals as goal

pub returns-then-upper : goal.returns-then-upper
returns-then-upper c =
    let a = c.args in
    c.put_triangle.ensures ∙ ap (λ u. put a.k (lowest_first (triangle_at u a.chain.now a.q a.i)) a.triangles.now) (sym c.if-upper.true)

pub returns-else-upper : goal.returns-else-upper
returns-else-upper c =
    let a = c.args in
    c.put_triangle-else-upper.ensures ∙ ap (λ u. put a.k (lowest_first (triangle_at u a.chain.now a.q a.i)) a.triangles.now) (sym c.if-upper.false)
