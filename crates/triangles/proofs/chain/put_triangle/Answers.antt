-- `put_triangle` meets its contract: the corners are turned. Assumes nothing.
use mathlib.Core.Path.{ap, ◌∙◌}
use Rattle.triangles.specs.Chain.{put}
use Rattle.triangles.proofs.chain.put_triangle.Goals as goal

pub returns : goal.returns
returns c = c.put_corners.ensures ∙ ap (λ t. put c.args.k t c.args.triangles.now) c.lowest_first.ensures
