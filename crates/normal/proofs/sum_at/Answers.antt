-- `sum_at` meets its contract: the four steps of the row are short, and their pairs sum up to the station's sums. Assumes nothing.
use mathlib.Core.Path.{sym, ◌∙◌, subst}
use mathlib.Core.List.{[], ◌∷◌}
use Rattle.nearest.specs.Places.{value_in}
use Rattle.normal.specs.Normal.{none, added_all, Short}
use Rattle.nearest.proofs.NeighbourLaws.{near-below}
use Rattle.normal.proofs.SumLaws.{step-short, sum_is_four}
use Rattle.normal.proofs.sum_at.Goals as goal

pub add_pairs-requires : goal.add_pairs-requires
add_pairs-requires c =
    let g = c.requires.0 in
    let i = c.args.i in
    let below = near-below g i c.requires.3 in
    let short = step-short g (value_in c.args.h.now) i c.requires.3 268435456 c.requires.1.within in (
      subst (Short 536870912) (sym c.step_near-a.ensures) (short _ (below 0)),
      subst (Short 536870912) (sym c.step_near-b.ensures) (short _ (below 1)),
      subst (Short 536870912) (sym c.step_near-c.ensures) (short _ (below 2)),
      subst (Short 536870912) (sym c.step_near-d.ensures) (short _ (below 3)),
    )

pub returns : goal.returns
returns c =
    c.add_pairs.ensures
    ∙ (λ t. added_all none (c.step_near-a.ensures t ∷ c.step_near-b.ensures t ∷ c.step_near-c.ensures t ∷ c.step_near-d.ensures t ∷ []))
    ∙ sum_is_four c.requires.0 (value_in c.args.h.now) c.args.i c.requires.3
