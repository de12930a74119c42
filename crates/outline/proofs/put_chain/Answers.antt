-- `put_chain` meets its contract: the sides in the slice are those of the sweep's chain. Assumes nothing.
use mathlib.Core.Path.{ap, ◌∙◌}
use native.Mathlib.Omega.{arith}
use lib.ListN.{length-take}
use Rattle.outline.specs.Outline.{written}
use Rattle.outline.proofs.put_chain.Goals as goal

pub put_sides-requires : goal.put_sides-requires
put_sides-requires c =
    let w = c.climb-a.ensures in
    (omega (arith, w.below, length-take c.args.n c.args.order.now, c.requires.2), λ k l. c.requires.3 _ (w.stations k l))

pub returns : goal.returns
returns c = c.put_sides.ensures ∙ ap (λ es. written es c.args.next.now) c.climb-a.ensures.sides
