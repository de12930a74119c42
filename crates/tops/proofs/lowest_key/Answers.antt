-- `lowest_key` meets its contract: the lowest of the lowest block. Assumes nothing.
use mathlib.Core.Path.{refl}
use Rattle.tops.proofs.TopLaws.{tops-least}
use Rattle.tops.proofs.lowest_key.Goals as goal

pub returns : goal.returns
returns c =
    let a = c.args in
    let p = c.requires in
    let z = c.end_of-z.ensures in
    tops-least a.keys.now a.tops.now p.2 c.lowest_between-b.result _ _ _ c.lowest_between-b.ensures refl z.1 z.3 c.lowest_between.ensures
