-- `store_key` meets its contract where the key is the lowest of its block. Assumes nothing.
use mathlib.Core.Path.{refl}
use Rattle.tops.proofs.TopLaws.{tops-low}
use Rattle.tops.proofs.store_key.Goals as goal

pub returns-then-v-top : goal.returns-then-v-top
returns-then-v-top c =
    let a = c.args in
    let p = c.requires in
    (refl, tops-low a.keys.now a.h a.v p.0 a.tops.now p.2 c.if-v-top.true)
