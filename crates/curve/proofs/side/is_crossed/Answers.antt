-- `is_crossed` meets its contract: one of the two stations is below the level. Assumes nothing.
use mathlib.Core.Path.{◌∙◌}
use mathlib.Core.Bool.{xor}
use mir.Facts.{to_z-of_z}
use Rattle.curve.specs.Below.{is_crossed}
use Rattle.curve.proofs.CrossLaws.{differ-xor}
use Rattle.curve.proofs.side.is_crossed.Goals as goal

pub returns : goal.returns
returns c =
    let s = c.ranges in
    differ-xor c.is_below.result c.is_below-2.result
    ∙ (λ i. xor (c.is_below.ensures i) (c.is_below-2.ensures i))
    ∙ (λ i. is_crossed (to_z-of_z s.level i) (to_z-of_z s.z1 i) (to_z-of_z s.z2 i))
