-- `corner_at` meets its contract: the slopes are those of the room, and the height goes through its bits unchanged. Assumes nothing.
use mathlib.Core.Path.{sym, ◌∙◌, subst}
use lib.IntN.{pos}
use lib.ListN.{get_or}
use mir.Syntax.{w32}
use mir.Facts.{to_z-of_z}
use Rattle.slopes.specs.Slopes.{IsCut}
use Rattle.quintic.specs.Quintic.{corner_of}
use Rattle.held.proofs.corner_at.Goals as goal

pub five_of-f-requires : goal.five_of-f-requires
five_of-f-requires c = (c.requires.0, c.requires.2, c.requires.3)

pub corner_of-requires : goal.corner_of-requires
corner_of-requires c = (c.requires.4, subst IsCut (sym c.five_of-f.ensures) c.requires.3)

pub returns : goal.returns
returns c =
    let z = to_z-of_z {w = w32} {z = get_or c.args.z.now c.args.k (pos 0)} (record { sfits = c.corner_of-arg-1.given }) in
    let f = c.five_of-f.ensures in
    c.corner_of.ensures ∙ (λ j. corner_of c.args.e (z j) (f j))
