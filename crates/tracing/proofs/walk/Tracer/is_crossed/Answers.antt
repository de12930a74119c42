-- `is_crossed` meets its contract. Assumes nothing.
use native.Mathlib.Omega.{arith}
use mathlib.Core.Path.{ap, ◌∙◌}
use mathlib.Core.Bool.{not}
use Rattle.neighbours.specs.Half.{after, corner_in}
use Rattle.tracing.proofs.CodeLaws.{mesh-long, mesh-after, mesh-station, crossed_of}
use Rattle.tracing.proofs.walk.Tracer.is_crossed.Goals as goal

pub corner-requires : goal.corner-requires
corner-requires c = omega (arith, c.requires.1, mesh-long c.args.room.now c.requires.0)

pub after-requires : goal.after-requires
after-requires c = omega (arith, c.requires.1, c.requires.0.small)

pub corner-requires-2 : goal.corner-requires-2
corner-requires-2 c =
    let l = c.args.room.now in
    omega (arith, c.after.ensures.0, mesh-after l c.requires.0 c.args.h.0 c.requires.1, mesh-long l c.requires.0)

pub is_level-requires : goal.is_level-requires
is_level-requires c =
    let l = c.args.room.now in
    let h = c.args.h.0 in
    let b = c.corner-2.ensures ∙ ap (corner_in l) c.after.ensures.0 in
    (omega (arith, c.corner.ensures, mesh-station l c.requires.0 h c.requires.1), omega (arith, b, mesh-station l c.requires.0 (after h) (mesh-after l c.requires.0 h c.requires.1)))

pub returns : goal.returns
returns c =
    let a = c.args in
    let b = c.corner-2.ensures ∙ ap (corner_in a.room.now) c.after.ensures.0 in
    ap not c.is_level.ensures ∙ crossed_of a.room.now c.requires.0 a.self.now.z.now a.self.now.level a.h.0 c.requires.1 c.corner.ensures b
