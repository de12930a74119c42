use native.Mathlib.Omega.{arith}
use mathlib.Core.Path.{sym, ap, ◌∙◌}
use Rattle.neighbours.specs.Half.{after, before, corner_in}
use Rattle.neighbours.proofs.HalfLaws.{after-before, after-after}
use Rattle.tracing.proofs.CodeLaws.{mesh-long, mesh-after, mesh-before, mesh-station, level_of, exit-before, exit-after}
use Rattle.tracing.proofs.walk.Tracer.exit.Goals as goal

pub corner-requires : goal.corner-requires
corner-requires c =
    let a = c.args in
    let e = c.before-b.ensures.0 in
    omega (arith, e, mesh-before a.room.now c.requires.0 a.h.0 c.requires.1, mesh-long a.room.now c.requires.0)

pub corner-requires-2 : goal.corner-requires-2
corner-requires-2 c =
    let a = c.args in
    let e = c.after-a.ensures.0 in
    omega (arith, e, mesh-after a.room.now c.requires.0 a.h.0 c.requires.1, mesh-long a.room.now c.requires.0)

pub is_level-requires : goal.is_level-requires
is_level-requires c =
    let a = c.args in
    let l = corner_in a.room.now in
    let eb = c.corner.ensures ∙ ap l c.before-b.ensures.0 in
    let ea = c.corner-2.ensures ∙ ap l c.after-a.ensures.0 in
    let kb = mesh-before a.room.now c.requires.0 a.h.0 c.requires.1 in
    let ka = mesh-after a.room.now c.requires.0 a.h.0 c.requires.1 in
    (omega (arith, eb, mesh-station a.room.now c.requires.0 (before a.h.0) kb), omega (arith, ea, mesh-station a.room.now c.requires.0 (after a.h.0) ka))

pub returns-then-is_level : goal.returns-then-is_level
returns-then-is_level c =
    let a = c.args in
    let l = corner_in a.room.now in
    let eb = c.corner.ensures ∙ ap l c.before-b.ensures.0 in
    let ea = c.corner-2.ensures ∙ ap l c.after-a.ensures.0 in
    let e = c.is_level.ensures ∙ level_of a.room.now c.requires.0 a.self.now.z.now a.self.now.level a.h.0 c.requires.1 eb ea in
    let q = c.before-b.ensures.0 in
    let k = mesh-before a.room.now c.requires.0 a.h.0 c.requires.1 in
    (q ∙ exit-before _ _ a.h.0 (sym e ∙ c.if-is_level.true), omega (arith, q, k), sym (ap after q ∙ after-before a.h.0), c.requires.1)

pub returns-else-is_level : goal.returns-else-is_level
returns-else-is_level c =
    let a = c.args in
    let l = corner_in a.room.now in
    let qb = c.before-b.ensures.0 in
    let qa = c.after-a.ensures.0 in
    let eb = c.corner.ensures ∙ ap l qb in
    let ea = c.corner-2.ensures ∙ ap l qa in
    let e = c.is_level.ensures ∙ level_of a.room.now c.requires.0 a.self.now.z.now a.self.now.level a.h.0 c.requires.1 eb ea in
    let kb = mesh-before a.room.now c.requires.0 a.h.0 c.requires.1 in
    let ka = mesh-after a.room.now c.requires.0 a.h.0 c.requires.1 in
    (qa ∙ exit-after _ _ a.h.0 (sym e ∙ c.if-is_level.false), omega (arith, qa, ka), qb ∙ sym (ap after qa ∙ after-after a.h.0), omega (arith, qb, kb))
