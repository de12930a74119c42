-- `steps_of` meets its contract: each part is the difference that `steps_of` has there. Assumes nothing.
use mathlib.Core.Path.{◌∙◌}
use mir.Syntax.{w32}
use mir.Facts.{to_z-of_z}
use Rattle.quintic.specs.Quintic.{steps_of}
use Rattle.quintic.proofs.steps_of.Goals as goal

pub step_to-requires : goal.step_to-requires
step_to-requires c = (c.requires.0, c.requires.2)

pub step_to-requires-2 : goal.step_to-requires-2
step_to-requires-2 c = (c.requires.0, c.requires.4)

pub step_to-requires-3 : goal.step_to-requires-3
step_to-requires-3 c = (c.requires.1, c.requires.3)

pub step_to-requires-4 : goal.step_to-requires-4
step_to-requires-4 c = (c.requires.1, c.requires.5)

pub returns : goal.returns
unfolding steps_of
returns c =
    let a = c.step_to in
    let b = c.step_to-2 in
    let c₁ = c.step_to-3 in
    let d = c.step_to-4 in
    let a-is = to_z-of_z {w = w32} {z = a.result} (record { sfits = a.type_inv }) ∙ a.ensures in
    let b-is = to_z-of_z {w = w32} {z = b.result} (record { sfits = b.type_inv }) ∙ b.ensures in
    let c-is = to_z-of_z {w = w32} {z = c₁.result} (record { sfits = c₁.type_inv }) ∙ c₁.ensures in
    let d-is = to_z-of_z {w = w32} {z = d.result} (record { sfits = d.type_inv }) ∙ d.ensures in
    λ j. record { a = a-is j; b = b-is j; c = c-is j; d = d-is j }
