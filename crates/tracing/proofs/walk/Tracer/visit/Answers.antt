-- `visit` meets its contract: one mark, which leaves the corners as they are, and one store. Assumes nothing.
use native.Mathlib.Omega.{arith}
use lib.ListN.{length, set}
use mathlib.Core.Path.{◌≡◌, ap, ap₂, ◌∙◌}
use Rattle.trace.specs.Side.{◌⟶◌}
use Rattle.neighbours.specs.Half.{corner_in}
use Rattle.tracing.specs.Room.{cleared, marks_in}
use Rattle.tracing.specs.Written.{side_number}
use Rattle.tracing.proofs.CodeLaws.{corner-kept}
use Rattle.tracing.proofs.RoomLaws.{cleared_same_length}
use Rattle.tracing.proofs.walk.Tracer.visit.Goals as goal

pub returns : goal.returns
returns c =
    let a = c.args in
    let k = c.mark in
    let r = k.new.room in
    let w = corner-kept a.self.now.m a.room.now r k.ensures.0 in
    let n : length r ≡ length a.room.now = cleared_same_length a.self.now.m a.room.now r k.ensures.0 in
    let x = c.corner.ensures ∙ w a.g.half.0 c.requires.2 (omega (arith, c.requires.1, c.requires.2, n)) in
    let y = c.corner-2.ensures ∙ w a.g.next.0 c.requires.4 (omega (arith, c.requires.1, c.requires.4, n)) ∙ ap (corner_in (cleared a.self.now.m a.self.now.m a.room.now)) c.requires.3 in (
      k.ensures.0,
      k.ensures.1 ∙ ap (λ i. set (marks_in a.self.now.m a.room.now) i 1) c.lower_of.ensures.0,
      c.side_number.ensures ∙ ap₂ (λ i j. side_number (i ⟶ j)) x y,
    )
