-- `may_swap` meets its contract: a side that falls, one without a twin, and one whose far corner is looked at. Assumes nothing.
use borrow.Author.Tests.{ltb-true, ltb-false}
use mathlib.Core.Path.{sym, ◌∙◌}
use Prim.Native.Nat.{◌<◌, ◌≤◌}
use native.Mathlib.Omega.{arith}
use lib.ListN.{length}
use Rattle.triangles.specs.Chain.{places_of}
use Rattle.swapping.proofs.RoomLaws.{may-falls, may_alone, may-tell}
use Rattle.swapping.proofs.keys.may_swap.Goals as goal
use Rattle.swapping.proofs.keys.may_swap.Goals.{then-i-j, else-i-j}

pub returns-then-from-corners : goal.returns-then-from-corners
returns-then-from-corners c =
    elim c.if-i-j.branch [
      | then-i-j w ↦
          let few : w.from.result < length c.args.corners.now = ltb-true _ _ (sym w.value-is ∙ c.if-from-corners.true) in
          c.far_inside.ensures
          ∙ may-tell (places_of c.args.x.now c.args.y.now) c.args.corners.now c.args.twins.now c.args.h.0 c.corner-i.ensures.0
          c.after.ensures.0 c.corner-j.ensures.0 c.twin-f.ensures c.before-then-from-corners.ensures.0 c.before-then-from-corners-2.ensures.0
          c.corner.ensures.0 c.corner-then-from-corners.ensures.0 w.if-i-j.true (omega (arith, few, w.from.ensures))
      | else-i-j w ↦
          let less : c.corner-i.result.0 < c.corner-j.result.0 = ltb-true _ _ (sym w.value-is ∙ c.if-from-corners.true) in
          absurd (omega (arith, less, w.if-i-j.false))
    ]

pub returns-else-from-corners : goal.returns-else-from-corners
returns-else-from-corners c =
    elim c.if-i-j.branch [
      | then-i-j w ↦
          let none : length c.args.corners.now ≤ w.from.result = ltb-false _ _ (sym w.value-is ∙ c.if-from-corners.false) in
          c.if-from-corners.false
          ∙ may_alone (places_of c.args.x.now c.args.y.now) c.args.corners.now c.args.twins.now c.args.h.0 c.corner-i.ensures.0 c.after.ensures.0
          c.corner-j.ensures.0 c.twin-f.ensures (omega (arith, none, w.from.ensures))
      | else-i-j w ↦
          c.if-from-corners.false
          ∙ may-falls (places_of c.args.x.now c.args.y.now) c.args.corners.now c.args.twins.now c.args.h.0 c.corner-i.ensures.0 c.after.ensures.0
          c.corner-j.ensures.0 w.if-i-j.false
    ]
