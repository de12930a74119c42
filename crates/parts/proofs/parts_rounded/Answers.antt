-- `parts_rounded` meets its contract: in range `round_div` answers, out of it nothing does. Assumes nothing.
use borrow.Author.Tests.{not-true, ltb-true, leb-true}
use mathlib.Core.Path.{◌≡◌, sym, ◌∙◌}
use mathlib.Core.Bool.{true, not, ◌||◌, ◌&&◌}
use Prim.Native.Nat.{ℕ, ◌<◌, ◌≤◌}
use lib.Dec.{ltb, leb}
use lib.IntN.{ℤ, pos, neg_ℤ}
use lib.Signed.{lt_z}
use mir.Syntax.{w64}
use mir.Facts.{to_z-of_z}
use Rattle.lists.proofs.TestLaws.{and_left, and_right, or_left, or_right}
use Rattle.whole.specs.Range.{Within}
use Rattle.whole.specs.Rounding.{rounded}
use Rattle.whole.proofs.Bridge.{test-false}
use Rattle.whole.proofs.RangeLaws.{order-within}
use Rattle.parts.specs.Parts.{can_round}
use Rattle.parts.proofs.Doors.{asked, not_asked}
use Rattle.parts.proofs.parts_rounded.Goals as goal

in_range : (n : ℤ) (d : ℕ) → can_round n d ≡ true → Within 1152921504606846976 n × (0 < d) × (d ≤ 1152921504606846976)
in_range n d h =
    let low = lt_z n (neg_ℤ (pos 1152921504606846976)) in
    let high = lt_z (pos 1152921504606846976) n in
    let f = not-true (low || high) (and_left (not (low || high)) (ltb 0 d && leb d 1152921504606846976) h) in
    let g = and_right (not (low || high)) (ltb 0 d && leb d 1152921504606846976) h in (
      order-within (test-false (or_left low high f)) (test-false (or_right low high f)),
      ltb-true 0 d (and_left (ltb 0 d) (leb d 1152921504606846976) g),
      leb-true d 1152921504606846976 (and_right (ltb 0 d) (leb d 1152921504606846976) g),
    )

pub round_div-requires : goal.round_div-requires
round_div-requires c = in_range _ c.args.d (sym c.can_round.ensures ∙ c.if-can_round.true)

pub returns-then-can_round : goal.returns-then-can_round
returns-then-can_round c =
    let t = c.round_div in
    let f = to_z-of_z {w = w64} c.ranges.n in
    asked c.args.r.now (rw f at (sym c.can_round.ensures) ∙ c.if-can_round.true)
    (to_z-of_z {w = w64} {z = t.result} (record { sfits = t.type_inv }) ∙ (rw f at t.ensures))

pub returns : goal.returns
returns c =
    let f = to_z-of_z {w = w64} c.ranges.n in
    not_asked (rounded c.args.n c.args.d) c.args.r.now (rw f at (sym c.can_round.ensures) ∙ c.if-can_round.false)
