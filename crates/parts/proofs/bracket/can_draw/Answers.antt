-- `can_draw` meets its contract: at each `return` the tests that led there decide `can_draw`. Assumes nothing.
use borrow.Author.Tests.{not-true, not-false}
use mathlib.Core.Path.{◌≡◌, sym, ap, ◌∙◌}
use Prim.Native.Nat.{◌^◌, ◌<◌}
use lib.IntN.{ℤ}
use lib.Signed.{mag}
use mir.Syntax.{w32}
use mir.Val.{to_z, of_z, hbits}
use mir.Facts.{to_z-of_z}
use Rattle.curve.specs.Below.{is_crossed}
use Rattle.parts.specs.Sides.{is_height, can_draw}
use Rattle.parts.proofs.bracket.can_draw.Goals as goal

-- a field comes back from its bits
held : (z : ℤ) → mag z < 2 ^ hbits w32 → to_z w32 (of_z w32 z) ≡ z
held z h = to_z-of_z {w = w32} {z = z} (record { sfits = h })

pub returns-then-not-can_end : goal.returns-then-not-can_end
unfolding can_draw
returns-then-not-can_end c = rw (sym c.can_end.ensures ∙ not-true _ c.if-not-can_end.true-raw)

pub returns-then-not-can_end-2 : goal.returns-then-not-can_end-2
unfolding can_draw
returns-then-not-can_end-2 c = rw (sym c.can_end.ensures ∙ not-false _ c.if-not-can_end.false-raw, sym c.can_end-2.ensures ∙ not-true _ c.if-not-can_end-2.true-raw)

pub returns-then-not-is_height : goal.returns-then-not-is_height
unfolding can_draw
returns-then-not-is_height c =
    let s = c.ranges in
    rw (
      sym c.can_end.ensures ∙ not-false _ c.if-not-can_end.false-raw,
      sym c.can_end-2.ensures ∙ not-false _ c.if-not-can_end-2.false-raw,
      ap is_height (sym (to_z-of_z s.level)) ∙ sym c.is_height.ensures ∙ not-true _ c.if-not-is_height.true-raw,
    )

pub returns : goal.returns
unfolding can_draw
returns c =
    rw (
      sym c.can_end.ensures ∙ not-false _ c.if-not-can_end.false-raw,
      sym c.can_end-2.ensures ∙ not-false _ c.if-not-can_end-2.false-raw,
      ap is_height (sym (to_z-of_z c.ranges.level)) ∙ sym c.is_height.ensures ∙ not-false _ c.if-not-is_height.false-raw,
    )
    (c.is_crossed.ensures
    ∙ (λ i. is_crossed (to_z-of_z c.ranges.level i) (held c.args.low.z c.struct_told-1.given.1.1.0.1 i) (held c.args.high.z c.struct_told-2-1.given.1.1.0.1 i)))
