-- `straight::find` meets its contract: in either direction the quotient is the bracket. Assumes nothing.
use mathlib.Core.Path.{◌≡◌, ◌∙◌}
use mathlib.Core.Bool.{true, false}
use native.Mathlib.Omega.{arith}
use lib.IntN.{ℤ}
use lib.Signed.{◌≤ℤ◌, ◌<ℤ◌}
use mir.Syntax.{w32}
use mir.Val.{to_z, of_z}
use Rattle.whole.specs.Range.{Within}
use Rattle.whole.proofs.Bridge.{minus, int}
use Rattle.survey.specs.Limits.{most_height}
use Rattle.curve.specs.Below.{below, is_crossed}
use Rattle.curve.specs.Curve.{straight_at, scaled}
use Rattle.curve.specs.Bracket.{bracket_of}
use Rattle.curve.proofs.HeldLaws.{held, held_is}
use Rattle.curve.proofs.StraightLaws.{rising-order, falling-order, rising-bracket, falling-bracket}
use Rattle.curve.proofs.straight.find.Goals as goal

-- a height as the code holds it
abbrev kept : ℤ → ℤ
kept z = to_z w32 (of_z w32 z)

-- what is required, of the heights as they are held
module _ {z1 z2 level : ℤ} (pre : Within most_height z1 × Within most_height z2 × Within most_height level × (is_crossed level z1 z2 ≡ true)) where
  crossed : is_crossed (kept level) (kept z1) (kept z2) ≡ true
  crossed = (λ i. is_crossed (held_is w32 pre.2 tt i) (held_is w32 pre.0 tt i) (held_is w32 pre.1 tt i)) ∙ pre.3

  rising : below (kept level) (kept z1) ≡ true → (kept z1 <ℤ kept level) × (kept level ≤ℤ kept z2)
  rising = rising-order (kept z1) (kept z2) (kept level) crossed

  falling : below (kept level) (kept z1) ≡ false → (kept level ≤ℤ kept z1) × (kept z2 <ℤ kept level)
  falling = falling-order (kept z1) (kept z2) (kept level) crossed

  bracket-held : bracket_of (straight_at (kept z1) (kept z2)) (scaled 0 (kept level)) ≡ bracket_of (straight_at z1 z2) (scaled 0 level)
  bracket-held = λ i. bracket_of (straight_at (held_is w32 pre.0 tt i) (held_is w32 pre.1 tt i)) (scaled 0 (held_is w32 pre.2 tt i))

pub rise-requires-then-z1-level : goal.rise-requires-then-z1-level
rise-requires-then-z1-level c =
    let o = rising c.requires c.if-z1-level.true in
    (held w32 c.requires.0 tt, held w32 c.requires.1 tt, omega (arith, int, o.0, o.1))

pub nonzero_div-result : goal.nonzero_div-result
nonzero_div-result c =
    let o = rising c.requires c.if-z1-level.true in
    omega (arith, int, o.0, o.1, c.rise-then-z1-level.ensures.0, minus (kept c.args.z2) (kept c.args.z1))

pub returns-then-z1-level : goal.returns-then-z1-level
returns-then-z1-level c =
    let a = c.args in
    let o = rising c.requires c.if-z1-level.true in
    rising-bracket (kept a.z1) (kept a.z2) (kept a.level) c.rise.ensures.0 c.rise-then-z1-level.ensures.0 o.0 o.1 ∙ bracket-held c.requires

pub rise-requires-3 : goal.rise-requires-3
rise-requires-3 c =
    let o = falling c.requires c.if-z1-level.false in
    (held w32 c.requires.1 tt, held w32 c.requires.0 tt, omega (arith, int, o.0, o.1))

pub nonzero_div-result-2 : goal.nonzero_div-result-2
nonzero_div-result-2 c =
    let o = falling c.requires c.if-z1-level.false in
    omega (arith, int, o.0, o.1, c.rise-3.ensures.0, minus (kept c.args.z1) (kept c.args.z2))

pub returns : goal.returns
returns c =
    let a = c.args in
    let o = falling c.requires c.if-z1-level.false in
    falling-bracket (kept a.z1) (kept a.z2) (kept a.level) c.rise-2.ensures.0 c.rise-3.ensures.0 o.1 ∙ bracket-held c.requires
