-- `smooth::find` meets its contract: the first stop that is on the other side of stop 0 ends the first change. Assumes nothing.
use borrow.Author.Rules.{rules}
use mathlib.Core.Path.{◌≡◌, ◌∙◌}
use mathlib.Core.Bool.{Bool, not, beq, xor}
use Prim.Native.Nat.{ℕ, ◌+◌}
use lib.IntN.{ℤ}
use mir.Syntax.{w32}
use mir.Val.{of_z, to_z}
use mir.Facts.{to_z-of_z}
use Rattle.lists.proofs.FoundLaws.{find-below, lowest_or}
use Rattle.curve.specs.Below.{below}
use Rattle.curve.specs.Curve.{smooth_at, scaled}
use Rattle.curve.specs.Bracket.{bracket_of}
use Rattle.curve.proofs.CrossLaws.{differ-xor, xor-flip}
use Rattle.curve.proofs.SearchLaws.{first-left}
use Rattle.curve.proofs.smooth.find.Goals as goal

pub returns : goal.returns
unfolding bracket_of
returns c =
    let a = c.args in
    let read : ℤ = to_z w32 (of_z w32 a.level) in
    let held : read ≡ a.level = to_z-of_z c.ranges.level in
    let side : ℤ → ℕ → Bool = λ l k. below (scaled 1 l) (smooth_at a.controls.h k) in
    let p : ℕ → Bool = λ k. xor (side a.level 0) (side a.level (k + 1)) in
    let start = c.is_below_at-start in
    c.unwrap_or.ensures
    ∙ lowest_or p 64 c.find.result
    (find-below c.find.new.self p 64 c.find.result c.find.ensures.ran
    (λ k b q r. (
      search rules,
      λ h.
          let e : b ≡ not (beq (side read (k + 1)) start.result) = search rules in
          e
          ∙ differ-xor (side read (k + 1)) start.result
          ∙ xor-flip (side read (k + 1)) start.result
          ∙ (λ i. xor (start.ensures i) (side read (k + 1)))
          ∙ (λ i. xor (side (held i) 0) (side (held i) (k + 1))),
    )))
    ∙ first-left (side a.level) 64
