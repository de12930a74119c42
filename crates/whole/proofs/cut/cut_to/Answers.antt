-- `cut_to` meets its contract: the bound and its negation fit an i64, and between them `clamp` is `cut`. Assumes nothing.
use borrow.Author.Rules.{rules}
use mathlib.Core.Path.{◌≡◌, ap₂, ◌∙◌}
use Prim.Native.Nat.{ℕ, ◌≤◌}
use lib.IntN.{pos, neg_ℤ}
use mir.Syntax.{w64}
use mir.Facts.{to_z-of_z}
use Rattle.std.specs.Int.{int_max, int_min}
use Rattle.whole.proofs.Expression.{Signed, nat, lit, ◌⊖◌, code, holds}
use Rattle.whole.proofs.CutLaws.{cut-clamps, less_zero}
use Rattle.whole.proofs.cut.cut_to.Goals as goal

-- the bound, and the bound below 0
abbrev b : ℕ → Signed
b n = nat n 4611686018427387904

abbrev low : ℕ → Signed
low n = lit (pos 0) ⊖ b n

low_is : (n : ℕ) → n ≤ 4611686018427387904 → code w64 (low n) ≡ neg_ℤ (pos n)
low_is n h = holds w64 (low n) (tt, h) tt ∙ less_zero n

pub returns : goal.returns
returns c =
    let a = c.args in
    let e = c.clamp.ensures.value
    ∙ ap₂ (λ x y. int_max x y) (low_is a.bound c.requires) (ap₂ (λ x y. int_min x y) (to_z-of_z c.ranges.v) (holds w64 (b a.bound) c.requires tt))
    ∙ cut-clamps a.bound a.v in
    search rules ∙ e
