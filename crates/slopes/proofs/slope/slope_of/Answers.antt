-- `slope_of` meets its contract: the rounded quotient is cut, and what is cut to the bound fits an i32. Assumes nothing.
use mathlib.Core.Path.{◌≡◌, sym, ap, ◌∙◌, subst}
use Prim.Native.Nat.{ℕ}
use lib.IntN.{ℤ}
use mir.Syntax.{w32, w64}
use mir.Val.{SFits, to_z, of_z}
use mir.Facts.{to_z-of_z}
use Rattle.whole.specs.Cut.{cut}
use Rattle.whole.specs.Rounding.{rounded}
use Rattle.whole.proofs.RangeLaws.{within-fits}
use Rattle.whole.proofs.CutLaws.{cut-within}
use Rattle.slopes.specs.Slopes.{slope}
use Rattle.normal.proofs.SignedLaws.{as_it_is, lent}
use Rattle.slopes.proofs.slope.slope_of.Goals as goal

-- the two calls, one after the other
cut_is : {m n r v u w : ℤ} (d : ℕ) → m ≡ n → v ≡ r → r ≡ rounded m d → w ≡ u → u ≡ cut 268435456 v → w ≡ slope n d
cut_is d e f g h k = h ∙ k ∙ ap (cut 268435456) (f ∙ g ∙ ap (λ (z : ℤ). rounded z d) e)

slope-fits : (n : ℤ) (d : ℕ) → SFits w32 (slope n d)
slope-fits n d = within-fits (cut-within 268435456 (rounded n d)) tt

pub round_div-requires : goal.round_div-requires
round_div-requires c = (lent c.requires.0 tt tt, c.requires.1, c.requires.2)

pub overflow_cast-result : goal.overflow_cast-result
overflow_cast-result c =
    let r = c.round_div in
    let u = c.cut_to in
    let whole = cut_is c.args.d (as_it_is c.requires.0 tt) (to_z-of_z {w = w64} {z = r.result} (record { sfits = r.type_inv })) r.ensures (to_z-of_z {w = w64} {z = u.result} (record { sfits = u.type_inv })) u.ensures in
    subst (SFits w32) (sym whole) (slope-fits c.args.n c.args.d)

pub returns : goal.returns
returns c =
    let r = c.round_div in
    let u = c.cut_to in
    let whole = cut_is c.args.d (as_it_is c.requires.0 tt) (to_z-of_z {w = w64} {z = r.result} (record { sfits = r.type_inv })) r.ensures (to_z-of_z {w = w64} {z = u.result} (record { sfits = u.type_inv })) u.ensures in
    ap (λ (z : ℤ). to_z w32 (of_z w32 z)) whole ∙ to_z-of_z {w = w32} (slope-fits c.args.n c.args.d)
