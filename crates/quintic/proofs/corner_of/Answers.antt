-- `corner_of` meets its contract: its parts are those of `corner_of`, and each number that is lent goes through its bits unchanged.
-- Assumes nothing.
use mathlib.Core.Path.{refl, ap, ◌∙◌}
use lib.IntN.{pos, ◌+ℤ◌, ◌*ℤ◌}
use mir.Facts.{to_z-of_z}
use Rattle.normal.proofs.SignedLaws.{slope_as_it_is}
use Rattle.quintic.specs.Real.{◌⊞◌, ◌⊠◌, whole}
use Rattle.quintic.specs.Quintic.{over, corner_of}
use Rattle.quintic.proofs.StepLaws.{as_named, lent-named}
use Rattle.quintic.proofs.corner_of.Goals as goal

pub slope_of-zx-requires : goal.slope_of-zx-requires
slope_of-zx-requires c = tt

pub slope_of-zy-requires : goal.slope_of-zy-requires
slope_of-zy-requires c = tt

pub slope_of-zxx-requires : goal.slope_of-zxx-requires
slope_of-zxx-requires c = tt

pub slope_of-zxy-requires : goal.slope_of-zxy-requires
slope_of-zxy-requires c = tt

pub slope_of-zyy-requires : goal.slope_of-zyy-requires
slope_of-zyy-requires c = tt

pub first_of-requires : goal.first_of-requires
first_of-requires c = tt

pub first_of-requires-2 : goal.first_of-requires-2
first_of-requires-2 c = tt

pub second_of-requires : goal.second_of-requires
second_of-requires c =
    let h = c.requires.0 in
    (lent-named refl h.a tt tt, lent-named refl h.c tt tt)

pub cross_of-requires : goal.cross_of-requires
cross_of-requires c =
    let h = c.requires.0 in
    (lent-named refl h.a tt tt, lent-named refl h.b tt tt, lent-named refl h.c tt tt, lent-named refl h.d tt tt)

pub second_of-requires-2 : goal.second_of-requires-2
second_of-requires-2 c =
    let h = c.requires.0 in
    (lent-named refl h.b tt tt, lent-named refl h.d tt tt)

pub returns : goal.returns
unfolding corner_of
returns c =
    let h = c.requires.0 in
    let cut = c.requires.1 in
    let a = as_named refl h.a tt in
    let b = as_named refl h.b tt in
    let c₁ = as_named refl h.c tt in
    let d = as_named refl h.d tt in
    let zx = c.slope_of-zx.ensures ∙ ap over (slope_as_it_is cut.p) in
    let zy = c.slope_of-zy.ensures ∙ ap over (slope_as_it_is cut.q) in
    let zxx = c.slope_of-zxx.ensures ∙ ap over (slope_as_it_is cut.r) in
    let zxy = c.slope_of-zxy.ensures ∙ ap over (slope_as_it_is cut.s) in
    let zyy = c.slope_of-zyy.ensures ∙ ap over (slope_as_it_is cut.t) in
    let z = ap whole (to_z-of_z c.ranges.z) in
    let zu = c.first_of.ensures ∙ (λ j. whole (a j) ⊠ zx j ⊞ whole (c₁ j) ⊠ zy j) in
    let zv = c.first_of-2.ensures ∙ (λ j. whole (b j) ⊠ zx j ⊞ whole (d j) ⊠ zy j) in
    let zuu = c.second_of.ensures ∙ (λ j. whole (a j *ℤ a j) ⊠ zxx j ⊞ whole (pos 2 *ℤ a j *ℤ c₁ j) ⊠ zxy j ⊞ whole (c₁ j *ℤ c₁ j) ⊠ zyy j) in
    let zuv =
    c.cross_of.ensures
    ∙ (λ j. whole (a j *ℤ b j) ⊠ zxx j ⊞ whole (a j *ℤ d j +ℤ b j *ℤ c₁ j) ⊠ zxy j ⊞ whole (c₁ j *ℤ d j) ⊠ zyy j) in
    let zvv = c.second_of-2.ensures ∙ (λ j. whole (b j *ℤ b j) ⊠ zxx j ⊞ whole (pos 2 *ℤ b j *ℤ d j) ⊠ zxy j ⊞ whole (d j *ℤ d j) ⊠ zyy j) in
    λ j. record { z = z j; zu = zu j; zv = zv j; zuu = zuu j; zuv = zuv j; zvv = zvv j }
