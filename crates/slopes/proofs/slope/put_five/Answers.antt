-- `put_five` meets its contract: the five numbers, which fit an i32, stand in the place of the row. Assumes nothing.
use mathlib.Core.Path.{refl, sym, ◌∙◌}
use mathlib.Core.List.{[], ◌∷◌}
use Prim.Native.Nat.{◌+◌, ◌*◌, ◌-◌}
use native.Mathlib.Omega.{arith}
use Rattle.std.proofs.lemmas.List.Edits.{sets-eq}
use Rattle.std.proofs.lemmas.Slice.{put_mid-paste}
use Rattle.normal.proofs.SignedLaws.{slope_as_it_is}
use Rattle.slopes.specs.Slopes.{row}
use Rattle.slopes.proofs.slope.put_five.Goals as goal

pub returns : goal.returns
returns c =
    let a = c.args in
    let w = c.requires.2 in
    let m = 5 * a.i in
    put_mid-paste m (m + 5 - m) a.room.now c.copy_from_slice.new.self (row a.f) 5
    (c.copy_from_slice.ensures.after ∙ (λ j. slope_as_it_is w.p j ∷ slope_as_it_is w.q j ∷ slope_as_it_is w.r j ∷ slope_as_it_is w.s j ∷ slope_as_it_is w.t j ∷ []))
    (omega arith) refl
    ∙ sym (sets-eq (row a.f) a.room.now m (omega arith))
