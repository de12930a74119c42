-- `put_near` meets its contract: the four numbers stand in the place of the row. Assumes nothing.
use mathlib.Core.Path.{refl, sym, ◌∙◌}
use mathlib.Core.List.{[], ◌∷◌}
use Prim.Native.Nat.{◌+◌, ◌*◌, ◌-◌}
use native.Mathlib.Omega.{arith}
use Rattle.std.proofs.lemmas.List.Edits.{sets-eq}
use Rattle.std.proofs.lemmas.Slice.{put_mid-paste}
use Rattle.nearest.proofs.put_near.Goals as goal

pub returns : goal.returns
returns c =
    let a = c.args in
    put_mid-paste (4 * a.i) (4 * a.i + 4 - 4 * a.i) a.near.now c.copy_from_slice.new.self (a.f.a ∷ a.f.b ∷ a.f.c ∷ a.f.d ∷ []) 4 c.copy_from_slice.ensures.after (omega arith) refl
    ∙ sym (sets-eq (a.f.a ∷ a.f.b ∷ a.f.c ∷ a.f.d ∷ []) a.near.now (4 * a.i) (omega arith))
