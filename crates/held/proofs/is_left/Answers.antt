-- `is_left` meets its contract: coordinates are far within the range of `turn_at`, and the turn goes through its bits unchanged. Assumes nothing.
use mathlib.Core.Path.{ap, ◌∙◌}
use Prim.Native.Nat.{ℕ, ◌≤◌}
use native.Mathlib.Omega.{arith}
use lib.IntN.{pos}
use lib.Signed.{le_z}
use mir.Syntax.{w64}
use mir.Facts.{to_z-of_z}
use Rattle.held.specs.Held.{is_left}
use Rattle.held.proofs.is_left.Goals as goal

near : {x : ℕ} → x ≤ 8191 → x ≤ 1073741823
near h = omega arith

pub turn_at-requires : goal.turn_at-requires
turn_at-requires c =
    let h = c.requires in
    (near h.0, near h.1, near h.2, near h.3, near h.4, near h.5)

pub returns : goal.returns
unfolding is_left
returns c =
    let t = c.turn_at in
    ap (le_z (pos 0)) (to_z-of_z {w = w64} {z = t.result} (record { sfits = t.type_inv }) ∙ t.ensures)
