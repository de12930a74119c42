-- `end_at` meets its contract: a signed number that is read is what the list holds. Assumes nothing.
use mir.ValLaws.{to_z-of_z}
use mir.Syntax.{w32}
use lib.ListN.{get_or}
use lib.IntN.{pos}
use Prim.Native.Nat.{◌+◌, ◌*◌}
use Rattle.spots.proofs.spots.end_at.Goals as goal

pub returns : goal.returns
returns c =
    let a = c.args in
    let l = a.slopes.now in
    let z = to_z-of_z w32 (get_or a.z.now a.k (pos 0)) (record { sfits = c.result-1.given }) in
    let p = to_z-of_z w32 (get_or l (5 * a.k) (pos 0)) (record { sfits = c.result-2-1.given }) in
    let q = to_z-of_z w32 (get_or l (5 * a.k + 1) (pos 0)) (record { sfits = c.result-3-1.given }) in
    let r = to_z-of_z w32 (get_or l (5 * a.k + 2) (pos 0)) (record { sfits = c.result-4-1.given }) in
    let s = to_z-of_z w32 (get_or l (5 * a.k + 3) (pos 0)) (record { sfits = c.result-5-1.given }) in
    let t = to_z-of_z w32 (get_or l (5 * a.k + 4) (pos 0)) (record { sfits = c.result-6-1.given }) in
    λ i. record { x = get_or a.x.now a.k 0; y = get_or a.y.now a.k 0; z = z i; p = p i; q = q i; r = r i; s = s i; t = t i }
