-- `swap_side` meets its contract: the corners and the twins are swapped one after the other in their parts of the room. Assumes nothing.
use mathlib.Core.Path.{◌≡◌, sym, ap, ◌∙◌}
use Prim.Native.Nat.{◌+◌, ◌-◌}
use native.Mathlib.Omega.{arith}
use lib.ListN.{length, drop}
use Rattle.triangles.specs.Chain.{places_of}
use Rattle.swapping.specs.Rooms.{corners_of, twins_of, twins_after}
use Rattle.swapping.proofs.RoomLaws.{corners-long, twins-long, twins-behind, put-corners, put-twins, put-long, after-told}
use Rattle.swapping.proofs.swap.swap_side.Goals as goal

pub slice_bounds-swap_corners-end-2 : goal.slice_bounds-swap_corners-end-2
slice_bounds-swap_corners-end-2 c = sym (corners-long c.args.m c.args.room.now c.requires.4)

pub renew_in-requires : goal.renew_in-requires
renew_in-requires c =
    let m = c.args.m in
    let room = c.args.room.now in
    let cs = c.swap_corners.new.corners in
    let e : length cs ≡ m = c.swap_corners.auto.corners ∙ corners-long m room c.requires.4 in
    let f : length c.swap_twins.new.twins ≡ m = c.swap_twins.auto.twins ∙ ap length (twins-behind m cs room e) ∙ twins-long m room c.requires.4 in (
      c.requires.0,
      omega (arith, c.twin_in-f.ensures, c.requires.1),
      c.requires.2,
      c.requires.3,
      put-long m (m + m - m) cs c.swap_twins.new.twins (drop m room) e f,
      c.requires.5,
      c.requires.6,
    )

pub returns : goal.returns
returns c =
    let m = c.args.m in
    let room = c.args.room.now in
    let cs = c.swap_corners.new.corners in
    let ws = c.swap_twins.new.twins in
    let e : length cs ≡ m = c.swap_corners.auto.corners ∙ corners-long m room c.requires.4 in
    let behind = twins-behind m cs room e in
    let f : length ws ≡ m = c.swap_twins.auto.twins ∙ ap length behind ∙ twins-long m room c.requires.4 in
    let r = c.renew_in.ensures in (
      after-told (places_of c.args.x.now c.args.y.now) c.args.e.0 (corners_of m room) (twins_of m room) c.args.keys.now
          c.twin_in-f.ensures
          (put-corners m (m + m - m) cs ws (drop m room) e ∙ c.swap_corners.ensures)
          (put-twins m (m + m - m) cs ws (drop m room) e f ∙ c.swap_twins.ensures ∙ ap (λ w. twins_after w c.args.e.0 c.twin_in-f.result) behind)
          r.0,
      r.1,
    )
