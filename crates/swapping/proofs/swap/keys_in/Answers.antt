-- `keys_in` meets its contract: the corners and the twins are the two parts of the room. Assumes nothing.
use mathlib.Core.Path.{sym, ap, ◌∙◌}
use native.Mathlib.Omega.{arith}
use lib.ListN.{length}
use Rattle.lists.specs.Table.{table}
use Rattle.triangles.specs.Chain.{places_of}
use Rattle.swapping.specs.Rooms.{corners_of, key_in}
use Rattle.swapping.proofs.RoomLaws.{corners-long, twins-part}
use Rattle.swapping.proofs.swap.keys_in.Goals as goal

pub slice_bounds-fill_keys-end : goal.slice_bounds-fill_keys-end
slice_bounds-fill_keys-end c = sym (corners-long c.args.m c.args.room.now c.requires.2)

pub fill_keys-requires : goal.fill_keys-requires
fill_keys-requires c = (c.requires.0, omega (arith, c.requires.1, corners-long c.args.m c.args.room.now c.requires.2), c.requires.3)

pub returns : goal.returns
returns c =
    c.fill_keys.ensures
    ∙ ap (λ w. table (key_in (places_of c.args.x.now c.args.y.now) (corners_of c.args.m c.args.room.now) w) (length c.args.keys.now))
    (twins-part c.args.m c.args.room.now)
