-- `renew_in` meets its contract: the corners and the twins are the two parts of the room. Assumes nothing.
use mathlib.Core.Path.{sym, ap, ◌∙◌}
use native.Mathlib.Omega.{arith}
use Rattle.triangles.specs.Chain.{places_of}
use Rattle.swapping.specs.Rooms.{corners_of, key_in, renew_round}
use Rattle.swapping.proofs.RoomLaws.{corners-long, twins-part}
use Rattle.swapping.proofs.swap.renew_in.Goals as goal

pub slice_bounds-renew_round-end : goal.slice_bounds-renew_round-end
slice_bounds-renew_round-end c = sym (corners-long c.args.m c.args.room.now c.requires.4)

pub renew_round-requires : goal.renew_round-requires
renew_round-requires c = (
  c.requires.0,
  c.requires.1,
  c.requires.2,
  omega (arith, c.requires.3, corners-long c.args.m c.args.room.now c.requires.4),
  c.requires.5,
  c.requires.6,
)

pub returns : goal.returns
returns c =
    let a = c.args in
    let r = c.renew_round.ensures in (
      r.0
          ∙ ap (λ w. renew_round (key_in (places_of a.x.now a.y.now) (corners_of a.m a.room.now) w) w a.e.0 a.f.0 a.keys.now)
          (twins-part a.m a.room.now),
      r.1,
    )
