-- `twin_in` meets its contract: the twins are the second part of the room. Assumes nothing.
use mathlib.Core.Path.{ap, ◌∙◌}
use Rattle.swapping.specs.Rooms.{twin_in}
use Rattle.swapping.proofs.RoomLaws.{twins-part}
use Rattle.swapping.proofs.swap.twin_in.Goals as goal

pub returns : goal.returns
returns c =
    let a = c.args in
    c.twin.ensures ∙ ap (λ w. twin_in w a.e.0) (twins-part a.m a.room.now)
