-- `swap_all` meets its contract: on the way the room holds a mesh from which the swaps go on as they do from the first, and the slack
-- falls with every turn. Assumes nothing.
use mathlib.Core.Path.{◌≡◌}
use Prim.Native.Nat.{◌*◌}
use lib.ListN.{length}
use Rattle.survey.specs.Survey.{survey}
use Rattle.tops.specs.Tops.{Least, Tops}
use Rattle.swapping.specs.Rooms.{corners_of, twins_of}
use Rattle.swapping.proofs.AlongLaws.{Along, slack_in}
use Rattle.swapping.proofs.swap.swap_all.Given as goal

abbrev pub invariant-loop-keys : goal.invariant-loop-keys
invariant-loop-keys l =
    Along (survey l.x l.y l.z) l.t (corners_of (3 * l.t) l.initial.room) (corners_of (3 * l.t) l.room) (twins_of (3 * l.t) l.room) l.keys
    × Least l.keys l.e
    × Tops l.keys l.tops
    × (length l.room ≡ length l.initial.room)
    × (length l.keys ≡ length l.initial.keys)
    × (length l.tops ≡ length l.initial.tops)

abbrev pub decreases-loop-keys : goal.decreases-loop-keys
decreases-loop-keys l = slack_in l.x l.y (corners_of (3 * l.t) l.room)
