-- `count` meets its contract: the figures of the triangles so far, one more at a time. Assumes nothing.
use Prim.Native.Nat.{◌*◌, ◌≤◌}
use Rattle.survey.specs.Survey.{survey}
use Rattle.neighbours.specs.Room.{threes}
use Rattle.served.specs.Figures.{most_area, Tallied}
use Rattle.served.proofs.count.Given as goal

-- the figures of the first k triangles, and how large they may be
abbrev pub invariant-loop-k : goal.invariant-loop-k
invariant-loop-k l =
    Tallied (survey l.x l.y l.z) l.slopes l.style l.level (threes l.k l.work) (record { served = l.served; unserved = l.unserved })
    × (l.served ≤ l.k * most_area) × (l.unserved ≤ l.k * most_area)
