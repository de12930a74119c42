-- `fill_keys` meets its contract: after h turns the keys of the first h half-sides are written. Assumes nothing.
use mathlib.Core.Path.{◌≡◌}
use mathlib.Core.List.{◌++◌}
use lib.ListN.{drop}
use Rattle.lists.specs.Table.{table}
use Rattle.triangles.specs.Chain.{places_of}
use Rattle.swapping.specs.Rooms.{key_in}
use Rattle.swapping.proofs.keys.fill_keys.Given as goal

abbrev pub invariant-loop-h : goal.invariant-loop-h
invariant-loop-h l = l.keys ≡ table (key_in (places_of l.x l.y) l.corners l.twins) l.h ++ drop l.h l.initial.keys
