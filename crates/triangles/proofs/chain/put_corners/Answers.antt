-- `put_corners` meets its contract: three stores. Assumes nothing.
use mathlib.Core.Path.{refl}
use native.Mathlib.Omega.{arith}
use lib.ListN.{length-set}
use Rattle.triangles.specs.Chain.{put}
use Rattle.triangles.proofs.chain.put_corners.Goals as goal

pub bounds-room-k-2 : goal.bounds-room-k-2
bounds-room-k-2 c = simp length-set (omega arith)

pub bounds-room-k-3 : goal.bounds-room-k-3
bounds-room-k-3 c = simp length-set (omega arith)

pub returns : goal.returns
unfolding put
returns c = refl
