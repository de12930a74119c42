-- `put_bytes` meets its contract: what is left of the bytes, put behind those that are, gives them all; where the room ends, it is dropped.
-- Assumes nothing.
use mathlib.Core.Path.{◌≡◌}
use Prim.Native.Nat.{◌+◌}
use lib.ListN.{drop}
use Rattle.pouring.specs.Poured.{poured}
use Rattle.printing.proofs.put_bytes.Given as goal

abbrev pub invariant-loop-j : goal.invariant-loop-j
invariant-loop-j l = poured l.out (l.at + l.j) (drop l.j l.bytes) ≡ poured l.initial.out l.at l.bytes
