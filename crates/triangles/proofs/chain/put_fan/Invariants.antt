-- `put_fan` meets its contract: what is written, and what is left to write, is the whole fan. Assumes nothing.
use mathlib.Core.Path.{◌≡◌}
use Prim.Native.Nat.{◌+◌, ◌-◌}
use Rattle.triangles.specs.Chain.{values, put_all}
use Rattle.triangles.specs.Mesh.{fan_at}
use Rattle.triangles.proofs.chain.put_fan.Given as goal

abbrev pub invariant-loop-i : goal.invariant-loop-i
invariant-loop-i l =
    put_all (l.k + l.i) (values (fan_at l.upper l.falling l.chain l.j l.a l.q) l.i (l.a - l.j - l.i)) l.triangles
    ≡ put_all l.k (values (fan_at l.upper l.falling l.chain l.j l.a l.q) 0 (l.a - l.j)) l.initial.triangles
