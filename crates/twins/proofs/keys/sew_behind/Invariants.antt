-- `sew_behind` stays within its rooms. Assumes nothing.
use Prim.Native.Nat.{◌<◌}
use Rattle.twins.proofs.keys.sew_behind.Given as goal

abbrev pub invariant-loop : goal.invariant-loop
invariant-loop l = l.p.0 < l.m
