-- `side_number` meets its contract: the lower station comes first. Assumes nothing.
use Prim.Native.Nat.{◌+◌, ◌*◌, ◌<◌}
use native.Mathlib.Omega.{arith}
use native.Mathlib.Decide.{dec_lt}
use mathlib.Core.Path.{◌≡◌}
use borrow.Author.Tests.{lt-ltb, le-ltb}
use Rattle.trace.specs.Side.{◌⟶◌, side_of}
use Rattle.tracing.specs.Written.{side_number}
use Rattle.tracing.proofs.walk.side_number.Goals as goal

pub returns : goal.returns
unfolding side_number side_of
returns c = go (dec_lt c.args.a.0 c.args.b.0)
  where
    go : Dec (c.args.a.0 < c.args.b.0) → c.from.result * 65536 + c.from-2.result ≡ side_number (c.args.a.0 ⟶ c.args.b.0)
    go (yes l) = rw (lt-ltb _ _ l) (omega (arith, c.from.ensures, c.from-2.ensures, c.min.ensures, c.max.ensures))
    go (no l) = rw (le-ltb c.args.a.0 c.args.b.0 (omega arith)) (omega (arith, c.from.ensures, c.from-2.ensures, c.min.ensures, c.max.ensures))
