-- 'A line record is one number: twice its count of vertices, plus 1 if closed': what it says of its line. Assumes nothing.
use mathlib.Core.Path.{◌≡◌}
use mathlib.Core.Bool.{Bool, true, false}
use Prim.Native.Nat.{ℕ, ◌+◌, ◌*◌, ◌/◌, ◌%◌, ◌<◌}
use native.Mathlib.Nat.{div-add-mod', mod-lt}
use native.Mathlib.Omega.{arith}
use borrow.Author.Tests.{eq-eqb, ne_eqb}
use lib.Dec.{eqb}
use Rattle.trace.specs.Side.{bit}

pub halves : (r : ℕ) → (r / 2 * 2 + r % 2 ≡ r) × (r % 2 < 2)
halves r = (div-add-mod' r 2, mod-lt r (omega arith))

-- Its count of vertices, and whether it is closed.
pub half-record : (c : Bool) (n : ℕ) → (2 * n + bit c) / 2 ≡ n
half-record true n = omega (arith, halves (2 * n + 1))
half-record false n = omega (arith, halves (2 * n + 0))

pub odd-record : (c : Bool) (n : ℕ) → eqb ((2 * n + bit c) % 2) 1 ≡ c
odd-record true n = eq-eqb ((2 * n + 1) % 2) 1 (omega (arith, halves (2 * n + 1)))
odd-record false n = ne_eqb ((2 * n + 0) % 2) 1 (λ e. omega (arith, e, halves (2 * n + 0)))
