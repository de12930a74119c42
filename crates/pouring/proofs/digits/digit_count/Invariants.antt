-- `digit_count` meets its contract: as many digits are counted as are divided off. Assumes nothing.
use mathlib.Core.Path.{◌≡◌}
use Prim.Native.Nat.{ℕ, ◌+◌, ◌-◌}
use lib.ListN.{length}
use Rattle.shapes.specs.Bytes.{digits_of}
use Rattle.pouring.proofs.digits.digit_count.Given as goal

abbrev pub invariant-loop-count : goal.invariant-loop-count
invariant-loop-count l =
    (from : ℕ) → length (digits_of l.base from l.most l.n) ≡ l.count + length (digits_of l.base from (l.most - l.count) l.left)
