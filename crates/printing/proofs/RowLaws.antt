-- Rows of bytes, put turn by turn. Assumes nothing.
use mathlib.Core.List.{List}
use Prim.Native.Nat.{ℕ, ◌+◌}
use native.Mathlib.Numerals.{add-one}
use Rattle.lists.specs.Rows.{rows}
use Rattle.pouring.proofs.PouredLaws.{Put, put_on}

-- One row more.
pub more-put : (old : List ℕ) (at : ℕ) (row : ℕ → List ℕ) (k : ℕ) {r q : ℕ} {new last : List ℕ} → Put old at (rows row k) r new → Put new r (row k) q last
    → Put old at (rows row (k + 1)) q last
more-put old at row k e f = rw add-one (put_on old at (rows row k) _ _ (row k) _ _ e f)
