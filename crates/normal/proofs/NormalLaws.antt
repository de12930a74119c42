-- How large the sums can be: six pairs of steps that are short. Assumes nothing.
use mathlib.Core.Bool.{Bool, true, false, cond}
use mathlib.Core.List.{[], ◌∷◌}
use Prim.Native.Nat.{ℕ, ◌+◌, ◌*◌, ◌≤◌}
use native.Mathlib.Omega.{arith}
use lib.IntN.{ℤ, pos, neg_ℤ, ◌+ℤ◌}
use lib.Signed.{lt_z}
use Rattle.whole.specs.Range.{Within}
use Rattle.whole.proofs.RangeLaws.{within-neg, within-add, within-sub, within-mul, within-pos}
use Rattle.survey.specs.Limits.{most_coordinate}
use Rattle.normal.specs.declared.Step.{Step}
use Rattle.normal.specs.declared.Normal.{Normal}
use Rattle.normal.specs.Normal.{normal_of, none, added_part, added, added_all, Short, Small}

wider : {m n : ℕ} {z : ℤ} → Within m z → m ≤ n → Within n z
wider h l = record { by = omega (arith, h.by) }

-- NX, NY, NZ of one pair.
pub normal-small : {m : ℕ} {a b : Step} → most_coordinate ≤ m → Short m a → Short m b → Small (16382 * m) (normal_of a b)
normal-small {m} l h k =
    record {
      nx = wider (within-sub (within-mul h.dy k.dz) (within-mul h.dz k.dy)) (omega arith);
      ny = wider (within-sub (within-mul h.dz k.dx) (within-mul h.dx k.dz)) (omega arith);
      nz = wider (within-sub (within-mul h.dx k.dy) (within-mul h.dy k.dx)) (omega arith);
    }

-- A sum with one pair more.
part_small : {m n : ℕ} {sum z : ℤ} (nz : ℤ) → Within m sum → Within n z → Within (m + n) (added_part sum z nz)
part_small {m} {n} {sum} {z} nz h k = go (lt_z nz (pos 0)) (lt_z (pos 0) nz)
  where
    go : (s t : Bool) → Within (m + n) (cond s (sum +ℤ neg_ℤ z) (cond t (sum +ℤ z) sum))
    go true t = within-add h (within-neg k)
    go false true = within-add h k
    go false false = wider h (omega arith)

pub added-small : {m n : ℕ} {sum z : Normal} → Small m sum → Small n z → Small (m + n) (added sum z)
unfolding added
added-small {z = z} h k =
    record { nx = part_small z.nz h.nx k.nx; ny = part_small z.nz h.ny k.ny; nz = part_small z.nz h.nz k.nz }

pub none_small : Small 0 none
none_small = record { nx = within-pos (omega arith); ny = within-pos (omega arith); nz = within-pos (omega arith) }

pub smaller : {m n : ℕ} {z : Normal} → Small m z → m ≤ n → Small n z
smaller h l = record { nx = wider h.nx l; ny = wider h.ny l; nz = wider h.nz l }

-- All six pairs of four steps.
pub four-small :
    {m : ℕ} {a b c d : Step} → most_coordinate ≤ m → Short m a → Short m b → Short m c → Short m d
    → Small (6 * (16382 * m)) (added_all none (a ∷ b ∷ c ∷ d ∷ []))
four-small {m} l ha hb hc hd =
    smaller
    (added-small (added-small (added-small (added-small (added-small (added-small none_small (normal-small l ha hb)) (normal-small l ha hc)) (normal-small l ha hd)) (normal-small l hb hc)) (normal-small l hb hd)) (normal-small l hc hd))
    (omega arith)
