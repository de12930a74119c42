-- `vertices_in` meets its contract: it is a sum. Assumes nothing.
use mathlib.Core.Path.{◌≡◌, refl, ◌∙◌}
use mathlib.Core.List.{List, [], ◌∷◌}
use Prim.Native.Nat.{ℕ, zero, suc, ◌+◌, ◌/◌}
use native.Mathlib.Omega.{arith}
use borrow.Author.Rules.{rules}
use lib.ListN.{length}
use Rattle.std.specs.List.{sum_by}
use Rattle.std.proofs.lemmas.List.Sums.{sum_by-cons}
use Rattle.plotting.specs.Records.{vertices_before}
use Rattle.contour.proofs.vertices_in.Goals as goal

-- The vertices of the first record, and of those behind it.
first-apart : (r : ℕ) (records : List ℕ) (i : ℕ) → vertices_before (r ∷ records) (suc i) ≡ r / 2 + vertices_before records i
first-apart r records zero = omega arith
first-apart r records (suc i) = omega (arith, first-apart r records i)

summed : (records : List ℕ) → sum_by (λ r. r / 2) records ≡ vertices_before records (length records)
summed [] = refl
summed (r ∷ records) = omega (arith, sum_by-cons (λ r. r / 2) r records, first-apart r records (length records), summed records)

pub returns : goal.returns
returns c =
    let e : c.sum.result ≡ sum_by (λ r. r / 2) c.args.records.now = search rules in
    e ∙ summed c.args.records.now
