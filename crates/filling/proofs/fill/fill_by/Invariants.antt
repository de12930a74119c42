-- `fill_by` meets its contract: after i turns the first i places are filled, and those from n on are as they were. Assumes nothing.
use Rattle.std.proofs.Common.{◌≡◌, ℕ, ◌<◌, drop}
use Rattle.std.specs.List.{HoldsAt}
use Rattle.filling.proofs.fill.fill_by.Given as goal

abbrev pub invariant-loop-i : goal.invariant-loop-i
invariant-loop-i g l =
    record {
      front : (k : ℕ) → k < l.i → HoldsAt (λ v. goal.F-post g l.entry k v) l.room k;
      rest : drop l.n l.room ≡ drop l.n l.initial.room;
    }
