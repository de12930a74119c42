-- `fill_spots` meets its contract: after k turns the spots of the first k sides stand in the rooms, and behind them the other sides' numbers.
-- Assumes nothing.
use Rattle.spots.specs.Lines.{spot_at}
use Rattle.survey.specs.Survey.{survey}
use Rattle.lists.specs.Table.{table}
use lib.ListN.{get_or, drop}
use Prim.Native.Nat.{ℕ}
use mathlib.Core.List.{List, ◌++◌}
use mathlib.Core.Path.{◌≡◌}
use Rattle.spots.proofs.spots.fill_spots.Given as goal

-- The first k values of f stand in the list.
abbrev pub Filled : (ℕ → ℕ) → ℕ → List ℕ → List ℕ → Type 0
Filled f k old now = now ≡ table f k ++ drop k old

abbrev pub invariant-loop-k : goal.invariant-loop-k
invariant-loop-k l =
    Filled (λ i. (spot_at (survey l.x l.y l.z) l.slopes l.style l.level (get_or l.initial.vx i 0)).x) l.k l.initial.vx l.vx
    × Filled (λ i. (spot_at (survey l.x l.y l.z) l.slopes l.style l.level (get_or l.initial.vx i 0)).y) l.k l.initial.vy l.vy
