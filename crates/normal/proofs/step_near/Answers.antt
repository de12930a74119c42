-- `step_near` meets its contract: what stands in the row is a station. Assumes nothing.
use mathlib.Core.Path.{sym, ap, ◌∙◌, subst}
use Prim.Native.Nat.{ℕ, suc, zero, ◌+◌, ◌*◌, ◌<◌}
use native.Mathlib.Omega.{arith}
use lib.ListN.{length, get_or}
use mathlib.Core.List.{List}
use Rattle.nearest.specs.Places.{places, Placed, value_in}
use Rattle.nearest.specs.Four.{near_row, Kept}
use Rattle.normal.specs.Normal.{step_to}
use Rattle.nearest.proofs.NeighbourLaws.{near-below}
use Rattle.normal.proofs.step_near.Goals as goal

-- the numbers of a row are stations
row_below : {xs ys : List ℕ} → Placed xs ys → (i j : ℕ) → i < length xs → j < 4 → get_or (near_row (places xs ys) i) j 0 < length xs
row_below g i zero h l = near-below g i h 0
row_below g i (suc zero) h l = near-below g i h 1
row_below g i (suc (suc zero)) h l = near-below g i h 2
row_below g i (suc (suc (suc zero))) h l = near-below g i h 3
row_below g i (suc (suc (suc (suc j)))) h l = absurd (omega arith)

kept-below : {xs ys near : List ℕ} → Placed xs ys → Kept xs ys near → (i j : ℕ) → i < length xs → j < 4 → get_or near (4 * i + j) 0 < length xs
kept-below {xs} g k i j h l = subst (λ (m : ℕ). m < length xs) (sym (k.row i j h l)) (row_below g i j h l)

pub overflow_cast-near : goal.overflow_cast-near
overflow_cast-near c = omega (arith, kept-below c.requires.0 c.requires.2 c.args.i c.args.j c.requires.3 c.requires.4, c.requires.0.most)

pub step_to-requires : goal.step_to-requires
step_to-requires c = (c.requires.0, c.requires.1, c.requires.3, kept-below c.requires.0 c.requires.2 c.args.i c.args.j c.requires.3 c.requires.4)

pub returns : goal.returns
returns c =
    let a = c.args in
    c.step_to.ensures ∙ ap (step_to (places a.x.now a.y.now) (value_in a.h.now) a.i) (c.requires.2.row a.i a.j c.requires.3 c.requires.4)
