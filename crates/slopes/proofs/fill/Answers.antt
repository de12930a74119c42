-- `fill` meets its contract: what each step leaves is what the next one asks for. Assumes nothing.
use mathlib.Core.Path.{ap, ◌∙◌}
use mathlib.Core.List.{List, ◌++◌}
use Prim.Native.Nat.{◌*◌, ◌≤◌}
use native.Mathlib.Omega.{arith}
use lib.IntN.{ℤ}
use lib.ListN.{length, drop}
use Rattle.nearest.specs.Places.{places, value_in}
use Rattle.slopes.specs.Slopes.{slope_p, slope_q}
use Rattle.nearest.proofs.PlacedLaws.{fit-placed, fit-high}
use Rattle.slopes.proofs.SlopeLaws.{slope-p-cut, slope-q-cut}
use Rattle.slopes.proofs.JobLaws.{rows-kept, table-high, rows_are}
use Rattle.slopes.proofs.fill.Goals as goal

pub fill_near-requires : goal.fill_near-requires
fill_near-requires c =
    let most : length c.args.x.now ≤ 1024 = c.requires.0.most in
    (fit-placed c.args.x.now c.args.y.now c.args.z.now c.requires.0, omega arith)

pub fill_first-requires : goal.fill_first-requires
fill_first-requires c =
    let a = c.args in (
      fit-placed a.x.now a.y.now a.z.now c.requires.0,
      fit-high a.x.now a.y.now a.z.now c.requires.0,
      rows-kept a.x.now a.y.now _ c.fill_near.ensures,
      c.requires.0.most,
      c.requires.0.most,
    )

pub fill_rows-requires : goal.fill_rows-requires
fill_rows-requires c =
    let a = c.args in
    let g = places a.x.now a.y.now in
    let h = value_in a.z.now in
    let f = c.fill_first.ensures in (
      fit-placed a.x.now a.y.now a.z.now c.requires.0,
      rows-kept a.x.now a.y.now _ c.fill_near.ensures,
      table-high a.x.now (slope_p g h) _ f.of_p (slope-p-cut g h),
      table-high a.x.now (slope_q g h) _ f.of_q (slope-q-cut g h),
      c.requires.1,
    )

pub returns : goal.returns
returns c =
    let a = c.args in
    let f = c.fill_first.ensures in
    c.fill_rows.ensures
    ∙ ap (λ (l : List ℤ). l ++ drop (5 * length a.x.now) a.room.now) (rows_are (fit-placed a.x.now a.y.now a.z.now c.requires.0) a.z.now _ _ f.of_p f.of_q)
