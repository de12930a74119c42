use mathlib.Core.Path.{◌≡◌, ap, ◌∙◌}
use mathlib.Core.List.{List}
use Prim.Native.Nat.{ℕ, ◌+◌, ◌<◌}
use native.Mathlib.Omega.{arith}
use lib.IntN.{ℤ}
use lib.ListN.{length, set}
use mir.Syntax.{w32}
use mir.Val.{to_z, of_z}
use Rattle.lists.proofs.TableLaws.{table_more}
use Rattle.slopes.specs.declared.slope.First.{First}
use Rattle.nearest.specs.Places.{places, value_in}
use Rattle.slopes.specs.Slopes.{slope_p, slope_q}
use Rattle.normal.proofs.SignedLaws.{slope_as_it_is}
use Rattle.slopes.proofs.SlopeLaws.{slope-p-cut, slope-q-cut}
use Rattle.slopes.proofs.slope.fill_first.Invariants.{Filled}
use Rattle.slopes.proofs.slope.fill_first.Goals as goal

filled : (f : ℕ → ℤ) (i : ℕ) (old : List ℤ) {now : List ℤ} {v : ℤ} → i < length old → v ≡ f i → Filled f i old now → Filled f (i + 1) old (set now i v)
filled f i old h e k = (λ t. set (k t) i (e t)) ∙ table_more f i old h

pub loop-i-preserved : goal.loop-i-preserved
loop-i-preserved c =
    let l = c.loop-i in
    let g = places c.args.x.now c.args.y.now in
    let h = value_in c.args.z.now in
    let e = c.first_at-f.ensures in
    let p = ap (λ (f : First). to_z w32 (of_z w32 f.p)) e ∙ slope_as_it_is (slope-p-cut g h l.i) in
    let q = ap (λ (f : First). to_z w32 (of_z w32 f.q)) e ∙ slope_as_it_is (slope-q-cut g h l.i) in (
      filled (slope_p g h) l.i c.args.p.now (omega (arith, c.requires.3)) p l.invariant.0,
      filled (slope_q g h) l.i c.args.q.now (omega (arith, c.requires.4)) q l.invariant.1,
    )
