use mathlib.Core.Path.{refl, sym, ap, ◌∙◌, subst}
use mathlib.Core.List.{List}
use Prim.Native.Nat.{◌*◌}
use native.Mathlib.Omega.{arith}
use lib.IntN.{ℤ}
use lib.Seq.{sets}
use Rattle.slopes.specs.declared.slope.Five.{Five}
use Rattle.nearest.specs.Places.{places, value_in}
use Rattle.slopes.specs.Slopes.{row, IsCut}
use Rattle.slopes.proofs.SlopeLaws.{five-cut}
use Rattle.lists.proofs.RowsLaws.{rows_more}
use Rattle.slopes.proofs.slope.fill_rows.Invariants.{fives}
use Rattle.slopes.proofs.slope.fill_rows.Goals as goal

pub put_five-requires : goal.put_five-requires
put_five-requires c =
    let i = c.loop-i.i in
    let h = c.loop-i-test.true in (
      omega (arith, c.requires.0.most),
      omega (arith, c.requires.4),
      subst IsCut (sym c.five_at.ensures) (five-cut (places c.args.x.now c.args.y.now) (value_in c.args.p.now) (value_in c.args.q.now) i (c.requires.2.within i h) (c.requires.3.within i h)),
    )

pub loop-i-preserved : goal.loop-i-preserved
loop-i-preserved c =
    let l = c.loop-i in
    let f = fives c.args.x.now c.args.y.now c.args.p.now c.args.q.now in
    c.put_five.ensures
    ∙ ap (λ (v : Five). sets l.room (5 * l.i) (row v)) c.five_at.ensures
    ∙ ap (λ (d : List ℤ). sets d (5 * l.i) (f l.i)) l.invariant
    ∙ rows_more f 5 (λ j. refl) l.i c.args.room.now (omega (arith, c.requires.4))
