use mathlib.Core.Path.{refl, sym, ap, ◌∙◌, subst}
use mathlib.Core.List.{List, [], ◌∷◌}
use Prim.Native.Nat.{ℕ, ◌*◌, ◌≤◌}
use native.Mathlib.Omega.{arith}
use lib.ListN.{length}
use lib.Seq.{sets}
use Rattle.nearest.specs.declared.Near.{Near}
use Rattle.nearest.specs.Places.{places}
use Rattle.nearest.specs.Four.{near_row}
use Rattle.nearest.proofs.NeighbourLaws.{near-below}
use Rattle.lists.proofs.RowsLaws.{rows_more}
use Rattle.nearest.proofs.fill_near.Goals as goal

-- four numbers as a row
abbrev row_of : Near → List ℕ
row_of f = f.a ∷ f.b ∷ f.c ∷ f.d ∷ []

pub put_near-requires : goal.put_near-requires
put_near-requires c =
    let i = c.loop-i.i in
    let few : length c.args.x.now ≤ 1024 = c.requires.0.most in
    let e = c.neighbours_of.ensures in
    let b = near-below c.requires.0 i c.loop-i-test.true in (
      omega arith,
      omega arith,
      subst (λ (f : Near). f.a ≤ 65535) (sym e) (omega (arith, b 0)),
      subst (λ (f : Near). f.b ≤ 65535) (sym e) (omega (arith, b 1)),
      subst (λ (f : Near). f.c ≤ 65535) (sym e) (omega (arith, b 2)),
      subst (λ (f : Near). f.d ≤ 65535) (sym e) (omega (arith, b 3)),
    )

pub loop-i-preserved : goal.loop-i-preserved
loop-i-preserved c =
    let l = c.loop-i in
    let g = places c.args.x.now c.args.y.now in
    c.put_near.ensures
    ∙ ap (λ (f : Near). sets l.near (4 * l.i) (row_of f)) c.neighbours_of.ensures
    ∙ ap (λ (d : List ℕ). sets d (4 * l.i) (near_row g l.i)) l.invariant
    ∙ rows_more (near_row g) 4 (λ j. refl) l.i c.args.near.now (omega (arith, c.requires.1))
