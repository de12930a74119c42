use mathlib.Core.Path.{◌≡◌, sym, ap, ◌∙◌, subst}
use mathlib.Core.Bool.{true, false}
use Prim.Native.Nat.{ℕ}
use native.Mathlib.Omega.{arith}
use lib.ListN.{length}
use Rattle.nearest.specs.Places.{places}
use Rattle.nearest.specs.Nearest.{sorted, distance_from, nearest}
use Rattle.nearest.specs.Four.{four_of, put_four, Rising}
use Rattle.nearest.proofs.PlacedLaws.{placed-near}
use Rattle.nearest.proofs.FourLaws.{search-more}
use Rattle.nearest.proofs.nearest_where.Goals as goal
use Rattle.nearest.proofs.nearest_where.Goals.{then-passes, else-passes}

pub loop-k-preserved : goal.loop-k-preserved
loop-k-preserved g c =
    let a = c.args in
    let l = c.loop-k in
    let s = places a.x.now a.y.now in
    let near = placed-near c.requires.placed.0 c.requires.placed.1 c.loop-k-test.true in
    elim c.if-passes.branch [
      | then-passes w ↦ (
        λ p h.
            search-more s p a.i l.k near (l.invariant.0 p h)
            (w.f-is
            ∙ w.put_four-f.ensures.0
            ∙ ap (λ (d : ℕ). put_four l.f d l.k) w.distance_of.ensures
            ∙ simp (sym (h l.k true c.loop-k-test.true w.if-passes.ensures))),
        subst Rising (sym w.f-is) w.put_four-f.ensures.1,
      )
      | else-passes w ↦ (
        λ p h.
            search-more s p a.i l.k near (l.invariant.0 p h)
            (w.f-is ∙ simp (sym (h l.k false c.loop-k-test.true w.if-passes.ensures))),
        subst Rising (sym w.f-is) l.invariant.1,
      )
    ]

pub returns : goal.returns
unfolding nearest
returns g c =
    let a = c.args in
    let s = places a.x.now a.y.now in
    let l = c.loop-k in
    let e : l.k ≡ length a.x.now = omega arith in
    λ p h. l.invariant.0 p h ∙ ap (λ (n : ℕ). four_of (distance_from s a.i) a.i (sorted (distance_from s a.i) p n)) e
