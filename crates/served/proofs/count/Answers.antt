use mathlib.Core.Path.{◌≡◌, subst}
use Prim.Native.Nat.{ℕ}
use native.Mathlib.Omega.{arith}
use mir.Syntax.{w32}
use mir.Val.{to_z, of_z}
use Rattle.survey.specs.Survey.{survey}
use Rattle.curve.proofs.HeldLaws.{held, held_is}
use Rattle.neighbours.specs.Room.{threes}
use Rattle.survey.specs.declared.answers.Figures.{Figures}
use Rattle.served.specs.Figures.{Tallied}
use Rattle.served.proofs.OwnLaws.{figures-are}
use Rattle.served.proofs.HandLaws.{hand-ranged, hand-few, hand-counter}
use Rattle.served.proofs.TallyLaws.{tallied_none, tallied-more}
use Rattle.served.proofs.count.Goals as goal

pub loop-k-init : goal.loop-k-init
loop-k-init c =
    let a = c.args in
    (tallied_none (survey a.x.now a.y.now a.z.now) a.slopes.now a.style (to_z w32 (of_z w32 a.level)) a.work.now, omega arith, omega arith)

pub overflow_cast-a : goal.overflow_cast-a
overflow_cast-a c =
    let h = (hand-counter c.requires.0 c.loop-k.k (omega arith)).stations.on_a in
    record { fits = omega (arith, h, c.requires.0.fit.most) }

pub overflow_cast-b : goal.overflow_cast-b
overflow_cast-b c =
    let h = (hand-counter c.requires.0 c.loop-k.k (omega arith)).stations.on_b in
    record { fits = omega (arith, h, c.requires.0.fit.most) }

pub overflow_cast-c : goal.overflow_cast-c
overflow_cast-c c =
    let h = (hand-counter c.requires.0 c.loop-k.k (omega arith)).stations.on_c in
    record { fits = omega (arith, h, c.requires.0.fit.most) }

pub parts_of-parts-requires : goal.parts_of-parts-requires
parts_of-parts-requires c = (hand-ranged c.requires.0, held w32 c.requires.1 tt, hand-counter c.requires.0 c.loop-k.k (omega arith))

pub overflow_add-served : goal.overflow_add-served
overflow_add-served c =
    let l = c.loop-k in
    let p = c.parts_of-parts.ensures in
    record { fits = omega (arith, hand-few c.requires.0, l.invariant.1, p.served-most) }

pub overflow_add-unserved : goal.overflow_add-unserved
overflow_add-unserved c =
    let l = c.loop-k in
    let p = c.parts_of-parts.ensures in
    record { fits = omega (arith, hand-few c.requires.0, l.invariant.2, p.unserved-most) }

pub loop-k-preserved : goal.loop-k-preserved
loop-k-preserved c =
    let a = c.args in
    let l = c.loop-k in
    let p = c.parts_of-parts.ensures in (
      tallied-more (survey a.x.now a.y.now a.z.now) a.slopes.now a.style (to_z w32 (of_z w32 a.level)) a.work.now l.k l.invariant.0 p,
      omega (arith, l.invariant.1, p.served-most),
      omega (arith, l.invariant.2, p.unserved-most),
    )

pub returns : goal.returns
returns c =
    let a = c.args in
    let s = survey a.x.now a.y.now a.z.now in
    let h = c.requires.0 in
    let l = c.loop-k in
    let f : Figures = record { served = l.served; unserved = l.unserved } in
    let all : l.k ≡ a.t = omega arith in
    let tallied = subst (λ (k : ℕ). Tallied s a.slopes.now a.style (to_z w32 (of_z w32 a.level)) (threes k a.work.now) f) all l.invariant.0 in
    let levelled = subst (λ z. Tallied s a.slopes.now a.style z (threes a.t a.work.now) f) (held_is w32 c.requires.1 tt) tallied in
    figures-are s h.fit a.style h.rest a.level (threes a.t a.work.now) h.mesh.stations
    (subst (λ q. Tallied s q a.style a.level (threes a.t a.work.now) f) h.slopes-are levelled)
