-- `mesh` meets its contract: a survey that passes the checks is fit, and the triangles of either kind are those of `meshed`. Assumes nothing.
use mathlib.Core.Path.{◌≡◌, refl, sym, ap, ◌∙◌, subst}
use mathlib.Core.List.{List, ◌++◌}
use Prim.Native.Nat.{ℕ, ◌*◌, ◌≤◌}
use native.Mathlib.Omega.{arith}
use lib.ListN.{length, drop, replicate, length-append}
use lib.Seq.{drop_at, length-take-le}
use Rattle.std.specs.Prelude.{Ok}
use Rattle.sweep.specs.Sweep.{flat}
use Rattle.survey.specs.Survey.{survey}
use Rattle.survey.proofs.FitLaws.{passed-fit}
use Rattle.mesh.specs.Kinds.{triangles_of}
use Rattle.mesh.proofs.KindLaws.{kind-old, kind-new}
use Rattle.mesh.proofs.JobLaws.{fit-done}
use Rattle.mesh.proofs.mesh.Goals as goal
use Rattle.mesh.proofs.mesh.Goals.{then-kind-eq0, else-kind-eq0}

pub work_room-worked-requires : goal.work_room-worked-requires
work_room-worked-requires c =
    let a = c.args in
    omega (arith, (passed-fit (survey a.x.now a.y.now a.z.now) (sym c.check.ensures ∙ c.in_ok-check.was)).most)

pub triangle_room-requires : goal.triangle_room-requires
triangle_room-requires c =
    let a = c.args in
    let f = passed-fit (survey a.x.now a.y.now a.z.now) (sym c.check.ensures ∙ c.in_ok-check.was) in
    (f.least, omega (arith, f.most))

pub fill-count-requires : goal.fill-count-requires
fill-count-requires c =
    let a = c.args in (
      passed-fit (survey a.x.now a.y.now a.z.now) (sym c.check.ensures ∙ c.in_ok-check.was),
      omega (arith, c.triangle_room.ensures, c.if-triangles-triangle_room.false),
    )

pub fatten-count-requires : goal.fatten-count-requires
fatten-count-requires c =
    let a = c.args in (
      passed-fit (survey a.x.now a.y.now a.z.now) (sym c.check.ensures ∙ c.in_ok-check.was),
      omega (arith, c.work_room-worked.ensures, length-take-le c.work_room-worked.result a.work.now c.if-work-worked.false),
      omega (arith, c.triangle_room.ensures, c.if-triangles-triangle_room.false),
    )

pub returns : goal.returns
returns c =
    let a = c.args in
    let s = survey a.x.now a.y.now a.z.now in
    let f = passed-fit s (sym c.check.ensures ∙ c.in_ok-check.was) in
    let r = c.work_room-worked in
    let enough = subst (λ (n : ℕ). n ≤ length a.triangles.now) c.triangle_room.ensures c.if-triangles-triangle_room.false in
    let worked = subst (λ (n : ℕ). n ≤ length a.work.now) r.ensures c.if-work-worked.false in
    let done = fit-done s f a.kind (length a.triangles.now) (length a.work.now) c.if-kind-gt1.false enough worked in
    let wide = λ (m : List ℕ). ap (λ n. replicate n 0 ++ drop n m) r.ensures in
    elim c.if-kind-eq0.branch [
      | then-kind-eq0 w ↦
          let old = kind-old s w.if-kind-eq0.true in (
            ap Ok (w.count-is ∙ w.fill-count.ensures.0 ∙ ap length (sym old)) ∙ sym done,
            w.triangles-is
                ∙ w.fill-count.ensures.1
                ∙ ap (λ l. flat l ++ drop (3 * w.fill-count.result) a.triangles.now) (sym old)
                ∙ ap (λ n. flat (triangles_of a.kind s) ++ drop (3 * n) a.triangles.now) (sym w.count-is),
            c.clear.ensures ∙ ap (λ m. replicate r.result 0 ++ drop r.result m) w.work-is ∙ wide a.work.now,
          )
      | else-kind-eq0 w ↦
          let new = kind-new s w.if-kind-eq0.false in
          let made = w.fatten-count.new.work in
          let behind = drop r.result a.work.now in
          let long : length made ≡ r.result = w.fatten-count.auto.work ∙ length-take-le r.result a.work.now c.if-work-worked.false in (
            ap Ok (w.count-is ∙ w.fatten-count.ensures.0 ∙ ap length (sym new)) ∙ sym done,
            w.triangles-is
                ∙ w.fatten-count.ensures.1
                ∙ ap (λ l. flat l ++ drop (3 * w.fatten-count.result) a.triangles.now) (sym new)
                ∙ ap (λ n. flat (triangles_of a.kind s) ++ drop (3 * n) a.triangles.now) (sym w.count-is),
            c.clear.ensures
                ∙ ap (λ m. replicate r.result 0 ++ drop r.result m) w.work-is
                ∙ ap (λ l. replicate r.result 0 ++ l) (drop_at made behind r.result long)
                ∙ wide a.work.now,
          )
    ]
