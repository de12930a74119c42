-- `height_over` meets its contract: what passes the check is a mesh of a survey that is fit, and each test is one case of `heighted_on`. Assumes
-- nothing.
use mathlib.Core.Path.{◌≡◌, refl, sym, ap, ◌∙◌}
use mathlib.Core.Bool.{false}
use mathlib.Core.List.{List, ◌++◌}
use Prim.Native.Nat.{ℕ, ◌*◌}
use native.Mathlib.Omega.{arith}
use lib.IntN.{ℤ, pos}
use lib.ListN.{length, take, drop, replicate}
use Rattle.whole.specs.Place.{place}
use Rattle.survey.specs.Rooms.{slope_room}
use Rattle.survey.specs.Survey.{survey, count}
use Rattle.std.specs.Prelude.{Ok}
use Rattle.sweep.specs.Sweep.{flat}
use Rattle.neighbours.proofs.RoomLaws.{length-threes}
use Rattle.woven.specs.Accepted.{whole_in, supplied_in}
use Rattle.woven.proofs.AcceptedLaws.{passed-mesh, take-supplied}
use Rattle.height.proofs.JobLaws.{not_far, not_tight, room-listed, room-height, past-slopes, done}
use Rattle.height_over.proofs.height_over.Goals as goal

-- The numbers handed in are those of the triangles.
made : (l : List ℕ) → (whole_in l ≡ length (supplied_in l)) × (take (3 * whole_in l) l ≡ flat (supplied_in l))
made l = (sym (length-threes (whole_in l) l), take-supplied l)

pub is_tight-requires : goal.is_tight-requires
is_tight-requires c =
    let a = c.args in
    omega (arith, (passed-mesh (survey a.x.now a.y.now a.z.now) a.triangles.now (sym c.check.ensures ∙ c.in_ok-check.was)).0.most)

pub fill-requires : goal.fill-requires
fill-requires c =
    let a = c.args in
    let s = survey a.x.now a.y.now a.z.now in
    let room = not_tight s (length a.slopes.now) (length a.work.now) (sym c.is_tight.ensures ∙ c.if-is_tight.false) in
    ((passed-mesh s a.triangles.now (sym c.check.ensures ∙ c.in_ok-check.was)).0, room.0)

pub height_in-height-requires : goal.height_in-height-requires
height_in-height-requires c =
    let a = c.args in
    let s = survey a.x.now a.y.now a.z.now in
    let l = a.triangles.now in
    let m = passed-mesh s l (sym c.check.ensures ∙ c.in_ok-check.was) in
    let near = not_far (place a.px a.py) (sym c.is_far.ensures ∙ c.if-is_far.false) in
    (m.0, record { rest = _; is = c.fill.ensures }, room-listed s m.0 (supplied_in l) m.2 l (made l), near.0, near.1)

pub slope_room-requires : goal.slope_room-requires
slope_room-requires c =
    let a = c.args in
    omega (arith, (passed-mesh (survey a.x.now a.y.now a.z.now) a.triangles.now (sym c.check.ensures ∙ c.in_ok-check.was)).0.most)

pub work_room-requires : goal.work_room-requires
work_room-requires c =
    let a = c.args in
    omega (arith, (passed-mesh (survey a.x.now a.y.now a.z.now) a.triangles.now (sym c.check.ensures ∙ c.in_ok-check.was)).0.most)

pub returns : goal.returns
returns c =
    let a = c.args in
    let s = survey a.x.now a.y.now a.z.now in
    let l = a.triangles.now in
    let ts = supplied_in l in
    let p = place a.px a.py in
    let passed = sym c.check.ensures ∙ c.in_ok-check.was in
    let m = passed-mesh s l passed in
    let near = not_far p (sym c.is_far.ensures ∙ c.if-is_far.false) in
    let room = not_tight s (length a.slopes.now) (length a.work.now) (sym c.is_tight.ensures ∙ c.if-is_tight.false) in
    let r = c.slope_room.ensures in (
      ap Ok (c.height_in-height.ensures ∙ room-height s m.0 ts m.2 l (made l) p)
          ∙ sym (done s ts false p (length a.slopes.now) (length a.work.now) passed refl near.0 near.1 room.0 room.1),
      c.clear.ensures
          ∙ (λ j. replicate (r j) (pos 0) ++ drop (r j) c.fill.new.room)
          ∙ ap (λ (b : List ℤ). replicate (slope_room (count s)) (pos 0) ++ b) (past-slopes s _ c.fill.ensures),
      c.clear-2.ensures ∙ ap (λ (n : ℕ). replicate n 0 ++ drop n a.work.now) c.work_room.ensures,
    )
