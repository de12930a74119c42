-- `height_of` meets its contract: the triangles that it makes are those of the kind, and the slopes the survey's own. Assumes nothing.
use mathlib.Core.Path.{◌≡◌, refl, sym, ap, ◌∙◌}
use native.Mathlib.Omega.{arith}
use lib.IntN.{pos}
use lib.ListN.{length, get_or}
use mir.Syntax.{w32}
use mir.Facts.{to_z-of_z}
use Rattle.lists.proofs.BelowLaws.{below_at, none_at}
use Rattle.whole.specs.Place.{place}
use Rattle.survey.specs.Survey.{survey, count}
use Rattle.survey.specs.declared.answers.Height.TheVariants.{Own, Between}
use Rattle.sweep.specs.Sweep.{triangle_in}
use Rattle.triangles.specs.Chain.{places_of}
use Rattle.triangles.proofs.FitLaws.{fit-x, fit-y}
use Rattle.mesh.specs.Kinds.{triangles_of}
use Rattle.mesh.proofs.KindLaws.{kind-mesh}
use Rattle.held.specs.Held.{station_at, holder, height_by, Listed}
use Rattle.held.proofs.HeldLaws.{fewer, by_between, by_outside}
use Rattle.height.specs.Height.{height_at}
use Rattle.height.proofs.JobLaws.{room-listed, room-height, own_height, past-slopes}
use Rattle.height.proofs.height_of.Goals as goal

pub offset_bounds-z-k : goal.offset_bounds-z-k
offset_bounds-z-k c =
    let a = c.args in
    let f = below_at (station_at (survey a.x.now a.y.now a.z.now) (place a.px a.py)) (length a.x.now) (sym (c.station_at.ensures a.z.now) ∙ c.in-Some.is) in
    record { fits = omega (arith, f.is, f.below, c.requires.0.most) }

pub bounds-z-k : goal.bounds-z-k
bounds-z-k c =
    let a = c.args in
    let f = below_at (station_at (survey a.x.now a.y.now a.z.now) (place a.px a.py)) (length a.x.now) (sym (c.station_at.ensures a.z.now) ∙ c.in-Some.is) in
    omega (arith, f.is, f.below, c.requires.0.zs-count)

pub returns-in-Some : goal.returns-in-Some
returns-in-Some c =
    let a = c.args in
    let s = survey a.x.now a.y.now a.z.now in
    let p = place a.px a.py in
    let f = below_at (station_at s p) (length a.x.now) (sym (c.station_at.ensures a.z.now) ∙ c.in-Some.is) in (
      ap Own (to_z-of_z {w = w32} {z = get_or a.z.now c.in-Some.k (pos 0)} (record { sfits = c.result-1.given }))
          ∙ sym (own_height s (triangles_of a.kind s) p (sym f.is) (omega (arith, f.is, f.below))),
      refl,
    )

pub holder_in-requires : goal.holder_in-requires
holder_in-requires c =
    let a = c.args in
    let v = survey a.x.now a.y.now a.z.now in
    let ts = triangles_of a.kind v in
    let fit = c.requires.0 in
    let room = c.fill-n.new.room in
    let listed : Listed (count v) room c.fill-n.result = room-listed v fit ts (kind-mesh a.kind v fit) room c.fill-n.ensures in
    (listed, fit.ys-count, fit-x v fit, fit-y v fit, c.requires.1, c.requires.2)

pub returns-in_default-holder_in : goal.returns-in_default-holder_in
returns-in_default-holder_in c =
    let a = c.args in
    let v = survey a.x.now a.y.now a.z.now in
    let ts = triangles_of a.kind v in
    let fit = c.requires.0 in
    let room = c.fill-n.new.room in
    let n = c.fill-n.result in
    let p = place a.px a.py in
    let none = none_at (station_at v p) (length a.x.now) (sym (c.station_at.ensures a.z.now) ∙ c.in_default.is) in
    let outside = none_at (holder (places_of a.x.now a.y.now) (triangle_in room) n p) n (sym c.holder_in.ensures ∙ c.in_default-holder_in.is) in
    let by-room : height_by v (triangle_in room) n p ≡ height_at v ts p = room-height v fit ts (kind-mesh a.kind v fit) room c.fill-n.ensures p in
    (sym (by_outside v (triangle_in room) n p refl none refl outside) ∙ by-room, refl)

pub interpolate_in-requires : goal.interpolate_in-requires
interpolate_in-requires c =
    let a = c.args in
    let v = survey a.x.now a.y.now a.z.now in
    let ts = triangles_of a.kind v in
    let fit = c.requires.0 in
    let room = c.fill-n.new.room in
    let n = c.fill-n.result in
    let listed : Listed (count v) room n = room-listed v fit ts (kind-mesh a.kind v fit) room c.fill-n.ensures in
    let f = below_at (holder (places_of a.x.now a.y.now) (triangle_in room) n (place a.px a.py)) n (sym c.holder_in.ensures ∙ c.in-Some-holder_in.is) in
    (fit, record { rest = _; is = c.fill.ensures }, fewer listed (omega (arith, f.is, f.below)), c.requires.1, c.requires.2)

pub returns : goal.returns
returns c =
    let a = c.args in
    let v = survey a.x.now a.y.now a.z.now in
    let ts = triangles_of a.kind v in
    let fit = c.requires.0 in
    let room = c.fill-n.new.room in
    let n = c.fill-n.result in
    let p = place a.px a.py in
    let none = none_at (station_at v p) (length a.x.now) (sym (c.station_at.ensures a.z.now) ∙ c.in_default.is) in
    let f = below_at (holder (places_of a.x.now a.y.now) (triangle_in room) n p) n (sym c.holder_in.ensures ∙ c.in-Some-holder_in.is) in
    let by-room : height_by v (triangle_in room) n p ≡ height_at v ts p = room-height v fit ts (kind-mesh a.kind v fit) room c.fill-n.ensures p in (
      ap Between c.interpolate_in.ensures
          ∙ sym (by_between v (triangle_in room) n p refl none (sym f.is) (omega (arith, f.is, f.below)))
          ∙ by-room,
      past-slopes v _ c.fill.ensures,
    )
