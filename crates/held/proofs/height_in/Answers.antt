-- `height_in` meets its contract: the station, the triangle and the height over it are those of `height_by`. Assumes nothing.
use mathlib.Core.Path.{refl, sym, ap, ◌∙◌}
use native.Mathlib.Omega.{arith}
use lib.IntN.{pos}
use lib.ListN.{length, get_or}
use mir.Syntax.{w32}
use mir.Facts.{to_z-of_z}
use Rattle.whole.specs.Place.{place}
use Rattle.survey.specs.Survey.{survey}
use Rattle.survey.specs.declared.answers.Height.TheVariants.{Own, Between}
use Rattle.lists.proofs.BelowLaws.{below_at, none_at}
use Rattle.triangles.specs.Chain.{places_of}
use Rattle.sweep.specs.Sweep.{triangle_in}
use Rattle.held.specs.Held.{station_at, holder}
use Rattle.held.proofs.HeldLaws.{by_own, by_between, by_outside}
use Rattle.held.proofs.height_in.Goals as goal

pub offset_bounds-z-k : goal.offset_bounds-z-k
offset_bounds-z-k c =
    let a = c.args in
    let f = below_at (station_at (survey a.x.now a.y.now a.z.now) (place a.px a.py)) (length a.x.now) (sym (c.station_at.ensures a.z.now) ∙ c.in-Some.is) in
    record { fits = omega (arith, f.is, f.below, c.requires.0.most) }

pub bounds-z-k : goal.bounds-z-k
bounds-z-k c =
    let a = c.args in
    let f = below_at (station_at (survey a.x.now a.y.now a.z.now) (place a.px a.py)) (length a.x.now) (sym (c.station_at.ensures a.z.now) ∙ c.in-Some.is) in
    omega (arith, f.is, f.below, c.requires.0.zs-count)

pub returns-in-Some : goal.returns-in-Some
returns-in-Some c =
    let a = c.args in
    let s = survey a.x.now a.y.now a.z.now in
    let p = place a.px a.py in
    let f = below_at (station_at s p) (length a.x.now) (sym (c.station_at.ensures a.z.now) ∙ c.in-Some.is) in
    ap Own (to_z-of_z {w = w32} {z = get_or a.z.now c.in-Some.k (pos 0)} (record { sfits = c.result-1.given }))
    ∙ sym (by_own s (triangle_in a.triangles.now) a.n p (sym f.is) (omega (arith, f.is, f.below)))

pub returns-in-Some-holder_in : goal.returns-in-Some-holder_in
returns-in-Some-holder_in c =
    let a = c.args in
    let s = survey a.x.now a.y.now a.z.now in
    let p = place a.px a.py in
    let none = none_at (station_at s p) (length a.x.now) (sym (c.station_at.ensures a.z.now) ∙ c.in_default.is) in
    let f = below_at (holder (places_of a.x.now a.y.now) (triangle_in a.triangles.now) a.n p) a.n (sym c.holder_in.ensures ∙ c.in-Some-holder_in.is) in
    ap Between c.interpolate_in.ensures
    ∙ sym (by_between s (triangle_in a.triangles.now) a.n p refl none (sym f.is) (omega (arith, f.is, f.below)))

pub returns-in-None : goal.returns-in-None
returns-in-None c =
    let a = c.args in
    let s = survey a.x.now a.y.now a.z.now in
    let p = place a.px a.py in
    let none = none_at (station_at s p) (length a.x.now) (sym (c.station_at.ensures a.z.now) ∙ c.in_default.is) in
    let outside = none_at (holder (places_of a.x.now a.y.now) (triangle_in a.triangles.now) a.n p) a.n (sym c.holder_in.ensures ∙ c.in-None.is) in
    sym (by_outside s (triangle_in a.triangles.now) a.n p refl none refl outside)
