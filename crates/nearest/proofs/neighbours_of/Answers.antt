-- `neighbours_of` meets its contract: by the three tests the four that are taken stay, or the last is replaced. Assumes nothing.
use mathlib.Core.Path.{refl, sym, ap, ◌∙◌, subst}
use Prim.Native.Nat.{ℕ, ◌<◌}
use lib.ListN.{length, get_or}
use Rattle.survey.specs.Checks.{is_turn}
use Rattle.nearest.specs.declared.Four.{Four}
use Rattle.nearest.specs.declared.Near.{Near}
use Rattle.nearest.specs.Places.{places}
use Rattle.nearest.specs.Nearest.{is_other, nearest, neighbours}
use Rattle.nearest.specs.Four.{has_off_line}
use Rattle.nearest.proofs.NeighbourLaws.{other_below, near-kept, near-replaced}
use Rattle.nearest.proofs.neighbours_of.Goals as goal

abbrev numbers : Four → Near
numbers f = record { a = f.a.station; b = f.b.station; c = f.c.station; d = f.d.station }

abbrev replaced_by : Four → ℕ → Near
replaced_by f k = record { a = f.a.station; b = f.b.station; c = f.c.station; d = k }

pub has_off_line-requires : goal.has_off_line-requires
has_off_line-requires c =
    let n = length c.args.x.now in
    let e = c.nearest_others-f.ensures in
    let below = other_below c.requires.0 c.args.i c.requires.1 in (
      c.requires.0,
      c.requires.1,
      subst (λ (f : Four). f.a.station < n) (sym e) (below 0),
      subst (λ (f : Four). f.b.station < n) (sym e) (below 1),
      subst (λ (f : Four). f.c.station < n) (sym e) (below 2),
      subst (λ (f : Four). f.d.station < n) (sym e) (below 3),
    )

pub returns-then-has_off_line : goal.returns-then-has_off_line
unfolding neighbours
returns-then-has_off_line c =
    let g = places c.args.x.now c.args.y.now in
    let e = c.nearest_others-f.ensures in
    ap numbers e
    ∙ near-kept c.requires.0 c.args.i c.requires.1 (nearest g c.args.i (is_other g c.args.i)) refl
    (sym (c.has_off_line.ensures ∙ ap (λ f. has_off_line g c.args.i (numbers f)) e) ∙ c.if-has_off_line.true)

pub nearest_off_line-off-requires : goal.nearest_off_line-off-requires
nearest_off_line-off-requires c =
    let n = length c.args.x.now in (
      c.requires.0,
      c.requires.1,
      subst (λ (f : Four). f.a.station < n) (sym c.nearest_others-f.ensures) (other_below c.requires.0 c.args.i c.requires.1 0),
    )

pub returns : goal.returns
unfolding neighbours
returns c =
    let g = places c.args.x.now c.args.y.now in
    let e = c.nearest_others-f.ensures in
    ap (replaced_by c.nearest_others-f.result) (ap (λ (f : Four). f.a.station) c.nearest_off_line-off.ensures)
    ∙ ap (λ f. replaced_by f (get_or (nearest g c.args.i (is_turn g c.args.i f.a.station)) 0 c.args.i)) e
    ∙ near-replaced c.requires.0 c.args.i c.requires.1 (nearest g c.args.i (is_other g c.args.i)) refl
    (sym (c.has_off_line.ensures ∙ ap (λ f. has_off_line g c.args.i (numbers f)) e) ∙ c.if-has_off_line.false)
