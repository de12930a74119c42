-- `parts_of` meets its contract: the tests of the three corners say which of them is cut off, if any. Assumes nothing.
use mathlib.Core.List.{List}
use mathlib.Core.Path.{◌≡◌, sym, ap, ◌∙◌, subst}
use Prim.Native.Nat.{ℕ}
use mathlib.Core.Bool.{not}
use native.Mathlib.Omega.{arith}
use lib.IntN.{ℤ}
use mir.Syntax.{w32}
use mir.Val.{to_z, of_z}
use Rattle.whole.specs.Range.{Within}
use Rattle.survey.specs.Limits.{most_height}
use Rattle.survey.specs.Survey.{Survey, survey}
use Rattle.curve.proofs.CrossLaws.{xor-true, xor-false}
use Rattle.curve.proofs.HeldLaws.{held, held_is}
use Rattle.sweep.specs.Sweep.{Three}
use Rattle.spots.specs.Lines.{is_below}
use Rattle.ground.proofs.CutLaws.{from_a, from_b, from_c}
use Rattle.ground.proofs.ShareLaws.{below_is, not_back}
use Rattle.survey.specs.declared.answers.Figures.{Figures}
use Rattle.served.specs.Figures.{PartsOf}
use Rattle.served.proofs.FigureLaws.{counter_next, parts_cut, parts_whole}
use Rattle.served.proofs.parts.parts_of.Goals as goal

-- The parts at the level as it is lent are those at the level.
at_level :
    {s : Survey} {slopes : List ℤ} {style : ℕ} {level : ℤ} {t : Three ℕ} {g : Figures} → Within most_height level
    → PartsOf s slopes style (to_z w32 (of_z w32 level)) t g → PartsOf s slopes style level t g
at_level {s} {slopes} {style} {level} {t} {g} w h = subst (λ z. PartsOf s slopes style z t g) (held_is w32 w tt) h

pub is_below_at-fa-requires : goal.is_below_at-fa-requires
is_below_at-fa-requires c = omega (arith, c.requires.0.listed.zs-count, c.requires.2.stations.on_a)

pub is_below_at-fb-requires : goal.is_below_at-fb-requires
is_below_at-fb-requires c = omega (arith, c.requires.0.listed.zs-count, c.requires.2.stations.on_b)

pub is_below_at-fc-requires : goal.is_below_at-fc-requires
is_below_at-fc-requires c = omega (arith, c.requires.0.listed.zs-count, c.requires.2.stations.on_c)

-- b is cut off.
pub cut_at-requires : goal.cut_at-requires
cut_at-requires c =
    let a = c.args in
    let s = survey a.x.now a.y.now a.z.now in
    let h = c.requires.2 in
    let lent = to_z w32 (of_z w32 a.level) in
    let fa = c.is_below_at-fa.result in
    let fb = c.is_below_at-fb.result in
    let fc = c.is_below_at-fc.result in
    let at_a : is_below s lent a.a ≡ fa = below_is s lent h.stations.on_a ∙ sym c.is_below_at-fa.ensures in
    let at_b : is_below s lent a.b ≡ fb = below_is s lent h.stations.on_b ∙ sym c.is_below_at-fb.ensures in
    let at_c : is_below s lent a.c ≡ fc = below_is s lent h.stations.on_c ∙ sym c.is_below_at-fc.ensures in
    let unlike : fb ≡ not fa = xor-true fa fb (sym c.is_one.ensures ∙ c.if-is_one.true) in
    let c_of : fc ≡ not fb = xor-true fb fc (sym c.is_one-then-is_one.ensures ∙ c.if-is_one-2.true) in
    let a_of : fa ≡ not fb = not_back fa unlike in (
      c.requires.0,
      held w32 c.requires.1 tt,
      counter_next s h,
      at_c ∙ c_of ∙ ap not (sym at_b),
      at_a ∙ a_of ∙ ap not (sym at_b),
    )

pub returns-then-is_one-2 : goal.returns-then-is_one-2
returns-then-is_one-2 c =
    let a = c.args in
    let s = survey a.x.now a.y.now a.z.now in
    let h = c.requires.2 in
    let lent = to_z w32 (of_z w32 a.level) in
    let fa = c.is_below_at-fa.result in
    let fb = c.is_below_at-fb.result in
    let fc = c.is_below_at-fc.result in
    let at_a : is_below s lent a.a ≡ fa = below_is s lent h.stations.on_a ∙ sym c.is_below_at-fa.ensures in
    let at_b : is_below s lent a.b ≡ fb = below_is s lent h.stations.on_b ∙ sym c.is_below_at-fb.ensures in
    let at_c : is_below s lent a.c ≡ fc = below_is s lent h.stations.on_c ∙ sym c.is_below_at-fc.ensures in
    let unlike : fb ≡ not fa = xor-true fa fb (sym c.is_one.ensures ∙ c.if-is_one.true) in
    let c_of : fc ≡ not fb = xor-true fb fc (sym c.is_one-then-is_one.ensures ∙ c.if-is_one-2.true) in
    let a_of : fa ≡ not fb = not_back fa unlike in
    at_level c.requires.1
    (parts_cut s _ _ lent c.cut_at.result from_b fb c.figures_by.ensures at_b (at_c ∙ c_of) (at_a ∙ a_of) c.cut_at.ensures)

-- a is cut off.
pub cut_at-requires-then-is_one : goal.cut_at-requires-then-is_one
cut_at-requires-then-is_one c =
    let a = c.args in
    let s = survey a.x.now a.y.now a.z.now in
    let h = c.requires.2 in
    let lent = to_z w32 (of_z w32 a.level) in
    let fa = c.is_below_at-fa.result in
    let fb = c.is_below_at-fb.result in
    let fc = c.is_below_at-fc.result in
    let at_a : is_below s lent a.a ≡ fa = below_is s lent h.stations.on_a ∙ sym c.is_below_at-fa.ensures in
    let at_b : is_below s lent a.b ≡ fb = below_is s lent h.stations.on_b ∙ sym c.is_below_at-fb.ensures in
    let at_c : is_below s lent a.c ≡ fc = below_is s lent h.stations.on_c ∙ sym c.is_below_at-fc.ensures in
    let unlike : fb ≡ not fa = xor-true fa fb (sym c.is_one.ensures ∙ c.if-is_one.true) in
    let c_of : fc ≡ not fa = xor-false fb fc (sym c.is_one-then-is_one.ensures ∙ c.if-is_one-2.false) ∙ unlike in (
      c.requires.0,
      held w32 c.requires.1 tt,
      h,
      at_b ∙ unlike ∙ ap not (sym at_a),
      at_c ∙ c_of ∙ ap not (sym at_a),
    )

pub returns-then-is_one : goal.returns-then-is_one
returns-then-is_one c =
    let a = c.args in
    let s = survey a.x.now a.y.now a.z.now in
    let h = c.requires.2 in
    let lent = to_z w32 (of_z w32 a.level) in
    let fa = c.is_below_at-fa.result in
    let fb = c.is_below_at-fb.result in
    let fc = c.is_below_at-fc.result in
    let at_a : is_below s lent a.a ≡ fa = below_is s lent h.stations.on_a ∙ sym c.is_below_at-fa.ensures in
    let at_b : is_below s lent a.b ≡ fb = below_is s lent h.stations.on_b ∙ sym c.is_below_at-fb.ensures in
    let at_c : is_below s lent a.c ≡ fc = below_is s lent h.stations.on_c ∙ sym c.is_below_at-fc.ensures in
    let unlike : fb ≡ not fa = xor-true fa fb (sym c.is_one.ensures ∙ c.if-is_one.true) in
    let c_of : fc ≡ not fa = xor-false fb fc (sym c.is_one-then-is_one.ensures ∙ c.if-is_one-2.false) ∙ unlike in
    at_level c.requires.1
    (parts_cut s _ _ lent c.cut_at-then-is_one.result from_a fa c.figures_by-then-is_one.ensures at_a (at_b ∙ unlike) (at_c ∙ c_of)
    c.cut_at-then-is_one.ensures)

-- c is cut off.
pub cut_at-requires-then-is_one-3 : goal.cut_at-requires-then-is_one-3
cut_at-requires-then-is_one-3 c =
    let a = c.args in
    let s = survey a.x.now a.y.now a.z.now in
    let h = c.requires.2 in
    let lent = to_z w32 (of_z w32 a.level) in
    let fa = c.is_below_at-fa.result in
    let fb = c.is_below_at-fb.result in
    let fc = c.is_below_at-fc.result in
    let at_a : is_below s lent a.a ≡ fa = below_is s lent h.stations.on_a ∙ sym c.is_below_at-fa.ensures in
    let at_b : is_below s lent a.b ≡ fb = below_is s lent h.stations.on_b ∙ sym c.is_below_at-fb.ensures in
    let at_c : is_below s lent a.c ≡ fc = below_is s lent h.stations.on_c ∙ sym c.is_below_at-fc.ensures in
    let alike : fb ≡ fa = xor-false fa fb (sym c.is_one.ensures ∙ c.if-is_one.false) in
    let b_of : fb ≡ not fc = not_back fb (xor-true fb fc (sym c.is_one-2.ensures ∙ c.if-is_one-3.true)) in
    let a_of : fa ≡ not fc = sym alike ∙ b_of in (
      c.requires.0,
      held w32 c.requires.1 tt,
      counter_next s (counter_next s h),
      at_a ∙ a_of ∙ ap not (sym at_c),
      at_b ∙ b_of ∙ ap not (sym at_c),
    )

pub returns-then-is_one-3 : goal.returns-then-is_one-3
returns-then-is_one-3 c =
    let a = c.args in
    let s = survey a.x.now a.y.now a.z.now in
    let h = c.requires.2 in
    let lent = to_z w32 (of_z w32 a.level) in
    let fa = c.is_below_at-fa.result in
    let fb = c.is_below_at-fb.result in
    let fc = c.is_below_at-fc.result in
    let at_a : is_below s lent a.a ≡ fa = below_is s lent h.stations.on_a ∙ sym c.is_below_at-fa.ensures in
    let at_b : is_below s lent a.b ≡ fb = below_is s lent h.stations.on_b ∙ sym c.is_below_at-fb.ensures in
    let at_c : is_below s lent a.c ≡ fc = below_is s lent h.stations.on_c ∙ sym c.is_below_at-fc.ensures in
    let alike : fb ≡ fa = xor-false fa fb (sym c.is_one.ensures ∙ c.if-is_one.false) in
    let b_of : fb ≡ not fc = not_back fb (xor-true fb fc (sym c.is_one-2.ensures ∙ c.if-is_one-3.true)) in
    let a_of : fa ≡ not fc = sym alike ∙ b_of in
    at_level c.requires.1
    (parts_cut s _ _ lent c.cut_at-then-is_one-3.result from_c fc c.figures_by-then-is_one-3.ensures at_c (at_a ∙ a_of) (at_b ∙ b_of)
    c.cut_at-then-is_one-3.ensures)

-- None is.
pub uncut-requires : goal.uncut-requires
uncut-requires c =
    let h = c.requires.2 in
    let r = c.requires.0 in (
      r.listed.ys-count,
      (λ k l. (r.ranged k l).x-range),
      (λ k l. (r.ranged k l).y-range),
      record { stations = record { on_a = h.stations.on_a; on_b = h.stations.on_b; on_c = h.stations.on_c }; positive = h.positive },
    )

pub returns : goal.returns
returns c =
    let a = c.args in
    let s = survey a.x.now a.y.now a.z.now in
    let h = c.requires.2 in
    let lent = to_z w32 (of_z w32 a.level) in
    let fa = c.is_below_at-fa.result in
    let fb = c.is_below_at-fb.result in
    let fc = c.is_below_at-fc.result in
    let at_a : is_below s lent a.a ≡ fa = below_is s lent h.stations.on_a ∙ sym c.is_below_at-fa.ensures in
    let at_b : is_below s lent a.b ≡ fb = below_is s lent h.stations.on_b ∙ sym c.is_below_at-fb.ensures in
    let at_c : is_below s lent a.c ≡ fc = below_is s lent h.stations.on_c ∙ sym c.is_below_at-fc.ensures in
    let alike : fb ≡ fa = xor-false fa fb (sym c.is_one.ensures ∙ c.if-is_one.false) in
    let c_alike : fc ≡ fa = xor-false fb fc (sym c.is_one-2.ensures ∙ c.if-is_one-3.false) ∙ alike in
    let u = c.uncut.ensures in
    at_level c.requires.1
    (parts_whole s _ _ lent c.uncut.result _ fa c.figures_by-2.ensures at_a (at_b ∙ alike) (at_c ∙ c_alike) u.0 u.1 u.2)
