-- `check_in_order` meets its contract: at each `return` the tests that led there say which case of `checked` holds; only the last of them
-- passes. Assumes nothing.
use mathlib.Core.Path.{sym, ap, ◌∙◌}
use mathlib.Core.Bool.{not}
use Prim.Native.Nat.{ℕ, ◌<◌}
use native.Mathlib.Omega.{arith}
use borrow.Author.Tests.{not-true, not-false}
use Rattle.std.specs.Prelude.{Err}
use Rattle.lists.proofs.BelowLaws.{found_at, none_below}
use Rattle.survey.specs.Survey.{survey, count}
use Rattle.survey.specs.Checks.{is_out_of_range, is_repeat}
use Rattle.survey.specs.declared.refusal.Refusal.TheVariants.{Range, SamePlace}
use Rattle.survey.proofs.CheckLaws.{counted, x_all, y_all, apart, one_line_by_two, is_refused-count, is_refused-range, is_refused_same, is_refused-line, is-passed}
use Rattle.survey.proofs.FitLaws.{refused_not_passed}
use Rattle.survey.proofs.check.check_in_order.Goals as goal

pub returns-then-not-is_counted : goal.returns-then-not-is_counted
returns-then-not-is_counted c =
    let a = c.args in (
      sym (is_refused-count (survey a.x.now a.y.now a.z.now) (sym c.is_counted.ensures ∙ not-true _ c.if-not-is_counted.true-raw)),
      λ e. absurd (refused_not_passed e),
    )

pub overflow_cast-result : goal.overflow_cast-result
overflow_cast-result c =
    let a = c.args in
    let s = survey a.x.now a.y.now a.z.now in
    let n = counted s (sym c.is_counted.ensures ∙ not-false _ c.if-not-is_counted.false-raw) in
    let f = found_at (is_out_of_range s) (count s) (sym c.lowest_out_of_range.ensures ∙ c.in-Some.is) in
    omega (arith, n.most, f.is, f.below)

pub returns-in-Some : goal.returns-in-Some
returns-in-Some c =
    let a = c.args in
    let s = survey a.x.now a.y.now a.z.now in
    let f = found_at (is_out_of_range s) (count s) (sym c.lowest_out_of_range.ensures ∙ c.in-Some.is) in (
      sym
          (is_refused-range s (sym c.is_counted.ensures ∙ not-false _ c.if-not-is_counted.false-raw) f.below
          ∙ ap (λ (k : ℕ). Err (Range k)) f.is),
      λ e. absurd (refused_not_passed e),
    )

pub lowest_repeat-requires : goal.lowest_repeat-requires
lowest_repeat-requires c =
    let a = c.args in
    let s = survey a.x.now a.y.now a.z.now in
    let n = counted s (sym c.is_counted.ensures ∙ not-false _ c.if-not-is_counted.false-raw) in
    let none = none_below (is_out_of_range s) (count s) (sym c.lowest_out_of_range.ensures ∙ c.in_default.is) in
    (n.ys-count, n.most, omega (arith, n.most, c.requires), x_all s none, y_all s none n.ys-count)

pub overflow_cast-result-in-Some-lowest_repeat : goal.overflow_cast-result-in-Some-lowest_repeat
overflow_cast-result-in-Some-lowest_repeat c =
    let a = c.args in
    let s = survey a.x.now a.y.now a.z.now in
    let n = counted s (sym c.is_counted.ensures ∙ not-false _ c.if-not-is_counted.false-raw) in
    let f = found_at (is_repeat s) (count s) (sym (c.lowest_repeat.ensures.0 a.z.now) ∙ c.in-Some-lowest_repeat.is) in
    omega (arith, n.most, f.is, f.below)

pub returns-in-Some-lowest_repeat : goal.returns-in-Some-lowest_repeat
returns-in-Some-lowest_repeat c =
    let a = c.args in
    let s = survey a.x.now a.y.now a.z.now in
    let none = none_below (is_out_of_range s) (count s) (sym c.lowest_out_of_range.ensures ∙ c.in_default.is) in
    let f = found_at (is_repeat s) (count s) (sym (c.lowest_repeat.ensures.0 a.z.now) ∙ c.in-Some-lowest_repeat.is) in (
      sym
          (is_refused_same s (sym c.is_counted.ensures ∙ not-false _ c.if-not-is_counted.false-raw) none f.below
          ∙ ap (λ (k : ℕ). Err (SamePlace k)) f.is),
      λ e. absurd (refused_not_passed e),
    )

pub has_turn-requires : goal.has_turn-requires
has_turn-requires c =
    let a = c.args in
    let s = survey a.x.now a.y.now a.z.now in
    let n = counted s (sym c.is_counted.ensures ∙ not-false _ c.if-not-is_counted.false-raw) in
    let none = none_below (is_out_of_range s) (count s) (sym c.lowest_out_of_range.ensures ∙ c.in_default.is) in
    (n.ys-count, omega (arith, n.least), x_all s none, y_all s none n.ys-count)

pub returns-then-not-has_turn : goal.returns-then-not-has_turn
returns-then-not-has_turn c =
    let a = c.args in
    let s = survey a.x.now a.y.now a.z.now in
    let h = sym c.is_counted.ensures ∙ not-false _ c.if-not-is_counted.false-raw in
    let range = none_below (is_out_of_range s) (count s) (sym c.lowest_out_of_range.ensures ∙ c.in_default.is) in
    let same = none_below (is_repeat s) (count s) (sym (c.lowest_repeat.ensures.0 a.z.now) ∙ c.in_default-lowest_repeat.is) in
    let two : 1 < count s = omega (arith, (counted s h).least) in (
      sym
          (is_refused-line s h range same
          (one_line_by_two s two (apart s same 0 1 (omega arith) two)
          ∙ ap not (sym (c.has_turn.ensures a.z.now) ∙ not-true _ c.if-not-has_turn.true-raw))),
      λ e. absurd (refused_not_passed e),
    )

pub returns : goal.returns
returns c =
    let a = c.args in
    let s = survey a.x.now a.y.now a.z.now in
    let h = sym c.is_counted.ensures ∙ not-false _ c.if-not-is_counted.false-raw in
    let range = none_below (is_out_of_range s) (count s) (sym c.lowest_out_of_range.ensures ∙ c.in_default.is) in
    let same = none_below (is_repeat s) (count s) (sym (c.lowest_repeat.ensures.0 a.z.now) ∙ c.in_default-lowest_repeat.is) in
    let two : 1 < count s = omega (arith, (counted s h).least) in (
      sym
          (is-passed s h range same
          (one_line_by_two s two (apart s same 0 1 (omega arith) two)
          ∙ ap not (sym (c.has_turn.ensures a.z.now) ∙ not-false _ c.if-not-has_turn.false-raw))),
      λ _. c.lowest_repeat.ensures.1,
    )
