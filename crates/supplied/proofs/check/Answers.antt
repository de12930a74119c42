-- `check` meets its contract: each test is one case of `checked_over`. Assumes nothing.
use borrow.Author.Tests.{not-false, eqb-true, ltb-false}
use mathlib.Core.Path.{◌≡◌, sym, ap, ◌∙◌}
use mathlib.Core.Bool.{false, not}
use mathlib.Core.List.{List}
use Prim.Native.Nat.{ℕ, ◌*◌, ◌-◌, ◌≤◌, ◌%◌}
use native.Mathlib.Omega.{arith}
use lib.Dec.{eqb}
use lib.ListN.{length}
use Rattle.lists.proofs.BelowLaws.{below_at, none_at}
use Rattle.lists.proofs.TestLaws.{or_left, or_right}
use Rattle.survey.specs.Checks.{checked}
use Rattle.survey.specs.Fit.{Fit}
use Rattle.survey.specs.Limits.{most_stations}
use Rattle.survey.specs.Survey.{Survey, survey, count}
use Rattle.std.specs.Prelude.{Ok, Err, ⊤}
use Rattle.survey.specs.Answer.{Answer}
use Rattle.survey.specs.declared.refusal.Refusal.TheVariants.{Mesh}
use Rattle.survey.proofs.FitLaws.{passed-fit}
use Rattle.triangles.proofs.FitLaws.{ranked, ranked-length}
use Rattle.woven.specs.Accepted.{whole_in, supplied_in, is_wrong_length, first_wrong, accepted_after, checked_over}
use Rattle.supplied.proofs.CheckLaws.{wrong-length, wrong-triangle, none_wrong, left_out, all_used, woven-passed}
use Rattle.supplied.proofs.check.Goals as goal

-- The survey passed the checks.
module _ (s : Survey) (l : List ℕ) (passed : checked s ≡ (Ok tt)) where
  fit : Fit s
  fit = passed-fit s passed

  -- What is left after the checks.
  rest : {c : Answer ⊤} → accepted_after s l (Ok tt) ≡ c → c ≡ checked_over s l
  rest h = sym h ∙ sym (ap (accepted_after s l) passed)

  -- The length is right.
  module _ (right : is_wrong_length s l ≡ false) where
    whole : length l % 3 ≡ 0
    unfolding is_wrong_length
    whole = eqb-true (length l % 3) 0 (not-false _ (or_left (not (eqb (length l % 3) 0)) _ right))

    few : whole_in l ≤ 2 * count s - 5
    unfolding is_wrong_length
    few = ltb-false (2 * count s - 5) (whole_in l) (or_right (not (eqb (length l % 3) 0)) _ right)

    -- There are at most so many.
    most : whole_in l ≤ 2 * most_stations - 5
    most = omega (arith, few, fit.most)

    within : 3 * whole_in l ≤ length l
    within = omega arith

pub is_wrong_length-requires : goal.is_wrong_length-requires
is_wrong_length-requires c =
    let a = c.args in
    let s = survey a.x.now a.y.now a.z.now in
    let l = a.triangles.now in
    let e : checked s ≡ (Ok tt) = sym c.check_in_order.ensures.0 ∙ c.in_ok-check_in_order.was in
    ((fit s l e).least, (fit s l e).most)

pub returns-then-is_wrong_length : goal.returns-then-is_wrong_length
unfolding is_wrong_length
returns-then-is_wrong_length c =
    let a = c.args in
    let s = survey a.x.now a.y.now a.z.now in
    let l = a.triangles.now in
    let e : checked s ≡ (Ok tt) = sym c.check_in_order.ensures.0 ∙ c.in_ok-check_in_order.was in
    ap (λ k. Err (Mesh k)) c.counted.ensures ∙ rest s l e (wrong-length s l (sym c.is_wrong_length.ensures ∙ c.if-is_wrong_length.true))

pub is_woven-requires : goal.is_woven-requires
unfolding is_wrong_length
is_woven-requires c =
    let a = c.args in
    let s = survey a.x.now a.y.now a.z.now in
    let l = a.triangles.now in
    let e : checked s ≡ (Ok tt) = sym c.check_in_order.ensures.0 ∙ c.in_ok-check_in_order.was in
    let r : is_wrong_length s l ≡ false = sym c.is_wrong_length.ensures ∙ c.if-is_wrong_length.false in
    let o = c.check_in_order.ensures.1 c.in_ok-check_in_order.was in
    (fit s l e, ranked-length a.x.now a.y.now _ o, ranked a.x.now a.y.now _ o, most s l e r, within s l e r)

pub returns-then-is_woven : goal.returns-then-is_woven
unfolding is_wrong_length
returns-then-is_woven c =
    let a = c.args in
    let s = survey a.x.now a.y.now a.z.now in
    let l = a.triangles.now in
    let e : checked s ≡ (Ok tt) = sym c.check_in_order.ensures.0 ∙ c.in_ok-check_in_order.was in
    let r : is_wrong_length s l ≡ false = sym c.is_wrong_length.ensures ∙ c.if-is_wrong_length.false in
    rest s l e (woven-passed s l (fit s l e) r (whole s l e r) (c.is_woven.ensures c.if-is_woven.true))

pub first_wrong-requires : goal.first_wrong-requires
unfolding is_wrong_length
first_wrong-requires c =
    let a = c.args in
    let s = survey a.x.now a.y.now a.z.now in
    let l = a.triangles.now in
    let e : checked s ≡ (Ok tt) = sym c.check_in_order.ensures.0 ∙ c.in_ok-check_in_order.was in
    let r : is_wrong_length s l ≡ false = sym c.is_wrong_length.ensures ∙ c.if-is_wrong_length.false in
    (fit s l e, within s l e r)

pub overflow_cast-result : goal.overflow_cast-result
unfolding is_wrong_length
overflow_cast-result c =
    let a = c.args in
    let s = survey a.x.now a.y.now a.z.now in
    let l = a.triangles.now in
    let e : checked s ≡ (Ok tt) = sym c.check_in_order.ensures.0 ∙ c.in_ok-check_in_order.was in
    let r : is_wrong_length s l ≡ false = sym c.is_wrong_length.ensures ∙ c.if-is_wrong_length.false in
    let f = below_at (first_wrong s (supplied_in l) (supplied_in l)) (whole_in l) (sym c.first_wrong.ensures ∙ c.in-Some.is) in
    let m = most s l e r in
    record { fits = omega (arith, f.is, f.below, m) }

pub returns-in-Some : goal.returns-in-Some
unfolding is_wrong_length
returns-in-Some c =
    let a = c.args in
    let s = survey a.x.now a.y.now a.z.now in
    let l = a.triangles.now in
    let e : checked s ≡ (Ok tt) = sym c.check_in_order.ensures.0 ∙ c.in_ok-check_in_order.was in
    let r : is_wrong_length s l ≡ false = sym c.is_wrong_length.ensures ∙ c.if-is_wrong_length.false in
    let f = below_at (first_wrong s (supplied_in l) (supplied_in l)) (whole_in l) (sym c.first_wrong.ensures ∙ c.in-Some.is) in
    ap (λ (k : ℕ). Err (Mesh k)) (sym f.is) ∙ rest s l e (wrong-triangle s l (fit s l e) r f.below)

pub has_left_out-requires : goal.has_left_out-requires
unfolding is_wrong_length
has_left_out-requires c =
    let a = c.args in
    let s = survey a.x.now a.y.now a.z.now in
    let l = a.triangles.now in
    let e : checked s ≡ (Ok tt) = sym c.check_in_order.ensures.0 ∙ c.in_ok-check_in_order.was in
    let r : is_wrong_length s l ≡ false = sym c.is_wrong_length.ensures ∙ c.if-is_wrong_length.false in
    within s l e r

pub overflow_cast-result-then-has_left_out : goal.overflow_cast-result-then-has_left_out
unfolding is_wrong_length
overflow_cast-result-then-has_left_out c =
    let a = c.args in
    let s = survey a.x.now a.y.now a.z.now in
    let l = a.triangles.now in
    let e : checked s ≡ (Ok tt) = sym c.check_in_order.ensures.0 ∙ c.in_ok-check_in_order.was in
    let r : is_wrong_length s l ≡ false = sym c.is_wrong_length.ensures ∙ c.if-is_wrong_length.false in
    let m = most s l e r in
    record { fits = omega (arith, m) }

pub returns-then-has_left_out : goal.returns-then-has_left_out
unfolding is_wrong_length
returns-then-has_left_out c =
    let a = c.args in
    let s = survey a.x.now a.y.now a.z.now in
    let l = a.triangles.now in
    let e : checked s ≡ (Ok tt) = sym c.check_in_order.ensures.0 ∙ c.in_ok-check_in_order.was in
    let r : is_wrong_length s l ≡ false = sym c.is_wrong_length.ensures ∙ c.if-is_wrong_length.false in
    let w = none_wrong s l (fit s l e) r (none_at (first_wrong s (supplied_in l) (supplied_in l)) (whole_in l) (sym c.first_wrong.ensures ∙ c.in_default.is)) in
    rest s l e (left_out s l (fit s l e) r w (sym c.has_left_out.ensures ∙ c.if-has_left_out.true))

pub returns : goal.returns
unfolding is_wrong_length
returns c =
    let a = c.args in
    let s = survey a.x.now a.y.now a.z.now in
    let l = a.triangles.now in
    let e : checked s ≡ (Ok tt) = sym c.check_in_order.ensures.0 ∙ c.in_ok-check_in_order.was in
    let r : is_wrong_length s l ≡ false = sym c.is_wrong_length.ensures ∙ c.if-is_wrong_length.false in
    let w = none_wrong s l (fit s l e) r (none_at (first_wrong s (supplied_in l) (supplied_in l)) (whole_in l) (sym c.first_wrong.ensures ∙ c.in_default.is)) in
    rest s l e (all_used s l (fit s l e) r w (sym c.has_left_out.ensures ∙ c.if-has_left_out.false))
