-- The refusals that can come after a read: 3 and 4 from the checks, 7 and 8 from the reader. Assumes nothing.
--
-- What the reader refuses is 7 or 8. What is read is counted and in range, so the checks get past 1 and 2. There is
-- room for the largest survey, which is what 6 asks, and 5 is asked by no check.
use mathlib.Core.Path.{◌≡◌, refl, sym, ap, ◌∙◌}
use mathlib.Core.Bool.{Bool, true, false, cond}
use mathlib.Core.List.{List}
use mathlib.Core.Logic.{◌⊎◌, inl, inr}
use Prim.Native.Nat.{ℕ, ◌<◌}
use native.Mathlib.Omega.{arith}
use borrow.Author.Tests.{eq-eqb, le-leb, le-ltb}
use lib.Dec.{ltb}
use Rattle.lists.specs.Lowest.{lowest}
use Rattle.lists.proofs.LowestLaws.{lowest_none}
use Rattle.survey.specs.Checks.{is_counted, is_out_of_range, is_repeat, is_one_line, checked}
use Rattle.survey.specs.Refusals.{number_of}
use Rattle.survey.specs.Survey.{Survey, count}
use Rattle.std.specs.Prelude.{Ok, Err, ⊤}
use Rattle.survey.specs.Answer.{Answer}
use Rattle.survey.specs.declared.refusal.Refusal.{Refusal}
use Rattle.survey.specs.declared.refusal.Refusal.TheVariants.{SamePlace, OneLine}
use Rattle.survey.proofs.FitLaws.{refused_not_passed}
use Rattle.survey.proofs.CheckLaws.{range_in}
use Rattle.rendering.specs.Filed.{Filed, stations}
use Rattle.rendering.specs.Form.{InForm}
use Rattle.rendering.specs.Scan.{Scanned, scanned}
use Rattle.rendering.specs.Scan as scan
use Rattle.rendering.proofs.TextLaws.{accepted-form, refused_so}
use Rattle.program.specs.Program.{judged_by, judged}

-- A refusal of the checks, after a read, is 3 or 4.
abbrev number_in : Answer ⊤ → ℕ
number_in (Ok _) = 0
number_in (Err why) = number_of why

of_checks : (s : Filed) → InForm s → (why : Refusal) → checked (stations s) ≡ Err why → (number_of why ≡ 3) ⊎ (number_of why ≡ 4)
unfolding checked
of_checks s f why h = go (ltb same (count S)) (is_one_line S) (sym past ∙ h)
  where
    S : Survey
    S = stations s

    same : ℕ
    same = lowest (is_repeat S) (count S)

    counted : is_counted S ≡ true
    counted = simp (eq-eqb _ _ f.ys-count, eq-eqb _ _ f.zs-count, le-leb _ _ f.least, le-leb _ _ f.most)

    in_range : (k : ℕ) → k < count S → is_out_of_range S k ≡ false
    in_range k l = range_in S k (record { x = f.x-range k l; y = f.y-range k l; z = f.z-range k l })

    ranged : ltb (lowest (is_out_of_range S) (count S)) (count S) ≡ false
    ranged =
        le-ltb (lowest (is_out_of_range S) (count S)) (count S)
        (omega (arith, lowest_none (is_out_of_range S) (count S) in_range))

    past : checked S ≡ cond (ltb same (count S)) (Err (SamePlace same)) (cond (is_one_line S) (Err OneLine) (Ok tt))
    past = rw (counted, ranged) refl

    go : (a b : Bool) → ◌≡◌ {A = Answer ⊤} (cond a (Err (SamePlace same)) (cond b (Err OneLine) (Ok tt))) (Err why) → (number_of why ≡ 3) ⊎ (number_of why ≡ 4)
    go true b e = inl (sym (ap number_in e))
    go false true e = inr (sym (ap number_in e))
    go false false e = absurd (refused_not_passed (sym e))

pub refused-numbers :
    (t : List ℕ) (why : Refusal) → judged t ≡ Err why
    → (number_of why ≡ 3) ⊎ ((number_of why ≡ 4) ⊎ ((number_of why ≡ 7) ⊎ (number_of why ≡ 8)))
unfolding judged
refused-numbers t why h = go (scanned t) refl h
  where
    Result : Type 0
    Result = (number_of why ≡ 3) ⊎ ((number_of why ≡ 4) ⊎ ((number_of why ≡ 7) ⊎ (number_of why ≡ 8)))

    of_reader : (other : Refusal) → (number_of other ≡ 7) ⊎ (number_of other ≡ 8) → ◌≡◌ {A = Answer ⊤} (Err other) (Err why) → Result
    of_reader other (inl a) e = inr (inr (inl (sym (ap number_in e) ∙ a)))
    of_reader other (inr a) e = inr (inr (inr (sym (ap number_in e) ∙ a)))

    of_survey : (number_of why ≡ 3) ⊎ (number_of why ≡ 4) → Result
    of_survey (inl a) = inl a
    of_survey (inr a) = inr (inl a)

    go : (w : Scanned) → scanned t ≡ w → judged_by w ≡ Err why → Result
    go (scan.Refused other) q e = of_reader other (refused_so t other q) e
    go (scan.Right s) q e = of_survey (of_checks s (accepted-form t s q).0 why e)
