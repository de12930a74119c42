-- The answer of the check, test by test. Assumes nothing.
use mathlib.Core.Path.{◌≡◌, ap, ◌∙◌}
use mathlib.Core.Bool.{Bool, true, false, cond, not, ◌&&◌}
use mathlib.Core.List.{List}
use Prim.Native.Nat.{ℕ, ◌≤◌, ◌<◌, ◌%◌, min}
use native.Mathlib.Omega.{arith}
use borrow.Author.Tests.{eq-eqb, ne_eqb}
use lib.ListN.{length, get_or}
use Rattle.lists.specs.Lowest.{some}
use Rattle.lists.proofs.LowestLaws.{lowest-le}
use Rattle.survey.specs.Fit.{Fit}
use Rattle.survey.specs.Survey.{Survey, count}
use Rattle.std.specs.Prelude.{Ok, Err, ⊤}
use Rattle.survey.specs.Answer.{Answer}
use Rattle.survey.specs.declared.refusal.Refusal.TheVariants.{Mesh}
use Rattle.sweep.specs.Sweep.{Three, tri}
use Rattle.neighbours.proofs.RoomLaws.{length-threes}
use Rattle.woven.specs.Accepted.{whole_in, supplied_in, is_wrong_length, first_wrong, is_faultless, is_unused, is_accepted, wrong_at, accepted_after}
use Rattle.woven.specs.Woven.{Woven}
use Rattle.woven.proofs.FaultlessLaws.{first_wrong_is}
use Rattle.woven.proofs.WovenLaws.{woven-mesh}
use Rattle.woven.proofs.AcceptedLaws.{accepted_is, accepted-mesh}

module _ (s : Survey) (l : List ℕ) where
  abbrev answered : Bool → ℕ → Answer ⊤
  answered accepted at = cond accepted (Ok tt) (Err (Mesh at))

  pub wrong-length : is_wrong_length s l ≡ true → accepted_after s l (Ok tt) ≡ Err (Mesh (min (whole_in l) 4294967295))
  unfolding is_accepted wrong_at
  wrong-length e = rw e

  module _ (fit : Fit s) (right : is_wrong_length s l ≡ false) where
    abbrev ts : List (Three ℕ)
    ts = supplied_in l

    -- 9 with the first wrong triangle, or with their count.
    refused : is_accepted s l ≡ false → accepted_after s l (Ok tt) ≡ Err (Mesh (first_wrong s ts ts))
    unfolding wrong_at
    refused e = rw (e, right)

    pub wrong-triangle : first_wrong s ts ts < whole_in l → accepted_after s l (Ok tt) ≡ Err (Mesh (first_wrong s ts ts))
    wrong-triangle h =
        refused
        (accepted_is s fit l right
        ∙ ap (λ b. b && not (some (is_unused s ts) (count s))) (ne_eqb (first_wrong s ts ts) (whole_in l) (λ e. omega (arith, e))))

    -- A search that finds none wrong has come to their count.
    pub none_wrong : whole_in l ≤ first_wrong s ts ts → first_wrong s ts ts ≡ whole_in l
    none_wrong h =
        let p : ℕ → Bool = λ k. not (is_faultless s ts (get_or ts k (tri 0 0 0))) in
        let most : first_wrong s ts ts ≤ length ts = rw (first_wrong_is s ts ts) (lowest-le p (length ts)) in
        omega (arith, h, most, length-threes (whole_in l) l)

    module _ (none : first_wrong s ts ts ≡ whole_in l) where
      decided : {b : Bool} → some (is_unused s ts) (count s) ≡ b → is_accepted s l ≡ not b
      decided e = accepted_is s fit l right ∙ (λ i. eq-eqb (first_wrong s ts ts) (whole_in l) none i && not (e i))

      pub left_out : some (is_unused s ts) (count s) ≡ true → accepted_after s l (Ok tt) ≡ Err (Mesh (whole_in l))
      left_out e = refused (decided e) ∙ ap (λ k. Err (Mesh k)) none

      pub all_used : some (is_unused s ts) (count s) ≡ false → accepted_after s l (Ok tt) ≡ (Ok tt)
      all_used e = ap (λ b. answered b (wrong_at s l)) (decided e)

    pub woven-passed : length l % 3 ≡ 0 → Woven s ts → accepted_after s l (Ok tt) ≡ (Ok tt)
    woven-passed whole w = ap (λ b. answered b (wrong_at s l)) ((accepted-mesh s fit l).1 (omega (arith, whole), woven-mesh s fit ts w))
