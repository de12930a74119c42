-- A text that is accepted says a survey in form that is fit, and every level of it is done in the program's room, so that a later level
-- can never refuse. Assumes nothing.
use mathlib.Core.Path.{◌≡◌, refl, sym, ap, ◌∙◌}
use mathlib.Core.List.{List}
use Prim.Native.Nat.{ℕ, ◌<◌}
use native.Mathlib.Omega.{arith}
use lib.IntN.{pos}
use lib.ListN.{length, get_or}
use Rattle.whole.specs.Range.{Within}
use Rattle.survey.specs.Fit.{Fit}
use Rattle.survey.specs.Limits.{most_height}
use Rattle.std.specs.Prelude.{Ok, Err, ⊤}
use Rattle.survey.specs.Answer.{Answer}
use Rattle.survey.proofs.FitLaws.{refused_not_passed, passed-fit}
use Rattle.rendering.specs.Filed.{stations}
use Rattle.rendering.specs.Form.{InForm}
use Rattle.rendering.specs.Scan.{Scanned, scanned, filed_of}
use Rattle.rendering.specs.Scan as scan
use Rattle.rendering.proofs.FormLaws.{rising, level-within}
use Rattle.rendering.proofs.TextLaws.{accepted-form}
use Rattle.text.specs.Reader.{survey_of}
use Rattle.mesh.specs.Kinds.{triangles_of}
use Rattle.mesh.proofs.KindLaws.{kind-mesh}
use Rattle.program.specs.Program.{level_answer, text_room, judged_by, judged, if_passed, block_count, block_at}
use Rattle.program.proofs.DoneLaws.{level-done}

-- Only an accepted text has blocks.
pub some-passed : (t : List ℕ) (k : ℕ) → k < block_count t → judged t ≡ (Ok tt)
some-passed t k h = go (judged t) h
  where
    go : (c : Answer ⊤) → k < if_passed (length (survey_of t).levels) c → c ≡ (Ok tt)
    go (Ok _) l = refl
    go (Err why) l = absurd (omega (arith, l))

module _ (t : List ℕ) (passed : judged t ≡ (Ok tt)) where
  pub right_in : scanned t ≡ scan.Right (survey_of t)
  unfolding judged
  right_in = go (scanned t) passed
    where
      go : (w : Scanned) → judged_by w ≡ (Ok tt) → w ≡ scan.Right (filed_of w)
      go (scan.Refused why) h = absurd (refused_not_passed h)
      go (scan.Right s) h = refl

  pub survey-fit : Fit (stations (survey_of t))
  unfolding judged
  survey-fit = passed-fit (stations (survey_of t)) (sym (ap judged_by right_in) ∙ passed)

  pub survey-form : InForm (survey_of t)
  survey-form = (accepted-form t (survey_of t) right_in).0

  pub level-range : (k : ℕ) → k < block_count t → Within most_height (get_or (survey_of t).levels k (pos 0))
  level-range k h =
      let count = ap (if_passed (length (survey_of t).levels)) passed in
      level-within (survey_of t).levels (rising (survey_of t).levels survey-form.levels-form) k (omega (arith, h, count))

-- A later level can never refuse.
pub block-done :
    (kind : ℕ) (t : List ℕ) (k : ℕ) → k < block_count t
    → level_answer (stations (survey_of t)) (triangles_of kind (stations (survey_of t))) (survey_of t).style (get_or (survey_of t).levels k (pos 0)) text_room
    ≡ Ok (length (block_at kind t k))
block-done kind t k h =
    let passed = some-passed t k h in
    let s = survey_of t in
    let fit = survey-fit t passed in
    let mesh = kind-mesh kind (stations s) fit in
    level-done (stations s) fit (triangles_of kind (stations s)) mesh s.style (get_or s.levels k (pos 0)) (level-range t passed k h) text_room
    (omega arith)
