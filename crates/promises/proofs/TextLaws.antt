-- Demand 2, of survey text. Assumes nothing.
--
-- A text that is read is that of a survey in form, a survey that is written is in form, and of such a survey the text says the survey
-- itself (`said-survey`).
use mathlib.Core.Path.{◌≡◌, sym, ap, ◌∙◌, subst}
use mathlib.Core.List.{List}
use Prim.Native.Nat.{ℕ, ◌≤◌}
use lib.ListN.{length}
use Rattle.text.specs.Reader.{survey_of}
use Rattle.rendering.specs.Filed.{Filed}
use Rattle.rendering.specs.Scan.{filed_of}
use Rattle.rendering.specs.Form.{InForm}
use Rattle.rendering.specs.Rendering.{rendered}
use Rattle.rendering.proofs.TextLaws.{form-accepted, rendered_one, tag_one}
use Rattle.promises.specs.Outcomes.{outcome, outcome_of, over, ReadLent, holding, read_call, write_call}
use Rattle.promises.specs.Text.{Houses, Text}
use Rattle.promises.proofs.AcceptsLaws.{accepts_all, accepts_only}
use Rattle.promises.proofs.OutcomeLaws.{done-outcome}

-- The text of a survey in form says the survey itself.
said-survey : (s : Filed) → InForm s → survey_of (rendered s) ≡ s
said-survey s F = ap filed_of (form-accepted s F)

-- A survey in form is written as its text.
written : (s : Filed) → InForm s → (room : List ℕ) → length (rendered s) ≤ length room
    → outcome_of (write_call s room) ≡ outcome 0 (length (rendered s)) (over (rendered s) room)
written s F room h = done-outcome (write_call s room) (accepts_all.write s F room h)

read_back : (t : List ℕ) (old : ReadLent) → (outcome_of (read_call t old)).number ≡ 0 → (room : List ℕ) → length t ≤ length room
    → outcome_of (write_call (survey_of t) room) ≡ outcome 0 (length t) (over t room)
read_back t old h room l =
    let form = accepts_only.read t old h in
    let s : Filed = form.0 in
    let F : InForm s = form.1 in
    let e : rendered s ≡ t = form.2 in
    ap (λ u. outcome_of (write_call u room)) (ap survey_of (sym e) ∙ said-survey s F)
    ∙ written s F room (subst (λ (w : List ℕ). length w ≤ length room) (sym e) l)
    ∙ ap (λ (w : List ℕ). outcome 0 (length w) (over w room)) e

written_back : (s : Filed) (room : List ℕ) → (outcome_of (write_call s room)).number ≡ 0 → (old : ReadLent) → Houses s old
    → outcome_of (read_call (rendered s) old) ≡ outcome 0 s.style (holding s old)
written_back s room h old houses =
    let F = (accepts_only.write s room h).0 in
    done-outcome (read_call (rendered s) old) (accepts_all.read s F old houses)
    ∙ ap (λ (u : Filed). outcome 0 u.style (holding u old)) (said-survey s F)

pub text : Text
text =
    record {
      read_back = read_back;
      written_back = written_back;
      one_text = λ s u a b h k e. rendered_one s u (accepts_only.write s a h).0 (accepts_only.write u b k).0 e;
      tags = tag_one;
    }
