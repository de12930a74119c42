-- What a survey's text says, or its first fault: document 01, "Text". Assumes nothing.
use Rattle.std.specs.Prelude.{cond, ◌≡◌, List, [], ℕ, suc, ◌≤◌, ◌<◌, eqb, length}
use Rattle.survey.specs.Limits.{most_text}
use Rattle.survey.specs.Refusals.{number_of, carried_by}
use Rattle.survey.specs.declared.refusal.Refusal.{Refusal}
use Rattle.survey.specs.declared.refusal.Refusal.TheVariants.{Form, TagUsed}
use Rattle.forms.specs.Form.{Read, right, fault}
use Rattle.forms.specs.Limit.{text_by}
use Rattle.forms.specs.Lines.{Begins, Opens, Reason}
use Rattle.formats.specs.Surveys.{survey1}
use Rattle.rendering.specs.Filed.{Filed, filed}
use Rattle.rendering.specs.Values.{filed_by}

pub data Scanned : Type 0 where
  Right : Filed → Scanned
  Refused : Refusal → Scanned

-- 7 or 8 at a line.
abbrev pub fault_by : ℕ → ℕ → Refusal
fault_by number line = cond (eqb number 8) (TagUsed line) (Form line)

abbrev pub scanned_by : Read → Scanned
scanned_by (right vs) = Right (filed_by vs)
scanned_by (fault number line) = Refused (fault_by number line)

-- 'Text is at most 65,535 bytes; longer is 7 with line 0.'
unfoldable pub scanned : List ℕ → Scanned
scanned t = scanned_by (text_by most_text survey1 t)

-- The survey of a right text.
abbrev pub filed_of : Scanned → Filed
filed_of (Right s) = s
filed_of (Refused why) = filed 0 [] [] [] [] []

-- ---- why a text is not right

abbrev pub TooLong : List ℕ → Refusal → Type 0
TooLong t why = (most_text < length t) × (why ≡ Form 0)

-- The refusal carries the first line not as expected: each line before it is right by those before it, it is not, and no right text has the
-- lines up to it. 8 is at a line that is right but for its tag, which is used.
abbrev pub FirstWrong : List ℕ → Refusal → Type 0
FirstWrong t why =
    (length t ≤ most_text) × (k : ℕ) × (carried_by why ≡ suc k) × Opens survey1 k t (Reason (number_of why)) × (Begins survey1 (suc k) t → ⊥)
