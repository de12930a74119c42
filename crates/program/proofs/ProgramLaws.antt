-- What is written piece by piece is the text of the program. Assumes nothing.
use mathlib.Core.Bool.{Bool, false}
use mathlib.Core.Path.{◌≡◌, refl, sym, ap, ◌∙◌}
use mathlib.Core.List.{List, ◌++◌, append-nil}
use Prim.Native.Nat.{ℕ}
use lib.ListN.{length}
use Rattle.std.specs.Prelude.{Ok, Err, ⊤}
use Rattle.survey.specs.Answer.{Answer}
use Rattle.survey.specs.declared.refusal.Refusal.{Refusal}
use Rattle.lists.specs.Rows.{rows}
use Rattle.rendering.specs.Filed.{Filed}
use Rattle.text.specs.Reader.{survey_of}
use Rattle.program.specs.Program.{judged, refused_text, heading_by, opening, any_opening_by, if_passed, block_count, block_at, text_by, contour_text}
use Rattle.program.proofs.OpeningLaws.{contour_opening}

-- A refusal is the opening alone; else the opening is the heading, and every block follows.
pub in_pieces : (report : Bool) (block : ℕ → List ℕ) (s : Filed) (text : Answer ⊤ → List ℕ)
    → text (Ok tt) ≡ heading_by report s.style ++ rows block (length s.levels) → ((why : Refusal) → text (Err why) ≡ refused_text why)
    → (c : Answer ⊤) → text c ≡ any_opening_by report s.style c ++ rows block (if_passed (length s.levels) c)
in_pieces report block s text e r (Ok _) = e
in_pieces report block s text e r (Err why) = r why ∙ sym (append-nil (refused_text why))

-- So it is of contour text.
pub pieces : (kind : ℕ) (t : List ℕ) → contour_text kind t ≡ opening t ++ rows (block_at kind t) (block_count t)
unfolding contour_text
pieces kind t =
    in_pieces false (block_at kind t) (survey_of t) (text_by kind (survey_of t)) refl (λ why. refl) (judged t)
    ∙ ap (λ (o : List ℕ). o ++ rows (block_at kind t) (block_count t)) (contour_opening t)
