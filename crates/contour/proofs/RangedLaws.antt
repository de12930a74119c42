-- What is written is right: the values of a heading and of a block that is done are in their ranges, so that their text is read back to them.
-- Assumes nothing.
use mathlib.Core.Path.{◌≡◌, refl, ap}
use mathlib.Core.Bool.{Bool, true, false, cond, not, false≢true}
use mathlib.Core.List.{List, [], ◌∷◌}
use Prim.Native.Nat.{ℕ}
use native.Mathlib.Omega.{arith}
use borrow.Author.Tests.{leb-true, not-false}
use lib.IntN.{ℤ}
use Rattle.forms.specs.Form.{end, right, read_by}
use Rattle.forms.specs.Written.{Ranged, SoundForm}
use Rattle.forms.proofs.FormLaws.{ranged-read}
use Rattle.survey.specs.declared.refusal.Refusal.{Refusal}
use Rattle.survey.specs.declared.refusal.Refusal.TheVariants.{Count, Number}
use Rattle.std.specs.Prelude.{Ok, Err}
use Rattle.survey.specs.Answer.{Answer}
use Rattle.formats.specs.Lines.{told, is_style}
use Rattle.formats.specs.Surveys.{plain}
use Rattle.formats.specs.Contours.{heading, block}
use Rattle.formats.proofs.FormatLaws.{lines-sound, contours1-sound}
use Rattle.formats.proofs.ToldLaws.{told-range}
use Rattle.contour.specs.Contour.{heading_of, block_values, block_of}
use Rattle.contour.specs.Writer.{is_listed, is_outside, heading_answer, block_answer}
use Rattle.contour.proofs.LevelLaws.{inside}
use Rattle.contour.proofs.WrittenLaws.{lines-said}
use Rattle.contour.proofs.AnswerLaws.{listed}

abbrev is_done : Answer ℕ → Bool
is_done (Ok bytes) = true
is_done (Err why) = false

-- Done is no refusal: of a choice between the two it is the other.
pub second-done : (t : Bool) (why : Refusal) (w : Answer ℕ) (bytes : ℕ) → cond t (Err why) w ≡ Ok bytes → (t ≡ false) × (w ≡ Ok bytes)
second-done true why w bytes e = absurd (false≢true (ap is_done e))
second-done false why w bytes e = (refl, e)

pub first_done : (t : Bool) (why : Refusal) (w : Answer ℕ) (bytes : ℕ) → cond t w (Err why) ≡ Ok bytes → t ≡ true
first_done true why w bytes e = refl
first_done false why w bytes e = absurd (false≢true (ap is_done e))

-- A block that is done has values in their ranges, and is read back to them.
module _ (level : ℤ) (records xs ys : List ℕ) (room bytes : ℕ) (done : block_answer level records xs ys room ≡ Ok bytes) where
  pub block-ranged : Ranged block (block_values (told level) records xs ys)
  unfolding block_answer
  block-ranged =
      let lists = second-done (not (is_listed records xs ys)) Count _ bytes done in
      let within = second-done (is_outside level xs ys) Number _ bytes lists.1 in
      let l = listed records xs ys (not-false _ lists.0) in
      let near = inside level xs ys within.0 in
      (told-range level near.0, ((omega arith, l.records-most), (lines-said records xs ys l near.1 near.2).0))

  pub block_read : read_by block (block_of level records xs ys) ≡ right (block_values (told level) records xs ys)
  unfolding block_of
  block_read =
      let sound : SoundForm block = (((contours1-sound.1 0).1 0).0, λ v. lines-sound plain (λ f a. a) end tt) in
      ranged-read block (block_values (told level) records xs ys) sound block-ranged

-- So has and is a heading.
module _ (style room bytes : ℕ) (done : heading_answer style room ≡ Ok bytes) where
  pub heading-ranged : Ranged heading (1 ∷ style ∷ [])
  unfolding heading_answer
  heading-ranged = ((omega arith, omega arith), (leb-true style 1 (first_done (is_style style) Number _ bytes done), tt))

  pub heading-read : read_by heading (heading_of style) ≡ right (1 ∷ style ∷ [])
  unfolding heading_of
  heading-read =
      let sound : SoundForm heading = (contours1-sound.0, λ e. ((contours1-sound.1 0).0, λ s. tt)) in
      ranged-read heading (1 ∷ style ∷ []) sound heading-ranged
