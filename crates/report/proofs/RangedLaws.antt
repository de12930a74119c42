-- What is written is right: the values of a heading and of a block that is done are in their ranges, so that their text is read back to them.
-- Assumes nothing.
use mathlib.Core.Path.{◌≡◌}
use mathlib.Core.List.{[], ◌∷◌}
use Prim.Native.Nat.{ℕ}
use native.Mathlib.Omega.{arith}
use borrow.Author.Tests.{leb-true}
use lib.IntN.{ℤ}
use Rattle.forms.specs.Form.{end, right, read_by}
use Rattle.forms.specs.Written.{Ranged, SoundForm}
use Rattle.forms.proofs.FormLaws.{ranged-read}
use Rattle.survey.specs.declared.refusal.Refusal.TheVariants.{Number}
use Rattle.std.specs.Prelude.{Ok}
use Rattle.formats.specs.Lines.{told, is_style}
use Rattle.formats.specs.Reports.{heading, block}
use Rattle.formats.proofs.FormatLaws.{ground-sound, served1-sound}
use Rattle.formats.proofs.ToldLaws.{told-range}
use Rattle.contour.proofs.RangedLaws.{first_done, second-done}
use Rattle.report.specs.Report.{heading_of, block_values, block_of}
use Rattle.report.specs.Writer.{is_outside, heading_answer, block_answer}
use Rattle.report.proofs.LevelLaws.{inside}

-- A block that is done has values in their ranges, and is read back to them.
module _ (level : ℤ) (served unserved room bytes : ℕ) (done : block_answer level served unserved room ≡ Ok bytes) where
  pub block-ranged : Ranged block (block_values (told level) served unserved)
  unfolding block_answer
  block-ranged =
      let near = inside level served unserved (second-done (is_outside level served unserved) Number _ bytes done).0 in
      (told-range level near.0, ((omega arith, near.1), ((omega arith, near.2), tt)))

  pub block_read : read_by block (block_of level served unserved) ≡ right (block_values (told level) served unserved)
  unfolding block_of
  block_read =
      let sound : SoundForm block = (((served1-sound.1 0).1 0).0, λ v. ground-sound end tt) in
      ranged-read block (block_values (told level) served unserved) sound block-ranged

-- So has and is a heading.
module _ (style room bytes : ℕ) (done : heading_answer style room ≡ Ok bytes) where
  pub heading-ranged : Ranged heading (1 ∷ style ∷ [])
  unfolding heading_answer
  heading-ranged = ((omega arith, omega arith), (leb-true style 1 (first_done (is_style style) Number _ bytes done), tt))

  pub heading-read : read_by heading (heading_of style) ≡ right (1 ∷ style ∷ [])
  unfolding heading_of
  heading-read =
      let sound : SoundForm heading = (served1-sound.0, λ e. ((served1-sound.1 0).0, λ s. tt)) in
      ranged-read heading (1 ∷ style ∷ []) sound heading-ranged
