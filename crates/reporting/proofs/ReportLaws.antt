-- The report of an accepted survey is a right served=1 text: that of the values of its style and its levels' figures, to which it is read back
-- (`report-right`, `report-read`). So its levels rise, and there are 1 to 64 of them. Piece by piece it is what the programs write (`pieces`).
-- Assumes nothing.
use mathlib.Core.Path.{◌≡◌, refl, sym, ap, ◌∙◌}
use mathlib.Core.Bool.{true, false}
use mathlib.Core.List.{List, [], ◌∷◌, ◌++◌}
use Prim.Native.Nat.{ℕ, ◌-◌, ◌<◌}
use native.Mathlib.Omega.{arith}
use lib.ListN.{length}
use Rattle.lists.specs.Rows.{rows}
use Rattle.forms.specs.Form.{right, read_by}
use Rattle.forms.specs.Written.{Ranged}
use Rattle.forms.proofs.FormLaws.{ranged-read}
use Rattle.survey.specs.Limits.{most_levels, most_ground}
use Rattle.std.specs.Prelude.{Ok}
use Rattle.formats.specs.Lines.{told, least_height, served_line, ground_line, unserved_line}
use Rattle.formats.specs.Reports.{ground, grounds, served1, block}
use Rattle.formats.proofs.FormatLaws.{served1-sound}
use Rattle.rendering.specs.Filed.{Filed, stations}
use Rattle.text.specs.Reader.{survey_of}
use Rattle.mesh.specs.Kinds.{triangles_of}
use Rattle.mesh.proofs.KindLaws.{kind-mesh}
use Rattle.parcels.specs.Served.{served_of, unserved_of}
use Rattle.contour.proofs.WrittenLaws.{Says}
use Rattle.report.specs.Report.{heading_of, block_of}
use Rattle.report.proofs.RangedLaws.{block-ranged}
use Rattle.program.specs.Program.{text_room, judged, any_opening, if_passed, block_count}
use Rattle.program.proofs.AcceptedLaws.{survey-fit, survey-form, level-range}
use Rattle.program.proofs.ChainLaws.{end-joined, line-joined, heading-joined, Chain, level_then, Blocks, level_at, all_blocks}
use Rattle.program.proofs.ProgramLaws.{in_pieces}
use Rattle.reporting.specs.Reporting.{figures_at, report_by, report_text}
use Rattle.reporting.proofs.FigureLaws.{figures-done}

report-chain : Chain ground grounds
unfolding grounds
report-chain =
    record {
      joins = λ rest ws t says. line-joined ws t (ground_line most_ground) _ _ (λ s. line-joined ws t (unserved_line most_ground) _ _ (λ u. end-joined ws t rest says));
      none = λ least. refl;
      some = λ m least. refl;
    }

module _ (kind : ℕ) (s : Filed) where
  -- The two figures of level k.
  abbrev figure_values : ℕ → List ℕ
  figure_values k =
      let S = stations s in
      let ts = triangles_of kind S in
      served_of S ts s.style (level_at s k) ∷ unserved_of S ts s.style (level_at s k) ∷ []

  -- 'served=1, style', then the levels with their figures.
  abbrev pub report_values : List ℕ
  report_values = 1 ∷ s.style ∷ rows (λ k. told (level_at s k) ∷ figure_values k) (length s.levels)

module _ (kind : ℕ) (t : List ℕ) where
  pub pieces : report_text kind t ≡ any_opening true t ++ rows (figures_at kind t) (block_count t)
  unfolding report_text
  pieces = in_pieces true (figures_at kind t) (survey_of t) (report_by kind (survey_of t)) refl (λ why. refl) (judged t)

  module _ (passed : judged t ≡ (Ok tt)) where
    abbrev s : Filed
    s = survey_of t

    figures-ranged : (k : ℕ) → k < length s.levels → Ranged block (told (level_at s k) ∷ figure_values kind s k)
    figures-ranged k h =
        let S = stations s in
        let fit = survey-fit t passed in
        let count = ap (if_passed (length s.levels)) passed in
        let w = level-range t passed k (omega (arith, h, count)) in
        block-ranged (level_at s k) _ _ text_room _ (figures-done S fit (triangles_of kind S) (kind-mesh kind S fit) s.style (level_at s k) w text_room (omega arith))

    blocks : Blocks ground grounds (level_then ground grounds false (most_levels - 1) least_height) (λ k. told (level_at s k)) (figure_values kind s) (length s.levels)
    blocks = all_blocks report-chain t passed (figure_values kind s) figures-ranged

    pub report-right : Says served1 (report_values kind s) (report_text kind t)
    unfolding report_text heading_of block_of
    report-right =
        let style = (survey-form t passed).style-range in
        let j = heading-joined _ _ served_line _ blocks (1 ∷ s.style ∷ []) ((omega arith, omega arith), (style, tt)) in
        (j.0, j.1 ∙ sym (ap (report_by kind s) passed))

    pub report-read : read_by served1 (report_text kind t) ≡ right (report_values kind s)
    report-read =
        let r = report-right in
        ap (read_by served1) (sym r.1) ∙ ranged-read served1 (report_values kind s) served1-sound r.0
