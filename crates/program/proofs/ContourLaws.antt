-- The contour text of an accepted survey is a right contours=1 text: that of the values of its style and its blocks, to which it is read
-- back (`contour-right`, `contour-read`). So its levels rise, and there are 1 to 64 of them. Assumes nothing.
use mathlib.Core.Path.{◌≡◌, refl, sym, ap, ◌∙◌}
use mathlib.Core.Bool.{false}
use mathlib.Core.List.{List, [], ◌∷◌}
use Prim.Native.Nat.{ℕ, zero, suc, ◌-◌}
use native.Mathlib.Omega.{arith}
use lib.ListN.{length}
use Rattle.lists.specs.Rows.{rows}
use Rattle.forms.specs.Form.{Form, end, right, read_by}
use Rattle.forms.proofs.FormLaws.{ranged-read}
use Rattle.survey.specs.Limits.{most_stations, most_levels}
use Rattle.survey.specs.Rooms.{vertex_room, record_room}
use Rattle.std.specs.Prelude.{Ok}
use Rattle.formats.specs.Lines.{told, least_height, contours_line, x_line, y_line, lines_line, kind_line, vertices_line}
use Rattle.formats.specs.Surveys.{plain}
use Rattle.formats.specs.Contours.{most_spot, vertices, drawn, from_lines, further, contours1}
use Rattle.formats.proofs.FormatLaws.{contours1-sound}
use Rattle.rendering.specs.Filed.{Filed, stations}
use Rattle.text.specs.Reader.{survey_of}
use Rattle.trace.specs.Lines.{records}
use Rattle.mesh.specs.Kinds.{triangles_of}
use Rattle.spots.specs.Lines.{lines_of}
use Rattle.contour.specs.Contour.{heading_of, lines_of as line_values, block_of}
use Rattle.contour.proofs.RangedLaws.{block-ranged}
use Rattle.contour.proofs.WrittenLaws.{Says}
use Rattle.program.specs.Program.{xs_at, ys_at, text_room, judged, if_passed, text_by, contour_text}
use Rattle.program.proofs.AcceptedLaws.{survey-form, block-done}
use Rattle.program.proofs.ChainLaws.{Joined, end-joined, line-joined, heading-joined, Chain, level_then, Blocks, level_at, all_blocks}

module _ (rest : Form) (ws t : List ℕ) (says : Says rest ws t) where
  vertices-joined : (n : ℕ) (A B : Form) → Joined ws t A B → Joined ws t (vertices plain n A) (vertices plain n B)
  unfolding vertices
  vertices-joined zero A B j = j
  vertices-joined (suc n) A B j =
      line-joined ws t (x_line most_spot) _ _ (λ x. line-joined ws t (y_line most_spot) _ _ (λ y. vertices-joined n A B j))

  drawn-joined : (n left : ℕ) → Joined ws t (drawn plain n left end) (drawn plain n left rest)
  unfolding drawn
  drawn-joined zero left = end-joined ws t rest says
  drawn-joined (suc n) left =
      line-joined ws t kind_line _ _ (λ k. line-joined ws t (vertices_line k left) _ _ (λ v. vertices-joined v _ _ (drawn-joined n (left - v))))

  lines-joined : Joined ws t (from_lines plain end) (from_lines plain rest)
  lines-joined = line-joined ws t (lines_line (record_room most_stations)) _ _ (λ n. drawn-joined n (vertex_room most_stations))

contour-chain : Chain (from_lines plain) (further plain)
unfolding further
contour-chain = record { joins = lines-joined; none = λ least. refl; some = λ m least. refl }

module _ (kind : ℕ) (s : Filed) where
  -- How many lines level k has, and the values of each.
  abbrev lines_at : ℕ → List ℕ
  lines_at k =
      let S = stations s in
      let ts = triangles_of kind S in
      let R = records (lines_of S ts (level_at s k)) in
      length R ∷ rows (line_values R (xs_at S ts s.style (level_at s k)) (ys_at S ts s.style (level_at s k))) (length R)

  -- 'contours=1 / style', then the levels with their lines.
  abbrev pub contour_values : List ℕ
  contour_values = 1 ∷ s.style ∷ rows (λ k. told (level_at s k) ∷ lines_at k) (length s.levels)

module _ (kind : ℕ) (t : List ℕ) (passed : judged t ≡ (Ok tt)) where
  abbrev s : Filed
  s = survey_of t

  blocks : Blocks (from_lines plain) (further plain) (level_then (from_lines plain) (further plain) false (most_levels - 1) least_height)
      (λ k. told (level_at s k)) (lines_at kind s) (length s.levels)
  blocks =
      let count = ap (if_passed (length s.levels)) passed in
      all_blocks contour-chain t passed (lines_at kind s) (λ k h. block-ranged _ _ _ _ text_room _ (block-done kind t k (omega (arith, h, count))))

  pub contour-right : Says contours1 (contour_values kind s) (contour_text kind t)
  unfolding contour_text heading_of block_of
  contour-right =
      let style = (survey-form t passed).style-range in
      let j = heading-joined _ _ (contours_line 1) _ blocks (1 ∷ s.style ∷ []) ((omega arith, omega arith), (style, tt)) in
      (j.0, j.1 ∙ sym (ap (text_by kind s) passed))

  pub contour-read : read_by contours1 (contour_text kind t) ≡ right (contour_values kind s)
  contour-read =
      let c = contour-right in
      ap (read_by contours1) (sym c.1) ∙ ranged-read contours1 (contour_values kind s) contours1-sound c.0
