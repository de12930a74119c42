-- The text of a survey is its lines one after another, those of the stations and of the levels as rows. Assumes nothing.
use mathlib.Core.Path.{◌≡◌, refl, sym}
use mathlib.Core.List.{List, [], ◌∷◌, ◌++◌, append_assoc}
use Prim.Native.Nat.{ℕ, zero, suc}
use lib.IntN.{pos}
use lib.ListN.{length, get_or}
use Rattle.lists.specs.Rows.{rows}
use Rattle.lists.specs.Table.{table}
use Rattle.shapes.specs.Bytes.{value_bytes, line_bytes}
use Rattle.forms.specs.Form.{Form}
use Rattle.forms.specs.Written.{written}
use Rattle.formats.specs.Lines.{told, least_height, survey_line, style_line, points_line, levels_line, level_line}
use Rattle.formats.specs.Surveys.{above, level_lines, level_list, stations, plain}
use Rattle.rendering.specs.Filed.{Filed, count, tag_number}
use Rattle.rendering.specs.Values.{values_of, level_value}
use Rattle.rendering.specs.Rendering.{rendered}
use Rattle.rendering.specs.Lines.{row_text, station_text, level_text}
use Rattle.rendering.proofs.ListLaws.{table_first, rows_first}

-- Line by line, from the first station or level on. What a level line holds does not depend on the least level.
stations-written : (rest : Form) (t x y z : ℕ → ℕ) (n : ℕ) (used tail : List ℕ)
    → written (stations plain rest n used) (rows (λ i. t i ∷ x i ∷ y i ∷ z i ∷ []) n ++ tail)
    ≡ rows (λ i. row_text (t i) (x i) (y i) (z i)) n ++ written rest tail
unfolding stations written
stations-written rest t x y z zero used tail = refl
stations-written rest t x y z (suc n) used tail =
    let more = stations-written rest (λ i. t (suc i)) (λ i. x (suc i)) (λ i. y (suc i)) (λ i. z (suc i)) n (used ++ (t 0 ∷ [])) tail in
    rw (rows_first (λ i. t i ∷ x i ∷ y i ∷ z i ∷ []) n, rows_first (λ i. row_text (t i) (x i) (y i) (z i)) n, more) (sym (simp append_assoc))

levels-written : (f : ℕ → ℕ) (m least : ℕ) → written (level_lines m least) (table f m) ≡ rows (λ k. line_bytes (level_line least_height) (f k)) m
unfolding level_lines written value_bytes
levels-written f zero least = refl
levels-written f (suc m) least =
    let more = levels-written (λ k. f (suc k)) m (above (f 0)) in
    rw (table_first f m, rows_first (λ k. line_bytes (level_line least_height) (f k)) m, more)

-- The lines of all stations, and of all levels.
abbrev pub stations_text : Filed → List ℕ
stations_text s = rows (station_text s.tags s.xs s.ys s.zs) (count s)

abbrev pub levels_text : Filed → List ℕ
levels_text s = rows (level_text s.levels) (length s.levels)

pub rendered-lines : (s : Filed) → rendered s
    ≡ line_bytes (survey_line 1) 1
    ++ (line_bytes style_line s.style
    ++ (line_bytes points_line (count s) ++ (stations_text s ++ (line_bytes levels_line (length s.levels) ++ levels_text s))))
unfolding rendered values_of written station_text level_text
rendered-lines s =
    let m = length s.levels in
    rw (
      stations-written level_list (tag_number s.tags) (λ i. get_or s.xs i 0) (λ i. get_or s.ys i 0) (λ i. told (get_or s.zs i (pos 0))) (count s) []
          (m ∷ table (level_value s) m),
      levels-written (level_value s) m least_height,
    )
