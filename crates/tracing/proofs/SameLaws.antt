-- The lines over any records that say the same as a sound list of triangles are the lines over the list (`lines_same`), vertex for vertex
-- (`vertices_same`). Assumes nothing.
use Prim.Native.Nat.{ℕ, ◌*◌}
use native.Mathlib.Omega.{arith}
use mathlib.Core.Path.{◌≡◌, ap, ◌∙◌}
use mathlib.Core.Bool.{Bool}
use mathlib.Core.List.{List, map}
use lib.ListN.{length, get_or}
use Rattle.sweep.specs.Sweep.{Three}
use Rattle.trace.specs.Lines.{vertices, lines}
use Rattle.trace.specs.Mesh.{Sound}
use Rattle.neighbours.specs.Records.{Record, corner_of, records_of, SaySame}
use Rattle.neighbours.specs.Room.{order}
use Rattle.neighbours.proofs.RecordLaws.{records_only, list_back, records-length}
use Rattle.tracing.specs.Lines.{halves_by, lines_by}
use Rattle.tracing.specs.Scan.{no_marks}
use Rattle.tracing.specs.Tracing.{line_of, scanned_by}
use Rattle.tracing.proofs.LinkLaws.{lines_are}
use Rattle.tracing.proofs.StepLaws.{records-tell}

module _ (ts : List (Three ℕ)) (n : ℕ) (sound : Sound ts n) (below : ℕ → Bool) where
  own_lines : lines_by (records_of ts) n below ≡ lines ts below n
  own_lines =
      ap (λ us. map (line_of (corner_of (records_of ts))) (scanned_by (halves_by (records_of ts) n) below (no_marks (3 * length (records_of ts))) (length (order us n)))) (list_back ts)
      ∙ lines_are ts n sound below (halves_by (records_of ts) n) (records-tell ts) long (λ i h. ap (λ us. get_or (order us n) i 0) (list_back ts))
      (3 * length (records_of ts)) (omega (arith, long))
    where
      long : 3 * length (records_of ts) ≡ 3 * length ts
      long = ap (λ k. 3 * k) (records-length ts 0 ts)

  -- Every line comes out as from the list,
  pub lines_same : (rs : List Record) → SaySame ts rs → lines_by rs n below ≡ lines ts below n
  lines_same rs same = ap (λ x. lines_by x n below) (records_only ts sound.single rs same) ∙ own_lines

  -- vertex for vertex.
  pub vertices_same : (rs : List Record) → SaySame ts rs → vertices (lines_by rs n below) ≡ vertices (lines ts below n)
  vertices_same rs same = ap vertices (lines_same rs same)
