-- The lines of a level over records, from neighbour to neighbour, without a search: one half-side for each side is in order. Assumes nothing.
use Rattle.std.specs.Prelude.{Bool, List, map, ℕ, ◌*◌, length, get_or}
use Rattle.trace.specs.Lines.{Line}
use Rattle.neighbours.specs.Records.{Record, list_of, corner_of, across_of}
use Rattle.neighbours.specs.Room.{order}
use Rattle.tracing.specs.Scan.{no_marks}
use Rattle.tracing.specs.Tracing.{Halves, line_of, scanned_by}

-- The mesh that records on stations below n tell.
abbrev pub halves_by : List Record → ℕ → Halves
halves_by rs n = record { corner = corner_of rs; across = across_of rs; half = λ i. get_or (order (list_of rs) n) i 0; steps = 3 * length rs }

abbrev pub lines_by : List Record → ℕ → (ℕ → Bool) → List Line
lines_by rs n below =
    map (line_of (corner_of rs)) (scanned_by (halves_by rs n) below (no_marks (3 * length rs)) (length (order (list_of rs) n)))
