-- What opening an accepted text leaves in the rooms is at hand for the figures of every level, and those fit the room, so that no level can
-- refuse. Assumes nothing.
use mathlib.Core.Path.{◌≡◌}
use mathlib.Core.Bool.{false}
use mathlib.Core.List.{List}
use Prim.Native.Nat.{ℕ, ◌≤◌}
use native.Mathlib.Omega.{arith}
use borrow.Author.Tests.{le-ltb}
use lib.IntN.{ℤ}
use lib.ListN.{length, take}
use Rattle.whole.specs.Range.{Within}
use Rattle.survey.specs.Fit.{Fit}
use Rattle.survey.specs.Limits.{most_height, most_ground}
use Rattle.survey.specs.Survey.{Survey, survey}
use Rattle.std.specs.Prelude.{Ok}
use Rattle.sweep.specs.Sweep.{Three, flat}
use Rattle.neighbours.specs.Room.{threes}
use Rattle.neighbours.proofs.RoomLaws.{length-flat, length-threes}
use Rattle.hull.specs.MeshOf.{MeshOf}
use Rattle.parcels.specs.Served.{served_of, unserved_of}
use Rattle.parcels.proofs.ReportLaws.{report_of}
use Rattle.served.specs.Figures.{AtHand}
use Rattle.report.specs.Writer.{is_outside, block_answer}
use Rattle.report.proofs.RoomLaws.{block-done}
use Rattle.program.specs.Opened.{AnyReady}
use Rattle.program.specs.declared.Opened.{Opened}
use Rattle.program.proofs.DoneLaws.{not_far}
use Rattle.program.proofs.LevelLaws.{front_fits}
use Rattle.program.proofs.ReadyLaws.{prepared}
use Rattle.reporting.specs.Reporting.{level_figures}

-- What opening leaves is at hand for a level: the corners of the triangles stand at the front of the work room.
pub at_hand :
    {kind : ℕ} {t : List ℕ} {o : Opened} {xs ys work : List ℕ} {zs levels slopes : List ℤ} → AnyReady kind t o xs ys zs levels work slopes
    → AtHand (survey (take o.stations xs) (take o.stations ys) (take o.stations zs)) o.triangles work o.style slopes
at_hand {o = o} {work = work} r =
    let p = prepared r in
    let ts = threes o.triangles work in
    record {
      fit = p.fit;
      mesh = p.mesh;
      long = front_fits (flat ts) _ p.holds.room_is (omega (arith, length-flat ts, length-threes o.triangles work));
      rest = p.rest;
      slopes-are = p.slopes-are;
    }

-- No level is refused: no figure is above that of a square of 8,191.
module _ (s : Survey) (fit : Fit s) (ts : List (Three ℕ)) (mesh : MeshOf s ts) (style : ℕ) (level : ℤ) (w : Within most_height level) where
  figures-inside : is_outside level (served_of s ts style level) (unserved_of s ts style level) ≡ false
  figures-inside =
      let most = (report_of s fit ts mesh).most style level in
      rw (not_far level w, le-ltb most_ground _ most.0, le-ltb most_ground _ most.1)

  pub figures-done : (room : ℕ) → 90 ≤ room
      → block_answer level (served_of s ts style level) (unserved_of s ts style level) room ≡ Ok (length (level_figures s ts style level))
  figures-done room h = block-done level (served_of s ts style level) (unserved_of s ts style level) room figures-inside h
