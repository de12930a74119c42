-- The opening of contour text is that of either text, where no report is asked for. Assumes nothing.
use mathlib.Core.Bool.{false}
use mathlib.Core.Path.{◌≡◌, refl}
use Prim.Native.Nat.{ℕ}
use lib.ListN.{length}
use mathlib.Core.List.{List}
use Rattle.survey.specs.Survey.{count}
use Rattle.std.specs.Prelude.{Ok, Err, ⊤}
use Rattle.survey.specs.Answer.{Answer}
use Rattle.neighbours.specs.Room.{order}
use Rattle.mesh.specs.Kinds.{triangles_of}
use Rattle.rendering.specs.Filed.{stations}
use Rattle.text.specs.Reader.{survey_of}
use Rattle.program.specs.Program.{judged, opening_by, opening, any_opening_by, any_opening, if_passed}
use Rattle.program.specs.Opened.{opened_of, any_opened_of}

pub contour_opening_by : (style : ℕ) (c : Answer ⊤) → any_opening_by false style c ≡ opening_by style c
contour_opening_by style (Ok _) = refl
contour_opening_by style (Err why) = refl

pub contour_opening : (t : List ℕ) → any_opening false t ≡ opening t
contour_opening t = contour_opening_by (survey_of t).style (judged t)

pub contour_opened : (kind : ℕ) (t : List ℕ) → any_opened_of kind false t ≡ opened_of kind t
contour_opened kind t = by (contour_opening_by (survey_of t).style (judged t))
  where
    by : any_opening_by false (survey_of t).style (judged t) ≡ opening_by (survey_of t).style (judged t) → any_opened_of kind false t ≡ opened_of kind t
    by e =
        λ i.
        record {
          bytes = length (e i);
          style = if_passed (survey_of t).style (judged t);
          stations = if_passed (count (stations (survey_of t))) (judged t);
          triangles = if_passed (length (triangles_of kind (stations (survey_of t)))) (judged t);
          sides = if_passed (length (order (triangles_of kind (stations (survey_of t))) (count (stations (survey_of t))))) (judged t);
          levels = if_passed (length (survey_of t).levels) (judged t);
        }
