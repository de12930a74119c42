-- What opening a text answers, and what its rooms hold then. Assumes nothing.
use Rattle.std.specs.Prelude.{Bool, ◌≡◌, List, ◌++◌, ℕ, ℤ, length, take, drop, Ok, Err, ⊤}
use Rattle.survey.specs.Limits.{most_stations, most_levels}
use Rattle.survey.specs.Rooms.{slope_room, tag_room}
use Rattle.survey.specs.Survey.{Survey, count}
use Rattle.survey.specs.Answer.{Answer}
use Rattle.survey.specs.declared.answers.Read.{Read}
use Rattle.rendering.specs.Filed.{stations}
use Rattle.text.specs.Reader.{read_of, survey_of}
use Rattle.neighbours.specs.Room.{order, Holds}
use Rattle.mesh.specs.Kinds.{triangles_of}
use Rattle.spots.specs.Prepared.{slopes_for}
use Rattle.program.specs.Program.{judged, opening_by, any_opening_by, if_passed}
use Rattle.program.specs.declared.Opened.{Opened}

-- The bytes of a written text, and none of one that is not.
abbrev pub bytes_of : Answer ℕ → ℕ
bytes_of (Ok bytes) = bytes
bytes_of (Err why) = 0

-- 'The reader needs n each for x, y, z, 8n bytes of tags [..] and one entry per level': rooms for the largest survey.
abbrev pub reading_of : List ℕ → Answer Read
reading_of t = read_of t most_stations most_stations most_stations (tag_room most_stations) most_levels

-- How long the opening is, and of a survey that passed its style and how many stations, triangles of the kind, sides and levels there are.
abbrev pub opened_by : ℕ → Survey → ℕ → ℕ → Answer ⊤ → Opened
opened_by kind s style levels c =
    record {
      bytes = length (opening_by style c);
      style = if_passed style c;
      stations = if_passed (count s) c;
      triangles = if_passed (length (triangles_of kind s)) c;
      sides = if_passed (length (order (triangles_of kind s) (count s))) c;
      levels = if_passed levels c;
    }

abbrev pub opened_of : ℕ → List ℕ → Opened
opened_of kind t = opened_by kind (stations (survey_of t)) (survey_of t).style (length (survey_of t).levels) (judged t)

-- The same of either text.
abbrev pub any_opened_by : ℕ → Bool → Survey → ℕ → ℕ → Answer ⊤ → Opened
any_opened_by kind report s style levels c =
    record {
      bytes = length (any_opening_by report style c);
      style = if_passed style c;
      stations = if_passed (count s) c;
      triangles = if_passed (length (triangles_of kind s)) c;
      sides = if_passed (length (order (triangles_of kind s) (count s))) c;
      levels = if_passed levels c;
    }

abbrev pub any_opened_of : ℕ → Bool → List ℕ → Opened
any_opened_of kind report t = any_opened_by kind report (stations (survey_of t)) (survey_of t).style (length (survey_of t).levels) (judged t)

-- What one preparation leaves for every level, where the rooms held `old`: in the work room the records of the mesh and its sides in
-- order.
abbrev pub Worked : ℕ → Survey → Answer ⊤ → List ℕ → List ℕ → Type 0
Worked kind s (Ok _) old new = Holds (triangles_of kind s) (count s) new
Worked kind s (Err why) old new = new ≡ old

abbrev pub slopes_room : Survey → ℕ → Answer ⊤ → List ℤ → List ℤ
slopes_room s style (Ok _) old = slopes_for s style ++ drop (slope_room (count s)) old
slopes_room s style (Err why) old = old

-- The rooms hold what opening an accepted text leaves in them.
pub record Ready (kind : ℕ) (t : List ℕ) (o : Opened) (xs ys : List ℕ) (zs levels : List ℤ) (work : List ℕ) (slopes : List ℤ) : Type 0 where
  pub passed : judged t ≡ (Ok tt)
  pub opened : o ≡ opened_of kind t
  pub xs-are : take o.stations xs ≡ (survey_of t).xs
  pub ys-are : take o.stations ys ≡ (survey_of t).ys
  pub zs-are : take o.stations zs ≡ (survey_of t).zs
  pub levels-are : take o.levels levels ≡ (survey_of t).levels
  pub holds : Holds (triangles_of kind (stations (survey_of t))) (count (stations (survey_of t))) work
  pub rest : List ℤ
  pub slopes-are : slopes ≡ slopes_for (stations (survey_of t)) (survey_of t).style ++ rest

-- The same, whichever heading was asked for.
pub record AnyReady (kind : ℕ) (t : List ℕ) (o : Opened) (xs ys : List ℕ) (zs levels : List ℤ) (work : List ℕ) (slopes : List ℤ) : Type 0 where
  pub passed : judged t ≡ (Ok tt)
  pub report : Bool
  pub opened : o ≡ any_opened_of kind report t
  pub xs-are : take o.stations xs ≡ (survey_of t).xs
  pub ys-are : take o.stations ys ≡ (survey_of t).ys
  pub zs-are : take o.stations zs ≡ (survey_of t).zs
  pub levels-are : take o.levels levels ≡ (survey_of t).levels
  pub holds : Holds (triangles_of kind (stations (survey_of t))) (count (stations (survey_of t))) work
  pub rest : List ℤ
  pub slopes-are : slopes ≡ slopes_for (stations (survey_of t)) (survey_of t).style ++ rest
