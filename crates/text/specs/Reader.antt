-- The reader of survey text, its rooms and its answer: document 01, "Text" and "Refusal numbers". Assumes nothing.
use Rattle.std.specs.Prelude.{Bool, cond, ◌&&◌, List, ◌++◌, ℕ, leb, ℤ, length, drop, Ok, Err}
use Rattle.survey.specs.Rooms.{tag_room}
use Rattle.survey.specs.declared.refusal.Refusal.TheVariants.{Room}
use Rattle.survey.specs.Answer.{Answer, read_done}
use Rattle.survey.specs.declared.answers.Read.{Read}
use Rattle.rendering.specs.Filed.{Filed, count}
use Rattle.rendering.specs.Scan.{Scanned, Right, Refused, scanned, filed_of}

-- 'The reader needs n each for x, y, z, 8n bytes of tags (the unused end of each zero) and one entry per level'
abbrev pub has_room : ℕ → ℕ → ℕ → ℕ → ℕ → ℕ → ℕ → Bool
has_room n m xs ys zs tags levels = leb n xs && (leb n ys && (leb n zs && (leb (tag_room n) tags && leb m levels)))

-- 'Room (6) is tested last.' The rooms are given by their lengths.
abbrev pub housed : ℕ → ℕ → ℕ → ℕ → ℕ → Scanned → Answer Read
housed xs ys zs tags levels (Refused why) = Err why
housed xs ys zs tags levels (Right s) =
    cond (has_room (count s) (length s.levels) xs ys zs tags levels) (read_done s.style (count s) (length s.levels)) (Err Room)

abbrev pub read_of : List ℕ → ℕ → ℕ → ℕ → ℕ → ℕ → Answer Read
read_of t xs ys zs tags levels = housed xs ys zs tags levels (scanned t)

-- The survey that a text says.
abbrev pub survey_of : List ℕ → Filed
survey_of t = filed_of (scanned t)

-- What each room holds on return, by the survey and the answer, where it held `old`.
abbrev pub x_held : Filed → Answer Read → List ℕ → List ℕ
x_held s (Ok d) old = s.xs ++ drop d.stations old
x_held s (Err why) old = old

abbrev pub y_held : Filed → Answer Read → List ℕ → List ℕ
y_held s (Ok d) old = s.ys ++ drop d.stations old
y_held s (Err why) old = old

abbrev pub z_held : Filed → Answer Read → List ℤ → List ℤ
z_held s (Ok d) old = s.zs ++ drop d.stations old
z_held s (Err why) old = old

abbrev pub tags_held : Filed → Answer Read → List ℕ → List ℕ
tags_held s (Ok d) old = s.tags ++ drop (tag_room d.stations) old
tags_held s (Err why) old = old

abbrev pub levels_held : Filed → Answer Read → List ℤ → List ℤ
levels_held s (Ok d) old = s.levels ++ drop d.levels old
levels_held s (Err why) old = old

-- And by the text.
abbrev pub x_room : List ℕ → Answer Read → List ℕ → List ℕ
x_room t r old = x_held (survey_of t) r old

abbrev pub y_room : List ℕ → Answer Read → List ℕ → List ℕ
y_room t r old = y_held (survey_of t) r old

abbrev pub z_room : List ℕ → Answer Read → List ℤ → List ℤ
z_room t r old = z_held (survey_of t) r old

abbrev pub tags_room : List ℕ → Answer Read → List ℕ → List ℕ
tags_room t r old = tags_held (survey_of t) r old

abbrev pub levels_room : List ℕ → Answer Read → List ℤ → List ℤ
levels_room t r old = levels_held (survey_of t) r old
