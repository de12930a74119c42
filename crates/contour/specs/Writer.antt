-- Which answer the writer of contour text gives, and what its room holds: document 01, "Refusal numbers" and "Text". Assumes nothing.
use Rattle.std.specs.Prelude.{Bool, false, cond, not, ◌&&◌, ◌||◌, ◌≡◌, List, ◌++◌, ℕ, ◌+◌, ◌≤◌, eqb, leb, ltb, ℤ, length, get_or, drop, Ok, Err}
use Rattle.std.specs.Fn.{FnOnceReturnsAtMut}
use denote.Ref.{MutBor}
use denote.Param.Members.{Once}
use Rattle.lists.specs.Lowest.{some}
use Rattle.pouring.specs.Poured.{poured}
use Rattle.survey.specs.Limits.{most_stations, too_far}
use Rattle.survey.specs.Rooms.{vertex_room, record_room}
use Rattle.survey.specs.declared.refusal.Refusal.TheVariants.{Count, Number, Room}
use Rattle.survey.specs.Answer.{Answer}
use Rattle.formats.specs.Lines.{is_style}
use Rattle.formats.specs.Contours.{most_spot}
use Rattle.plotting.specs.Records.{vertices_of, kind_of, vertices_in}
use Rattle.contour.specs.Contour.{heading_of, block_of, refusal_of}

-- 6: 'lent room too short'; 'the writer [needs] the text's bytes'. The room is given by its length.
abbrev pub fitted : List ℕ → ℕ → Answer ℕ
fitted text room = cond (ltb room (length text)) (Err Room) (Ok (length text))

-- What the room holds on return, by the answer, where it held `old`.
abbrev pub room_after : List ℕ → Answer ℕ → List ℕ → List ℕ
room_after text (Ok bytes) old = text ++ drop bytes old
room_after text (Err why) old = old

-- Both, of a text, the room before, the answer and the room after.
abbrev pub Fitted : List ℕ → List ℕ → Answer ℕ → List ℕ → Type 0
Fitted text old r new = (r ≡ fitted text (length old)) × (new ≡ room_after text r old)

-- What a call puts at the front of any room, and that it answers how many bytes it is.
abbrev pub Puts : {F : Type 0} → Once F (MutBor (List ℕ) × Unit {0}) (ℕ × (MutBor (List ℕ) × Unit {0})) → F → List ℕ → Type 0
Puts g put text = (old new : List ℕ) (r : ℕ) → FnOnceReturnsAtMut g put old r new → (r ≡ length text) × (new ≡ poured old 0 text)

-- 5: 'Style is 0 straight, 1 smooth.' What is answered for a text of a style.
abbrev pub styled : List ℕ → ℕ → ℕ → Answer ℕ
styled text style room = cond (is_style style) (fitted text room) (Err Number)

unfoldable pub heading_answer : ℕ → ℕ → Answer ℕ
heading_answer style room = cond (is_style style) (fitted (heading_of style) room) (Err Number)

-- 'fewer than 2 vertices in an open line or 3 in a closed one'
abbrev pub is_short : ℕ → Bool
is_short r = ltb (vertices_of r) (2 + kind_of r)

abbrev pub some_short : List ℕ → Bool
some_short records = some (λ i. is_short (get_or records i 0)) (length records)

-- 1, where it does not apply: the lists of x and y and the vertices that the records count are equally many, there are no more
-- vertices and records than the largest survey's lines have, and no line is short.
abbrev pub is_listed : List ℕ → List ℕ → List ℕ → Bool
is_listed records xs ys =
    leb (length records) (record_room most_stations)
    && (leb (length xs) (vertex_room most_stations)
    && (eqb (length ys) (length xs) && (eqb (vertices_in records) (length xs) && not (some_short records))))

-- The same as facts.
pub record Listed (records xs ys : List ℕ) : Type 0 where
  pub records-most : length records ≤ record_room most_stations
  pub xs-most : length xs ≤ vertex_room most_stations
  pub ys-count : length ys ≡ length xs
  pub vertices-count : vertices_in records ≡ length xs
  pub none_short : some_short records ≡ false

-- 5: 'level, place [..] out of range'. 'A level is a whole number in the range of z', and 'x and y run from 0 to 1,048,448'.
abbrev pub some_far : List ℕ → Bool
some_far xs = some (λ i. ltb most_spot (get_or xs i 0)) (length xs)

abbrev pub is_outside : ℤ → List ℕ → List ℕ → Bool
is_outside level xs ys = too_far level || (some_far xs || some_far ys)

-- 1, 5 and 6, in that order.
unfoldable pub block_answer : ℤ → List ℕ → List ℕ → List ℕ → ℕ → Answer ℕ
block_answer level records xs ys room =
    cond (not (is_listed records xs ys)) (Err Count)
    (cond (is_outside level xs ys) (Err Number)
    (fitted (block_of level records xs ys) room))

unfoldable pub refusal_answer : ℕ → ℕ → ℕ → Answer ℕ
refusal_answer number carried room = fitted (refusal_of number carried) room
