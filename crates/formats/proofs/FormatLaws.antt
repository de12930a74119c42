-- Every format is sound, so that every law of forms holds of it. Assumes nothing.
--
-- A key and a word are words by computation; the numbers of a line have at most thirteen digits, where nineteen are asked.
use mathlib.Core.Path.{◌≡◌, refl}
use mathlib.Core.Bool.{Bool, true, not, ◌&&◌}
use mathlib.Core.List.{List, [], ◌∷◌, ◌++◌}
use Prim.Native.Nat.{ℕ, zero, suc, ◌-◌, ◌≤◌}
use native.Mathlib.Omega.{arith}
use borrow.Author.Tests.{eqb-false, ltb-true, lt-ltb, not-true}
use lib.Dec.{eqb, ltb}
use Rattle.shapes.specs.declared.line.Kind.{Kind}
use Rattle.shapes.specs.declared.line.Kind.TheVariants.{Natural, Whole, Tag, Choice}
use Rattle.shapes.specs.declared.line.Shape.{Shape}
use Rattle.shapes.specs.Line.{is_word_byte}
use Rattle.shapes.specs.Bytes.{digits_of, word_bytes}
use Rattle.shapes.specs.Ranges.{AllOf, WordByte, IsWord, SoundKind, Sound}
use Rattle.shapes.proofs.LineLaws.{and_both}
use Rattle.forms.specs.Form.{Form, end}
use Rattle.forms.specs.Written.{SoundForm}
use Rattle.survey.specs.Limits.{most_stations, most_coordinate, most_levels, most_ground}
use Rattle.survey.specs.Rooms.{vertex_room, record_room}
use Rattle.formats.specs.Lines.{least_height, survey_line, levelset_line, contours_line, served_line, walk_line, style_line, points_line, logged_line, tag_line, x_line, y_line, z_line, void_line, levels_line, level_line, lines_line, kind_line, vertices_line, exact_line, ground_line, unserved_line, refused_line, at_line}
use Rattle.formats.specs.Surveys.{above, level_lines, level_list, from_x, stations, survey, survey1, survey2, survey3, levelset1, plain, with_void}
use Rattle.formats.specs.Contours.{most_spot, vertices, drawn, from_lines, further, contours, contours1, contours2, with_exact}
use Rattle.formats.specs.Reports.{ground, grounds, served1, logged, walk1, refusal}

abbrev all_word : List ℕ → Bool
all_word [] = true
all_word (b ∷ l) = is_word_byte b && all_word l

all-word : (l : List ℕ) → all_word l ≡ true → AllOf WordByte l
all-word [] h = tt
all-word (b ∷ l) h = let i = and_both (is_word_byte b) (all_word l) h in (i.0, all-word l i.1)

abbrev is_word : ℕ → Bool
is_word w = all_word (word_bytes w) && ltb w 18446744073709551616

is_word_lem : (w : ℕ) → is_word w ≡ true → IsWord w
is_word_lem w h = let i = and_both (all_word (word_bytes w)) (ltb w 18446744073709551616) h in (all-word (word_bytes w) i.0, ltb-true w _ i.1)

-- ---- the lines

-- The test of a shape.
abbrev is_sound_kind : Kind → Bool
is_sound_kind (Natural least most) = ltb most 10000000000000000000
is_sound_kind (Whole least most) = ltb most 10000000000000032768
is_sound_kind Tag = true
is_sound_kind (Choice a b) = is_word a && (is_word b && not (eqb a b))

sound-kind : (k : Kind) → is_sound_kind k ≡ true → SoundKind k
sound-kind (Natural least most) h = ltb-true most _ h
sound-kind (Whole least most) h = ltb-true most _ h
sound-kind Tag h = tt
sound-kind (Choice a b) h =
    let i = and_both (is_word a) (is_word b && not (eqb a b)) h in
    let j = and_both (is_word b) (not (eqb a b)) i.1 in
    (is_word_lem a i.0, is_word_lem b j.0, eqb-false a b (not-true (eqb a b) j.1))

pub sound : (s : Shape) → is_word s.key ≡ true → is_sound_kind s.kind ≡ true → Sound s
sound s h i = (is_word_lem s.key h, sound-kind s.kind i)

-- So is the line of vertices, whatever is left of them.
vertices-line : (k left : ℕ) → left ≤ vertex_room most_stations → Sound (vertices_line k left)
unfolding digits_of
vertices-line k left h = sound (vertices_line k left) refl (lt-ltb left _ (omega arith))

-- ---- the texts

level-lines-sound : (m least : ℕ) → SoundForm (level_lines m least)
unfolding level_lines digits_of
level-lines-sound zero least = tt
level-lines-sound (suc m) least = (sound (level_line least) refl refl, λ v. level-lines-sound m (above v))

level-list-sound : SoundForm level_list
unfolding digits_of
level-list-sound = (sound levels_line refl refl, λ m. level-lines-sound m least_height)

-- What follows a z, or a y, keeps what follows it sound.
abbrev Keeps : (Form → Form) → Type 0
Keeps f = (rest : Form) → SoundForm rest → SoundForm (f rest)

module _ (void : Form → Form) (keeps : Keeps void) (rest : Form) (a : SoundForm rest) where
  station-sound : (then : Form) → SoundForm then → SoundForm (from_x void then)
  unfolding digits_of
  station-sound then b =
      (sound (x_line most_coordinate) refl refl, λ x. (sound (y_line most_coordinate) refl refl, λ y. (sound z_line refl refl, λ z. keeps then b)))

  stations-sound : (n : ℕ) (used : List ℕ) → SoundForm (stations void rest n used)
  unfolding stations digits_of
  stations-sound zero used = a
  stations-sound (suc n) used =
      (sound tag_line refl refl, λ t. station-sound (stations void rest n (used ++ (t ∷ []))) (stations-sound n (used ++ (t ∷ []))))

  survey-sound : (e : ℕ) → ltb e 10000000000000000000 ≡ true → SoundForm (survey e void rest [])
  unfolding digits_of
  survey-sound e h = (sound (survey_line e) refl h, λ v. (sound style_line refl refl, λ s. (sound points_line refl refl, λ n. stations-sound n [])))

pub survey1-sound : SoundForm survey1
unfolding digits_of
survey1-sound = survey-sound plain (λ f a. a) level_list level-list-sound 1 refl

pub survey2-sound : SoundForm survey2
unfolding digits_of
survey2-sound = survey-sound plain (λ f a. a) end tt 2 refl

pub survey3-sound : SoundForm survey3
unfolding digits_of
survey3-sound = survey-sound with_void (λ f a. (sound void_line refl refl, λ v. a)) end tt 3 refl

pub levelset1-sound : SoundForm levelset1
unfolding digits_of
levelset1-sound = (sound levelset_line refl refl, λ e. level-list-sound)

module _ (exact : Form → Form) (keeps : Keeps exact) where
  vertices-sound : (n : ℕ) (rest : Form) → SoundForm rest → SoundForm (vertices exact n rest)
  unfolding vertices digits_of
  vertices-sound zero rest a = a
  vertices-sound (suc n) rest a =
      (sound (x_line most_spot) refl refl, λ x. (sound (y_line most_spot) refl refl, λ y. keeps (vertices exact n rest) (vertices-sound n rest a)))

  drawn-sound : (n left : ℕ) (rest : Form) → left ≤ vertex_room most_stations → SoundForm rest → SoundForm (drawn exact n left rest)
  unfolding drawn digits_of
  drawn-sound zero left rest h a = a
  drawn-sound (suc n) left rest h a =
      (sound kind_line refl refl, λ k. (vertices-line k left h, λ v. vertices-sound v (drawn exact n (left - v) rest) (drawn-sound n (left - v) rest (omega arith) a)))

  pub lines-sound : (rest : Form) → SoundForm rest → SoundForm (from_lines exact rest)
  unfolding digits_of
  lines-sound rest a = (sound (lines_line (record_room most_stations)) refl refl, λ n. drawn-sound n (vertex_room most_stations) rest (omega arith) a)

  further-sound : (m least : ℕ) → SoundForm (further exact m least)
  unfolding further digits_of
  further-sound zero least = tt
  further-sound (suc m) least = (sound (level_line least) refl refl, λ v. lines-sound (further exact m (above v)) (further-sound m (above v)))

  contours-sound : (e : ℕ) → ltb e 10000000000000000000 ≡ true → SoundForm (contours e exact)
  unfolding digits_of
  contours-sound e h = (sound (contours_line e) refl h, λ v. (sound style_line refl refl, λ s. (sound (level_line least_height) refl refl, λ l. first (above l))))
    where
      first : (least : ℕ) → SoundForm (from_lines exact (further exact (most_levels - 1) least))
      first least = lines-sound (further exact (most_levels - 1) least) (further-sound (most_levels - 1) least)

pub contours1-sound : SoundForm contours1
unfolding digits_of
contours1-sound = contours-sound plain (λ f a. a) 1 refl

pub contours2-sound : SoundForm contours2
unfolding digits_of
contours2-sound = contours-sound with_exact (λ f a. (sound exact_line refl refl, λ m. a)) 2 refl

pub ground-sound : Keeps ground
unfolding digits_of
ground-sound rest a = (sound (ground_line most_ground) refl refl, λ s. (sound (unserved_line most_ground) refl refl, λ u. a))

grounds-sound : (m least : ℕ) → SoundForm (grounds m least)
unfolding grounds digits_of
grounds-sound zero least = tt
grounds-sound (suc m) least = (sound (level_line least) refl refl, λ v. ground-sound (grounds m (above v)) (grounds-sound m (above v)))

pub served1-sound : SoundForm served1
unfolding digits_of
served1-sound = (sound served_line refl refl, λ e. (sound style_line refl refl, λ s. (sound (level_line least_height) refl refl, λ v. first (above v))))
  where
    first : (least : ℕ) → SoundForm (ground (grounds (most_levels - 1) least))
    first least = ground-sound (grounds (most_levels - 1) least) (grounds-sound (most_levels - 1) least)

logged-sound : (n : ℕ) → SoundForm (logged n)
unfolding logged digits_of
logged-sound zero = tt
logged-sound (suc n) = (sound (x_line most_coordinate) refl refl, λ x. (sound (y_line most_coordinate) refl refl, λ y. (sound z_line refl refl, λ z. logged-sound n)))

pub walk1-sound : SoundForm walk1
unfolding digits_of
walk1-sound = (sound walk_line refl refl, λ e. (sound logged_line refl refl, λ n. logged-sound n))

pub refusal-sound : SoundForm refusal
unfolding digits_of
refusal-sound = (sound (refused_line 4294967295) refl refl, λ n. (sound (at_line 4294967295) refl refl, λ m. tt))
