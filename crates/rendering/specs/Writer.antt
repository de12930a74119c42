-- The writer of survey text: document 01, "Text". Assumes nothing.
use Rattle.std.specs.Prelude.{Bool, cond, not, ◌&&◌, ◌||◌, List, ◌++◌, ℕ, zero, suc, eqb, leb, ltb, ℤ, pos, neg_ℤ, length, get_or, drop, Ok, Err}
use Rattle.std.specs.Int.Signed.{lt_z}
use Rattle.lists.specs.Lowest.{lowest, some}
use Rattle.survey.specs.Limits.{most_height, most_levels, most_tag}
use Rattle.survey.specs.Rooms.{tag_room}
use Rattle.survey.specs.Checks.{is_counted, is_out_of_range}
use Rattle.survey.specs.declared.refusal.Refusal.TheVariants.{Count, Range, Number, Room, Form, TagUsed}
use Rattle.survey.specs.Answer.{Answer}
use Rattle.shapes.specs.Line.{is_word_byte}
use Rattle.formats.specs.Lines.{is_style}
use Rattle.rendering.specs.Filed.{Filed, stations, count, tag_byte_of, tag_size, tag_number}
use Rattle.rendering.specs.Rendering.{rendered}

-- 1: 'x, y, z lists differ in length, or the count isn't 3 to 1,024', '(the tag list's length too)', where it does not apply.
abbrev pub is_listed : Filed → Bool
is_listed s = is_counted (stations s) && eqb (length s.tags) (tag_room (count s))

-- 7: 'A tag is 1 to 8 ASCII letters, digits or hyphens', 'the unused end of each zero'.
abbrev pub is_wrong_byte : List ℕ → ℕ → ℕ → Bool
is_wrong_byte tags i j = cond (ltb j (tag_size tags i)) (not (is_word_byte (tag_byte_of tags i j))) (not (eqb (tag_byte_of tags i j) 0))

abbrev pub is_wrong_tag : List ℕ → ℕ → Bool
is_wrong_tag tags i = ltb (tag_size tags i) 1 || some (is_wrong_byte tags i) most_tag

-- 8: 'tag used before'
abbrev pub is_used_tag : List ℕ → ℕ → Bool
is_used_tag tags i = some (λ j. eqb (tag_number tags j) (tag_number tags i)) i

-- 5: 'A level list is 5 if its count, order or a level is wrong.' Each level is above the one before; the one before the first is taken
-- to be one below the range.
abbrev pub level_before : List ℤ → ℕ → ℤ
level_before levels zero = neg_ℤ (pos (suc most_height))
level_before levels (suc k) = get_or levels k (pos 0)

abbrev pub is_wrong_level : List ℤ → ℕ → Bool
is_wrong_level levels k = not (lt_z (level_before levels k) (get_or levels k (pos 0))) || lt_z (pos most_height) (get_or levels k (pos 0))

abbrev pub is_level_list : List ℤ → Bool
is_level_list levels = leb 1 (length levels) && (leb (length levels) most_levels && not (some (is_wrong_level levels) (length levels)))

-- 'The writer tests 1 (the tag list's length too), 2, 7, 8, 5, 6', with the lowest station. The room is given by its length.
unfoldable pub write_of : Filed → ℕ → Answer ℕ
write_of s room =
    let range = lowest (is_out_of_range (stations s)) (count s) in
    let tag = lowest (is_wrong_tag s.tags) (count s) in
    let used = lowest (is_used_tag s.tags) (count s) in
    cond (not (is_listed s)) (Err Count)
    (cond (ltb range (count s)) (Err (Range range))
    (cond (ltb tag (count s)) (Err (Form tag))
    (cond (ltb used (count s)) (Err (TagUsed used))
    (cond (not (is_style s.style && is_level_list s.levels)) (Err Number)
    (cond (ltb room (length (rendered s))) (Err Room)
    (Ok (length (rendered s))))))))

-- What the text room holds on return, by the answer, where it held `old`.
abbrev pub text_room : Filed → Answer ℕ → List ℕ → List ℕ
text_room s (Ok bytes) old = rendered s ++ drop bytes old
text_room s (Err why) old = old
