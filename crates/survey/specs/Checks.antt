-- Refusals 1 to 4: document 01, "Refusal numbers". Assumes nothing.
use Rattle.std.specs.Prelude.{Bool, cond, not, ◌&&◌, ◌||◌, ℕ, eqb, ltb, ℤ, pos, length, Ok, Err, ⊤}
use Rattle.std.specs.Int.Signed.{lt_z}
use Rattle.lists.specs.Lowest.{lowest, some}
use Rattle.whole.specs.Turn.{turn}
use Rattle.survey.specs.Limits.{is_count, beyond, too_far}
use Rattle.survey.specs.Survey.{Survey, count, place_of, height_of, in_use}
use Rattle.survey.specs.Answer.{Answer}
use Rattle.survey.specs.declared.refusal.Refusal.TheVariants.{Count, Range, SamePlace, OneLine}

-- 1: 'x, y, z lists differ in length, or the count isn't 3 to 1,024', where it does not apply.
abbrev pub is_counted : Survey → Bool
is_counted s = eqb (length s.ys) (count s) && (eqb (length s.zs) (count s) && is_count (count s))

-- 2: 'a coordinate or height out of range'
abbrev pub is_out_of_range : Survey → ℕ → Bool
is_out_of_range s k = beyond (place_of s k).x || (beyond (place_of s k).y || too_far (height_of s k))

-- 3: 'two stations at one place'. Station k is 'equal to an earlier one'.
abbrev pub is_same : Survey → ℕ → ℕ → Bool
is_same s j k = (in_use s j && in_use s k) && (eqb (place_of s j).x (place_of s k).x && eqb (place_of s j).y (place_of s k).y)

unfoldable pub is_repeat : Survey → ℕ → Bool
is_repeat s k = some (λ j. is_same s j k) k

-- 4: 'all stations on one line': no three of them turn.
abbrev pub is_nonzero : ℤ → Bool
is_nonzero z = lt_z z (pos 0) || lt_z (pos 0) z

abbrev pub is_turn : Survey → ℕ → ℕ → ℕ → Bool
is_turn s i j k = (in_use s i && (in_use s j && in_use s k)) && is_nonzero (turn (place_of s i) (place_of s j) (place_of s k))

unfoldable pub is_one_line : Survey → Bool
is_one_line s = not (some (λ i. some (λ j. some (is_turn s i j) (count s)) (count s)) (count s))

-- 'The four jobs test 1, 2, 3, 4, 5, 6 in that order. The first that applies is given', with the lowest such station.
unfoldable pub checked : Survey → Answer ⊤
checked s =
    let range = lowest (is_out_of_range s) (count s) in
    let same = lowest (is_repeat s) (count s) in
    cond (not (is_counted s)) (Err Count)
    (cond (ltb range (count s)) (Err (Range range))
    (cond (ltb same (count s)) (Err (SamePlace same))
    (cond (is_one_line s) (Err OneLine)
    (Ok tt))))
