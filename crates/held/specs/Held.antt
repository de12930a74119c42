-- Which station stands at a place, which triangle holds it, and the height there: document 01, "Height at a place". Assumes nothing.
use Rattle.std.specs.Prelude.{Bool, cond, ◌&&◌, List, ◌++◌, ◌≡◌, ℕ, ◌+◌, ◌*◌, ◌≤◌, ◌<◌, eqb, ltb, Float, ℤ, pos, length, get_or}
use Rattle.std.specs.Int.Signed.{le_z}
use Rattle.lists.specs.Lowest.{lowest}
use Rattle.whole.specs.Place.{Place}
use Rattle.whole.specs.Turn.{turn, across, climb}
use Rattle.survey.specs.Survey.{Survey, count, place_of, height_of, in_use}
use Rattle.survey.specs.declared.answers.Height.{Height}
use Rattle.survey.specs.declared.answers.Height.TheVariants.{Own, Between, Outside}
use Rattle.sweep.specs.Sweep.{Three, tri}
use Rattle.slopes.specs.declared.slope.Five.{Five}
use Rattle.slopes.specs.Job.{slopes_of}
use Rattle.slopes.specs.Slopes.{slope_p, slope_q, five_at}
use Rattle.quintic.specs.declared.Corner.{Corner}
use Rattle.quintic.specs.declared.Steps.{Steps}
use Rattle.quintic.specs.Quintic.{steps_of, corner_of, quintic}

-- Station k stands at the place, and the station that does, or the count.
abbrev pub is_at : Survey → Place → ℕ → Bool
is_at s p k = in_use s k && (eqb (place_of s k).x p.x && eqb (place_of s k).y p.y)

abbrev pub station_at : Survey → Place → ℕ
station_at s p = lowest (is_at s p) (count s)

-- A triangle 'holds the place, edges included': as it is written counterclockwise, the place is right of no side.
unfoldable pub is_left : Place → Place → Place → Bool
is_left a b p = le_z (pos 0) (turn a b p)

unfoldable pub is_held : (ℕ → Place) → Place → Three ℕ → Bool
is_held f p t = is_left (f t.a) (f t.b) p && (is_left (f t.b) (f t.c) p && is_left (f t.c) (f t.a) p)

-- 'the first triangle in the list that holds the place', or n; the list's triangles are t 0, .., t (n - 1).
abbrev pub holder : (ℕ → Place) → (ℕ → Three ℕ) → ℕ → Place → ℕ
holder f t n p = lowest (λ k. is_held f p (t k)) n

-- The slopes of station k, and what it is as a corner of a triangle with the steps e.
abbrev pub five : Survey → ℕ → Five
five s k = five_at s (slope_p s (height_of s)) (slope_q s (height_of s)) k

abbrev pub corner_at : Survey → Steps → ℕ → Corner
corner_at s e k = corner_of e (height_of s k) (five s k)

-- The interpolated height: 'corners 1, 2, 3 as written', 'X and Y taken from corner 1'.
unfoldable pub interpolated : Survey → Three ℕ → Place → Float
unfolding across climb
interpolated s t p =
    let e = steps_of (place_of s t.a) (place_of s t.b) (place_of s t.c) in
    quintic e (corner_at s e t.a) (corner_at s e t.b) (corner_at s e t.c) (across (place_of s t.a) p) (climb (place_of s t.a) p)

-- The height by a list of n triangles: 'A place on a station gives that z exactly. Else the first triangle in the list that holds the
-- place, edges included, is used'. Of a mesh it is the height by the outline, `height_at`, which is a theorem (`by_outline`).
unfoldable pub height_by : Survey → (ℕ → Three ℕ) → ℕ → Place → Height
height_by s t n p =
    let own = station_at s p in
    let k = holder (place_of s) t n p in
    cond (ltb own (count s)) (Own (height_of s own)) (cond (ltb k n) (Between (interpolated s (t k) p)) Outside)

-- The triangles of a room, three numbers to each.
abbrev pub triangle_in : List ℕ → ℕ → Three ℕ
triangle_in room k = tri (get_or room (3 * k) 0) (get_or room (3 * k + 1) 0) (get_or room (3 * k + 2) 0)

-- n triangles on the first m stations stand in a room.
pub record Listed (m : ℕ) (room : List ℕ) (n : ℕ) : Type 0 where
  pub few : n ≤ 65535
  pub small : m ≤ 65535
  pub long : 3 * n ≤ length room
  pub stations : (k : ℕ) → k < 3 * n → get_or room k 0 < m

-- The slopes of station k in a room, and a room in which the slopes of every station stand.
abbrev pub five_in : List ℤ → ℕ → Five
five_in room k =
    record {
      p = get_or room (5 * k) (pos 0);
      q = get_or room (5 * k + 1) (pos 0);
      r = get_or room (5 * k + 2) (pos 0);
      s = get_or room (5 * k + 3) (pos 0);
      t = get_or room (5 * k + 4) (pos 0);
    }

pub record Sloped (s : Survey) (room : List ℤ) : Type 0 where
  pub rest : List ℤ
  pub is : room ≡ slopes_of s ++ rest
