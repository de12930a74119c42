-- The swaps in the room of the code: the corners and the twins of m half-sides, one list behind the other, and beside them a key for each
-- half-side, by which the lowest side that may be swapped is found. Assumes nothing.
use Rattle.std.specs.Prelude.{Bool, cond, ◌&&◌, List, ◌≡◌, ℕ, ◌+◌, ◌*◌, ◌≤◌, ◌<◌, ltb, pos, length, get_or, set, take, drop}
use Rattle.std.specs.Int.Signed.{lt_z}
use Rattle.whole.specs.Place.{Place}
use Rattle.circle.specs.Circle.{circle}
use Rattle.survey.specs.Fit.{Fit}
use Rattle.survey.specs.Survey.{Survey}
use Rattle.neighbours.specs.Half.{after, before, corner_in}
use Rattle.neighbours.specs.Room.{threes}
use Rattle.hull.specs.MeshOf.{MeshOf}
use Rattle.swapping.specs.Halves.{Twinned}

-- The corners and the twins of m half-sides at the front of a room.
abbrev pub corners_of : ℕ → List ℕ → List ℕ
corners_of m room = take m room

abbrev pub twins_of : ℕ → List ℕ → List ℕ
twins_of m room = take m (drop m room)

-- The twin of a half-side: 32767 where there is none.
abbrev pub twin_in : List ℕ → ℕ → ℕ
twin_in w h = get_or w h 32767

-- Whether the side of half-side h may be swapped, told once, by the half-side that runs from its lower to its higher station.
unfoldable pub may_swap_in : (ℕ → Place) → List ℕ → List ℕ → ℕ → Bool
may_swap_in p c w h =
    ltb (corner_in c h) (corner_in c (after h))
    && (ltb (twin_in w h) (length c)
    && lt_z (pos 0) (circle (p (corner_in c h)) (p (corner_in c (after h))) (p (corner_in c (before h))) (p (corner_in c (before (twin_in w h))))))

-- The key of a half-side: its lower and its higher station where its side may be swapped, else a number past all of them.
abbrev pub no_key : ℕ
no_key = 4294967295

unfoldable pub key_in : (ℕ → Place) → List ℕ → List ℕ → ℕ → ℕ
key_in p c w h = cond (may_swap_in p c w h) (corner_in c h * 65536 + corner_in c (after h)) no_key

-- The corners and the twins after the swap of the side of the half-sides e and f.
unfoldable pub corners_after : List ℕ → ℕ → ℕ → List ℕ
corners_after c e f = set (set c (after f) (corner_in c (before e))) (after e) (corner_in c (before f))

unfoldable pub twins_after : List ℕ → ℕ → ℕ → List ℕ
twins_after w e f =
    let a = twin_in w (after f) in
    let b = twin_in w (after e) in
    set (set (set (set (set (set w f b) e a) b f) a e) (after f) (after e)) (after e) (after f)

-- The keys with that of half-side h told anew; with those of its side; with those of the sides of its triangle.
abbrev pub renew : (ℕ → ℕ) → ℕ → List ℕ → List ℕ
renew key h ks = set ks h (key h)

unfoldable pub renew_side : (ℕ → ℕ) → List ℕ → ℕ → List ℕ → List ℕ
renew_side key w h ks = renew key (twin_in w h) (renew key h ks)

unfoldable pub renew_triangle : (ℕ → ℕ) → List ℕ → ℕ → List ℕ → List ℕ
renew_triangle key w h ks = renew_side key w (before h) (renew_side key w (after h) (renew_side key w h ks))

-- With those of the five sides of the triangles of the half-sides e and f after their swap: those after e and after f are one side.
abbrev pub renew_round : (ℕ → ℕ) → List ℕ → ℕ → ℕ → List ℕ → List ℕ
renew_round key w e f ks = renew_side key w (before f) (renew_side key w f (renew_triangle key w e ks))

-- All coordinates are in range.
abbrev pub InRanges : List ℕ → List ℕ → Type 0
InRanges xs ys = ((i : ℕ) → get_or xs i 0 ≤ 8191) × ((i : ℕ) → get_or ys i 0 ≤ 8191)

-- What one swap, of the side of half-side e, leaves of the corners, the twins and the keys.
pub record After (p : ℕ → Place) (e : ℕ) (c w ks cs ws us : List ℕ) : Type 0 where
  pub corners-are : cs ≡ corners_after c e (twin_in w e)
  pub twins-are : ws ≡ twins_after w e (twin_in w e)
  pub keys-are : us ≡ renew_round (key_in p cs ws) ws e (twin_in w e) ks

-- What the swaps ask of the corners and the twins: t triangles that are a mesh of the survey, and their twins.
pub record Ready (s : Survey) (t : ℕ) (c w : List ℕ) : Type 0 where
  pub fit : Fit s
  pub mesh : MeshOf s (threes t c)
  pub twinned : Twinned (corner_in c) (twin_in w) (3 * t)
  pub corners-count : length c ≡ 3 * t
  pub twins-count : length w ≡ 3 * t
  pub few : 3 * t ≤ 32766

-- What they ask of a room with both, and of the rooms for keys: one for each half-side, and one for each 64 of them.
pub record Prepared (s : Survey) (t : ℕ) (room ks tops : List ℕ) : Type 0 where
  pub some : 0 < t
  pub long : 3 * t + 3 * t ≤ length room
  pub ready : Ready s t (corners_of (3 * t) room) (twins_of (3 * t) room)
  pub keys-count : length ks ≡ 3 * t
  pub enough : length ks ≤ 64 * length tops
  pub no_more : 64 * length tops < length ks + 64
