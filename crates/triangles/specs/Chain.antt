-- A chain of the sweep in a slice, from its bottom up, and what one station does to it. Assumes nothing.
use Rattle.std.specs.Prelude.{Bool, cond, List, [], ◌∷◌, ℕ, zero, suc, ◌+◌, ◌-◌, ◌*◌, pos, get_or, set}
use Rattle.std.specs.Int.Signed.{lt_z}
use Rattle.whole.specs.Place.{Place, place}
use Rattle.whole.specs.Turn.{turn}
use Rattle.sweep.specs.Sweep.{Three, tri, high}

-- Where station k stands.
abbrev pub places_of : List ℕ → List ℕ → ℕ → Place
places_of xs ys k = place (get_or xs k 0) (get_or ys k 0)

-- Station q sees the side from a to b of the lower chain, or of the upper one.
unfoldable pub is_seen : (ℕ → Place) → Bool → ℕ → ℕ → ℕ → Bool
is_seen f upper a b q = lt_z (cond upper (high (f a) (f b) (f q)) (turn (f a) (f b) (f q))) (pos 0)

-- It sees the side above entry i.
abbrev pub is_seen_at : (ℕ → Place) → Bool → List ℕ → ℕ → ℕ → Bool
is_seen_at f upper chain q i = is_seen f upper (get_or chain i 0) (get_or chain (i + 1) 0) q

-- The entry down to which all sides pass p, from entry a down.
unfoldable pub down_to : (ℕ → Bool) → ℕ → ℕ
down_to p zero = zero
down_to p (suc a) = cond (p a) (down_to p a) (suc a)

-- The triangle of q with the side above entry i, counterclockwise.
abbrev pub triangle_at : Bool → List ℕ → ℕ → ℕ → Three ℕ
triangle_at upper chain q i = cond upper (tri (get_or chain (i + 1) 0) q (get_or chain i 0)) (tri (get_or chain i 0) q (get_or chain (i + 1) 0))

-- The i-th of the sides above entries j to a - 1, from the bottom up or from the top down.
abbrev pub side_at : Bool → ℕ → ℕ → ℕ → ℕ
side_at falling j a i = cond falling (a - 1 - i) (j + i)

-- g i, .., g (i + k - 1)
unfoldable pub values : {A : Type 0} → (ℕ → A) → ℕ → ℕ → List A
values g i zero = []
values g i (suc k) = g i ∷ values g (suc i) k

-- A triangle written at place k of a room of triangles, and a list of them from place k on.
unfoldable pub put : ℕ → Three ℕ → List ℕ → List ℕ
put k t room = set (set (set room (3 * k) t.a) (3 * k + 1) t.b) (3 * k + 2) t.c

unfoldable pub put_all : ℕ → List (Three ℕ) → List ℕ → List ℕ
put_all k [] room = room
put_all k (t ∷ ts) room = put_all (suc k) ts (put k t room)
