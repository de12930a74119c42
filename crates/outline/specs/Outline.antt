-- The hull's sides as a list of numbers: at each station's number the station that its side runs to. And what the two chains of the
-- sweep, each in a slice from its bottom up, put into it. Assumes nothing.
use Rattle.std.specs.Prelude.{Bool, true, cond, List, [], ◌∷◌, map, ◌≡◌, ℕ, zero, suc, ◌+◌, ◌≤◌, ◌<◌, length, get_or, set}
use Rattle.whole.specs.Place.{Place}
use Rattle.survey.specs.Survey.{Survey, count}
use Rattle.sweep.specs.Members.{In}
use Rattle.sweep.specs.Sweep.{StateOf, EdgeOf, edge, turned, pairs}
use Rattle.triangles.specs.Growth.{swept}
use Rattle.hull.specs.Hull.{is_hull_side}

-- The sides of the lower chain of a state, or of the upper one, as the outline runs along them; the top one first.
unfoldable pub chain_sides : Bool → StateOf ℕ → List (EdgeOf ℕ)
chain_sides upper s = cond upper (map turned (pairs s.top s.up)) (pairs s.top s.lo)

-- The same for a chain in a slice: the side above entry k, and those below entry a.
unfoldable pub side_on : Bool → List ℕ → ℕ → EdgeOf ℕ
side_on upper chain k = cond upper (edge (get_or chain (k + 1) 0) (get_or chain k 0)) (edge (get_or chain k 0) (get_or chain (k + 1) 0))

unfoldable pub sides_on : Bool → List ℕ → ℕ → List (EdgeOf ℕ)
sides_on upper chain zero = []
sides_on upper chain (suc a) = side_on upper chain a ∷ sides_on upper chain a

-- Up to entry a the slice holds the chain of the stations l in order.
pub record Climbed (f : ℕ → Place) (upper : Bool) (l chain : List ℕ) (a : ℕ) : Type 0 where
  pub sides : sides_on upper chain a ≡ chain_sides upper (swept f l)
  pub stations : (k : ℕ) → k ≤ a → In (get_or chain k 0) l
  pub below : a < length l

-- None of the first n entries names a station.
pub record Blank (n : ℕ) (next : List ℕ) : Type 0 where
  pub none : (i : ℕ) → i < n → get_or next i 0 ≡ 65535

-- The end of each side written at its start, the last side of a list first.
unfoldable pub written : List (EdgeOf ℕ) → List ℕ → List ℕ
written [] next = next
written (e ∷ es) next = set (written es next) e.from e.to

-- Entry i names station j exactly if the hull has a side from i to j.
pub record Outlined (s : Survey) (next : List ℕ) : Type 0 where
  pub side : (i j : ℕ) → i < count s → j < count s → get_or next i 0 ≡ j → is_hull_side s i j ≡ true
  pub entry : (i j : ℕ) → is_hull_side s i j ≡ true → get_or next i 0 ≡ j
