-- The sides of a list of triangles that run each other back: document 02, L10. Half-sides are those of `neighbours`. Assumes nothing.
use Rattle.std.specs.Prelude.{Bool, true, cond, ◌&&◌, List, ◌≡◌, ℕ, ◌≤◌, ◌<◌, eqb, ltb, get_or}
use Rattle.sweep.specs.Sweep.{Three}
use Rattle.neighbours.specs.Half.{after, corner_in}
use Rattle.hull.specs.MeshOf.{runs_in}

-- The triangles are sewn together but for the sides that `next` names, from station i to station next i: any other side is run as often
-- one way as the other, and what is not run back is run once at most.
pub record SewnUp (next : ℕ → ℕ) (ts : List (Three ℕ)) : Type 0 where
  pub even : (i j : ℕ) → (next i ≡ j → ⊥) → (next j ≡ i → ⊥) → runs_in i j ts ≡ runs_in j i ts
  pub single : (i j : ℕ) → runs_in j i ts ≡ 0 → runs_in i j ts ≤ 1

-- ---- the test
-- Of half-side h, one of m, from station a to station b. The triangles' corners stand in a list; in others a guess of each half-side's
-- twin, the station that the outline goes on to from each station, and one half-side for each station.
--
-- Where g < m is the guess: g starts from where h runs to, and h is its twin. That g runs to where h starts is its own test.
abbrev pub is_matched : List ℕ → List ℕ → ℕ → ℕ → ℕ → Bool
is_matched corners twin g h b = eqb (corner_in corners g) b && eqb (get_or twin g 0) h

-- Where there is none: h runs as the outline does, and is the one that stands for the station that it starts from.
abbrev pub is_lone : List ℕ → List ℕ → ℕ → ℕ → ℕ → Bool
is_lone next first h a b = eqb (get_or next a 0) b && eqb (get_or first a 0) h

abbrev pub is_tied : List ℕ → List ℕ → List ℕ → List ℕ → ℕ → ℕ → ℕ → ℕ → Bool
is_tied corners twin next first m h a b =
    cond (ltb (get_or twin h 0) m) (is_matched corners twin (get_or twin h 0) h b) (is_lone next first h a b)

abbrev pub passes : List ℕ → List ℕ → List ℕ → List ℕ → ℕ → ℕ → Bool
passes corners twin next first m h = is_tied corners twin next first m h (corner_in corners h) (corner_in corners (after h))

-- All of them pass.
pub record AllTied (corners twin next first : List ℕ) (m : ℕ) : Type 0 where
  pub each : (h : ℕ) → h < m → passes corners twin next first m h ≡ true
