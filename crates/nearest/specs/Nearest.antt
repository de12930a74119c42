-- The stations that a station's slopes lean on: document 01, "Slopes". Assumes nothing.
use Rattle.std.specs.Prelude.{Bool, false, cond, not, ◌&&◌, ◌||◌, List, [], ◌∷◌, ◌++◌, ℕ, zero, suc, ◌+◌, ◌*◌, ◌-◌, eqb, ltb, length, take}
use Rattle.whole.specs.Place.{Place}
use Rattle.survey.specs.Survey.{Survey, count, place_of, in_use}
use Rattle.survey.specs.Checks.{is_turn}

-- 'squared distance', from how far apart the x are and how far apart the y.
abbrev pub gap : ℕ → ℕ → ℕ
gap a b = (a - b) + (b - a)

unfoldable pub squared_distance : Place → Place → ℕ
squared_distance a b = gap a.x b.x * gap a.x b.x + gap a.y b.y * gap a.y b.y

-- k put among numbers that stand by rising distance: before the first that is farther. It comes after one that is as far, so that
-- numbers that are put in by rising number have 'ties to the lower number'.
abbrev pub put : (ℕ → ℕ) → ℕ → List ℕ → List ℕ
put distance k [] = k ∷ []
put distance k (j ∷ l) = cond (ltb (distance k) (distance j)) (k ∷ j ∷ l) (j ∷ put distance k l)

-- The numbers below n that pass p, by rising distance, 'ties to the lower number'.
abbrev pub sorted : (ℕ → ℕ) → (ℕ → Bool) → ℕ → List ℕ
sorted distance p zero = []
sorted distance p (suc n) = cond (p n) (put distance n (sorted distance p n)) (sorted distance p n)

-- The stations that pass p, the nearest to station i first.
abbrev pub distance_from : Survey → ℕ → ℕ → ℕ
distance_from s i k = squared_distance (place_of s i) (place_of s k)

unfoldable pub nearest : Survey → ℕ → (ℕ → Bool) → List ℕ
nearest s i p = sorted (distance_from s i) p (count s)

-- 'the four nearest others (fewer if n is under 5)'
abbrev pub is_other : Survey → ℕ → ℕ → Bool
is_other s i k = in_use s k && not (eqb k i)

abbrev pub taken : Survey → ℕ → List ℕ
taken s i = take 4 (nearest s i (is_other s i))

-- Some number of a list passes p.
abbrev pub any : (ℕ → Bool) → List ℕ → Bool
any p [] = false
any p (k ∷ l) = p k || any p l

-- 'If these and the station lie on one line, the last taken is replaced by the nearest station off that line, same ties.' The line is
-- that of station i and the first taken, a, and l are those taken after it.
abbrev pub replaced : Survey → ℕ → ℕ → List ℕ → List ℕ
replaced s i a l = cond (any (is_turn s i a) l) l (take (length l - 1) l ++ take 1 (nearest s i (is_turn s i a)))

abbrev pub corrected : Survey → ℕ → List ℕ → List ℕ
corrected s i [] = []
corrected s i (a ∷ l) = a ∷ replaced s i a l

-- The stations that station i's slopes lean on, in the order taken.
unfoldable pub neighbours : Survey → ℕ → List ℕ
neighbours s i = corrected s i (taken s i)
