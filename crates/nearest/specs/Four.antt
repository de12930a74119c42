-- How the code keeps the nearest stations: four of them, with their distances while it searches. Assumes nothing.
use Rattle.std.specs.Prelude.{Bool, cond, ◌||◌, List, [], ◌∷◌, map, ◌≡◌, ℕ, ◌+◌, ◌*◌, ◌≤◌, ◌<◌, ltb, length, get_or}
use Rattle.survey.specs.Survey.{Survey}
use Rattle.survey.specs.Checks.{is_turn}
use Rattle.nearest.specs.declared.Four.{Four}
use Rattle.nearest.specs.declared.Taken.{Taken}
use Rattle.nearest.specs.declared.Near.{Near}
use Rattle.nearest.specs.Nearest.{distance_from, nearest, neighbours}
use Rattle.nearest.specs.Places.{places}

-- Farther than any two places of a survey are.
abbrev pub far : ℕ
far = 4294967295

-- The first four of a list and their distances. Where there are fewer, `far` and the number i stand for the missing ones.
abbrev pub taken_at : (ℕ → ℕ) → ℕ → List ℕ → ℕ → Taken
taken_at distance i l j = record { distance = get_or (map distance l) j far; station = get_or l j i }

abbrev pub four_of : (ℕ → ℕ) → ℕ → List ℕ → Four
four_of distance i l = record { a = taken_at distance i l 0; b = taken_at distance i l 1; c = taken_at distance i l 2; d = taken_at distance i l 3 }

-- Station k at a distance, put among four.
abbrev pub put_four : Four → ℕ → ℕ → Four
put_four f distance k =
    let taken : Taken = record { distance = distance; station = k } in
    cond (ltb distance f.a.distance)
    (record { a = taken; b = f.a; c = f.b; d = f.c })
    (cond (ltb distance f.b.distance)
    (record { a = f.a; b = taken; c = f.b; d = f.c })
    (cond (ltb distance f.c.distance)
    (record { a = f.a; b = f.b; c = taken; d = f.c })
    (cond (ltb distance f.d.distance)
    (record { a = f.a; b = f.b; c = f.c; d = taken })
    f)))

-- Station k put among the nearest to station i that pass p, if it passes; and the first four of those.
abbrev pub put_where : Survey → ℕ → (ℕ → Bool) → Four → ℕ → Four
put_where s i p f k = cond (p k) (put_four f (distance_from s i k) k) f

abbrev pub four_where : Survey → ℕ → (ℕ → Bool) → Four
four_where s i p = four_of (distance_from s i) i (nearest s i p)

-- A closure that may answer b at k where `answers k b` tests for p below n.
abbrev pub Tests : (ℕ → Bool → Type 0) → ℕ → (ℕ → Bool) → Type 0
Tests answers n p = (k : ℕ) (b : Bool) → k < n → answers k b → b ≡ p k

-- The distances do not fall.
pub record Rising (f : Four) : Type 0 where
  pub ab : f.a.distance ≤ f.b.distance
  pub bc : f.b.distance ≤ f.c.distance
  pub cd : f.c.distance ≤ f.d.distance

-- The first four numbers of a list. Where there are fewer, i stands for the missing ones.
abbrev pub near_of : ℕ → List ℕ → Near
near_of i l = record { a = get_or l 0 i; b = get_or l 1 i; c = get_or l 2 i; d = get_or l 3 i }

-- One of b, c, d is off the line of station i and a.
abbrev pub has_off_line : Survey → ℕ → Near → Bool
has_off_line s i f = is_turn s i f.a f.b || (is_turn s i f.a f.c || is_turn s i f.a f.d)

-- The same four as a row of numbers.
abbrev pub near_row : Survey → ℕ → List ℕ
near_row s i = let f = near_of i (neighbours s i) in f.a ∷ f.b ∷ f.c ∷ f.d ∷ []

-- A list that holds the row of each station.
pub record Kept (xs ys near : List ℕ) : Type 0 where
  pub enough : 4 * length xs ≤ length near
  pub row : (i j : ℕ) → i < length xs → j < 4 → get_or near (4 * i + j) 0 ≡ get_or (near_row (places xs ys) i) j 0
