-- A survey: document 01, "The four jobs". 'Stations are numbered from 0.' Assumes nothing.
use Rattle.std.specs.Prelude.{Bool, List, ℕ, ltb, ℤ, pos, length, get_or}
use Rattle.whole.specs.Place.{Place, place}

-- The lists that are handed in.
pub record Survey : Type 0 where
  pub xs : List ℕ
  pub ys : List ℕ
  pub zs : List ℤ

abbrev pub survey : List ℕ → List ℕ → List ℤ → Survey
survey xs ys zs = record { xs = xs; ys = ys; zs = zs }

-- How many stations there are, where each one stands, and its height.
abbrev pub count : Survey → ℕ
count s = length s.xs

abbrev pub place_of : Survey → ℕ → Place
place_of s k = place (get_or s.xs k 0) (get_or s.ys k 0)

abbrev pub height_of : Survey → ℕ → ℤ
height_of s k = get_or s.zs k (pos 0)

-- k is a station that takes part in the jobs.
abbrev pub in_use : Survey → ℕ → Bool
in_use s k = ltb k (count s)
