-- What one station makes of the two chains and of the triangle room. Assumes nothing.
use Rattle.std.specs.Prelude.{Bool, true, false, List, [], ◌∷◌, map, ◌≡◌, ℕ, ◌+◌, ◌-◌, ltb, set}
use Rattle.whole.specs.Place.{Place}
use Rattle.sweep.specs.Rising.{Rises}
use Rattle.sweep.specs.Sweep.{StateOf, start, mesh_n}
use Rattle.triangles.specs.Chain.{is_seen_at, down_to, values, put_all}
use Rattle.triangles.specs.Mesh.{fan_at}

-- The entry of a chain with top entry a down to which q sees all sides.
abbrev pub left : (ℕ → Place) → Bool → List ℕ → ℕ → ℕ → ℕ
left f upper chain a q = down_to (is_seen_at f upper chain q) a

-- The lower chain's triangles come first, from the bottom up; then the upper chain's, from the top down, but from the bottom up where
-- they are the first triangles of all.
pub record Growth
    (f : ℕ → Place)
    (q : ℕ)
    (lo : List ℕ)
    (a : ℕ)
    (up : List ℕ)
    (b : ℕ)
    (room : List ℕ)
    (k : ℕ)
    (a' : ℕ)
    (lo' : List ℕ)
    (b' : ℕ)
    (up' : List ℕ)
    (k' : ℕ)
    (room' : List ℕ)
    : Type 0 where
  pub low-top : a' ≡ left f false lo a q + 1
  pub low_is : lo' ≡ set lo (left f false lo a q + 1) q
  pub up_top : b' ≡ left f true up b q + 1
  pub up_is : up' ≡ set up (left f true up b q + 1) q
  pub count : k' ≡ k + (a - left f false lo a q) + (b - left f true up b q)
  pub room_is :
      room' ≡
      put_all (k + (a - left f false lo a q)) (values (fan_at true (ltb 0 k) up (left f true up b q) b q) 0 (b - left f true up b q))
      (put_all k (values (fan_at false false lo (left f false lo a q) a q) 0 (a - left f false lo a q)) room)

-- The sweep's state after the stations of a list.
abbrev pub swept : (ℕ → Place) → List ℕ → StateOf ℕ
swept f [] = start 0
swept f (p ∷ ps) = mesh_n f p ps

-- The stations of a list stand 'by rising x, then rising y'.
abbrev pub Rising : (ℕ → Place) → List ℕ → Type 0
Rising f [] = Unit {0}
Rising f (p ∷ ps) = Rises (f p) (map f ps)
