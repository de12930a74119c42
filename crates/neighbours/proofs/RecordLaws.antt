-- Records and triangle list say the same, and each is worked out from the other: the records of a list say the same as it does
-- (`records-say`), no other records do (`records_only`), and no other list does (`list_only`). Assumes nothing.
use Prim.Native.Nat.{ℕ, zero, suc, ◌+◌, ◌*◌, ◌≤◌, ◌<◌}
use native.Mathlib.Omega.{arith}
use mathlib.Core.Path.{◌≡◌, refl, sym, ap, ap₂, ◌∙◌}
use mathlib.Core.List.{List, [], ◌∷◌, map}
use mathlib.Core.Option.{Option, none, some}
use lib.ListN.{length, get_or, length-map, get_or-map}
use Rattle.sweep.specs.Sweep.{Three, tri, flat}
use Rattle.trace.specs.Side.{Directed, reversed}
use Rattle.trace.specs.Mesh.{count, boundaries}
use Rattle.neighbours.specs.Half.{side_at, twin}
use Rattle.neighbours.specs.Records.{Record, list_of, record_at, records_from, records_of, Across, neighbour, hull, RightAt, RightFrom, none_left, one_more, SaySame, across_of}
use Rattle.neighbours.specs.Room.{number_of, neighbours_in}
use Rattle.neighbours.proofs.HalfLaws.{half-some, half_none, half_is}
use Rattle.neighbours.proofs.RoomLaws.{length-flat}

-- The corners of the records are the triangles.
pub records-listed : (ts : List (Three ℕ)) (k : ℕ) (us : List (Three ℕ)) → list_of (records_from ts k us) ≡ us
unfolding records_from
records-listed ts k [] = refl
records-listed ts k (t ∷ us) = ap (λ l. t ∷ l) (records-listed ts (suc k) us)

-- The twin lies across.
pub twin-across : (ts : List (Three ℕ)) (h : ℕ) → Across ts h (twin ts h)
twin-across ts h = by (twin ts h) refl
  where
    by : (e : Option ℕ) → twin ts h ≡ e → Across ts h e
    by none q = hull (half_none ts (reversed (side_at ts h)) q)
    by (some g) q = let s = half-some ts (reversed (side_at ts h)) g q in neighbour s.0 s.1

records-right : (ts : List (Three ℕ)) (k : ℕ) (us : List (Three ℕ)) → RightFrom ts k (records_from ts k us)
unfolding records_from
records-right ts k [] = none_left
records-right ts k (t ∷ us) =
    one_more (record { first = twin-across ts (3 * k); second = twin-across ts (3 * k + 1); third = twin-across ts (3 * k + 2) }) (records-right ts (suc k) us)

-- The records of a triangle list say the same as it does.
pub records-say : (ts : List (Three ℕ)) → SaySame ts (records_of ts)
records-say ts = record { listed = records-listed ts 0 ts; right = records-right ts 0 ts }

-- List, records, list.
pub list_back : (ts : List (Three ℕ)) → list_of (records_of ts) ≡ ts
list_back ts = records-listed ts 0 ts

-- One list alone says the same as some records.
pub list_only : (ts us : List (Three ℕ)) (rs : List Record) → SaySame ts rs → SaySame us rs → ts ≡ us
list_only ts us rs s t = sym s.listed ∙ t.listed

-- Where no directed side stands twice:
module _ (ts : List (Three ℕ)) (single : (d : Directed) → count d (boundaries ts) ≤ 1) where
  -- What lies across is the twin.
  pub across_only : (h : ℕ) (e : Option ℕ) → Across ts h e → e ≡ twin ts h
  across_only h e (neighbour {g} l q) = sym (half_is ts single (reversed (side_at ts h)) g l q)
  across_only h e (hull f) = by (twin ts h) refl
    where
      by : (r : Option ℕ) → twin ts h ≡ r → none ≡ twin ts h
      by none q = sym q
      by (some g) q = let s = half-some ts (reversed (side_at ts h)) g q in absurd (f g s.0 s.1)

  record_only : (k : ℕ) (r : Record) → RightAt ts k r → r ≡ record_at ts k r.corners
  record_only k r a = λ i. record { corners = r.corners; neighbours = tri (across_only (3 * k) r.neighbours.a a.first i) (across_only (3 * k + 1) r.neighbours.b a.second i) (across_only (3 * k + 2) r.neighbours.c a.third i) }

  right_only : (k : ℕ) (rs : List Record) → RightFrom ts k rs → rs ≡ records_from ts k (list_of rs)
  unfolding records_from
  right_only k rs (none_left) = refl
  right_only k rs (one_more {r = r} {rs = qs} a f) = ap₂ (λ x l. x ∷ l) (record_only k r a) (right_only (suc k) qs f)

  -- No other records say the same as a triangle list.
  pub records_only : (rs : List Record) → SaySame ts rs → rs ≡ records_of ts
  records_only rs s = right_only 0 rs s.right ∙ ap (records_from ts 0) s.listed

-- Records, list, records.
pub records_back : (rs : List Record) → ((d : Directed) → count d (boundaries (list_of rs)) ≤ 1) → SaySame (list_of rs) rs → records_of (list_of rs) ≡ rs
records_back rs single s = sym (records_only (list_of rs) single rs s)

-- ---- what lies across a half-side, by the records
flat-third : {A : Type 0} (d : A) (t : Three A) (ts : List (Three A)) (h : ℕ) → get_or (flat (t ∷ ts)) (suc (suc (suc h))) d ≡ get_or (flat ts) h d
unfolding flat
flat-third d t ts h = refl

pub across_from : (ts : List (Three ℕ)) (k : ℕ) (us : List (Three ℕ)) (h : ℕ) → h < 3 * length us → across_of (records_from ts k us) h ≡ twin ts (3 * k + h)
unfolding records_from flat
across_from ts k [] h l = absurd (omega arith)
across_from ts k (t ∷ us) zero l = let e : 3 * k ≡ 3 * k + 0 = omega arith in ap (twin ts) e
across_from ts k (t ∷ us) (suc zero) l = refl
across_from ts k (t ∷ us) (suc (suc zero)) l = refl
across_from ts k (t ∷ us) (suc (suc (suc h))) l =
    let e : 3 * suc k + h ≡ 3 * k + suc (suc (suc h)) = omega arith in
    across_from ts (suc k) us h (omega arith) ∙ ap (twin ts) e

pub across_is : (ts : List (Three ℕ)) (h : ℕ) → h < 3 * length ts → across_of (records_of ts) h ≡ twin ts h
across_is ts h l = let e : 3 * 0 + h ≡ h = omega arith in across_from ts 0 ts h l ∙ ap (twin ts) e

-- ---- the neighbours as numbers
pub records-length : (ts : List (Three ℕ)) (k : ℕ) (us : List (Three ℕ)) → length (records_from ts k us) ≡ length us
unfolding records_from
records-length ts k [] = refl
records-length ts k (t ∷ us) = ap suc (records-length ts (suc k) us)

-- Three to a triangle, each the number of the twin.
pub neighbours-length : (ts : List (Three ℕ)) → length (neighbours_in (records_of ts)) ≡ 3 * length ts
neighbours-length ts =
    let n = map (λ (r : Record). r.neighbours) (records_of ts) in
    omega (arith, length-map (flat n) number_of, length-flat n, length-map (records_of ts) (λ (r : Record). r.neighbours), records-length ts 0 ts)

pub neighbours_at : (ts : List (Three ℕ)) (h : ℕ) → h < 3 * length ts → get_or (neighbours_in (records_of ts)) h 32767 ≡ number_of (twin ts h)
neighbours_at ts h l = get_or-map number_of (flat (map (λ (r : Record). r.neighbours) (records_of ts))) h none ∙ ap number_of (across_is ts h l)
