-- What a survey that passed the checks gives to the sweep, and that what the sweep makes are the page's triangles. Assumes nothing.
use mathlib.Core.Path.{◌≡◌, refl, sym, ap, ◌∙◌}
use mathlib.Core.List.{List, [], ◌∷◌, ◌++◌, map}
use Prim.Native.Nat.{ℕ, zero, suc, ◌*◌, ◌-◌, ◌≤◌, ◌<◌}
use native.Mathlib.Decide.{dec_lt}
use native.Mathlib.Omega.{arith}
use lib.ListN.{length, get_or, take, length-map, length-append, get_or-eq_default}
use Rattle.lists.specs.Sort.{sort}
use Rattle.lists.specs.Table.{table}
use Rattle.lists.proofs.SortLaws.{sort-length}
use Rattle.lists.proofs.TableLaws.{table-length}
use Rattle.whole.specs.Place.{Place}
use Rattle.sweep.specs.Page.{page}
use Rattle.sweep.specs.Rising.{Sorted}
use Rattle.sweep.proofs.PageLaws.{page_is}
use Rattle.survey.specs.Survey.{Survey, count, place_of}
use Rattle.survey.specs.Fit.{Fit}
use Rattle.triangles.specs.Order.{in_order}
use Rattle.survey.specs.Rank.{rank_at, station, by_rank}
use Rattle.triangles.specs.Mesh.{lowest_first, triangles}
use Rattle.triangles.specs.Growth.{swept, Rising}
use Rattle.triangles.proofs.SweptLaws.{swept-fits}
use Rattle.triangles.proofs.OrderLaws.{order-sorted, order-ranks, sorted_rises}

-- The ranked stations in front of a longer list.
pub by_rank-length : (xs ys : List ℕ) → length (by_rank xs ys) ≡ length xs
by_rank-length xs ys = length-map (sort (table (rank_at xs ys) (length xs))) station ∙ sort-length (table (rank_at xs ys) (length xs)) ∙ table-length (rank_at xs ys) (length xs)

front : (l rest : List ℕ) (n : ℕ) → length l ≡ n → take n (l ++ rest) ≡ l
front [] rest zero e = refl
front [] rest (suc n) e = absurd (omega (arith, e))
front (x ∷ l) rest zero e = absurd (omega (arith, e))
front (x ∷ l) rest (suc n) e = ap (λ m. x ∷ m) (front l rest n (omega (arith, e)))

pub ranked : (xs ys rest : List ℕ) {order : List ℕ} → order ≡ by_rank xs ys ++ rest → take (length xs) order ≡ by_rank xs ys
ranked xs ys rest e = ap (take (length xs)) e ∙ front (by_rank xs ys) rest (length xs) (by_rank-length xs ys)

pub ranked-length : (xs ys rest : List ℕ) {order : List ℕ} → order ≡ by_rank xs ys ++ rest → length xs ≤ length order
ranked-length xs ys rest e = omega (arith, ap length e, length-append (by_rank xs ys) rest, by_rank-length xs ys)

sorted-rising : (f : ℕ → Place) (l : List ℕ) → Sorted f l → Rising f l
sorted-rising f [] r = tt
sorted-rising f (p ∷ ps) r = sorted_rises f p ps r

-- The page's mesh of stations in order is the sweep's.
page-swept : (f : ℕ → Place) (l : List ℕ) → Rising f l → page f l ≡ (swept f l).tris
unfolding page
page-swept f [] r = refl
page-swept f (p ∷ ps) r = page_is f p ps r

module _ (s : Survey) (fit : Fit s) where
  pub fit-rising : Rising (place_of s) (by_rank s.xs s.ys)
  fit-rising = rw (order-ranks s fit) (sorted-rising (place_of s) (in_order s) (order-sorted s fit))

  pub fit-triangles : map lowest_first (swept (place_of s) (by_rank s.xs s.ys)).tris ≡ triangles s
  unfolding triangles
  fit-triangles =
      ap (λ l. map lowest_first (swept (place_of s) l).tris) (order-ranks s fit)
      ∙ ap (map lowest_first) (sym (page-swept (place_of s) (in_order s) (sorted-rising (place_of s) (in_order s) (order-sorted s fit))))

  -- Each coordinate is in range, also past the lists' ends.
  pub fit-x : (i : ℕ) → get_or s.xs i 0 ≤ 8191
  fit-x i = go (dec_lt i (length s.xs))
    where
      go : Dec (i < length s.xs) → get_or s.xs i 0 ≤ 8191
      go (yes h) = fit.x-range i h
      go (no h) = let e : get_or s.xs i 0 ≡ 0 = get_or-eq_default s.xs 0 (omega arith) in omega (arith, e)

  pub fit-y : (i : ℕ) → get_or s.ys i 0 ≤ 8191
  fit-y i = go (dec_lt i (length s.xs))
    where
      go : Dec (i < length s.xs) → get_or s.ys i 0 ≤ 8191
      go (yes h) = fit.y-range i h
      go (no h) = let e : get_or s.ys i 0 ≡ 0 = get_or-eq_default s.ys 0 (omega (arith, fit.ys-count)) in omega (arith, e)

  -- How many they are.
  pub fit_count : length (swept (place_of s) (by_rank s.xs s.ys)).tris ≡ length (triangles s)
  fit_count = sym (length-map (swept (place_of s) (by_rank s.xs s.ys)).tris lowest_first) ∙ ap length fit-triangles

  -- They fit their room.
  pub fit-few : length (triangles s) ≤ 2 * count s - 5
  fit-few =
      let n = by_rank-length s.xs s.ys in
      omega (arith, fit_count, swept-fits (place_of s) (by_rank s.xs s.ys) (count s) fit.least (omega (arith, n)) fit-rising)
