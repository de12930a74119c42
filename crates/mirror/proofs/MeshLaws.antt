-- The mesh of either kind is the same where every height is negated. Assumes nothing.
--
-- The sweep and the swaps take places alone: each of their steps is, over the survey's places, the same step.
use mathlib.Core.Path.{◌≡◌, refl, ap, ◌∙◌}
use mathlib.Core.Bool.{true, false, cond, ◌&&◌}
use mathlib.Core.List.{List, [], ◌∷◌, map}
use mathlib.Core.Option.{Option, none, some as found}
use Prim.Native.Nat.{ℕ, zero, suc}
use lib.Dec.{ltb, eqb}
use Rattle.lists.specs.Lowest.{lowest, some}
use Rattle.survey.specs.Survey.{Survey, count, place_of, in_use}
use Rattle.sweep.specs.Page.{page, is_before}
use Rattle.sweep.specs.Sweep.{Three}
use Rattle.trace.specs.Side.{◌⟶◌, left_corner}
use Rattle.triangles.specs.Order.{insert_in, in_order_below}
use Rattle.triangles.specs.Mesh.{lowest_first, triangles}
use Rattle.listing.specs.Listed.{listed}
use Rattle.fatter.specs.Swap.{is_far_inside, may_swap, swaps_at, lower, higher, is_left, swap, swap_lowest, load, slack, swaps_up_to, swaps}
use Rattle.fatter.specs.Fatter.{fatter}
use Rattle.mesh.specs.Kinds.{triangles_of}
use Rattle.mirror.specs.Mirror.{negated}

module _ (s : Survey) where
  -- The sweep.
  insert_same : (k : ℕ) (l : List ℕ) → insert_in (negated s) k l ≡ insert_in s k l
  unfolding insert_in
  insert_same k [] = refl
  insert_same k (j ∷ l) = λ t. cond (is_before (place_of s j) (place_of s k)) (j ∷ insert_same k l t) (k ∷ j ∷ l)

  order_same : (n : ℕ) → in_order_below (negated s) n ≡ in_order_below s n
  unfolding in_order_below
  order_same zero = refl
  order_same (suc k) = λ t. cond (in_use s k) ((ap (insert_in (negated s) k) (order_same k) ∙ insert_same k (in_order_below s k)) t) (order_same k t)

  triangles_same : triangles (negated s) ≡ triangles s
  unfolding triangles
  triangles_same = ap (λ (l : List ℕ). map lowest_first (page (place_of s) l)) (order_same (count s))

  -- The swaps.
  far_same : (i j : ℕ) (l r : Option ℕ) → is_far_inside (negated s) i j l r ≡ is_far_inside s i j l r
  far_same i j none r = refl
  far_same i j (found l) none = refl
  far_same i j (found l) (found r) = refl

  may_same : may_swap (negated s) ≡ may_swap s
  unfolding may_swap
  may_same t ts i j = ltb i j && far_same i j (left_corner ts (i ⟶ j)) (left_corner ts (j ⟶ i)) t

  left_same : (ts : List (Three ℕ)) → is_left (negated s) ts ≡ is_left s ts
  unfolding is_left swaps_at
  left_same ts = λ t. some (λ i. some (may_same t ts i) (count s)) (count s)

  lowest_same : (ts : List (Three ℕ)) → swap_lowest (negated s) ts ≡ swap_lowest s ts
  unfolding swap_lowest lower higher swaps_at
  lowest_same ts = λ t.
      let i = lowest (λ i. some (may_same t ts i) (count s)) (count s) in
      swap ts i (lowest (may_same t ts i) (count s))

  up_to_same : (k : ℕ) (ts : List (Three ℕ)) → swaps_up_to (negated s) k ts ≡ swaps_up_to s k ts
  unfolding swaps_up_to
  up_to_same zero ts = refl
  up_to_same (suc k) ts = λ t.
      elim (left_same ts t) [ true ↦ (ap (swaps_up_to (negated s) k) (lowest_same ts) ∙ up_to_same k (swap_lowest s ts)) t | false ↦ ts ]

  -- The mesh of either kind.
  pub mesh_same : (kind : ℕ) → triangles_of kind (negated s) ≡ triangles_of kind s
  unfolding triangles_of fatter swaps slack load
  mesh_same kind = λ t.
      cond (eqb kind 0) (triangles_same t)
      (listed (map lowest_first ((ap (swaps (negated s)) triangles_same ∙ up_to_same (slack s (triangles s)) (triangles s)) t)))
