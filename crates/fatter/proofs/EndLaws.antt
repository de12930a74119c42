-- 'Always take the lowest such side, by (lower, higher) station, until none is left': that it ends, in a mesh, in which no side may
-- be swapped, and in one way only. Assumes nothing.
use mathlib.Core.Path.{◌≡◌, refl, sym, ◌∙◌, subst}
use mathlib.Core.Bool.{Bool, true, false, true≢false}
use mathlib.Core.List.{List, map}
use mathlib.Core.Option.{Option, none, some as found}
use Prim.Native.Nat.{ℕ, zero, suc, ◌+◌, ◌≤◌, ◌<◌}
use native.Mathlib.Omega.{arith}
use borrow.Author.Tests.{ltb-true, lt-ltb}
use lib.Dec.{ltb}
use lib.IntN.{ℤ, pos, negsuc, nat_abs}
use lib.Signed.{◌<ℤ◌}
use Rattle.lists.proofs.LowestLaws.{some-found}
use Rattle.lists.proofs.TestLaws.{and_left, and_right}
use Rattle.whole.proofs.Bridge.{int, test-true, true-test}
use Rattle.survey.specs.Fit.{Fit}
use Rattle.survey.specs.Survey.{Survey, count, place_of}
use Rattle.sweep.specs.Sweep.{Three}
use Rattle.trace.specs.Side.{◌⟶◌, left_corner}
use Rattle.trace.proofs.MeshLaws.{left_has}
use Rattle.hull.specs.MeshOf.{MeshOf}
use Rattle.circle.specs.Circle.{circle}
use Rattle.fatter.specs.Swap.{is_far_inside, may_swap, swaps_at, lower, higher, is_left, exchange, swap, swap_lowest, Swapped, none_left, one_more, slack, swaps_up_to, swaps}
use Rattle.fatter.proofs.KeptLaws.{swap-keeps, slack-falls}

-- A side that may be swapped, with its two triangles.
pub record Swappable (s : Survey) (ts : List (Three ℕ)) (i j : ℕ) : Type 0 where
  pub l : ℕ
  pub r : ℕ
  pub rises : i < j
  pub on : left_corner ts (i ⟶ j) ≡ found l
  pub back : left_corner ts (j ⟶ i) ≡ found r
  pub far : pos 0 <ℤ circle (place_of s i) (place_of s j) (place_of s l) (place_of s r)

pub swappable : (s : Survey) (ts : List (Three ℕ)) (i j : ℕ) → may_swap s ts i j ≡ true → Swappable s ts i j
unfolding may_swap
swappable s ts i j h = go (left_corner ts (i ⟶ j)) (left_corner ts (j ⟶ i)) refl refl
  where
    test : is_far_inside s i j (left_corner ts (i ⟶ j)) (left_corner ts (j ⟶ i)) ≡ true
    test = and_right (ltb i j) _ h

    go : (x y : Option ℕ) → left_corner ts (i ⟶ j) ≡ x → left_corner ts (j ⟶ i) ≡ y → Swappable s ts i j
    go none y p q = absurd (true≢false (sym (rw p at test)))
    go (found l) none p q = absurd (true≢false (sym (rw (p, q) at test)))
    go (found l) (found r) p q = record { l = l; r = r; rises = ltb-true i j (and_left _ _ h); on = p; back = q; far = test-true (rw (p, q) at test) }

pub may-swap : (s : Survey) (ts : List (Three ℕ)) (i j : ℕ) → Swappable s ts i j → may_swap s ts i j ≡ true
unfolding may_swap
may-swap s ts i j h = rw (h.on, h.back, lt-ltb i j h.rises) (true-test h.far)

-- The lowest side may be swapped.
pub lowest-swappable : (s : Survey) (ts : List (Three ℕ)) → is_left s ts ≡ true → Swappable s ts (lower s ts) (higher s ts)
unfolding is_left lower higher swaps_at
lowest-swappable s ts h =
    swappable s ts (lower s ts) (higher s ts) (some-found (may_swap s ts (lower s ts)) (count s) (some-found (swaps_at s ts) (count s) h))

-- One swap.
module _ (s : Survey) (fit : Fit s) (ts : List (Three ℕ)) (m : MeshOf s ts) where
  pub swap_is : {i j : ℕ} (h : Swappable s ts i j) → swap ts i j ≡ map (exchange i j h.l h.r) ts
  unfolding swap
  swap_is h = rw (h.on, h.back)

  pub swap-mesh : {i j : ℕ} → Swappable s ts i j → MeshOf s (swap ts i j)
  swap-mesh {i} {j} h =
      subst (MeshOf s) (sym (swap_is h))
      (swap-keeps s ts m i j h.l h.r (left_has i j h.l ts h.on) (left_has j i h.r ts h.back) h.far fit)

  pub swap-falls : {i j : ℕ} (h : Swappable s ts i j)
      → slack s (swap ts i j) + nat_abs (circle (place_of s i) (place_of s j) (place_of s h.l) (place_of s h.r)) ≡ slack s ts
  swap-falls {i} {j} h =
      rw (swap_is h)
      (slack-falls s ts m i j h.l h.r (left_has i j h.l ts h.on) (left_has j i h.r ts h.back) h.far)

  pub lowest-mesh : is_left s ts ≡ true → MeshOf s (swap_lowest s ts)
  unfolding swap_lowest
  lowest-mesh h = swap-mesh (lowest-swappable s ts h)

  pub lowest-falls : is_left s ts ≡ true → slack s (swap_lowest s ts) < slack s ts
  unfolding swap_lowest
  lowest-falls h = let k = lowest-swappable s ts h in omega (arith, swap-falls k, size k.far)
    where
      size : {z : ℤ} → pos 0 <ℤ z → 0 < nat_abs z
      size {z = pos n} h = omega (arith, int)
      size {z = negsuc n} h = absurd h.lt

-- ---- until none is left
module _ (s : Survey) (fit : Fit s) where
  -- As many swaps as the slack are enough.
  pub up_to_end : (k : ℕ) (ts : List (Three ℕ)) → MeshOf s ts → slack s ts ≤ k → Swapped s ts (swaps_up_to s k ts)
  unfolding swaps_up_to
  up_to_end zero ts m h = go (is_left s ts) refl
    where
      go : (b : Bool) → is_left s ts ≡ b → Swapped s ts ts
      go true e = absurd (omega (arith, lowest-falls s fit ts m e))
      go false e = none_left e
  up_to_end (suc k) ts m h = go (is_left s ts) refl (up_to_end k (swap_lowest s ts))
    where
      go : (b : Bool) → is_left s ts ≡ b → (MeshOf s (swap_lowest s ts) → slack s (swap_lowest s ts) ≤ k → Swapped s (swap_lowest s ts) (swaps_up_to s k (swap_lowest s ts)))
          → Swapped s ts (elim b [ true ↦ swaps_up_to s k (swap_lowest s ts) | false ↦ ts ])
      go true e r = one_more e (r (lowest-mesh s fit ts m e) (omega (arith, lowest-falls s fit ts m e)))
      go false e r = none_left e

  -- 'Show that it ends'
  pub swaps-end : (ts : List (Three ℕ)) → MeshOf s ts → Swapped s ts (swaps s ts)
  unfolding swaps
  swaps-end ts m = up_to_end (slack s ts) ts m (omega arith)

  -- It keeps a mesh.
  pub swapped-mesh : {ts us : List (Three ℕ)} → Swapped s ts us → MeshOf s ts → MeshOf s us
  swapped-mesh (none_left e) m = m
  swapped-mesh (one_more {ts = ts} e r) m = swapped-mesh r (lowest-mesh s fit ts m e)

-- Nothing is left in the end.
pub swapped-end : {s : Survey} {ts us : List (Three ℕ)} → Swapped s ts us → is_left s us ≡ false
swapped-end (none_left e) = e
swapped-end (one_more e r) = swapped-end r

-- It ends in one way only.
pub swapped-unique : {s : Survey} {ts us vs : List (Three ℕ)} → Swapped s ts us → Swapped s ts vs → us ≡ vs
swapped-unique (none_left e) (none_left f) = refl
swapped-unique (none_left e) (one_more f r) = absurd (true≢false (sym f ∙ e))
swapped-unique (one_more e r) (none_left f) = absurd (true≢false (sym e ∙ f))
swapped-unique (one_more e r) (one_more f q) = swapped-unique r q
