-- The second kind of mesh is a mesh, in which no side may be swapped: `fatter-mesh`, `fatter-end`. Assumes nothing.
use mathlib.Core.Path.{◌≡◌, refl, sym, ◌∙◌, subst}
use mathlib.Core.Bool.{Bool, true, false, true≢false}
use mathlib.Core.List.{List, map}
use mathlib.Core.Logic.{⊎_elim}
use Prim.Native.Nat.{ℕ, ◌≤◌, ◌<◌}
use native.Mathlib.Omega.{arith}
use native.Mathlib.Decide.{dec_lt}
use lib.IntN.{pos}
use lib.ListN.{length}
use lib.Signed.{◌<ℤ◌}
use Rattle.lists.proofs.LowestLaws.{none_found}
use Rattle.survey.specs.Fit.{Fit}
use Rattle.survey.specs.Survey.{Survey, count, place_of}
use Rattle.sweep.specs.Members.{In}
use Rattle.sweep.specs.Sweep.{Three, tri}
use Rattle.sweep.proofs.MemberLaws.{any_find, any_map}
use Rattle.trace.specs.Mesh.{Has}
use Rattle.trace.proofs.MeshLaws.{left_has}
use Rattle.triangles.specs.Mesh.{lowest_first}
use Rattle.triangles.proofs.SurveyLaws.{turned}
use Rattle.hull.specs.MeshOf.{MeshOf}
use Rattle.hull.proofs.MeshOfLaws.{mesh-turned, lowest-least}
use Rattle.hull.proofs.SideLaws.{corners-differ}
use Rattle.circle.specs.Circle.{circle, InCircle}
use Rattle.listing.specs.Listed.{listed, Listed}
use Rattle.fatter.specs.Fatter.{fatter}
use Rattle.fatter.specs.Swap.{may_swap, swaps_at, is_left, swaps}
use Rattle.circle.proofs.CircleLaws.{circle-either, inside-circle}
use Rattle.fatter.proofs.EndLaws.{swappable, may-swap, swaps-end, swapped-mesh, swapped-end}
use Rattle.fatter.proofs.ExchangeLaws.{Turned, as_it_is, by_one, by_two, turned_in, has_at}
use Rattle.fatter.proofs.RelistedLaws.{mesh-relisted}
use Rattle.listing.proofs.ListedLaws.{relisted_in, listed-relisted, listed-order}
use Rattle.hull.proofs.SoundLaws.{has_found, has_stations, has_positive}

-- ---- where none is left
module _ (s : Survey) (us : List (Three ℕ)) (m : MeshOf s us) (end : is_left s us ≡ false) where
  -- No side may be swapped, whichever pair of numbers names it.
  pub none_swaps : (i j : ℕ) → may_swap s us i j ≡ false
  unfolding is_left swaps_at
  none_swaps i j = go (may_swap s us i j) refl
    where
      go : (b : Bool) → may_swap s us i j ≡ b → may_swap s us i j ≡ false
      go false e = e
      go true e =
          let h = swappable s us i j e in
          let at = has_stations s us m (left_has i j h.l us h.on) in
          none_found (may_swap s us i) (count s) (none_found (swaps_at s us) (count s) end i at.0) j at.1

  -- No triangle across a side has its far corner strictly inside the circle.
  pub none_far : (i j l r : ℕ) → Has i j l us → Has j i r us → pos 0 <ℤ circle (place_of s i) (place_of s j) (place_of s l) (place_of s r) → ⊥
  none_far i j l r on back far = go (dec_lt i j) (dec_lt j i)
    where
      no_swap : (i j l r : ℕ) → i < j → Has i j l us → Has j i r us → pos 0 <ℤ circle (place_of s i) (place_of s j) (place_of s l) (place_of s r) → ⊥
      no_swap i j l r h on back far =
          true≢false
          (sym (may-swap s us i j (record { l = l; r = r; rises = h; on = has_found s us m on; back = has_found s us m back; far = far }))
          ∙ none_swaps i j)

      flat : i ≡ j → ⊥
      flat e = (corners-differ s (tri i j l) (has_positive s us m on)).0 e

      go : Dec (i < j) → Dec (j < i) → ⊥
      go (yes h) d = no_swap i j l r h on back far
      go (no h) (yes k) = no_swap j i r l k back on (rw (circle-either (place_of s i) (place_of s j) (place_of s l) (place_of s r)) at far)
      go (no h) (no k) = flat (omega arith)

-- ---- the second kind of mesh
-- A triangle written from its lowest station is the same triangle.
turned-lowest : (t : Three ℕ) {a b c : ℕ} → Turned (lowest_first t) a b c → Turned t a b c
turned-lowest t {a} {b} {c} h = ⊎_elim (λ e. subst (λ u. Turned u a b c) e h) (λ r. ⊎_elim (λ e. once (subst (λ u. Turned u a b c) e h)) (λ e. twice (subst (λ u. Turned u a b c) e h)) r) (turned t)
  where
    once : Turned (tri t.b t.c t.a) a b c → Turned t a b c
    once (as_it_is e) = by_two (λ n. tri (e n).c (e n).a (e n).b)
    once (by_one e) = as_it_is (λ n. tri (e n).c (e n).a (e n).b)
    once (by_two e) = by_one (λ n. tri (e n).c (e n).a (e n).b)

    twice : Turned (tri t.c t.a t.b) a b c → Turned t a b c
    twice (as_it_is e) = by_one (λ n. tri (e n).b (e n).c (e n).a)
    twice (by_one e) = by_two (λ n. tri (e n).b (e n).c (e n).a)
    twice (by_two e) = as_it_is (λ n. tri (e n).b (e n).c (e n).a)

module _ (s : Survey) (fit : Fit s) (ts : List (Three ℕ)) (m : MeshOf s ts) where
  swaps-mesh : MeshOf s (swaps s ts)
  swaps-mesh = swapped-mesh s fit (swaps-end s fit ts m) m

  -- 'keeps the number of triangles and the total area, and uses the same hull', and all else that makes a mesh.
  pub fatter-mesh : MeshOf s (fatter s ts)
  unfolding fatter
  fatter-mesh =
      mesh-relisted s (map lowest_first (swaps s ts)) (listed (map lowest_first (swaps s ts))) (listed-relisted (map lowest_first (swaps s ts)))
      (mesh-turned s lowest_first turned fit (swaps s ts) swaps-mesh)

  -- Its triangles are those of the last swap.
  pub fatter_has : {a b c : ℕ} → Has a b c (fatter s ts) → Has a b c (swaps s ts)
  unfolding fatter
  fatter_has {a} {b} {c} h =
      let q = turned_in h in
      let w = any_find (any_map lowest_first (swaps s ts) (relisted_in (listed-relisted (map lowest_first (swaps s ts))) q.1)) in
      has_at w.1 (turned-lowest w.0 (subst (λ u. Turned u a b c) w.2 q.2))

  -- No far corner lies strictly inside the circle of the triangle across a side.
  pub fatter-circles : (i j l r : ℕ) → Has i j l (fatter s ts) → Has j i r (fatter s ts)
      → InCircle (place_of s i) (place_of s j) (place_of s l) (place_of s r) → ⊥
  fatter-circles i j l r on back h =
      none_far s (swaps s ts) swaps-mesh (swapped-end (swaps-end s fit ts m)) i j l r (fatter_has on) (fatter_has back)
      (inside-circle (place_of s i) (place_of s j) (place_of s l) (place_of s r) (has_positive s (swaps s ts) swaps-mesh (fatter_has on)) h)

  -- 'until none is left'
  pub fatter-end : (i j : ℕ) → may_swap s (fatter s ts) i j ≡ false
  fatter-end i j = go (may_swap s (fatter s ts) i j) refl
    where
      go : (b : Bool) → may_swap s (fatter s ts) i j ≡ b → may_swap s (fatter s ts) i j ≡ false
      go false e = e
      go true e =
          let h = swappable s (fatter s ts) i j e in
          absurd
          (none_far s (swaps s ts) swaps-mesh (swapped-end (swaps-end s fit ts m)) i j h.l h.r
          (fatter_has (left_has i j h.l (fatter s ts) h.on)) (fatter_has (left_has j i h.r (fatter s ts) h.back)) h.far)

-- 'Triangles are then listed by their three numbers, lowest first.'
pub fatter-listed : (s : Survey) (ts : List (Three ℕ)) → Listed (fatter s ts)
unfolding fatter
fatter-listed s ts = listed-order (map lowest_first (swaps s ts))

-- 'Triangles are written counterclockwise, lowest station first'
pub fatter-lowest : (s : Survey) → Fit s → (ts : List (Three ℕ)) → MeshOf s ts → (t : Three ℕ) → In t (fatter s ts) → (t.a < t.b) × (t.a < t.c)
unfolding fatter
fatter-lowest s fit ts m t i =
    let w = any_find (any_map lowest_first (swaps s ts) (relisted_in (listed-relisted (map lowest_first (swaps s ts))) i)) in
    let l = subst (λ (u : Three ℕ). (u.a ≤ u.b) × (u.a ≤ u.c)) (sym w.2) (lowest-least w.0) in
    let d = corners-differ s t ((fatter-mesh s fit ts m).positive t (unfold fatter in i)) in
    least t.a t.b t.c l.0 l.1 d.0 d.2
  where
    least : (a b c : ℕ) → a ≤ b → a ≤ c → (a ≡ b → ⊥) → (c ≡ a → ⊥) → (a < b) × (a < c)
    least a b c h k d e = (omega arith, omega arith)

-- 'keeps the number of triangles'
pub fatter-count : (s : Survey) → Fit s → (ts : List (Three ℕ)) → MeshOf s ts → length (fatter s ts) ≡ length ts
fatter-count s fit ts m = omega (arith, (fatter-mesh s fit ts m).triangle-count, m.triangle-count)
