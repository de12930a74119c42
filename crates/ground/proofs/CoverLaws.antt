-- The ground is truly covered: a whole-number place lies in some triangle of a mesh, edges counted, exactly if it lies in the hull
-- (`ground-held`, `ground-within`), and strictly inside one at most (`ground_once`). Assumes nothing.
--
-- This is what `MeshOf` says of places in k-ths, with k = 1. That no triangle stands in the list twice is that no directed side is run twice.
use mathlib.Core.Path.{◌≡◌, refl, sym, subst}
use mathlib.Core.Bool.{Bool, true, false}
use mathlib.Core.List.{List}
use Prim.Native.Nat.{ℕ, ◌<◌}
use native.Mathlib.Omega.{arith}
use native.Mathlib.Decide.{dec_lt}
use borrow.Author.Tests.{eq-eqb}
use lib.IntN.{pos}
use lib.ListN.{length, get_or}
use lib.Signed.{lt_z, ◌≤ℤ◌}
use Rattle.whole.specs.Place.{Place}
use Rattle.whole.specs.Turn.{turn}
use Rattle.whole.proofs.Bridge.{test-true, test-false}
use Rattle.sweep.specs.Cover.{Holds, Inside, scale, big}
use Rattle.sweep.specs.Members.{Any, In}
use Rattle.sweep.specs.Sweep.{Three}
use Rattle.sweep.proofs.CoverLaws.{big_one}
use Rattle.sweep.proofs.EntryLaws.{in_at, two_at}
use Rattle.sweep.proofs.MemberLaws.{any_imp, any_find}
use Rattle.survey.specs.Survey.{Survey, place_of}
use Rattle.hull.specs.MeshOf.{placed, step_is, runs, InHull, MeshOf}

module _ (s : Survey) (ts : List (Three ℕ)) (mesh : MeshOf s ts) where
  pub ground-held : (q : Place) → InHull s 1 q → Any (λ t. Holds turn (placed s t) q) ts
  ground-held q h = any_imp (λ t k. subst (λ u. Holds turn u q) (big_one (placed s t)) k) (mesh.covered 1 (omega arith) q h)

  -- Nothing that a triangle holds is to the right of a hull side.
  pub ground-within : (q : Place) → Any (λ t. Holds turn (placed s t) q) ts → InHull s 1 q
  ground-within q a i j side = go (any_find a) (lt_z (turn (scale 1 (place_of s i)) (scale 1 (place_of s j)) q) (pos 0)) refl
    where
      go : (t : Three ℕ) × In t ts × Holds turn (placed s t) q → (f : Bool) → lt_z (turn (scale 1 (place_of s i)) (scale 1 (place_of s j)) q) (pos 0) ≡ f
          → pos 0 ≤ℤ turn (scale 1 (place_of s i)) (scale 1 (place_of s j)) q
      go (t, k, h) false e = test-false e
      go (t, k, h) true e =
          absurd (mesh.outside 1 (omega arith) q (record {
            i =
                i;
            j = j;
            side = side;
            right = test-true e;
          }) t k (subst (λ u. Holds turn u q) (sym (big_one (placed s t))) h))

  -- No triangle stands in the list twice.
  own_run : (t : Three ℕ) → 0 < runs t.a t.b t
  unfolding step_is
  own_run t = rw (eq-eqb t.a t.a refl, eq-eqb t.b t.b refl) (omega arith)

  entries-differ : (i j : ℕ) (d : Three ℕ) → i < j → j < length ts → get_or ts i d ≡ get_or ts j d → ⊥
  entries-differ i j d h k e =
      let t = get_or ts j d in
      omega (
        arith,
        mesh.once t.a t.b,
        two_at d (runs t.a t.b) ts i j (omega arith) k (λ f. omega (arith, f)),
        subst (λ u. 0 < runs t.a t.b u) (sym e) (own_run t),
        own_run t,
      )

  -- Of places in k-ths, and of whole-number places.
  pub inside_once : (k : ℕ) → 0 < k → (q : Place) (i j : ℕ) (d : Three ℕ) → i < length ts → j < length ts
      → Inside (big k (placed s (get_or ts i d))) q → Inside (big k (placed s (get_or ts j d))) q → i ≡ j
  inside_once k some q i j d hi hj m n = go (dec_lt i j) (dec_lt j i)
    where
      same : get_or ts i d ≡ get_or ts j d
      same = mesh.inside k some q (get_or ts i d) (get_or ts j d) (in_at d ts i hi) (in_at d ts j hj) m n

      go : Dec (i < j) → Dec (j < i) → i ≡ j
      go (yes h) _ = absurd (entries-differ i j d h hj same)
      go (no _) (yes h) = absurd (entries-differ j i d h hi (sym same))
      go (no h) (no l) = omega arith

  pub ground_once : (q : Place) (i j : ℕ) (d : Three ℕ) → i < length ts → j < length ts
      → Inside (placed s (get_or ts i d)) q → Inside (placed s (get_or ts j d)) q → i ≡ j
  ground_once q i j d hi hj m n =
      inside_once 1 (omega arith) q i j d hi hj (subst (λ u. Inside u q) (sym (big_one (placed s (get_or ts i d)))) m)
      (subst (λ u. Inside u q) (sym (big_one (placed s (get_or ts j d)))) n)
