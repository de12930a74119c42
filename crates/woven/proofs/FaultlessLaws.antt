-- What the tests of one triangle, and of one station, of a list say: `sewn_of`, `faultless-sewn`, `sewn-faultless`, `used-corner`, `corner-used`;
-- and the first wrong triangle is the lowest that is not faultless: `first_wrong_is`. Assumes nothing.
use mathlib.Core.Path.{◌≡◌, refl, sym, ap, ◌∙◌, subst}
use mathlib.Core.Bool.{Bool, true, false, true≢false, cond, not, ◌&&◌, ◌||◌, or-true}
use mathlib.Core.List.{List, [], ◌∷◌}
use mathlib.Core.Logic.{◌⊎◌, inl, inr, ⊎_elim}
use Prim.Native.Nat.{ℕ, zero, suc, ◌<◌}
use native.Mathlib.Omega.{arith}
use borrow.Author.Tests.{lt-ltb, ltb-true, eq-eqb, eqb-true, not-true}
use lib.Dec.{eqb, T}
use lib.IntN.{pos}
use lib.ListN.{length, get_or}
use lib.Signed.{◌≤ℤ◌, ◌<ℤ◌}
use Rattle.lists.specs.Lowest.{lowest_from, lowest, some}
use Rattle.lists.proofs.LowestLaws.{some-false}
use Rattle.lists.proofs.TestLaws.{and_left, and_right}
use Rattle.whole.specs.Place.{Place}
use Rattle.whole.specs.Turn.{turn}
use Rattle.whole.proofs.Bridge.{test-true, true-test}
use Rattle.survey.specs.Survey.{Survey, count, place_of, in_use}
use Rattle.sweep.specs.Cover.{Holds}
use Rattle.sweep.specs.Members.{Any, In, here, there}
use Rattle.sweep.specs.Page.{every}
use Rattle.sweep.specs.Sweep.{Three, tri}
use Rattle.sweep.proofs.MemberLaws.{any_find, any_none, any_cons}
use Rattle.sweep.proofs.PageTests.{every_of}
use Rattle.hull.specs.MeshOf.{placed, twice_of, CornerOf, at_a, at_b, at_c, OnStations}
use Rattle.hull.proofs.BalanceLaws.{Clear}
use Rattle.held.specs.Held.{is_left, is_held}
use Rattle.woven.specs.Accepted.{is_numbered, is_positive, is_corner, is_inner, is_sewn, is_faultless, first_wrong, is_unused}

-- ---- corners
pub either : (a b : Bool) → (a || b) ≡ true → (a ≡ true) ⊎ (b ≡ true)
either true b h = inl refl
either false b h = inr h

corner-test : (k : ℕ) (t : Three ℕ) → CornerOf k t → is_corner k t ≡ true
corner-test k t (at_a e) = rw (eq-eqb k t.a e)
corner-test k t (at_b e) = rw (eq-eqb k t.b e) (or-true (eqb k t.a))
corner-test k t (at_c e) = rw (eq-eqb k t.c e, or-true (eqb k t.b)) (or-true (eqb k t.a))

test-corner : (k : ℕ) (t : Three ℕ) → is_corner k t ≡ true → CornerOf k t
test-corner k t h =
    ⊎_elim (λ e. at_a (eqb-true k t.a e))
    (λ r. ⊎_elim (λ e. at_b (eqb-true k t.b e)) (λ e. at_c (eqb-true k t.c e)) (either (eqb k t.b) (eqb k t.c) r))
    (either (eqb k t.a) (eqb k t.b || eqb k t.c) h)

-- ---- places
-- A triangle that holds the place, as a test and as a fact.
left_le : (a b p : Place) → is_left a b p ≡ true → pos 0 ≤ℤ turn a b p
unfolding is_left
left_le a b p e = record { le = subst T (sym e) tt }

held-holds : (s : Survey) (p : Place) (t : Three ℕ) → is_held (place_of s) p t ≡ true → Holds turn (placed s t) p
unfolding is_held
held-holds s p t e =
    let f = place_of s in
    let ab = is_left (f t.a) (f t.b) p in
    let bc = is_left (f t.b) (f t.c) p in
    let ca = is_left (f t.c) (f t.a) p in
    record {
      ab = left_le (f t.a) (f t.b) p (and_left ab (bc && ca) e);
      bc = left_le (f t.b) (f t.c) p (and_left bc ca (and_right ab (bc && ca) e));
      ca = left_le (f t.c) (f t.a) p (and_right bc ca (and_right ab (bc && ca) e));
    }

-- ---- one station
-- 'every station in use is a corner'
every_not : (k : ℕ) (ts : List (Three ℕ)) → every (λ t. not (is_corner k t)) ts ≡ false → Any (CornerOf k) ts
unfolding every
every_not k [] h = absurd (true≢false h)
every_not k (t ∷ ts) h = go (is_corner k t) refl h (λ e. every_not k ts e)
  where
    go : (b : Bool) → is_corner k t ≡ b → (not b && every (λ t. not (is_corner k t)) ts) ≡ false
        → (every (λ t. not (is_corner k t)) ts ≡ false → Any (CornerOf k) ts) → Any (CornerOf k) (t ∷ ts)
    go true e g rest = here (test-corner k t e)
    go false e g rest = there (rest g)

module _ (s : Survey) (ts : List (Three ℕ)) (k : ℕ) where
  pub used-corner : k < count s → is_unused s ts k ≡ false → Any (CornerOf k) ts
  unfolding is_unused
  used-corner l h = every_not k ts (rw (lt-ltb k (count s) l) at h)

  pub corner-used : Any (CornerOf k) ts → is_unused s ts k ≡ false
  unfolding is_unused
  corner-used i = go (in_use s k && every (λ t. not (is_corner k t)) ts) refl
    where
      go : (b : Bool) → (in_use s k && every (λ t. not (is_corner k t)) ts) ≡ b → b ≡ false
      go false e = refl
      go true e =
          let r = any_find i in
          let none = every_of (λ t. not (is_corner k t)) ts (and_right (in_use s k) _ e) r.0 r.1 in
          absurd (true≢false (sym (corner-test k r.0 r.2) ∙ not-true (is_corner k r.0) none))

-- ---- one triangle
-- Its number, its turn and its sides are right: all that is asked of it but that no station is in it.
pub record Sewn (s : Survey) (ts : List (Three ℕ)) (t : Three ℕ) : Type 0 where
  pub stations : OnStations s t
  pub positive : pos 0 <ℤ twice_of s t
  pub ab : is_sewn s ts t.a t.b ≡ true
  pub bc : is_sewn s ts t.b t.c ≡ true
  pub ca : is_sewn s ts t.c t.a ≡ true

module _ (s : Survey) (ts : List (Three ℕ)) (t : Three ℕ) where
  -- No station is in it but its corners, as a test.
  clear-inner : Clear s t → (k : ℕ) → k < count s → is_inner s t k ≡ false
  unfolding is_inner
  clear-inner clear k l = rw (lt-ltb k (count s) l) (go (is_held (place_of s) (place_of s k) t) refl)
    where
      go : (b : Bool) → is_held (place_of s) (place_of s k) t ≡ b → (b && not (is_corner k t)) ≡ false
      go false e = refl
      go true e = rw (corner-test k t (clear k l (held-holds s (place_of s k) t e)))

  -- Its numbers, its turn and its sides, each as a test.
  pub sewn_of : is_numbered s t ≡ true → is_positive s t ≡ true
      → (is_sewn s ts t.a t.b && (is_sewn s ts t.b t.c && is_sewn s ts t.c t.a)) ≡ true → Sewn s ts t
  sewn_of numbers turns sides =
      let others = and_right (in_use s t.a) _ numbers in
      let last = and_right (is_sewn s ts t.a t.b) _ sides in
      record {
        stations =
            record {
              on_a = ltb-true t.a (count s) (and_left (in_use s t.a) _ numbers);
              on_b = ltb-true t.b (count s) (and_left (in_use s t.b) _ others);
              on_c = ltb-true t.c (count s) (and_right (in_use s t.b) _ others);
            };
        positive = test-true turns;
        ab = and_left (is_sewn s ts t.a t.b) _ sides;
        bc = and_left (is_sewn s ts t.b t.c) _ last;
        ca = and_right (is_sewn s ts t.b t.c) _ last;
      }

  pub faultless-sewn : is_faultless s ts t ≡ true → Sewn s ts t
  unfolding is_faultless
  faultless-sewn h =
      let rest = and_right (is_numbered s t) _ h in
      sewn_of (and_left (is_numbered s t) _ h) (and_left (is_positive s t) _ rest)
      (and_right (not (some (is_inner s t) (count s))) _ (and_right (is_positive s t) _ rest))

  pub sewn-faultless : Sewn s ts t → Clear s t → is_faultless s ts t ≡ true
  unfolding is_faultless
  sewn-faultless r clear =
      rw (
        lt-ltb t.a (count s) r.stations.on_a,
        lt-ltb t.b (count s) r.stations.on_b,
        lt-ltb t.c (count s) r.stations.on_c,
        true-test r.positive,
        some-false (is_inner s t) (count s) (clear-inner clear),
        r.ab,
        r.bc,
        r.ca,
      )

-- ---- the triangles in their order
pub none_wrong : (s : Survey) (ts us : List (Three ℕ)) → first_wrong s ts us ≡ length us → (t : Three ℕ) → In t us → is_faultless s ts t ≡ true
unfolding first_wrong
none_wrong s ts [] h t i = absurd (any_none i)
none_wrong s ts (u ∷ us) h t i = go (is_faultless s ts u) refl h (λ e j. none_wrong s ts us e t j)
  where
    go : (b : Bool) → is_faultless s ts u ≡ b → cond b (suc (first_wrong s ts us)) 0 ≡ suc (length us)
        → (first_wrong s ts us ≡ length us → In t us → is_faultless s ts t ≡ true) → is_faultless s ts t ≡ true
    go true e g rest = ⊎_elim (λ p. ap (is_faultless s ts) p ∙ e) (λ j. rest (omega (arith, g)) j) (any_cons i)
    go false e g rest = absurd (omega (arith, g))

pub wrong_none : (s : Survey) (ts us : List (Three ℕ)) → ((t : Three ℕ) → In t us → is_faultless s ts t ≡ true) → first_wrong s ts us ≡ length us
unfolding first_wrong
wrong_none s ts [] h = refl
wrong_none s ts (u ∷ us) h = rw (h u (here refl)) (ap suc (wrong_none s ts us (λ t i. h t (there i))))

-- A search from the next number on.
later : (p : ℕ → Bool) (n i : ℕ) → suc (lowest_from (λ k. p (suc k)) n i) ≡ lowest_from p n (suc i)
later p zero i = refl
later p (suc n) i = go (p (suc i)) (later p n (suc i))
  where
    go : (b : Bool) → suc (lowest_from (λ k. p (suc k)) n (suc i)) ≡ lowest_from p n (suc (suc i))
        → suc (cond b i (lowest_from (λ k. p (suc k)) n (suc i))) ≡ cond b (suc i) (lowest_from p n (suc (suc i)))
    go true e = refl
    go false e = e

-- 'the first triangle, in its order, with a wrong number, turn, inner station or side': all before it are faultless, and it is not.
pub first_wrong_is : (s : Survey) (ts us : List (Three ℕ)) → first_wrong s ts us ≡ lowest (λ k. not (is_faultless s ts (get_or us k (tri 0 0 0)))) (length us)
unfolding first_wrong
first_wrong_is s ts [] = refl
first_wrong_is s ts (u ∷ us) = go (is_faultless s ts u) (ap suc (first_wrong_is s ts us) ∙ later p (length us) 0)
  where
    p : ℕ → Bool
    p k = not (is_faultless s ts (get_or (u ∷ us) k (tri 0 0 0)))

    go : (b : Bool) → suc (first_wrong s ts us) ≡ lowest_from p (length us) 1
        → cond b (suc (first_wrong s ts us)) 0 ≡ cond (not b) 0 (lowest_from p (length us) 1)
    go true e = e
    go false e = refl
