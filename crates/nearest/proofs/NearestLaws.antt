-- `sorted` holds the numbers that pass, by rising distance, ties to the lower number. Assumes nothing.
--
-- By induction on how many numbers are looked at. The next one is higher than all that are in the list, so that one that is as far
-- stays before it.
use mathlib.Core.Path.{◌≡◌, refl, sym, ap, ◌∙◌, subst}
use mathlib.Core.Bool.{Bool, true, false, true≢false, cond}
use mathlib.Core.List.{List, [], ◌∷◌}
use Prim.Native.Nat.{ℕ, zero, suc, ◌<◌}
use native.Mathlib.Omega.{arith}
use native.Mathlib.Decide.{dec_lt, ℕ_discrete}
use borrow.Author.Tests.{ltb-true, ltb-false}
use lib.Dec.{ltb}
use lib.ListN.{take, drop}
use Rattle.nearest.specs.Nearest.{put, sorted}
use Rattle.nearest.proofs.MemberLaws.{In, here, there, Every, every_nil, every_tail, every_cons, every_drop}

module _ (distance : ℕ → ℕ) where
  -- j comes before k: 'squared distance, ties to the lower number'.
  pub data Nearer (j k : ℕ) : Type 0 where
    closer : distance j < distance k → Nearer j k
    tied : distance j ≡ distance k → j < k → Nearer j k

  nearer-trans : {i j k : ℕ} → Nearer i j → Nearer j k → Nearer i k
  nearer-trans (closer h) (closer g) = closer (omega arith)
  nearer-trans (closer h) (tied e g) = closer (omega arith)
  nearer-trans (tied e h) (closer g) = closer (omega arith)
  nearer-trans (tied e h) (tied f g) = tied (e ∙ f) (omega arith)

  -- What is in a list into which k is put.
  put_in : (k : ℕ) (l : List ℕ) → In k (put distance k l)
  put_in k [] = here refl
  put_in k (j ∷ l) = go (ltb (distance k) (distance j)) (put_in k l)
    where
      go : (t : Bool) → In k (put distance k l) → In k (cond t (k ∷ j ∷ l) (j ∷ put distance k l))
      go true r = here refl
      go false r = there r

  put_keeps : (k : ℕ) (l : List ℕ) {j : ℕ} → In j l → In j (put distance k l)
  put_keeps k (i ∷ l) {j} m = go (ltb (distance k) (distance i)) m (put_keeps k l)
    where
      go : (t : Bool) → In j (i ∷ l) → (In j l → In j (put distance k l)) → In j (cond t (k ∷ i ∷ l) (i ∷ put distance k l))
      go true m r = there m
      go false (here f) r = here f
      go false (there m) r = there (r m)
  put_keeps k [] {j = j} m = elim m [ ]

  put_only : {P : ℕ → Type 0} (k : ℕ) (l : List ℕ) → P k → Every P l → Every P (put distance k l)
  put_only {P} k [] h e = every_cons h e
  put_only {P} k (i ∷ l) h e = go (ltb (distance k) (distance i)) (put_only k l h (every_tail e))
    where
      go : (t : Bool) → Every P (put distance k l) → Every P (cond t (k ∷ i ∷ l) (i ∷ put distance k l))
      go true r = every_cons h e
      go false r = every_cons (e i (here refl)) r

  -- Each number comes before all that stand after it.
  pub data Ordered : List ℕ → Type 0 where
    nothing : Ordered []
    first : {j : ℕ} {l : List ℕ} → Every (Nearer j) l → Ordered l → Ordered (j ∷ l)

  -- So each of the first m comes before all after them.
  pub ordered_first : (m : ℕ) {l : List ℕ} {j k : ℕ} → Ordered l → In j (take m l) → In k (drop m l) → Nearer j k
  ordered_first (suc m) {k = k} (first {l = t} h o) (here e) n = subst (λ a. Nearer a k) (sym e) (every_drop m t h k n)
  ordered_first (suc m) (first h o) (there r) n = ordered_first m o r n
  ordered_first zero {l = l} {j = j} {k = k} _ x4 n = elim x4 [ ]
  ordered_first (suc m) {j = j} {k = k} nothing x9 n = elim x9 [ ]

  put-ordered : (k : ℕ) (l : List ℕ) → Every (λ j. j < k) l → Ordered l → Ordered (put distance k l)
  put-ordered k [] e o = first (every_nil (Nearer k)) o
  put-ordered k (i ∷ l) e (first h o) = go (ltb (distance k) (distance i)) refl (put-ordered k l (every_tail e) o)
    where
      go : (t : Bool) → ltb (distance k) (distance i) ≡ t → Ordered (put distance k l) → Ordered (cond t (k ∷ i ∷ l) (i ∷ put distance k l))
      go true f r = let d = closer (ltb-true _ _ f) in first (every_cons d (λ j m. nearer-trans d (h j m))) (first h o)
      go false f r = first (put_only k l (later (dec_lt (distance i) (distance k))) h) r
        where
          later : Dec (distance i < distance k) → Nearer i k
          later (yes d) = closer d
          later (no d) = tied (omega (arith, ltb-false (distance k) (distance i) f)) (e i (here refl))

  module _ (p : ℕ → Bool) where
    -- What holds of all numbers below n that pass holds of all in the list.
    sorted_every : {P : ℕ → Type 0} (n : ℕ) → ((k : ℕ) → k < n → p k ≡ true → P k) → Every P (sorted distance p n)
    sorted_every {P} zero h = every_nil P
    sorted_every {P} (suc n) h = go (p n) refl (sorted_every n (λ k l. h k (omega arith)))
      where
        go : (t : Bool) → p n ≡ t → Every P (sorted distance p n) → Every P (cond t (put distance n (sorted distance p n)) (sorted distance p n))
        go true e r = put_only n (sorted distance p n) (h n (omega arith) e) r
        go false e r = r

    pub sorted-below : (n : ℕ) → Every (λ k. k < n) (sorted distance p n)
    sorted-below n = sorted_every n (λ k l e. l)

    -- Only numbers that pass are in the list,
    pub sorted-pass : (n : ℕ) → Every (λ k. p k ≡ true) (sorted distance p n)
    sorted-pass n = sorted_every n (λ k l e. e)

    -- and all of them,
    pub sorted_in : (n : ℕ) {k : ℕ} → k < n → p k ≡ true → In k (sorted distance p n)
    sorted_in (suc n) {k} h e = go (p n) refl (ℕ_discrete k n) (λ l. sorted_in n l e)
      where
        go :
            (t : Bool) → p n ≡ t → Dec (k ≡ n) → (k < n → In k (sorted distance p n))
            → In k (cond t (put distance n (sorted distance p n)) (sorted distance p n))
        go true f (yes u) r = subst (λ j. In j (put distance n (sorted distance p n))) (sym u) (put_in n (sorted distance p n))
        go true f (no u) r = put_keeps n (sorted distance p n) (r (omega arith))
        go false f (yes u) r = absurd (true≢false (sym (ap p (sym u) ∙ e) ∙ f))
        go false f (no u) r = r (omega arith)
    sorted_in zero {k = k} h e = elim h [ ]

    -- by rising distance, 'ties to the lower number'.
    pub sorted-ordered : (n : ℕ) → Ordered (sorted distance p n)
    sorted-ordered zero = nothing
    sorted-ordered (suc n) = go (p n) (sorted-ordered n)
      where
        go : (t : Bool) → Ordered (sorted distance p n) → Ordered (cond t (put distance n (sorted distance p n)) (sorted distance p n))
        go true r = put-ordered n (sorted distance p n) (sorted-below n) r
        go false r = r
