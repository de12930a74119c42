-- What is in a list of numbers, and what holds of every number of one. Assumes nothing.
use mathlib.Core.Path.{◌≡◌, refl, sym, ap, ◌∙◌, subst}
use mathlib.Core.Bool.{Bool, true, false, true≢false, ◌||◌}
use mathlib.Core.List.{List, [], ◌∷◌, ◌++◌}
use Prim.Native.Nat.{ℕ, zero, suc}
use lib.ListN.{get_or, take, drop}
use Rattle.lists.proofs.TestLaws.{by_test}
use Rattle.nearest.specs.Nearest.{any}

-- k is in the list.
pub data In (k : ℕ) : List ℕ → Type 0 where
  here : {j : ℕ} {l : List ℕ} → k ≡ j → In k (j ∷ l)
  there : {j : ℕ} {l : List ℕ} → In k l → In k (j ∷ l)

-- A list of which every number has P.
abbrev pub Every : (ℕ → Type 0) → List ℕ → Type 0
Every P l = (k : ℕ) → In k l → P k

pub every_nil : (P : ℕ → Type 0) → Every P []
every_nil P k m = elim m [ ]

pub every_tail : {P : ℕ → Type 0} {j : ℕ} {l : List ℕ} → Every P (j ∷ l) → Every P l
every_tail e k m = e k (there m)

pub every_cons : {P : ℕ → Type 0} {j : ℕ} {l : List ℕ} → P j → Every P l → Every P (j ∷ l)
every_cons {P} h e k (here f) = subst P (sym f) h
every_cons h e k (there m) = e k m

pub get_d_every : {P : ℕ → Type 0} (l : List ℕ) (j i : ℕ) → Every P l → P i → P (get_or l j i)
get_d_every [] j i e h = h
get_d_every (a ∷ l) zero i e h = e a (here refl)
get_d_every (a ∷ l) (suc j) i e h = get_d_every l j i (every_tail e) h

in_take : (m : ℕ) (l : List ℕ) {k : ℕ} → In k (take m l) → In k l
in_take zero l h = elim h [ ]
in_take (suc m) [] h = elim h [ ]
in_take (suc m) (a ∷ l) (here f) = here f
in_take (suc m) (a ∷ l) (there h) = there (in_take m l h)

pub every_take : {P : ℕ → Type 0} (m : ℕ) (l : List ℕ) → Every P l → Every P (take m l)
every_take m l e k h = e k (in_take m l h)

pub every_append : {P : ℕ → Type 0} (l m : List ℕ) → Every P l → Every P m → Every P (l ++ m)
every_append [] m e f = f
every_append (j ∷ l) m e f = every_cons (e j (here refl)) (every_append l m (every_tail e) f)

pub every_drop : {P : ℕ → Type 0} (m : ℕ) (l : List ℕ) → Every P l → Every P (drop m l)
every_drop zero l e = e
every_drop (suc m) [] e = e
every_drop (suc m) (a ∷ l) e = every_drop m l (every_tail e)

-- A number of a list is among the first m or after them.
pub data Split (k m : ℕ) (l : List ℕ) : Type 0 where
  early : In k (take m l) → Split k m l
  late : In k (drop m l) → Split k m l

pub split : {k : ℕ} (m : ℕ) (l : List ℕ) → In k l → Split k m l
split zero l h = late h
split (suc m) (a ∷ l) (here e) = early (here e)
split {k} (suc m) (a ∷ l) (there h) = go (split m l h)
  where
    go : Split k m l → Split k (suc m) (a ∷ l)
    go (early r) = early (there r)
    go (late r) = late r
split {k = k} (suc m) [] h = elim h [ ]

pub in_append : (l m : List ℕ) {k : ℕ} → In k m → In k (l ++ m)
in_append [] m h = h
in_append (j ∷ l) m h = there (in_append l m h)

-- `any` by an example, and by none.
pub any_true : (p : ℕ → Bool) (l : List ℕ) {k : ℕ} → In k l → p k ≡ true → any p l ≡ true
any_true p (j ∷ l) (here f) e = rw (sym (ap p f) ∙ e)
any_true p (j ∷ l) (there m) e = by_test (p j) (λ f. rw f) (λ f. rw f (any_true p l m e))
any_true p [] {k = k} x'' e = elim x'' [ ]

pub record Found (p : ℕ → Bool) (l : List ℕ) : Type 0 where
  pub at : ℕ
  pub listed : In at l
  pub passes : p at ≡ true

pub any_found : (p : ℕ → Bool) (l : List ℕ) → any p l ≡ true → Found p l
any_found p [] e = absurd (true≢false (sym e))
any_found p (j ∷ l) e = go (p j) refl e (any_found p l)
  where
    go : (t : Bool) → p j ≡ t → (t || any p l) ≡ true → (any p l ≡ true → Found p l) → Found p (j ∷ l)
    go true f g r = record { at = j; listed = here refl; passes = f }
    go false f g r = record { at = (r g).at; listed = there (r g).listed; passes = (r g).passes }
