-- Sums over a list, and what holds of some element, through `++`, `reverse` and `map`. Assumes nothing.
use mathlib.Core.Path.{◌≡◌, refl, subst}
use mathlib.Core.List.{List, [], ◌∷◌, ◌++◌, reverse, map, reverse-cons, reverse-reverse, map-append}
use mathlib.Core.Logic.{◌⊎◌, inl, inr}
use Prim.Native.Nat.{ℕ, ◌+◌}
use native.Mathlib.Omega.{arith}
use Rattle.sweep.specs.Members.{total, Any, In, here, there}

pub total-append : {A : Type 0} (f : A → ℕ) (l m : List A) → total f (l ++ m) ≡ total f l + total f m
unfolding total
total-append f [] m = omega arith
total-append f (x ∷ l) m = omega (arith, total-append f l m)

pub total-reverse : {A : Type 0} (f : A → ℕ) (l : List A) → total f (reverse l) ≡ total f l
unfolding total
total-reverse f [] = refl
total-reverse f (x ∷ l) = rw reverse-cons (omega (arith, total-append f (reverse l) (x ∷ []), total-reverse f l))

pub total-map : {A B : Type 0} (f : B → ℕ) (g : A → B) (l : List A) → total f (map g l) ≡ total (λ x. f (g x)) l
unfolding total
total-map f g [] = refl
total-map f g (x ∷ l) = omega (arith, total-map f g l)

-- What holds of some element, through `++`.
pub any_left : {A : Type 0} {P : A → Type 0} {l : List A} (m : List A) → Any P l → Any P (l ++ m)
any_left m (here p) = here p
any_left m (there i) = there (any_left m i)

pub any_right : {A : Type 0} {P : A → Type 0} (l : List A) {m : List A} → Any P m → Any P (l ++ m)
any_right [] i = i
any_right (x ∷ l) i = there (any_right l i)

pub any_cons : {A : Type 0} {P : A → Type 0} {x : A} {l : List A} → Any P (x ∷ l) → P x ⊎ Any P l
any_cons (here p) = inl p
any_cons (there i) = inr i

pub any_none : {A : Type 0} {P : A → Type 0} → Any P [] → ⊥
any_none i = elim i [ ]

pub any_split : {A : Type 0} {P : A → Type 0} (l : List A) {m : List A} → Any P (l ++ m) → Any P l ⊎ Any P m
any_split [] i = inr i
any_split {A} {P} (x ∷ l) {m} i = go (any_cons i) (λ j. any_split l j)
  where
    deep : Any P l ⊎ Any P m → Any P (x ∷ l) ⊎ Any P m
    deep (inl j) = inl (there j)
    deep (inr j) = inr j

    go : P x ⊎ Any P (l ++ m) → (Any P (l ++ m) → Any P l ⊎ Any P m) → Any P (x ∷ l) ⊎ Any P m
    go (inl p) f = inl (here p)
    go (inr j) f = deep (f j)

-- Through `reverse`.
pub any_reverse : {A : Type 0} {P : A → Type 0} (l : List A) → Any P (reverse l) → Any P l
any_reverse [] i = i
any_reverse {A} {P} (x ∷ l) i = go (any_split (reverse l) (rw reverse-cons at i)) (λ j. any_reverse l j)
  where
    go : Any P (reverse l) ⊎ Any P (x ∷ []) → (Any P (reverse l) → Any P l) → Any P (x ∷ l)
    go (inl j) f = there (f j)
    go (inr (here p)) f = here p
    go (inr (there j)) f = absurd (any_none j)

pub any_reversed : {A : Type 0} {P : A → Type 0} (l : List A) → Any P l → Any P (reverse l)
any_reversed {P} l i = any_reverse (reverse l) (rw reverse-reverse i)

-- Through `map`.
pub any_map : {A B : Type 0} {P : B → Type 0} (f : A → B) (l : List A) → Any P (map f l) → Any (λ x. P (f x)) l
any_map f [] i = absurd (any_none i)
any_map {A} {P} f (x ∷ l) i = go (any_cons i) (λ j. any_map f l j)
  where
    go : P (f x) ⊎ Any P (map f l) → (Any P (map f l) → Any (λ x. P (f x)) l) → Any (λ x. P (f x)) (x ∷ l)
    go (inl p) g = here p
    go (inr j) g = there (g j)

pub any_mapped : {A B : Type 0} {P : B → Type 0} (f : A → B) {l : List A} → Any (λ x. P (f x)) l → Any P (map f l)
any_mapped f (here p) = here p
any_mapped {P} f (there i) = there (any_mapped {P = P} f i)

-- To an element, and back.
pub any_find : {A : Type 0} {P : A → Type 0} {l : List A} → Any P l → (x : A) × In x l × P x
any_find (here {x = x} p) = (x, here refl, p)
any_find (there i) = let r = any_find i in (r.0, there r.1, r.2)

pub any_imp : {A : Type 0} {P Q : A → Type 0} {l : List A} → ((x : A) → P x → Q x) → Any P l → Any Q l
any_imp f (here {x = x} p) = here (f x p)
any_imp f (there i) = there (any_imp f i)

pub in_any : {A : Type 0} {P : A → Type 0} {x : A} {l : List A} → In x l → P x → Any P l
in_any {P} (here e) p = here (subst P e p)
in_any (there i) p = there (in_any i p)

-- `map` through `reverse`
pub map-reverse : {A B : Type 0} (f : A → B) (l : List A) → map f (reverse l) ≡ reverse (map f l)
map-reverse f [] = refl
map-reverse f (x ∷ l) = rw (reverse-cons x l, reverse-cons (f x) (map f l), map-append f (reverse l) (x ∷ []), map-reverse f l)
