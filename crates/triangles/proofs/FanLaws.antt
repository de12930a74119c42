-- The triangles of a fan in a list: from the bottom up and from the top down. Assumes nothing.
use mathlib.Core.Path.{◌≡◌, refl, sym, ap, ap₂, ◌∙◌}
use mathlib.Core.List.{List, [], ◌∷◌, ◌++◌, reverse, map, reverse-cons}
use Prim.Native.Nat.{ℕ, zero, suc, ◌+◌, ◌-◌}
use native.Mathlib.Omega.{arith}
use lib.ListN.{length}
use Rattle.triangles.specs.Chain.{values}

-- g of the k sides above entry j, the top one first.
unfoldable pub falling : {A : Type 0} → (ℕ → A) → ℕ → ℕ → List A
falling g j zero = []
falling g j (suc k) = g (j + k) ∷ falling g j k

pub values_length : {A : Type 0} (g : ℕ → A) (i k : ℕ) → length (values g i k) ≡ k
unfolding values
values_length g i zero = refl
values_length g i (suc k) = ap suc (values_length g (suc i) k)

pub values-map : {A B : Type 0} (φ : A → B) (g : ℕ → A) (i k : ℕ) → values (λ n. φ (g n)) i k ≡ map φ (values g i k)
unfolding values
values-map φ g i zero = refl
values-map φ g i (suc k) = ap (λ l. φ (g i) ∷ l) (values-map φ g (suc i) k)

-- From the top down.
pub values-falling : {A : Type 0} (g : ℕ → A) (j a i k : ℕ) → j + k + i ≡ a → values (λ n. g (a - 1 - n)) i k ≡ falling g j k
unfolding values falling
values-falling g j a i zero e = refl
values-falling g j a i (suc k) e = ap₂ (λ x l. x ∷ l) (ap g here) (values-falling g j a (suc i) k (omega arith))
  where
    here : a - 1 - i ≡ j + k
    here = omega arith

-- From the bottom up.
values-more : {A : Type 0} (g : ℕ → A) (i k : ℕ) → values g i (suc k) ≡ values g i k ++ (g (i + k) ∷ [])
unfolding values
values-more g i zero = let e : i + 0 ≡ i = omega arith in rw e
values-more g i (suc k) = let e : suc i + k ≡ i + suc k = omega arith in ap (λ l. g i ∷ l) (values-more g (suc i) k ∙ ap (λ n. values g (suc i) k ++ (g n ∷ [])) e)

pub values-rising : {A : Type 0} (g : ℕ → A) (j k : ℕ) → values (λ n. g (j + n)) 0 k ≡ reverse (falling g j k)
unfolding values falling
values-rising g j zero = refl
values-rising g j (suc k) =
    let e : 0 + k ≡ k = omega arith in
    values-more (λ n. g (j + n)) 0 k ∙ ap (λ n. values (λ n. g (j + n)) 0 k ++ (g (j + n) ∷ [])) e ∙ ap (λ l. l ++ (g (j + k) ∷ [])) (values-rising g j k) ∙ sym (reverse-cons (g (j + k)) (falling g j k))
