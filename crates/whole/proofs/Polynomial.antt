-- Formulas of whole numbers as data, and their normal form as polynomials: what the solver computes. Assumes nothing.
use mathlib.Core.List.{List, [], ◌∷◌}
use Prim.Native.Nat.{ℕ, zero, suc, compare, Ordering}
use lib.IntN.{ℤ, pos, negsuc, ◌+ℤ◌, ◌-ℤ◌, ◌*ℤ◌}

infixl 6 ◌:+◌
infixl 6 ◌:-◌
infixl 7 ◌:*◌
-- A formula in numbered variables.
pub data Formula : Type 0 where
  var : ℕ → Formula
  lit : ℤ → Formula
  ◌:+◌ : Formula → Formula → Formula
  ◌:-◌ : Formula → Formula → Formula
  ◌:*◌ : Formula → Formula → Formula

-- The value of the variable i: the i-th of the list.
abbrev pub look : List ℤ → ℕ → ℤ
look [] i = pos 0
look (x ∷ xs) zero = x
look (x ∷ xs) (suc i) = look xs i

-- What a formula means, its variables having the values ρ.
abbrev pub value : List ℤ → Formula → ℤ
value ρ (var i) = look ρ i
value ρ (lit n) = n
value ρ (a :+ b) = value ρ a +ℤ value ρ b
value ρ (a :- b) = value ρ a -ℤ value ρ b
value ρ (a :* b) = value ρ a *ℤ value ρ b

-- A monomial is the sorted list of its variables, and a polynomial the sorted list of its monomials with their coefficients, none 0.
abbrev pub Mono : Type 0
Mono = List ℕ

abbrev pub then : Ordering → Ordering → Ordering
then Ordering.lt o = Ordering.lt
then Ordering.eq o = o
then Ordering.gt o = Ordering.gt

-- The order of two monomials.
abbrev pub order : Mono → Mono → Ordering
order [] [] = Ordering.eq
order [] (j ∷ n) = Ordering.lt
order (i ∷ m) [] = Ordering.gt
order (i ∷ m) (j ∷ n) = then (compare i j) (order m n)

-- A monomial times the variable i, and times another.
abbrev pub insert_v : ℕ → Mono → Mono
insert_v i [] = i ∷ []
insert_v i (j ∷ m) = elim (compare i j) [ Ordering.lt ↦ i ∷ j ∷ m | Ordering.eq ↦ i ∷ j ∷ m | Ordering.gt ↦ j ∷ insert_v i m ]

abbrev pub mul_mono : Mono → Mono → Mono
mul_mono [] n = n
mul_mono (i ∷ m) n = insert_v i (mul_mono m n)

pub data Poly : Type 0 where
  nil : Poly
  term : Mono → ℤ → Poly → Poly

-- A term in front, dropped where its coefficient is 0.
abbrev pub keep : Mono → ℤ → Poly → Poly
keep m (pos zero) p = p
keep m (pos (suc c)) p = term m (pos (suc c)) p
keep m (negsuc c) p = term m (negsuc c) p

-- A polynomial plus one term; plus another; times one term; times another.
abbrev pub insert : Mono → ℤ → Poly → Poly
insert m c nil = keep m c nil
insert m c (term n d p) = elim (order m n) [ Ordering.lt ↦ keep m c (term n d p) | Ordering.eq ↦ keep n (c +ℤ d) p | Ordering.gt ↦ term n d (insert m c p) ]

abbrev pub add_poly : Poly → Poly → Poly
add_poly nil q = q
add_poly (term m c p) q = insert m c (add_poly p q)

abbrev pub mul_term : Mono → ℤ → Poly → Poly
mul_term m c nil = nil
mul_term m c (term n d p) = insert (mul_mono m n) (c *ℤ d) (mul_term m c p)

abbrev pub mul_poly : Poly → Poly → Poly
mul_poly nil q = nil
mul_poly (term m c p) q = add_poly (mul_term m c q) (mul_poly p q)

-- The normal form of a formula.
abbrev pub norm : Formula → Poly
norm (var i) = term (i ∷ []) (pos 1) nil
norm (lit n) = keep [] n nil
norm (a :+ b) = add_poly (norm a) (norm b)
norm (a :- b) = add_poly (norm a) (mul_term [] (negsuc 0) (norm b))
norm (a :* b) = mul_poly (norm a) (norm b)
