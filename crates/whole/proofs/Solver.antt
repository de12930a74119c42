-- Identities of polynomials over ℤ, by computation: `identity ρ e f refl : value ρ e ≡ value ρ f`, whatever the variables' values ρ.
-- Assumes nothing.
--
-- Two formulas with one normal form have one value, since each step of the normal form keeps the value.
use mathlib.Core.Path.{◌≡◌, refl, sym, ap, ◌∙◌, subst}
use mathlib.Core.List.{List, [], ◌∷◌}
use mathlib.Core.Bool.{Bool, true, false, not}
use Prim.Native.Nat.{ℕ, zero, suc, ◌+◌, ◌*◌, compare, Ordering}
use native.Mathlib.Omega.{arith}
use lib.Dec.{T, compare_is_eq, eqb→eq}
use lib.IntN.{ℤ, pos, negsuc, ◌+ℤ◌, ◌-ℤ◌, ◌*ℤ◌}
use Rattle.whole.proofs.Bridge.{gain, loss, Is, is_int, is_nat, is_add, is_mul, is_neg, is_eq, add, mul, neg}
use Rattle.whole.proofs.Polynomial.{Formula, var, lit, ◌:+◌, ◌:-◌, ◌:*◌, look, value, Mono, then, order, insert_v, mul_mono, Poly, nil, term, keep, insert, add_poly, mul_term, mul_poly, norm}

-- The laws of the ring that the steps need, each by the bridge.
zero_m : (m p : ℤ) → p ≡ pos 0 *ℤ m +ℤ p
zero_m m p = is_eq (is_int p) (is_add (is_mul (is_nat 0) (is_int m)) (is_int p)) (omega arith)

one_mul : (m : ℤ) → m ≡ pos 1 *ℤ m
one_mul m = is_eq (is_int m) (is_mul (is_nat 1) (is_int m)) (omega arith)

swap : (x y z : ℤ) → x *ℤ (y *ℤ z) ≡ y *ℤ (x *ℤ z)
swap x y z = is_eq (is_mul (is_int x) (mul y z)) (is_mul (is_int y) (mul x z)) (omega arith)

mul_assoc : (x y z : ℤ) → x *ℤ (y *ℤ z) ≡ x *ℤ y *ℤ z
mul_assoc x y z = is_eq (is_mul (is_int x) (mul y z)) (is_mul (mul x y) (is_int z)) (omega arith)

join : (c d m p : ℤ) → (c +ℤ d) *ℤ m +ℤ p ≡ c *ℤ m +ℤ (d *ℤ m +ℤ p)
join c d m p = is_eq (is_add (is_mul (add c d) (is_int m)) (is_int p)) (is_add (mul c m) (is_add (mul d m) (is_int p))) (omega arith)

past : (x y z : ℤ) → x +ℤ (y +ℤ z) ≡ y +ℤ (x +ℤ z)
past x y z = is_eq (is_add (is_int x) (add y z)) (is_add (is_int y) (add x z)) (omega arith)

add_assoc : (x y z : ℤ) → x +ℤ (y +ℤ z) ≡ x +ℤ y +ℤ z
add_assoc x y z = is_eq (is_add (is_int x) (add y z)) (is_add (add x y) (is_int z)) (omega arith)

zero-add : (x : ℤ) → x ≡ pos 0 +ℤ x
zero-add x = is_eq (is_int x) (is_add (is_nat 0) (is_int x)) (omega arith)

mul-add-left : (x y z : ℤ) → x *ℤ y +ℤ x *ℤ z ≡ x *ℤ (y +ℤ z)
mul-add-left x y z = is_eq (is_add (mul x y) (mul x z)) (is_mul (is_int x) (add y z)) (omega arith)

mul-add-right : (x y z : ℤ) → x *ℤ z +ℤ y *ℤ z ≡ (x +ℤ y) *ℤ z
mul-add-right x y z = is_eq (is_add (mul x z) (mul y z)) (is_mul (add x y) (is_int z)) (omega arith)

mid : (c d m n : ℤ) → c *ℤ d *ℤ (m *ℤ n) ≡ c *ℤ m *ℤ (d *ℤ n)
mid c d m n = is_eq (is_mul (mul c d) (mul m n)) (is_mul (mul c m) (mul d n)) (omega arith)

zero-mul : (x : ℤ) → pos 0 ≡ x *ℤ pos 0
zero-mul x = is_eq (is_nat 0) (is_mul (is_int x) (is_nat 0)) (omega arith)

zero-mul' : (x : ℤ) → pos 0 ≡ pos 0 *ℤ x
zero-mul' x = is_eq (is_nat 0) (is_mul (is_nat 0) (is_int x)) (omega arith)

minus' : (x y : ℤ) → x +ℤ negsuc 0 *ℤ pos 1 *ℤ y ≡ x -ℤ y
minus' x y = is_eq (is_add (is_int x) (is_mul (is_int (negsuc 0 *ℤ pos 1)) (is_int y))) (is_add (is_int x) (neg y)) (omega arith)

-- Monomials of equal rank are equal.
order-eq : (m n : Mono) → order m n ≡ Ordering.eq → m ≡ n
order-eq [] [] e = refl
order-eq [] (j ∷ n) e = absurd (subst (λ o. T (compare_is_eq o)) (sym e) tt)
order-eq (i ∷ m) [] e = absurd (subst (λ o. T (compare_is_eq o)) (sym e) tt)
order-eq (i ∷ m) (j ∷ n) e = go (compare i j) refl (order-eq m n) e
  where
    go : (o : Ordering) → compare i j ≡ o → (order m n ≡ Ordering.eq → m ≡ n) → then o (order m n) ≡ Ordering.eq → ◌≡◌ {A = Mono} (i ∷ m) (j ∷ n)
    go Ordering.lt f r e = absurd (subst (λ o. T (compare_is_eq o)) (sym e) tt)
    go Ordering.eq f r e = λ k. eqb→eq i j (subst (λ o. T (compare_is_eq o)) (sym f) tt) k ∷ r e k
    go Ordering.gt f r e = absurd (subst (λ o. T (compare_is_eq o)) (sym e) tt)

-- The value of a monomial and of a polynomial; each step keeps it. That the lists stay sorted is not needed.
value_m : List ℤ → Mono → ℤ
value_m ρ [] = pos 1
value_m ρ (i ∷ m) = look ρ i *ℤ value_m ρ m

value_p : List ℤ → Poly → ℤ
value_p ρ nil = pos 0
value_p ρ (term m c p) = c *ℤ value_m ρ m +ℤ value_p ρ p

module _ (ρ : List ℤ) where
  insert_v-ok : (i : ℕ) (m : Mono) → value_m ρ (insert_v i m) ≡ look ρ i *ℤ value_m ρ m
  unfolding value_m
  insert_v-ok i [] = refl
  insert_v-ok i (j ∷ m) = go (compare i j) (insert_v-ok i m)
    where
      go : (o : Ordering) → value_m ρ (insert_v i m) ≡ look ρ i *ℤ value_m ρ m → value_m ρ (elim o [ Ordering.lt ↦ i ∷ j ∷ m | Ordering.eq ↦ i ∷ j ∷ m | Ordering.gt ↦ j ∷ insert_v i m ]) ≡ look ρ i *ℤ (look ρ j *ℤ value_m ρ m)
      go Ordering.lt r = refl
      go Ordering.eq r = refl
      go Ordering.gt r = ap (λ x. look ρ j *ℤ x) r ∙ swap (look ρ j) (look ρ i) (value_m ρ m)

  mul_mono-ok : (m n : Mono) → value_m ρ (mul_mono m n) ≡ value_m ρ m *ℤ value_m ρ n
  unfolding value_m
  mul_mono-ok [] n = one_mul (value_m ρ n)
  mul_mono-ok (i ∷ m) n = insert_v-ok i (mul_mono m n) ∙ ap (λ x. look ρ i *ℤ x) (mul_mono-ok m n) ∙ mul_assoc (look ρ i) (value_m ρ m) (value_m ρ n)

  keep-ok : (m : Mono) (c : ℤ) (p : Poly) → value_p ρ (keep m c p) ≡ c *ℤ value_m ρ m +ℤ value_p ρ p
  unfolding value_p
  keep-ok m (pos zero) p = zero_m (value_m ρ m) (value_p ρ p)
  keep-ok m (pos (suc c)) p = refl
  keep-ok m (negsuc c) p = refl

  insert-ok : (m : Mono) (c : ℤ) (p : Poly) → value_p ρ (insert m c p) ≡ c *ℤ value_m ρ m +ℤ value_p ρ p
  unfolding value_p
  insert-ok m c nil = keep-ok m c nil
  insert-ok m c (term n d p) = go (order m n) refl (insert-ok m c p)
    where
      go : (o : Ordering) → order m n ≡ o → value_p ρ (insert m c p) ≡ c *ℤ value_m ρ m +ℤ value_p ρ p → value_p ρ (elim o [ Ordering.lt ↦ keep m c (term n d p) | Ordering.eq ↦ keep n (c +ℤ d) p | Ordering.gt ↦ term n d (insert m c p) ]) ≡ c *ℤ value_m ρ m +ℤ (d *ℤ value_m ρ n +ℤ value_p ρ p)
      go Ordering.lt e r = keep-ok m c (term n d p)
      go Ordering.eq e r = keep-ok n (c +ℤ d) p ∙ rw (order-eq m n e) (join c d (value_m ρ n) (value_p ρ p))
      go Ordering.gt e r = ap (λ x. d *ℤ value_m ρ n +ℤ x) r ∙ past (d *ℤ value_m ρ n) (c *ℤ value_m ρ m) (value_p ρ p)

  add_poly-ok : (p q : Poly) → value_p ρ (add_poly p q) ≡ value_p ρ p +ℤ value_p ρ q
  unfolding value_p
  add_poly-ok nil q = zero-add (value_p ρ q)
  add_poly-ok (term m c p) q = insert-ok m c (add_poly p q) ∙ ap (λ x. c *ℤ value_m ρ m +ℤ x) (add_poly-ok p q) ∙ add_assoc (c *ℤ value_m ρ m) (value_p ρ p) (value_p ρ q)

  mul_term-ok : (m : Mono) (c : ℤ) (p : Poly) → value_p ρ (mul_term m c p) ≡ c *ℤ value_m ρ m *ℤ value_p ρ p
  unfolding value_p
  mul_term-ok m c nil = zero-mul (c *ℤ value_m ρ m)
  mul_term-ok m c (term n d p) =
      insert-ok (mul_mono m n) (c *ℤ d) (mul_term m c p)
      ∙ ap (λ x. c *ℤ d *ℤ x +ℤ value_p ρ (mul_term m c p)) (mul_mono-ok m n)
      ∙ ap (λ x. c *ℤ d *ℤ (value_m ρ m *ℤ value_m ρ n) +ℤ x) (mul_term-ok m c p)
      ∙ ap (λ x. x +ℤ c *ℤ value_m ρ m *ℤ value_p ρ p) (mid c d (value_m ρ m) (value_m ρ n))
      ∙ mul-add-left (c *ℤ value_m ρ m) (d *ℤ value_m ρ n) (value_p ρ p)

  mul_poly-ok : (p q : Poly) → value_p ρ (mul_poly p q) ≡ value_p ρ p *ℤ value_p ρ q
  unfolding value_p
  mul_poly-ok nil q = zero-mul' (value_p ρ q)
  mul_poly-ok (term m c p) q =
      add_poly-ok (mul_term m c q) (mul_poly p q)
      ∙ (λ i. mul_term-ok m c q i +ℤ mul_poly-ok p q i)
      ∙ mul-add-right (c *ℤ value_m ρ m) (value_p ρ p) (value_p ρ q)

  norm-ok : (e : Formula) → value_p ρ (norm e) ≡ value ρ e
  unfolding value_p value_m
  norm-ok (var i) = is_eq (is_add (is_mul (is_nat 1) (is_mul (is_int (look ρ i)) (is_nat 1))) (is_nat 0)) (is_int (look ρ i)) (omega arith)
  norm-ok (lit n) = keep-ok [] n nil ∙ is_eq (is_add (is_mul (is_int n) (is_nat 1)) (is_nat 0)) (is_int n) (omega arith)
  norm-ok (a :+ b) = add_poly-ok (norm a) (norm b) ∙ (λ i. norm-ok a i +ℤ norm-ok b i)
  norm-ok (a :- b) =
      add_poly-ok (norm a) (mul_term [] (negsuc 0) (norm b))
      ∙ (λ i. norm-ok a i +ℤ mul_term-ok [] (negsuc 0) (norm b) i)
      ∙ ap (λ x. value ρ a +ℤ negsuc 0 *ℤ pos 1 *ℤ x) (norm-ok b)
      ∙ minus' (value ρ a) (value ρ b)
  norm-ok (a :* b) = mul_poly-ok (norm a) (norm b) ∙ (λ i. norm-ok a i *ℤ norm-ok b i)

  pub identity : (e f : Formula) → norm e ≡ norm f → value ρ e ≡ value ρ f
  identity e f h = sym (norm-ok e) ∙ ap (value_p ρ) h ∙ norm-ok f

-- The bridge to omega for a whole formula, in one entry of its list: `parts ρ e true` is what is added, `parts ρ e false` what is
-- taken away.
abbrev pub parts : List ℤ → Formula → Bool → ℕ
parts ρ (var i) true = gain (look ρ i)
parts ρ (var i) false = loss (look ρ i)
parts ρ (lit n) true = gain n
parts ρ (lit n) false = loss n
parts ρ (a :+ b) t = parts ρ a t + parts ρ b t
parts ρ (a :- b) t = parts ρ a t + parts ρ b (not t)
parts ρ (a :* b) t = parts ρ a true * parts ρ b t + parts ρ a false * parts ρ b (not t)

pub is_formula : (ρ : List ℤ) (e : Formula) → Is (value ρ e) (parts ρ e true) (parts ρ e false)
is_formula ρ (var i) = is_int (look ρ i)
is_formula ρ (lit n) = is_int n
is_formula ρ (a :+ b) = is_add (is_formula ρ a) (is_formula ρ b)
is_formula ρ (a :- b) = is_add (is_formula ρ a) (is_neg (is_formula ρ b))
is_formula ρ (a :* b) = is_mul (is_formula ρ a) (is_formula ρ b)
