-- Sums over the numbers below n and over their pairs, and what the lists of those that pass a test sum to. Assumes nothing.
use mathlib.Core.Path.{◌≡◌, refl, sym, ap, ◌∙◌}
use mathlib.Core.Bool.{Bool, true, false, cond}
use mathlib.Core.List.{List, [], ◌∷◌, map}
use Prim.Native.Nat.{ℕ, zero, suc, ◌+◌, ◌≤◌, ◌<◌}
use native.Mathlib.Omega.{arith}
use native.Mathlib.Decide.{ℕ_discrete, dec_lt}
use borrow.Author.Tests.{lt-ltb, le-ltb, eq-eqb, ne_eqb}
use lib.Dec.{eqb, ltb}
use lib.ListN.{length}
use Rattle.sweep.specs.Members.{total}
use Rattle.sweep.specs.Sweep.{EdgeOf, edge}
use Rattle.sweep.proofs.MemberLaws.{total-append, total-map}
use Rattle.hull.specs.Hull.{passing, pairs_from, pairs_passing}

-- F 0 + .. + F (n - 1)
unfoldable pub sum_to : (ℕ → ℕ) → ℕ → ℕ
sum_to F zero = 0
sum_to F (suc n) = sum_to F n + F n

pub sum-agree : (F G : ℕ → ℕ) (n : ℕ) → ((i : ℕ) → i < n → F i ≡ G i) → sum_to F n ≡ sum_to G n
unfolding sum_to
sum-agree F G zero h = refl
sum-agree F G (suc n) h = omega (arith, sum-agree F G n (λ i l. h i (omega arith)), h n (omega arith))

pub sum-zero : (F : ℕ → ℕ) (n : ℕ) → ((i : ℕ) → i < n → F i ≡ 0) → sum_to F n ≡ 0
unfolding sum_to
sum-zero F zero h = refl
sum-zero F (suc n) h = omega (arith, sum-zero F n (λ i l. h i (omega arith)), h n (omega arith))

pub sum-add : (F G : ℕ → ℕ) (n : ℕ) → sum_to (λ i. F i + G i) n ≡ sum_to F n + sum_to G n
unfolding sum_to
sum-add F G zero = refl
sum-add F G (suc n) = omega (arith, sum-add F G n)

-- Where only one number counts, the sum is what it gives.
pub sum_one : (F : ℕ → ℕ) (k n : ℕ) → k < n → ((i : ℕ) → i < n → (i ≡ k → ⊥) → F i ≡ 0) → sum_to F n ≡ F k
unfolding sum_to
sum_one F k zero l h = absurd (omega arith)
sum_one F k (suc n) l h = go (ℕ_discrete k n) (λ m. sum_one F k n m (λ i q. h i (omega arith)))
  where
    go : Dec (k ≡ n) → (k < n → sum_to F n ≡ F k) → sum_to F n + F n ≡ F k
    go (yes e) r = rw e (omega (arith, sum-zero F n (λ i m. h i (omega arith) (λ q. omega (arith, q)))))
    go (no d) r = omega (arith, r (omega arith), h n (omega arith) (λ q. d (sym q)))

-- A sum is at least each of its parts, and a positive sum has a positive part.
pub sum_in : (F : ℕ → ℕ) (k n : ℕ) → k < n → F k ≤ sum_to F n
unfolding sum_to
sum_in F k zero l = absurd (omega arith)
sum_in F k (suc n) l = go (ℕ_discrete k n) (λ m. sum_in F k n m)
  where
    go : Dec (k ≡ n) → (k < n → F k ≤ sum_to F n) → F k ≤ sum_to F n + F n
    go (yes e) r = rw e (omega arith)
    go (no d) r = omega (arith, r (omega arith))

sum-some : (F : ℕ → ℕ) (n : ℕ) → 0 < sum_to F n → (k : ℕ) × (k < n) × (0 < F k)
unfolding sum_to
sum-some F zero h = absurd (omega arith)
sum-some F (suc n) h = go (dec_lt 0 (F n)) (λ m. sum-some F n m)
  where
    go : Dec (0 < F n) → (0 < sum_to F n → (k : ℕ) × (k < n) × (0 < F k)) → (k : ℕ) × (k < suc n) × (0 < F k)
    go (yes l) r = (n, omega arith, l)
    go (no l) r = let x = r (omega arith) in (x.0, omega (arith, x.1), x.2)

-- x at k, else 0.
unfoldable pub only : ℕ → ℕ → ℕ → ℕ
only k x i = cond (eqb i k) x 0

pub only_at : (k x i : ℕ) → i ≡ k → only k x i ≡ x
unfolding only
only_at k x i e = rw (eq-eqb i k e)

pub only_else : (k x i : ℕ) → (i ≡ k → ⊥) → only k x i ≡ 0
unfolding only
only_else k x i d = rw (ne_eqb i k d)

-- Sums whose parts agree but at three numbers.
pub sum-three : (F G : ℕ → ℕ) (a b c n : ℕ) → a < n → b < n → c < n → (a ≡ b → ⊥) → (b ≡ c → ⊥) → (c ≡ a → ⊥)
    → ((k : ℕ) → k < n → (k ≡ a → ⊥) → (k ≡ b → ⊥) → (k ≡ c → ⊥) → F k ≡ G k) → sum_to F n + (G a + G b + G c) ≡ sum_to G n + (F a + F b + F c)
sum-three F G a b c n la lb lc ab bc ca h =
    omega (
      arith,
      parts F G,
      parts G F,
      sum-agree (λ k. F k + three G k) (λ k. G k + three F k) n (λ k l. agree k l (ℕ_discrete k a) (ℕ_discrete k b) (ℕ_discrete k c)),
    )
  where
    three : (ℕ → ℕ) → ℕ → ℕ
    three F k = only a (F a) k + only b (F b) k + only c (F c) k

    sum_only : (k x : ℕ) → k < n → sum_to (only k x) n ≡ x
    sum_only k x l = sum_one (only k x) k n l (λ i q d. only_else k x i d) ∙ only_at k x k refl

    parts : (F G : ℕ → ℕ) → sum_to (λ k. F k + three G k) n ≡ sum_to F n + (G a + G b + G c)
    parts F G =
        omega (
          arith,
          sum-add F (three G) n,
          sum-add (λ k. only a (G a) k + only b (G b) k) (only c (G c)) n,
          sum-add (only a (G a)) (only b (G b)) n,
          sum_only a (G a) la,
          sum_only b (G b) lb,
          sum_only c (G c) lc,
        )

    at : (F : ℕ → ℕ) (k x y z : ℕ) → k ≡ x → (k ≡ y → ⊥) → (k ≡ z → ⊥) → (only x (F x) k ≡ F k) × (only y (F y) k ≡ 0) × (only z (F z) k ≡ 0)
    at F k x y z e p q = (only_at x (F x) k e ∙ sym (ap F e), only_else y (F y) k p, only_else z (F z) k q)

    agree : (k : ℕ) → k < n → Dec (k ≡ a) → Dec (k ≡ b) → Dec (k ≡ c) → F k + three G k ≡ G k + three F k
    agree k l (yes e) y z =
        let f = at F k a b c e (λ r. ab (sym e ∙ r)) (λ r. ca (sym r ∙ e)) in
        let g = at G k a b c e (λ r. ab (sym e ∙ r)) (λ r. ca (sym r ∙ e)) in
        omega (arith, f.0, f.1, f.2, g.0, g.1, g.2)
    agree k l (no d) (yes e) z =
        let f = at F k b c a e (λ r. bc (sym e ∙ r)) d in
        let g = at G k b c a e (λ r. bc (sym e ∙ r)) d in
        omega (arith, f.0, f.1, f.2, g.0, g.1, g.2)
    agree k l (no d) (no q) (yes e) =
        let f = at F k c a b e d q in
        let g = at G k c a b e d q in
        omega (arith, f.0, f.1, f.2, g.0, g.1, g.2)
    agree k l (no d) (no q) (no r) =
        omega (
          arith,
          h k l d q r,
          only_else a (F a) k d,
          only_else b (F b) k q,
          only_else c (F c) k r,
          only_else a (G a) k d,
          only_else b (G b) k q,
          only_else c (G c) k r,
        )

-- The order of two sums does not matter.
sum-swap : (F : ℕ → ℕ → ℕ) (m n : ℕ) → sum_to (λ i. sum_to (F i) m) n ≡ sum_to (λ j. sum_to (λ i. F i j) n) m
unfolding sum_to
sum-swap F m zero = sym (sum-zero (λ j. 0) m (λ i l. refl))
sum-swap F m (suc n) = ap (λ k. k + sum_to (F n) m) (sum-swap F m n) ∙ sym (sum-add (λ j. sum_to (λ i. F i j) n) (F n) m)

-- The sum over all pairs of numbers below n.
unfoldable pub grid : (ℕ → ℕ → ℕ) → ℕ → ℕ
grid F n = sum_to (λ i. sum_to (F i) n) n

module _ (n : ℕ) where
  pub grid-agree : (F G : ℕ → ℕ → ℕ) → ((i j : ℕ) → i < n → j < n → F i j ≡ G i j) → grid F n ≡ grid G n
  unfolding grid
  grid-agree F G h = sum-agree (λ i. sum_to (F i) n) (λ i. sum_to (G i) n) n (λ i l. sum-agree (F i) (G i) n (λ j m. h i j l m))

  pub grid-zero : (F : ℕ → ℕ → ℕ) → ((i j : ℕ) → i < n → j < n → F i j ≡ 0) → grid F n ≡ 0
  unfolding grid
  grid-zero F h = sum-zero (λ i. sum_to (F i) n) n (λ i l. sum-zero (F i) n (λ j m. h i j l m))

  pub grid-add : (F G : ℕ → ℕ → ℕ) → grid (λ i j. F i j + G i j) n ≡ grid F n + grid G n
  unfolding grid
  grid-add F G =
      sum-agree (λ i. sum_to (λ j. F i j + G i j) n) (λ i. sum_to (F i) n + sum_to (G i) n) n (λ i l. sum-add (F i) (G i) n)
      ∙ sum-add (λ i. sum_to (F i) n) (λ i. sum_to (G i) n) n

  pub grid-swap : (F : ℕ → ℕ → ℕ) → grid F n ≡ grid (λ i j. F j i) n
  unfolding grid
  grid-swap F = sum-swap F n n

  -- Where only one pair counts, the sum is what it gives.
  pub grid_one : (F : ℕ → ℕ → ℕ) (a b : ℕ) → a < n → b < n → ((i j : ℕ) → i < n → j < n → (i ≡ a → j ≡ b → ⊥) → F i j ≡ 0) → grid F n ≡ F a b
  unfolding grid
  grid_one F a b la lb h =
      sum_one (λ i. sum_to (F i) n) a n la (λ i l d. sum-zero (F i) n (λ j m. h i j l m (λ p q. d p)))
      ∙ sum_one (F a) b n lb (λ j m d. h a j la m (λ p q. d q))

  pub grid-some : (F : ℕ → ℕ → ℕ) → 0 < grid F n → (i : ℕ) × (i < n) × (j : ℕ) × (j < n) × (0 < F i j)
  unfolding grid
  grid-some F h = let x = sum-some (λ i. sum_to (F i) n) n h in let y = sum-some (F x.0) n x.2 in (x.0, x.1, y.0, y.1, y.2)

  -- The pairs i < j, each taken both ways, are all pairs, where a number's pair with itself does not count.
  pub grid-fold : (F : ℕ → ℕ → ℕ) → ((i : ℕ) → i < n → F i i ≡ 0) → grid (λ i j. cond (ltb i j) (F i j + F j i) 0) n ≡ grid F n
  grid-fold F diagonal =
      grid-agree (λ i j. cond (ltb i j) (F i j + F j i) 0) (λ i j. up i j + down i j) (λ i j l m. parts (ltb i j) i j)
      ∙ grid-add up down
      ∙ ap (λ k. grid up n + k) (grid-swap down)
      ∙ sym (grid-add up (λ i j. down j i))
      ∙ grid-agree (λ i j. up i j + down j i) F (λ i j l m. whole i j l (dec_lt i j) (dec_lt j i))
    where
      up : ℕ → ℕ → ℕ
      up i j = cond (ltb i j) (F i j) 0

      down : ℕ → ℕ → ℕ
      down i j = cond (ltb i j) (F j i) 0

      parts : (b : Bool) (i j : ℕ) → cond b (F i j + F j i) 0 ≡ cond b (F i j) 0 + cond b (F j i) 0
      parts true i j = refl
      parts false i j = refl

      whole : (i j : ℕ) → i < n → Dec (i < j) → Dec (j < i) → cond (ltb i j) (F i j) 0 + cond (ltb j i) (F i j) 0 ≡ F i j
      whole i j l (yes h) (yes k) = absurd (omega arith)
      whole i j l (yes h) (no k) = rw (lt-ltb i j h, le-ltb j i (omega arith)) (omega arith)
      whole i j l (no h) (yes k) = rw (lt-ltb j i k, le-ltb i j (omega arith)) (omega arith)
      whole i j l (no h) (no k) = let e : j ≡ i = omega arith in rw (le-ltb i j (omega arith), le-ltb j i (omega arith), e, diagonal i l)

-- ---- lists
-- A list's length is a sum of ones.
pub total-ones : {A : Type 0} (l : List A) → total (λ x. 1) l ≡ length l
unfolding total
total-ones [] = refl
total-ones (x ∷ l) = omega (arith, total-ones l)

-- The sum over the numbers, or the pairs, that pass a test.
pub total-passing : (g : ℕ → ℕ) (p : ℕ → Bool) (n : ℕ) → total g (passing p n) ≡ sum_to (λ k. cond (p k) (g k) 0) n
unfolding passing sum_to total
total-passing g p zero = refl
total-passing g p (suc n) =
    total-append g (passing p n) (cond (p n) (n ∷ []) []) ∙ omega (arith, total-passing g p n, one (p n))
  where
    one : (b : Bool) → total g (cond b (n ∷ []) []) ≡ cond b (g n) 0
    one true = omega arith
    one false = refl

pub total-pairs : (g : EdgeOf ℕ → ℕ) (p : ℕ → ℕ → Bool) (n : ℕ) → total g (pairs_passing p n) ≡ grid (λ i j. cond (p i j) (g (edge i j)) 0) n
unfolding grid pairs_from sum_to total
total-pairs g p n = go n
  where
    go : (m : ℕ) → total g (pairs_from p n m) ≡ sum_to (λ i. sum_to (λ j. cond (p i j) (g (edge i j)) 0) n) m
    go zero = refl
    go (suc m) =
        total-append g (pairs_from p n m) (map (edge m) (passing (p m) n))
        ∙ omega (arith, go m, total-map g (edge m) (passing (p m) n), total-passing (λ j. g (edge m j)) (p m) n)
