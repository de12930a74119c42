-- The list of pairs that pass a test: each stands in it once, and no other. Assumes nothing.
use Prim.Native.Nat.{ℕ, zero, suc, ◌+◌, ◌≤◌, ◌<◌}
use native.Mathlib.Omega.{arith}
use native.Mathlib.Decide.{dec_lt, ℕ_discrete}
use mathlib.Core.Path.{◌≡◌, refl, ◌∙◌, ap}
use mathlib.Core.Bool.{Bool, true, false, cond}
use mathlib.Core.List.{List, ◌∷◌, ◌++◌}
use Rattle.trace.specs.Side.{Directed, ◌⟶◌, bit}
use Rattle.trace.specs.Crossed.{row, rows}
use Rattle.trace.specs.Mesh.{count}
use Rattle.trace.proofs.CountLaws.{Tested, passes, fails, tested, same_self, same_not, count-append}

-- An entry that passes is kept once; an entry that fails is not; another entry does not matter.
keep_same : (t : Bool) (d : Directed) (l : List Directed) → count d l ≡ 0 → count d (cond t (d ∷ l) l) ≡ bit t
unfolding count
keep_same true d l h = omega (arith, ap bit (same_self d))
keep_same false d l h = h

keep_other : (t : Bool) (d x : Directed) (l : List Directed) → (d ≡ x → ⊥) → count d (cond t (x ∷ l) l) ≡ count d l
unfolding count
keep_other true d x l ne = omega (arith, ap bit (same_not d x ne))
keep_other false d x l ne = refl

-- A row has nothing from another station nor to a lower one.
row_other : (p : Directed → Bool) (i a b j k : ℕ) → ((a ≡ i) × (j ≤ b) → ⊥) → count (a ⟶ b) (row p i j k) ≡ 0
unfolding row count
row_other p i a b j zero f = refl
row_other p i a b j (suc k) f =
    keep_other (p (i ⟶ j)) (a ⟶ b) (i ⟶ j) _ (λ e. f (cc, let q : b ≡ j = cc in omega arith)) ∙ row_other p i a b (suc j) k (λ q. f (q.0, omega (arith, q.1)))

-- It has what passes, once.
row_one : (p : Directed → Bool) (i b j k : ℕ) → j ≤ b → b < j + k → count (i ⟶ b) (row p i j k) ≡ bit (p (i ⟶ b))
unfolding row
row_one p i b j zero l h = absurd (omega arith)
row_one p i b j (suc k) l h = by (ℕ_discrete b j) (row_one p i b (suc j) k)
  where
    by : Dec (b ≡ j) → (suc j ≤ b → b < suc j + k → count (i ⟶ b) (row p i (suc j) k) ≡ bit (p (i ⟶ b)))
        → count (i ⟶ b) (cond (p (i ⟶ j)) (i ⟶ j ∷ row p i (suc j) k) (row p i (suc j) k)) ≡ bit (p (i ⟶ b))
    by (yes e) ih = rw (← e) (keep_same (p (i ⟶ b)) (i ⟶ b) (row p i (suc b) k) (row_other p i i b (suc b) k (λ q. omega (arith, q.1))))
    by (no e) ih = keep_other (p (i ⟶ j)) (i ⟶ b) (i ⟶ j) _ (λ q. e (cc)) ∙ ih (omega arith) (omega arith)

pub row_in : (p : Directed → Bool) (i a b j k : ℕ) → 0 < count (a ⟶ b) (row p i j k) → (a ≡ i) × (j ≤ b)
row_in p i a b j k h = by (ℕ_discrete a i) (dec_lt b j)
  where
    by : Dec (a ≡ i) → Dec (b < j) → (a ≡ i) × (j ≤ b)
    by (yes e) (no f) = (e, omega arith)
    by (yes e) (yes f) = absurd (omega (arith, row_other p i a b j k (λ q. omega (arith, q.1))))
    by (no e) f = absurd (omega (arith, row_other p i a b j k (λ q. e q.0)))

-- The rows have nothing from a lower station, and what passes once.
rows_none : (p : Directed → Bool) (n a b i k : ℕ) → a < i → count (a ⟶ b) (rows p n i k) ≡ 0
unfolding rows count
rows_none p n a b i zero h = refl
rows_none p n a b i (suc k) h =
    omega (
      arith,
      count-append (a ⟶ b) (row p i 0 n) (rows p n (suc i) k),
      row_other p i a b 0 n (λ q. omega (arith, q.0)),
      rows_none p n a b (suc i) k (omega arith),
    )

pub rows_in : (p : Directed → Bool) (n a b i k : ℕ) → 0 < count (a ⟶ b) (rows p n i k) → i ≤ a
rows_in p n a b i k h = by (dec_lt a i)
  where
    by : Dec (a < i) → i ≤ a
    by (yes l) = absurd (omega (arith, rows_none p n a b i k l))
    by (no l) = omega arith

rows_one : (p : Directed → Bool) (n a b i k : ℕ) → i ≤ a → a < i + k → b < n → count (a ⟶ b) (rows p n i k) ≡ bit (p (a ⟶ b))
unfolding rows
rows_one p n a b i zero l h g = absurd (omega arith)
rows_one p n a b i (suc k) l h g = by (ℕ_discrete a i) (rows_one p n a b (suc i) k)
  where
    by : Dec (a ≡ i) → (suc i ≤ a → a < suc i + k → b < n → count (a ⟶ b) (rows p n (suc i) k) ≡ bit (p (a ⟶ b)))
        → count (a ⟶ b) (row p i 0 n ++ rows p n (suc i) k) ≡ bit (p (a ⟶ b))
    by (yes e) ih =
        rw (← e)
        (omega (
          arith,
          count-append (a ⟶ b) (row p a 0 n) (rows p n (suc a) k),
          row_one p a b 0 n (omega arith) (omega arith),
          rows_none p n a b (suc a) k (omega arith),
        ))
    by (no e) ih =
        omega (
          arith,
          count-append (a ⟶ b) (row p i 0 n) (rows p n (suc i) k),
          row_other p i a b 0 n (λ q. e q.0),
          ih (omega arith) (omega arith) g,
        )

-- What fails is in no row.
row-fails : (p : Directed → Bool) (i b j k : ℕ) → p (i ⟶ b) ≡ false → count (i ⟶ b) (row p i j k) ≡ 0
unfolding row count
row-fails p i b j zero h = refl
row-fails p i b j (suc k) h = by (ℕ_discrete b j) (row-fails p i b (suc j) k h)
  where
    by : Dec (b ≡ j) → count (i ⟶ b) (row p i (suc j) k) ≡ 0 → count (i ⟶ b) (cond (p (i ⟶ j)) (i ⟶ j ∷ row p i (suc j) k) (row p i (suc j) k)) ≡ 0
    by (yes e) ih = rw (← e, h) (rw (← e) at ih)
    by (no e) ih = keep_other (p (i ⟶ j)) (i ⟶ b) (i ⟶ j) _ (λ q. e (cc)) ∙ ih

rows-fails : (p : Directed → Bool) (n a b i k : ℕ) → p (a ⟶ b) ≡ false → count (a ⟶ b) (rows p n i k) ≡ 0
unfolding rows count
rows-fails p n a b i zero h = refl
rows-fails p n a b i (suc k) h = omega (arith, count-append (a ⟶ b) (row p i 0 n) (rows p n (suc i) k), by (ℕ_discrete a i), rows-fails p n a b (suc i) k h)
  where
    by : Dec (a ≡ i) → count (a ⟶ b) (row p i 0 n) ≡ 0
    by (yes e) = rw (← e) (row-fails p a b 0 n h)
    by (no e) = row_other p i a b 0 n (λ q. e q.0)

-- Where only sides below n pass, each that passes stands once among all rows, and no other.
pub rows-count : (p : Directed → Bool) (n a b : ℕ) → (p (a ⟶ b) ≡ true → (a < n) × (b < n)) → count (a ⟶ b) (rows p n 0 n) ≡ bit (p (a ⟶ b))
rows-count p n a b f = by (tested (p (a ⟶ b)))
  where
    by : Tested (p (a ⟶ b)) → count (a ⟶ b) (rows p n 0 n) ≡ bit (p (a ⟶ b))
    by (passes e) = rows_one p n a b 0 n (omega arith) (omega (arith, (f e).0)) (f e).1
    by (fails e) = rw e (rows-fails p n a b 0 n e)
