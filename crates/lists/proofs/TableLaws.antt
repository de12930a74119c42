-- The step of a loop that fills a slice from the front with a function's values, or with one value. Assumes nothing.
--
-- After i turns the slice is `table f i ++ drop i old`, or `replicate i v ++ drop i old`; the next store makes it so at i + 1.
use mathlib.Core.Path.{◌≡◌, refl, sym, ap, ◌∙◌}
use mathlib.Core.List.{List, [], ◌∷◌, ◌++◌, map, append_assoc, map-append}
use Prim.Native.Nat.{ℕ, zero, suc, ◌+◌, ◌<◌, ◌≤◌}
use native.Mathlib.Omega.{arith}
use native.Mathlib.Decide.{ℕ_discrete}
use native.Mathlib.Numerals.{add-one}
use lib.ListN.{length, get_or, set, take, drop, length-append, get_or-append}
use lib.Seq.{drop-cons, set_at, take-suc, get_or-append-add}
use Rattle.lists.specs.Table.{table}

pub table-length {ℓ} : {A : Type ℓ} (f : ℕ → A) (n : ℕ) → length (table f n) ≡ n
table-length f zero = refl
table-length f (suc n) = simp (length-append, table-length f n, add-one)

pub table_more {ℓ} : {A : Type ℓ} (f : ℕ → A) (n : ℕ) (d : List A) → n < length d → set (table f n ++ drop n d) n (f n) ≡ table f (n + 1) ++ drop (n + 1) d
table_more f n d h =
    rw (add-one, drop-cons d n (f n))
    (set_at (table f n) _ _ (f n) n (table-length f n) ∙ sym (append_assoc (table f n) (f n ∷ []) (drop (suc n) d)))

-- Entry k of a table, alone and in front of a list.
pub table-entry : {A : Type 0} (f : ℕ → A) (n k : ℕ) (d : A) → k < n → get_or (table f n) k d ≡ f k
table-entry f (suc n) k d h = by (ℕ_discrete k n) (table-entry f n k d)
  where
    by : Dec (k ≡ n) → (k < n → get_or (table f n) k d ≡ f k) → get_or (table f n ++ (f n ∷ [])) k d ≡ f k
    by (yes e) go =
        let i : k ≡ length (table f n) + 0 = omega (arith, e, table-length f n) in
        ap (λ t. get_or (table f n ++ (f n ∷ [])) t d) i ∙ get_or-append-add (table f n) (f n ∷ []) 0 d ∙ ap f (sym e)
    by (no e) go = get_or-append (table f n) (f n ∷ []) d k (omega (arith, table-length f n)) ∙ go (omega arith)
table-entry {A = A} f zero k d h = elim h [ ]

pub table_at : {A : Type 0} (f : ℕ → A) (n k : ℕ) (rest : List A) (d : A) → k < n → get_or (table f n ++ rest) k d ≡ f k
table_at f n k rest d h = get_or-append (table f n) rest d k (omega (arith, table-length f n)) ∙ table-entry f n k d h

-- The table of a list's own entries, put through g.
pub table-front : {A B : Type 0} (g : A → B) (l : List A) (d : A) (k : ℕ) → k ≤ length l → table (λ i. g (get_or l i d)) k ≡ map g (take k l)
table-front g l d zero h = refl
table-front g l d (suc k) h =
    ap (λ m. m ++ (g (get_or l k d) ∷ [])) (table-front g l d k (omega arith)) ∙ sym (map-append g (take k l) (get_or l k d ∷ [])) ∙ ap (map g) (sym (take-suc l k d h))
