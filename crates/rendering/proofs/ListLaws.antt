-- Tables and rows from their first entry on, and lists as tables and rows of their own entries. Assumes nothing.
use mathlib.Core.Path.{◌≡◌, refl, sym, ◌∙◌}
use mathlib.Core.List.{List, ◌∷◌, ◌++◌, append_assoc, append-nil}
use Prim.Native.Nat.{ℕ, zero, suc, ◌+◌, ◌*◌, ◌<◌, ◌≤◌}
use native.Mathlib.Omega.{arith}
use lib.ListN.{length, get_or, take, drop}
use lib.Seq.{take-add, take-suc, take-length}
use Rattle.lists.specs.Table.{table}
use Rattle.lists.specs.Rows.{rows}

module _ {A : Type 0} where
  pub table_first : (f : ℕ → A) (n : ℕ) → table f (suc n) ≡ f 0 ∷ table (λ i. f (suc i)) n
  table_first f zero = refl
  table_first f (suc n) = rw (table_first f n)

  pub rows_first : (row : ℕ → List A) (n : ℕ) → rows row (suc n) ≡ row 0 ++ rows (λ i. row (suc i)) n
  rows_first row zero = sym (append-nil (row 0))
  rows_first row (suc n) = rw (rows_first row n, append_assoc)

  -- Functions that agree below n.
  pub table-agree : (f g : ℕ → A) (n : ℕ) → ((i : ℕ) → i < n → f i ≡ g i) → table f n ≡ table g n
  table-agree f g zero h = refl
  table-agree f g (suc n) h = rw (table-agree f g n (λ i l. h i (omega arith)), h n (omega arith))

  pub rows_agree : (f g : ℕ → List A) (n : ℕ) → ((i : ℕ) → i < n → f i ≡ g i) → rows f n ≡ rows g n
  rows_agree f g zero h = refl
  rows_agree f g (suc n) h = rw (rows_agree f g n (λ i l. h i (omega arith)), h n (omega arith))

  -- A list is the table of its entries, and the rows of its blocks.
  table-take : (l : List A) (d : A) (n : ℕ) → n ≤ length l → table (λ i. get_or l i d) n ≡ take n l
  table-take l d zero h = refl
  table-take l d (suc n) h = rw (table-take l d n (omega arith), take-suc l n d h)

  pub table_self : (l : List A) (d : A) (n : ℕ) → length l ≡ n → table (λ i. get_or l i d) n ≡ l
  table_self l d n e = table-take l d n (omega arith) ∙ rw (← e, take-length)

  pub rows_take : (w : ℕ) (l : List A) (n : ℕ) → rows (λ i. take w (drop (w * i) l)) n ≡ take (w * n) l
  rows_take w l zero = let e : w * 0 ≡ 0 = omega arith in rw e
  rows_take w l (suc n) = let e : w * suc n ≡ w * n + w = omega arith in rw (rows_take w l n, e, take-add)

  pub rows_self : (w : ℕ) (l : List A) (n : ℕ) → length l ≡ w * n → rows (λ i. take w (drop (w * i) l)) n ≡ l
  rows_self w l n e = rows_take w l n ∙ rw (← e, take-length)
