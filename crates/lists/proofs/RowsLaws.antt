-- The step of a loop that fills a slice row by row, and what stands where afterwards. Assumes nothing.
--
-- After n turns the slice is `rows row n ++ drop (w * n) old`, each row being w long; the next row's stores make it so at n + 1.
use mathlib.Core.Path.{◌≡◌, sym, ap, ◌∙◌}
use mathlib.Core.List.{List, [], ◌∷◌, ◌++◌}
use Prim.Native.Nat.{ℕ, zero, suc, ◌+◌, ◌*◌, ◌≤◌, ◌<◌}
use native.Mathlib.Numerals.{add-one}
use native.Mathlib.Nat.{mul-le-mul_left}
use native.Mathlib.Omega.{arith}
use native.Mathlib.Decide.{ℕ_discrete}
use lib.ListN.{length, get_or, set, drop, length-append, length-drop, get_or-append}
use lib.Seq.{sets, sets-eq, take_at, drop-append-add, drop-drop, get_or-append-add}
use Rattle.lists.specs.Rows.{rows}

-- Stores at m, m + 1, .. are the stores of a row.
pub three-stores {ℓ} : {A : Type ℓ} (l : List A) (m : ℕ) (a b c : A) → set (set (set l m a) (m + 1) b) (m + 2) c ≡ sets l m (a ∷ b ∷ c ∷ [])
three-stores l m a b c =
    let one : m + 1 ≡ suc m = omega arith in
    let two : m + 2 ≡ suc (suc m) = omega arith in
    rw (one, two)

pub four-stores {ℓ} : {A : Type ℓ} (l : List A) (m : ℕ) (a b c d : A) → set (set (set (set l m a) (m + 1) b) (m + 2) c) (m + 3) d ≡ sets l m (a ∷ b ∷ c ∷ d ∷ [])
four-stores l m a b c d =
    let three : m + 3 ≡ suc (suc (suc m)) = omega arith in
    rw (three-stores l m a b c, three)

pub five-stores {ℓ} : {A : Type ℓ} (l : List A) (m : ℕ) (a b c d e : A) → set (set (set (set (set l m a) (m + 1) b) (m + 2) c) (m + 3) d) (m + 4) e ≡ sets l m (a ∷ b ∷ c ∷ d ∷ e ∷ [])
five-stores l m a b c d e =
    let four : m + 4 ≡ suc (suc (suc (suc m))) = omega arith in
    rw (four-stores l m a b c d, four)

module _ {ℓ} {A : Type ℓ} (row : ℕ → List A) (w : ℕ) (long : (i : ℕ) → length (row i) ≡ w) where
  pub rows-length : (n : ℕ) → length (rows row n) ≡ w * n
  rows-length zero = omega arith
  rows-length (suc n) = length-append (rows row n) (row n) ∙ omega (arith, rows-length n, long n)

  pub rows_more :
      (n : ℕ) (d : List A) → w * n + w ≤ length d
      → sets (rows row n ++ drop (w * n) d) (w * n) (row n) ≡ rows row (n + 1) ++ drop (w * (n + 1)) d
  rows_more n d h =
      sets-eq (row n) (rows row n ++ drop (w * n) d) (w * n) room
      ∙ ap (λ (t : List A). t ++ row n ++ drop (w * n + length (row n)) (rows row n ++ drop (w * n) d)) (take_at (rows row n) (drop (w * n) d) (w * n) (rows-length n))
      ∙ ap (λ (t : List A). rows row n ++ row n ++ t) rest
      ∙ ap (λ (k : ℕ). rows row k ++ drop (w * (n + 1)) d) (sym (add-one n))
    where
      room : w * n + length (row n) ≤ length (rows row n ++ drop (w * n) d)
      room = simp (length-append, length-drop) (omega (arith, rows-length n, long n))

      rest : drop (w * n + length (row n)) (rows row n ++ drop (w * n) d) ≡ drop (w * (n + 1)) d
      rest =
          let at : w * n + length (row n) ≡ length (rows row n) + w = omega (arith, rows-length n, long n) in
          let end : w * n + w ≡ w * (n + 1) = omega arith in
          rw at (drop-append-add (rows row n) (drop (w * n) d) w ∙ drop-drop w (w * n) d ∙ ap (λ (k : ℕ). drop k d) end)

  before-end : {n k j : ℕ} → k < n → j < w → w * k + j < w * n
  before-end {n} {k} h l = omega (arith, mul-le-mul_left {m = k + 1} {n = n} w (omega arith))

  -- Entry j of row k.
  entry : (n : ℕ) {k j : ℕ} (d : A) → k < n → j < w → get_or (rows row n) (w * k + j) d ≡ get_or (row k) j d
  entry (suc n) {k} {j} d h l = go (ℕ_discrete k n) (λ g. entry n d g l)
    where
      go : Dec (k ≡ n) → (k < n → get_or (rows row n) (w * k + j) d ≡ get_or (row k) j d) → get_or (rows row n ++ row n) (w * k + j) d ≡ get_or (row k) j d
      go (yes u) r =
          let at : w * k + j ≡ length (rows row n) + j = omega (arith, rows-length n, ap (λ m. w * m) u) in
          rw at (get_or-append-add (rows row n) (row n) j d ∙ ap (λ (m : ℕ). get_or (row m) j d) (sym u))
      go (no u) r =
          get_or-append (rows row n) (row n) d (w * k + j) (omega (arith, rows-length n, before-end {n = n} {k = k} {j = j} (omega arith) l))
          ∙ r (omega arith)
  entry zero {k = k} {j = j} d h l = elim h [ ]

  pub rows_at : (n k j : ℕ) (rest : List A) (d : A) → k < n → j < w → get_or (rows row n ++ rest) (w * k + j) d ≡ get_or (row k) j d
  rows_at n k j rest d h l =
      get_or-append (rows row n) rest d (w * k + j) (omega (arith, rows-length n, before-end {n = n} {k = k} {j = j} h l))
      ∙ entry n d h l
