-- A tag's eight bytes and its word, as one number: each gives the other. Assumes nothing.
--
-- The bytes of a word, 1 to 8, are packed to a number whose digits in base 256 they are (`packed-word`); no second word has them
-- (`word_one`).
use mathlib.Core.Path.{◌≡◌, refl, sym, ap, ◌∙◌}
use mathlib.Core.Bool.{Bool, true, false, cond, not, ◌||◌, or-false, or_assoc}
use mathlib.Core.List.{List, [], ◌∷◌, ◌++◌}
use Prim.Native.Nat.{ℕ, zero, suc, ◌+◌, ◌*◌, ◌-◌, ◌/◌, ◌%◌, ◌^◌, ◌<◌, ◌≤◌}
use native.Mathlib.Omega.{arith}
use native.Mathlib.Nat.{pow-suc, pow-le-pow_right, zero-add}
use native.Mathlib.Decide.{dec_lt}
use native.Mathlib.Numerals.{add-one}
use borrow.Author.Tests.{lt-ltb, le-ltb, ltb-false, not-false, eqb-true, eqb-false, eq-eqb, ne_eqb}
use lib.Dec.{eqb, ltb}
use lib.ListN.{length, get_or, take, drop, replicate, length-append, length-drop, length-replicate, get_or-eq_default}
use lib.Seq.{ext_get_or, get_or-take, get_or-drop, length-take-le}
use Rattle.lists.specs.Lowest.{some}
use Rattle.lists.specs.Table.{table}
use Rattle.lists.proofs.TestLaws.{or_left, or_right}
use Rattle.lists.proofs.LowestLaws.{lowest-le, lowest_is, lowest_none, some_more, some-false, none_found}
use Rattle.lists.proofs.TableLaws.{table-length, table-entry}
use Rattle.shapes.specs.Line.{is_word_byte, is_used}
use Rattle.shapes.specs.Bytes.{digits_of, word_bytes, value_bytes}
use Rattle.shapes.specs.Ranges.{AllOf, WordByte, IsWord, Sound}
use Rattle.shapes.proofs.BytesLaws.{digits-length, digits_one}
use Rattle.shapes.proofs.DigitLaws.{all_more, digits_push}
use Rattle.shapes.proofs.SpellLaws.{word-byte-bounds, line_of}
use Rattle.survey.specs.Limits.{most_tag}
use Rattle.formats.specs.Lines.{tag_line}
use Rattle.formats.specs.Surveys.{stations}
use Rattle.formats.proofs.FormatLaws.{survey1-sound}
use Rattle.rendering.specs.Filed.{tag_byte_of, tag_size, packed, tag_number}
use Rattle.rendering.specs.Values.{tag_row}
use Rattle.rendering.specs.Writer.{is_wrong_byte, is_wrong_tag}
use Rattle.rendering.proofs.ListLaws.{table-agree, table_self}

-- ---- words and their bytes

-- No two words have the same bytes: the line of a tag is read as one word.
word_one : (a b : ℕ) → IsWord a → IsWord b → word_bytes a ≡ word_bytes b → a ≡ b
unfolding value_bytes is_used stations
word_one a b h i e =
    let sound : Sound tag_line = (((survey1-sound.1 1).1 0).1 3).0 in
    let x = line_of tag_line [] a sound (h, refl) in
    let y = line_of tag_line [] b sound (i, refl) in
    cc

all_table : (P : ℕ → Type 0) (f : ℕ → ℕ) (k : ℕ) → ((j : ℕ) → j < k → P (f j)) → AllOf P (table f k)
all_table P f zero h = tt
all_table P f (suc k) h = all_more P (table f k) (f k) (all_table P f k (λ j l. h j (omega arith))) (h k (omega arith))

-- Bytes of a word are those of the number that they are packed to.
module _ (f : ℕ → ℕ) where
  pub packed-below : (k : ℕ) → ((j : ℕ) → j < k → f j < 256) → packed f k < 256 ^ k
  packed-below zero h = omega arith
  packed-below (suc k) h = omega (arith, h k (omega arith), packed-below k (λ j l. h j (omega arith)), pow-suc 256 k)

  below : (k m : ℕ) → k ≤ m → ((j : ℕ) → j < k → WordByte (f j)) → packed f k < 256 ^ m
  below k m h a = omega (arith, packed-below k (λ j l. (word-byte-bounds (f j) (a j l)).1), pow-le-pow_right {n = 256} (omega arith) {i = k} {j = m} h)

  packed-bytes : (k : ℕ) → k < 8 → ((j : ℕ) → j < suc k → WordByte (f j)) → (word_bytes (packed f (suc k)) ≡ table f (suc k)) × (1 ≤ packed f (suc k))
  packed-bytes zero h a =
      let b = word-byte-bounds (f 0) (a 0 (omega arith)) in
      let e : 256 * 0 + f 0 ≡ f 0 = omega arith in
      (rw (e, digits_one 256 0 8 (f 0) b.1 (omega arith), zero-add), omega (arith, b.0))
  packed-bytes (suc k) h a =
      let p = packed-bytes k (omega arith) (λ j l. a j (omega arith)) in
      let small = below (suc k) 7 (omega arith) (λ j l. a j (omega arith)) in
      let b = word-byte-bounds (f (suc k)) (a (suc k) (omega arith)) in
      (rw (digits_push 256 0 (omega arith) 6 (packed f (suc k)) (f (suc k)) p.1 small b.1, zero-add, p.0), omega (arith, p.1))

  packed-word : (k : ℕ) → 1 ≤ k → k ≤ 8 → ((j : ℕ) → j < k → WordByte (f j)) → (word_bytes (packed f k) ≡ table f k) × IsWord (packed f k)
  packed-word zero h l a = absurd (omega arith)
  packed-word (suc k) h l a =
      let e = (packed-bytes k (omega arith) a).0 in (e, (rw e (all_table WordByte f (suc k) a), below (suc k) 8 l a))

-- Zeros behind a list change none of its entries.
with_zeros : (l : List ℕ) (m j : ℕ) → get_or (l ++ replicate m 0) j 0 ≡ get_or l j 0
with_zeros [] zero j = refl
with_zeros [] (suc m) zero = refl
with_zeros [] (suc m) (suc j) = with_zeros [] m j
with_zeros (b ∷ l) m zero = refl
with_zeros (b ∷ l) m (suc j) = with_zeros l m j

pub row-byte : (w j : ℕ) → get_or (tag_row w) j 0 ≡ get_or (word_bytes w) j 0
row-byte w j = with_zeros (word_bytes w) (most_tag - length (word_bytes w)) j

pub row-length : (w : ℕ) → length (tag_row w) ≡ most_tag
row-length w = simp (length-append, length-replicate) (omega (arith, digits-length 256 0 8 w))

all_at : (P : ℕ → Type 0) (l : List ℕ) (j : ℕ) → AllOf P l → j < length l → P (get_or l j 0)
all_at P [] j h i = absurd (omega arith)
all_at P (b ∷ l) zero h i = h.0
all_at P (b ∷ l) (suc j) h i = all_at P l j h.1 (omega arith)

bytes-some : (w : ℕ) → 1 ≤ length (word_bytes w)
unfolding digits_of
bytes-some w = go (ltb w 256)
  where
    go : (t : Bool) → 1 ≤ length (cond t ((0 + w) ∷ []) (digits_of 256 0 7 (w / 256) ++ ((0 + w % 256) ∷ [])))
    go true = omega arith
    go false = simp length-append (omega arith)

-- ---- tags that are used

used-more : (used : List ℕ) (t w : ℕ) → is_used (used ++ (t ∷ [])) w ≡ (is_used used w || eqb t w)
unfolding is_used
used-more [] t w = or-false (eqb t w)
used-more (a ∷ used) t w = rw (used-more used t w, or_assoc)

-- A number is used if it is one of the table.
module _ (f : ℕ → ℕ) where
  pub used-some : (n w : ℕ) → is_used (table f n) w ≡ some (λ j. eqb (f j) w) n
  unfolding is_used
  used-some zero w = refl
  used-some (suc n) w = rw (used-more (table f n) (f n) w, used-some n w, ← some_more (λ j. eqb (f j) w) n, add-one)

  pub used_none : (n w : ℕ) → ((j : ℕ) → j < n → f j ≡ w → ⊥) → is_used (table f n) w ≡ false
  used_none n w h = used-some n w ∙ some-false (λ j. eqb (f j) w) n (λ j l. ne_eqb (f j) w (h j l))

  pub none_used : (n w : ℕ) → is_used (table f n) w ≡ false → (j : ℕ) → j < n → f j ≡ w → ⊥
  none_used n w h j l = eqb-false (f j) w (none_found (λ i. eqb (f i) w) n (sym (used-some n w) ∙ h) j l)

-- ---- a tag of a list, and its word

module _ (tags : List ℕ) (i : ℕ) where
  abbrev f : ℕ → ℕ
  f = tag_byte_of tags i

  abbrev size : ℕ
  size = tag_size tags i

  -- The eight bytes are those of a word.
  abbrev pub Spells : ℕ → Type 0
  Spells w = (j : ℕ) → j < most_tag → f j ≡ get_or (word_bytes w) j 0

  -- A tag of the stated form is one of a word.
  pub form-spells : is_wrong_tag tags i ≡ false → IsWord (tag_number tags i) × Spells (tag_number tags i)
  form-spells h =
      let p = packed-word f size (ltb-false size 1 (or_left (ltb size 1) _ h)) (lowest-le (λ j. eqb (f j) 0) most_tag) allowed in
      (p.1, λ j l. at j l (dec_lt j size) ∙ ap (λ (b : List ℕ). get_or b j 0) (sym p.0))
    where
      right : (j : ℕ) → j < most_tag → is_wrong_byte tags i j ≡ false
      right = none_found (is_wrong_byte tags i) most_tag (or_right (ltb size 1) _ h)

      allowed : (j : ℕ) → j < size → WordByte (f j)
      allowed j l = not-false (is_word_byte (f j)) (rw (lt-ltb j size l) at (right j (omega (arith, lowest-le (λ k. eqb (f k) 0) most_tag))))

      at : (j : ℕ) → j < most_tag → Dec (j < size) → f j ≡ get_or (table f size) j 0
      at j l (yes u) = sym (table-entry f size j 0 u)
      at j l (no u) =
          eqb-true (f j) 0 (not-false (eqb (f j) 0) (rw (le-ltb j size (omega arith)) at (right j l)))
          ∙ sym (get_or-eq_default (table f size) 0 {n = j} (omega (arith, table-length f size)))

  -- And a word's bytes are a tag of the stated form, which has no other number.
  module _ (w : ℕ) (word : IsWord w) (spells : Spells w) where
    abbrev bytes : List ℕ
    bytes = word_bytes w

    bytes_most : length bytes ≤ most_tag
    bytes_most = digits-length 256 0 8 w

    byte : (j : ℕ) → j < length bytes → WordByte (f j)
    byte j l = rw (spells j (omega (arith, bytes_most))) (all_at WordByte bytes j word.0 l)

    unused : (j : ℕ) → length bytes ≤ j → j < most_tag → f j ≡ 0
    unused j l m = spells j m ∙ get_or-eq_default bytes 0 {n = j} l

    size_is : size ≡ length bytes
    size_is = go (dec_lt (length bytes) most_tag)
      where
        some_byte : (j : ℕ) → j < length bytes → eqb (f j) 0 ≡ false
        some_byte j l = ne_eqb (f j) 0 (λ e. omega (arith, (word-byte-bounds (f j) (byte j l)).0))

        go : Dec (length bytes < most_tag) → size ≡ length bytes
        go (yes u) = lowest_is (λ j. eqb (f j) 0) most_tag (length bytes) u (eq-eqb _ 0 (unused (length bytes) (omega arith) u)) some_byte
        go (no u) = lowest_none (λ j. eqb (f j) 0) most_tag (λ j l. some_byte j (omega arith)) ∙ omega (arith, bytes_most)

    pub spells-form : is_wrong_tag tags i ≡ false
    spells-form =
        rw (le-ltb size 1 (omega (arith, size_is, bytes-some w))) (some-false (is_wrong_byte tags i) most_tag (λ j l. at j l (dec_lt j size)))
      where
        at : (j : ℕ) → j < most_tag → Dec (j < size) → is_wrong_byte tags i j ≡ false
        at j l (yes u) = rw (lt-ltb j size u) (ap not (byte j (omega (arith, size_is))))
        at j l (no u) = rw (le-ltb j size (omega arith)) (ap not (eq-eqb (f j) 0 (unused j (omega (arith, size_is)) l)))

    pub spells-number : tag_number tags i ≡ w
    spells-number =
        let n = length bytes in
        let p = packed-word f n (bytes-some w) bytes_most byte in
        let e = table-agree f (λ j. get_or bytes j 0) n (λ j l. spells j (omega (arith, bytes_most))) ∙ table_self bytes 0 n refl in
        rw size_is (word_one (packed f n) w p.1 word (p.0 ∙ e))

  -- The block of a tag that spells a word is the word's row.
  pub row_is : (w : ℕ) → Spells w → most_tag * i + most_tag ≤ length tags → tag_row w ≡ take most_tag (drop (most_tag * i) tags)
  row_is w h l =
      let room = length-take-le most_tag (drop (most_tag * i) tags) (omega (arith, length-drop (most_tag * i) tags)) in
      ext_get_or 0 (tag_row w) (take most_tag (drop (most_tag * i) tags)) (row-length w ∙ sym room)
      (λ j m.
      let k : j < most_tag = omega (arith, row-length w) in
      row-byte w j ∙ sym (rw (get_or-take, get_or-drop) (h j k)))
