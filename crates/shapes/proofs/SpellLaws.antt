-- A line is read as a value exactly if the value is in its range and the line is that of the value. Assumes nothing.
--
-- `Spelled`: the bytes that have led to a part of a line are those that are written of it; one byte more keeps it.
use mathlib.Core.Path.{◌≡◌, refl, sym, ap, subst, subst⁻¹, ◌∙◌}
use mathlib.Core.Bool.{Bool, true, false, cond, ◌&&◌, false≢true, true≢false}
use mathlib.Core.Logic.{◌⊎◌, inl, inr, ⊎_elim}
use mathlib.Core.List.{List, [], ◌∷◌, ◌++◌, append_assoc, append-nil}
use Prim.Native.Nat.{ℕ, zero, suc, ◌+◌, ◌*◌, ◌-◌, ◌≤◌, ◌<◌}
use native.Mathlib.Omega.{arith}
use borrow.Author.Tests.{eqb-true, eq-eqb, ne_eqb, ltb-true, ltb-false, lt-ltb, le-ltb, le-leb, lt-leb, leb-true, leb-false}
use lib.Dec.{eqb, leb, ltb}
use Rattle.shapes.specs.declared.line.Kind.{Kind}
use Rattle.shapes.specs.declared.line.Kind.TheVariants.{Natural, Whole, Tag, Choice}
use Rattle.shapes.specs.declared.line.Shape.{Shape}
use Rattle.shapes.specs.declared.line.Part.{Part}
use Rattle.shapes.specs.declared.line.Part.TheVariants.{Key, Begun, Hyphen, Plain, Minus, Word, Wrong}
use Rattle.std.specs.Prelude.{Result, Ok, Err}
use Rattle.shapes.specs.declared.line.Fault.{Fault}
use Rattle.shapes.specs.declared.line.Fault.TheVariants.{Form, TagUsed}
use Rattle.shapes.specs.Line.{equals, hyphen, is_digit, is_word_byte, full_word, grows, full_number, goes_on, begun, read, zero_at, ranged, said, said_natural, said_whole, said_choice, word_of, is_used, line_said}
use Rattle.shapes.specs.Bytes.{digits_of, word_bytes, digits, whole_bytes, value_bytes, line_body, part_of}
use Rattle.shapes.specs.Ranges.{AllOf, WordByte, IsWord, InRange, SoundKind, Sound}
use Rattle.shapes.proofs.LineLaws.{and_both, grows-small, digit-bounds, goes_on_bounds}
use Rattle.shapes.proofs.BytesLaws.{digits_one, whole-minus, whole_plain}
use Rattle.shapes.proofs.DigitLaws.{part_on, all_more, digits_push, digits-read}

pub refused_not : {v : ℕ} {f : Fault} → ◌≡◌ {A = Result ℕ Fault} (Err f) (Ok v) → ⊥
refused_not {v} {f} e = let z : ◌≡◌ {A = ℕ} 0 1 = cc in omega arith

-- What a number says, by cases: it is refused, or in its range.
ranged_by : (P : Result ℕ Fault → Type 0) → P (Err Form) → (a b w : ℕ) → (a ≤ w → w ≤ b → P (Ok w)) → P (ranged a b w)
ranged_by P r a b w h = go (ltb w a) (ltb b w) refl refl
  where
    go : (x y : Bool) → ltb w a ≡ x → ltb b w ≡ y → P (cond x (Err Form) (cond y (Err Form) (Ok w)))
    go true y i j = r
    go false true i j = r
    go false false i j = h (ltb-false w a i) (ltb-false b w j)

pub natural_by : (P : Result ℕ Fault → Type 0) → P (Err Form) → (a b : ℕ) (p : Part) → ((w : ℕ) → p ≡ Plain w → a ≤ w → w ≤ b → P (Ok w)) → P (said_natural a b p)
natural_by P r a b (Plain w) h = ranged_by P r a b w (h w refl)
natural_by P r a b (Minus w) h = r
natural_by P r a b (Key w) h = r
natural_by P r a b Begun h = r
natural_by P r a b Hyphen h = r
natural_by P r a b (Word w) h = r
natural_by P r a b Wrong h = r

-- ---- bytes of words and of numbers

byte_not : (b c : ℕ) → WordByte b → is_word_byte c ≡ false → eqb b c ≡ false
byte_not b c h i = ne_eqb b c (λ e. true≢false (sym h ∙ ap is_word_byte e ∙ i))

-- A byte of a word is no 0 and below 256.
pub word-byte-bounds : (b : ℕ) → WordByte b → (1 ≤ b) × (b < 256)
word-byte-bounds b h = go (ltb b 1) (ltb b 256) refl refl
  where
    go : (s t : Bool) → ltb b 1 ≡ s → ltb b 256 ≡ t → (1 ≤ b) × (b < 256)
    go true t d e = let z : b ≡ 0 = omega (arith, ltb-true b 1 d) in absurd (true≢false (sym h ∙ ap is_word_byte z))
    go false true d e = (ltb-false b 1 d, ltb-true b 256 e)
    go false false d e =
        let m = ltb-false b 256 e in
        absurd (true≢false (sym h ∙ far b m))
      where
        far : (b : ℕ) → 256 ≤ b → is_word_byte b ≡ false
        far b m =
            rw (
              ne_eqb b hyphen (λ q. omega arith),
              lt-leb b 57 (omega arith),
              lt-leb b 90 (omega arith),
              lt-leb b 122 (omega arith),
              le-leb 48 b (omega arith),
              le-leb 65 b (omega arith),
              le-leb 97 b (omega arith),
            )

pub word_some : (w : ℕ) → IsWord w → 1 ≤ w
unfolding digits_of
word_some zero h = absurd (false≢true h.0.0)
word_some (suc w) h = omega arith

grows-byte : (w b : ℕ) → WordByte b → w < full_word → grows w b ≡ true
grows-byte w b h i = rw h (lt-ltb w full_word i)

digit-byte : (d : ℕ) → d < 10 → is_digit (48 + d) ≡ true
digit-byte d h = rw (le-leb 48 (48 + d) (omega arith)) (le-leb (48 + d) 57 (omega arith))

goes_on_digit : (m d : ℕ) → 1 ≤ m → m < full_number → d < 10 → goes_on m (48 + d) ≡ true
goes_on_digit m d h i j = rw (digit-byte d j) (rw (le-leb 1 m h) (lt-ltb m full_number i))

-- ---- a value in its range is read from its line

module _ (s : Shape) where
  key-byte : (m b : ℕ) → WordByte b → m < full_word → read s (Key m) b ≡ Key (256 * m + b)
  unfolding read
  key-byte m b h i = rw (byte_not b equals h refl) (rw (grows-byte m b h i))

  word_byte : (m b : ℕ) → WordByte b → m < full_word → read s (Word m) b ≡ Word (256 * m + b)
  unfolding read
  word_byte m b h i = rw (grows-byte m b h i)

  plain_byte : (m d : ℕ) → 1 ≤ m → m < full_number → d < 10 → read s (Plain m) (48 + d) ≡ Plain (10 * m + d)
  unfolding read
  plain_byte m d h i j = rw (goes_on_digit m d h i j) (ap (λ (w : ℕ). Plain (10 * m + w)) (omega arith))

  minus-byte : (m d : ℕ) → 1 ≤ m → m < full_number → d < 10 → read s (Minus m) (48 + d) ≡ Minus (10 * m + d)
  unfolding read
  minus-byte m d h i j = rw (goes_on_digit m d h i j) (ap (λ (w : ℕ). Minus (10 * m + w)) (omega arith))

  begun-byte : (d : ℕ) → d < 10 → read s Begun (48 + d) ≡ Plain d
  unfolding read
  begun-byte d h = rw (digit-byte d h) (ap Plain (omega arith))

  hyphen-byte : (d : ℕ) → d < 10 → 1 ≤ d → read s Hyphen (48 + d) ≡ Minus d
  unfolding read
  hyphen-byte d h i = rw (digit-byte d h) (rw (lt-leb (48 + d) 48 (omega arith)) (ap Minus (omega arith)))

  -- A word is read by a part that takes its bytes, and a number by one that takes its digits.
  word_by : (c : ℕ → Part) → ((m b : ℕ) → WordByte b → m < full_word → read s (c m) b ≡ c (256 * m + b))
      → (w : ℕ) → IsWord w → part_of s (c 0) (word_bytes w) ≡ c w
  word_by c more w h =
      digits-read 256 0 (omega arith) s (c 0) c WordByte 0 full_word (omega arith)
      (λ d i j a. more 0 (0 + d) a (omega arith) ∙ ap c (omega arith))
      (λ m d i j k a. more m (0 + d) a j ∙ ap c (omega arith))
      7 w h.1 h.1 (omega arith) h.0

  all_any : (l : List ℕ) → AllOf (λ b. Unit) l
  all_any [] = tt
  all_any (b ∷ l) = (tt, all_any l)

  number_by : (p : Part) (c : ℕ → Part) (least : ℕ) → least ≤ 1 → ((d : ℕ) → d < 10 → least ≤ d → read s p (48 + d) ≡ c d)
      → ((m d : ℕ) → 1 ≤ m → m < full_number → d < 10 → read s (c m) (48 + d) ≡ c (10 * m + d))
      → (v : ℕ) → v < 10000000000000000000 → least ≤ v → part_of s p (digits v) ≡ c v
  number_by p c least small first more v h i =
      digits-read 10 48 (omega arith) s p c (λ b. Unit) least full_number small (λ d i j a. first d i j) (λ m d i j k a. more m d i j k)
      18 v h h i (all_any (digits v))

  word_read : (w : ℕ) → IsWord w → part_of s (Word 0) (word_bytes w) ≡ Word w
  word_read = word_by Word word_byte

  plain-read : (v : ℕ) → v < 10000000000000000000 → part_of s Begun (digits v) ≡ Plain v
  plain-read v h = number_by Begun Plain 0 (omega arith) (λ d i j. begun-byte d i) plain_byte v h (omega arith)

  minus-read : (v : ℕ) → v < 10000000000000000000 → 1 ≤ v → part_of s Hyphen (digits v) ≡ Minus v
  minus-read = number_by Hyphen Minus 1 (omega arith) hyphen-byte minus-byte

  -- Behind the key and its =.
  key-part : (l : List ℕ) → IsWord s.key → part_of s (Key 0) (word_bytes s.key ++ (equals ∷ l)) ≡ part_of s (begun s.kind) l
  unfolding part_of read
  key-part l h =
      part_on s (Key 0) (word_bytes s.key) (equals ∷ l)
      ∙ ap (λ (p : Part). part_of s p (equals ∷ l)) (word_by Key key-byte s.key h)
      ∙ ap (λ (t : Bool). part_of s (cond t (begun s.kind) Wrong) l) (eq-eqb s.key s.key refl)

  ranged_is : (least most v : ℕ) → least ≤ v → v ≤ most → ranged least most v ≡ Ok v
  ranged_is least most v h i = rw (le-ltb v least h) (rw (le-ltb most v i))

  abbrev Reads : Kind → List ℕ → Part → ℕ → Type 0
  Reads k u p v = said k (is_used u (word_of p)) p ≡ Ok v

  whole-said : (a b : ℕ) (u : List ℕ) (v : ℕ) → b < zero_at + 10000000000000000000 → a ≤ v → v ≤ b
      → (t : Bool) → ltb v zero_at ≡ t → Reads (Whole a b) u (part_of s Begun (cond t (hyphen ∷ digits (zero_at - v)) (digits (v - zero_at)))) v
  unfolding said part_of read
  whole-said a b u v h i j true e =
      let l = ltb-true v zero_at e in
      ap (λ (p : Part). said (Whole a b) (is_used u (word_of p)) p) (minus-read (zero_at - v) (omega arith) (omega arith))
      ∙ ap (λ (t : Bool). cond t (Err Form) (ranged a b (zero_at - (zero_at - v)))) (le-ltb zero_at (zero_at - v) (omega arith))
      ∙ ap (ranged a b) (omega arith) ∙ ranged_is a b v i j
  whole-said a b u v h i j false e =
      let l = ltb-false v zero_at e in
      ap (λ (p : Part). said (Whole a b) (is_used u (word_of p)) p) (plain-read (v - zero_at) (omega arith))
      ∙ ap (ranged a b) (omega arith) ∙ ranged_is a b v i j

  tag-said : (u : List ℕ) (w : ℕ) → IsWord w
      → said Tag (is_used u (word_of (part_of s (Word 0) (word_bytes w)))) (part_of s (Word 0) (word_bytes w)) ≡ cond (is_used u w) (Err TagUsed) (Ok w)
  unfolding said
  tag-said u w h =
      ap (λ (p : Part). said Tag (is_used u (word_of p)) p) (word_read w h)
      ∙ ap (λ (t : Bool). cond t (Err Form) (cond (is_used u w) (Err TagUsed) (Ok w))) (le-ltb w 1 (word_some w h))

  choice-said : (a b : ℕ) (u : List ℕ) (w v : ℕ) → IsWord w → said_choice a b w ≡ Ok v → Reads (Choice a b) u (part_of s (Word 0) (word_bytes w)) v
  unfolding said
  choice-said a b u w v h e = ap (λ (p : Part). said (Choice a b) (is_used u (word_of p)) p) (word_read w h) ∙ e

  value-said : (k : Kind) (u : List ℕ) (v : ℕ) → SoundKind k → InRange k u v → Reads k u (part_of s (begun k) (value_bytes k v)) v
  unfolding said value_bytes
  value-said (Natural a b) u v h i =
      ap (λ (p : Part). said (Natural a b) (is_used u (word_of p)) p) (plain-read v (omega arith)) ∙ ranged_is a b v i.0 i.1
  value-said (Whole a b) u v h i = whole-said a b u v h i.0 i.1 (ltb v zero_at) refl
  value-said Tag u v h i = tag-said u v i.0 ∙ ap (λ (t : Bool). cond t (Err TagUsed) (Ok v)) i.1
  value-said (Choice a b) u zero h i =
      choice-said a b u a 0 h.0 (rw (le-ltb a 1 (word_some a h.0)) (rw (eq-eqb a a refl)))
  value-said (Choice a b) u (suc zero) h i =
      choice-said a b u b 1 h.1
      (rw (le-ltb b 1 (word_some b h.1)) (rw (ne_eqb b a (λ e. h.2 (sym e))) (rw (eq-eqb b b refl))))
  value-said (Choice a b) u (suc (suc v)) h i = absurd (omega arith)

  -- A value in its range has a line that is read as it.
  pub line_of : (u : List ℕ) (v : ℕ) → Sound s → InRange s.kind u v → line_said s u (part_of s (Key 0) (line_body s v)) ≡ Ok v
  line_of u v h i =
      ap (λ (p : Part). line_said s u p) (key-part (value_bytes s.kind v) h.0) ∙ value-said s.kind u v h.1 i

  -- A used tag is refused as such.
  pub line-used : (u : List ℕ) (w : ℕ) → Sound s → s.kind ≡ Tag → IsWord w → is_used u w ≡ true
      → line_said s u (part_of s (Key 0) (line_body s w)) ≡ Err TagUsed
  unfolding value_bytes
  line-used u w h e i j =
      ap (λ (p : Part). line_said s u p) (key-part (value_bytes s.kind w) h.0)
      ∙ ap (λ (k : Kind). said k (is_used u (word_of (part_of s (begun k) (value_bytes k w)))) (part_of s (begun k) (value_bytes k w))) e
      ∙ tag-said u w i ∙ ap (λ (t : Bool). cond t (Err TagUsed) (Ok w)) j

-- ---- a line that is read as a value is that of the value

-- The bytes of a word so far.
abbrev spelt : ℕ → List ℕ
spelt w = cond (eqb w 0) [] (word_bytes w)

abbrev Worded : ℕ → Type 0
Worded w = 1 ≤ w → IsWord w

spelt-some : (w : ℕ) → 1 ≤ w → spelt w ≡ word_bytes w
spelt-some w h = rw (ne_eqb w 0 (λ e. omega arith))

-- One byte more of a word.
grown-small : (w b : ℕ) → WordByte b → w < full_word → 256 * w + b < 18446744073709551616
grown-small w b h i = let j = word-byte-bounds b h in omega (arith, j.1)

grown : (w b : ℕ) → WordByte b → w < full_word → Worded w → (spelt w ++ (b ∷ []) ≡ spelt (256 * w + b)) × Worded (256 * w + b)
grown zero b h i a =
    let j = word-byte-bounds b h in
    let e : word_bytes (256 * 0 + b) ≡ b ∷ [] = digits_one 256 0 8 (256 * 0 + b) (omega (arith, j.1)) (omega arith) ∙ ap (λ (c : ℕ). c ∷ []) (omega arith) in (
      sym (spelt-some (256 * 0 + b) (omega (arith, j.0)) ∙ e),
      λ _. (subst⁻¹ (AllOf WordByte) e (h, tt), grown-small 0 b h i),
    )
grown (suc w) b h i a =
    let j = word-byte-bounds b h in
    let e : word_bytes (256 * suc w + b) ≡ word_bytes (suc w) ++ (b ∷ []) =
    digits_push 256 0 (omega arith) 6 (suc w) b (omega arith) i j.1 ∙ ap (λ (c : ℕ). word_bytes (suc w) ++ (c ∷ [])) (omega arith) in (
      ap (λ (l : List ℕ). l ++ (b ∷ [])) (spelt-some (suc w) (omega arith)) ∙ sym (spelt-some (256 * suc w + b) (omega arith) ∙ e),
      λ _. (subst⁻¹ (AllOf WordByte) e (all_more WordByte (word_bytes (suc w)) b (a (omega arith)).0 h), grown-small (suc w) b h i),
    )

-- One digit more.
number-grown : (v b : ℕ) → goes_on v b ≡ true → digits v ++ (b ∷ []) ≡ digits (10 * v + (b - 48))
number-grown v b h =
    let j = goes_on_bounds v b h in
    let i = and_both (leb 1 v) (ltb v full_number) (and_both (is_digit b) (leb 1 v && ltb v full_number) h).1 in
    ap (λ (c : ℕ). digits v ++ (c ∷ [])) (omega (arith, j.0))
    ∙ sym (digits_push 10 48 (omega arith) 17 v (b - 48) (leb-true 1 v i.0) j.2 (omega (arith, j.1)))

first_digit : (b : ℕ) → is_digit b ≡ true → b ∷ [] ≡ digits (b - 48)
first_digit b h =
    let j = digit-bounds b h in
    ap (λ (c : ℕ). c ∷ []) (omega (arith, j.0)) ∙ sym (digits_one 10 48 19 (b - 48) (omega (arith, j.1)) (omega arith))

abbrev opening : Shape → List ℕ
opening s = word_bytes s.key ++ (equals ∷ [])

abbrev pub Spelled : Shape → Part → List ℕ → Type 0
Spelled s (Key k) l = (l ≡ spelt k) × Worded k
Spelled s Begun l = l ≡ opening s
Spelled s Hyphen l = l ≡ opening s ++ (hyphen ∷ [])
Spelled s (Plain v) l = l ≡ opening s ++ digits v
Spelled s (Minus v) l = (1 ≤ v) × (l ≡ opening s ++ (hyphen ∷ digits v))
Spelled s (Word w) l = (l ≡ opening s ++ spelt w) × Worded w
Spelled s Wrong l = Unit

module _ (s : Shape) (some : 1 ≤ s.key) where
  spelled-begun : (k : Kind) (l : List ℕ) → l ≡ opening s → Spelled s (begun k) l
  spelled-begun (Natural a b) l h = h
  spelled-begun (Whole a b) l h = h
  spelled-begun Tag l h = (h ∙ sym (append-nil (opening s)), λ n. absurd (omega arith))
  spelled-begun (Choice a b) l h = (h ∙ sym (append-nil (opening s)), λ n. absurd (omega arith))

  more : (b : ℕ) (l m : List ℕ) → l ≡ opening s ++ m → l ++ (b ∷ []) ≡ opening s ++ (m ++ (b ∷ []))
  more b l m h = ap (λ (w : List ℕ). w ++ (b ∷ [])) h ∙ append_assoc (opening s) m (b ∷ [])

  spelled-key : (k : ℕ) (l : List ℕ) (b : ℕ) → l ≡ spelt k → Worded k
      → (x y z : Bool) → eqb b equals ≡ x → eqb k s.key ≡ y → grows k b ≡ z
      → Spelled s (cond x (cond y (begun s.kind) Wrong) (cond z (Key (256 * k + b)) Wrong)) (l ++ (b ∷ []))
  spelled-key k l b h a true true z i j e =
      spelled-begun s.kind (l ++ (b ∷ []))
      (ap (λ (w : List ℕ). w ++ (b ∷ [])) (h ∙ ap spelt (eqb-true k s.key j) ∙ spelt-some s.key some)
      ∙ ap (λ (c : ℕ). word_bytes s.key ++ (c ∷ [])) (eqb-true b equals i))
  spelled-key k l b h a true false z i j e = tt
  spelled-key k l b h a false y false i j e = tt
  spelled-key k l b h a false y true i j e =
      let g = grown k b (and_both (is_word_byte b) (ltb k full_word) e).0 (grows-small k b e) a in
      (ap (λ (w : List ℕ). w ++ (b ∷ [])) h ∙ g.0, g.1)

  spelled_first : (l : List ℕ) (b : ℕ) → l ≡ opening s → (x y : Bool) → is_digit b ≡ x → eqb b hyphen ≡ y
      → Spelled s (cond x (Plain (b - 48)) (cond y Hyphen Wrong)) (l ++ (b ∷ []))
  spelled_first l b h true y i j = ap (λ (w : List ℕ). w ++ (b ∷ [])) h ∙ ap (λ (w : List ℕ). opening s ++ w) (first_digit b i)
  spelled_first l b h false true i j = ap (λ (w : List ℕ). w ++ (b ∷ [])) h ∙ ap (λ (c : ℕ). opening s ++ (c ∷ [])) (eqb-true b hyphen j)
  spelled_first l b h false false i j = tt

  spelled-minus : (l : List ℕ) (b : ℕ) → l ≡ opening s ++ (hyphen ∷ []) → (x y : Bool) → is_digit b ≡ x → leb b 48 ≡ y
      → Spelled s (cond x (cond y Wrong (Minus (b - 48))) Wrong) (l ++ (b ∷ []))
  spelled-minus l b h false y i j = tt
  spelled-minus l b h true true i j = tt
  spelled-minus l b h true false i j =
      (omega (arith, leb-false b 48 j), more b l (hyphen ∷ []) h ∙ ap (λ (w : List ℕ). opening s ++ (hyphen ∷ w)) (first_digit b i))

  spelled-more : (p : Part) (l : List ℕ) (b : ℕ) → Spelled s p l → Spelled s (read s p b) (l ++ (b ∷ []))
  unfolding read
  spelled-more (Key k) l b h = spelled-key k l b h.0 h.1 (eqb b equals) (eqb k s.key) (grows k b) refl refl refl
  spelled-more Begun l b h = spelled_first l b h (is_digit b) (eqb b hyphen) refl refl
  spelled-more Hyphen l b h = spelled-minus l b h (is_digit b) (leb b 48) refl refl
  spelled-more (Plain v) l b h = go (goes_on v b) refl
    where
      go : (x : Bool) → goes_on v b ≡ x → Spelled s (cond x (Plain (10 * v + (b - 48))) Wrong) (l ++ (b ∷ []))
      go true i = more b l (digits v) h ∙ ap (λ (w : List ℕ). opening s ++ w) (number-grown v b i)
      go false i = tt
  spelled-more (Minus v) l b h = go (goes_on v b) refl
    where
      go : (x : Bool) → goes_on v b ≡ x → Spelled s (cond x (Minus (10 * v + (b - 48))) Wrong) (l ++ (b ∷ []))
      go true i = (omega (arith, h.0), more b l (hyphen ∷ digits v) h.1 ∙ ap (λ (w : List ℕ). opening s ++ (hyphen ∷ w)) (number-grown v b i))
      go false i = tt
  spelled-more (Word w) l b h = go (grows w b) refl
    where
      go : (x : Bool) → grows w b ≡ x → Spelled s (cond x (Word (256 * w + b)) Wrong) (l ++ (b ∷ []))
      go true i =
          let g = grown w b (and_both (is_word_byte b) (ltb w full_word) i).0 (grows-small w b i) h.1 in
          (more b l (spelt w) h.0 ∙ ap (λ (m : List ℕ). opening s ++ m) g.0, g.1)
      go false i = tt
  spelled-more Wrong l b h = tt

  spelled : (l m : List ℕ) (p : Part) → Spelled s p m → Spelled s (part_of s p l) (m ++ l)
  unfolding part_of
  spelled [] m p h = subst⁻¹ (Spelled s p) (append-nil m) h
  spelled (b ∷ l) m p h =
      subst (Spelled s (part_of s (read s p b) l)) (append_assoc m (b ∷ []) l) (spelled l (m ++ (b ∷ [])) (read s p b) (spelled-more p m b h))

  -- What a line says tells of its bytes: they are those of its value, which is in its range; or it is refused for its form, or for its tag and they are
  -- those of a used tag.
  abbrev Tells : Kind → List ℕ → List ℕ → Result ℕ Fault → Type 0
  Tells k u l (Ok v) = (l ≡ opening s ++ value_bytes k v) × InRange k u v
  Tells k u l (Err n) = (n ≡ Form) ⊎ ((n ≡ TagUsed) × (w : ℕ) × (k ≡ Tag) × IsWord w × (is_used u w ≡ true) × (l ≡ opening s ++ word_bytes w))

  minus-tells : (a b w : ℕ) (u l : List ℕ) (x : Bool) → ltb zero_at w ≡ x → 1 ≤ w → l ≡ opening s ++ (hyphen ∷ digits w)
      → Tells (Whole a b) u l (cond x (Err Form) (ranged a b (zero_at - w)))
  unfolding value_bytes
  minus-tells a b w u l true i n h = inl refl
  minus-tells a b w u l false i n h =
      let m = ltb-false zero_at w i in
      let e : hyphen ∷ digits w ≡ whole_bytes (zero_at - w) = ap (λ (c : ℕ). hyphen ∷ digits c) (omega arith) ∙ sym (whole-minus (zero_at - w) (omega arith)) in
      ranged_by (Tells (Whole a b) u l) (inl refl) a b (zero_at - w) (λ i j. (h ∙ ap (λ (c : List ℕ). opening s ++ c) e, (i, j)))

  whole_tells : (a b : ℕ) (p : Part) (u l : List ℕ) → Spelled s p l → Tells (Whole a b) u l (said_whole a b p)
  unfolding value_bytes
  whole_tells a b (Plain w) u l h =
      let e : digits w ≡ whole_bytes (zero_at + w) = ap digits (omega arith) ∙ sym (whole_plain (zero_at + w) (omega arith)) in
      ranged_by (Tells (Whole a b) u l) (inl refl) a b (zero_at + w) (λ i j. (h ∙ ap (λ (c : List ℕ). opening s ++ c) e, (i, j)))
  whole_tells a b (Minus w) u l h = minus-tells a b w u l (ltb zero_at w) refl h.0 h.1
  whole_tells a b (Key w) u l h = inl refl
  whole_tells a b Begun u l h = inl refl
  whole_tells a b Hyphen u l h = inl refl
  whole_tells a b (Word w) u l h = inl refl
  whole_tells a b Wrong u l h = inl refl

  -- A part with a word is of it.
  word-part : (p : Part) (l : List ℕ) → 1 ≤ word_of p → Spelled s p l → (l ≡ opening s ++ word_bytes (word_of p)) × IsWord (word_of p)
  word-part (Word w) l n h = (h.0 ∙ ap (λ (m : List ℕ). opening s ++ m) (spelt-some w n), h.1 n)
  word-part (Key w) l n h = absurd (omega arith)
  word-part Begun l n h = absurd (omega arith)
  word-part Hyphen l n h = absurd (omega arith)
  word-part (Plain w) l n h = absurd (omega arith)
  word-part (Minus w) l n h = absurd (omega arith)
  word-part Wrong l n h = absurd (omega arith)

  module _ (p : Part) (u l : List ℕ) (h : Spelled s p l) where
    tag-tells : (x y : Bool) → ltb (word_of p) 1 ≡ x → is_used u (word_of p) ≡ y → Tells Tag u l (cond x (Err Form) (cond y (Err TagUsed) (Ok (word_of p))))
    unfolding value_bytes
    tag-tells true y i j = inl refl
    tag-tells false true i j = let w = word-part p l (ltb-false (word_of p) 1 i) h in inr (refl, word_of p, refl, w.1, j, w.0)
    tag-tells false false i j = let w = word-part p l (ltb-false (word_of p) 1 i) h in (w.0, (w.1, j))

    choice-tells : (a b : ℕ) (x y z : Bool) → ltb (word_of p) 1 ≡ x → eqb (word_of p) a ≡ y → eqb (word_of p) b ≡ z
        → Tells (Choice a b) u l (cond x (Err Form) (cond y (Ok 0) (cond z (Ok 1) (Err Form))))
    unfolding value_bytes
    choice-tells a b true y z i j k = inl refl
    choice-tells a b false true z i j k =
        ((word-part p l (ltb-false (word_of p) 1 i) h).0 ∙ ap (λ (w : ℕ). opening s ++ word_bytes w) (eqb-true (word_of p) a j), omega arith)
    choice-tells a b false false true i j k =
        ((word-part p l (ltb-false (word_of p) 1 i) h).0 ∙ ap (λ (w : ℕ). opening s ++ word_bytes w) (eqb-true (word_of p) b k), omega arith)
    choice-tells a b false false false i j k = inl refl

    tells : (k : Kind) → Tells k u l (said k (is_used u (word_of p)) p)
    unfolding said value_bytes
    tells (Natural a b) =
        natural_by (Tells (Natural a b) u l) (inl refl) a b p (λ w e i j. (subst (λ (q : Part). Spelled s q l) e h, (i, j)))
    tells (Whole a b) = whole_tells a b p u l h
    tells Tag = tag-tells (ltb (word_of p) 1) (is_used u (word_of p)) refl refl
    tells (Choice a b) = choice-tells a b (ltb (word_of p) 1) (eqb (word_of p) a) (eqb (word_of p) b) refl refl refl

  pub line-spelled : (l : List ℕ) → Spelled s (part_of s (Key 0) l) l
  line-spelled l = spelled l [] (Key 0) (refl, λ n. absurd (omega arith))

  line-tells : (u l : List ℕ) → Tells s.kind u l (line_said s u (part_of s (Key 0) l))
  line-tells u l = tells (part_of s (Key 0) l) u l (line-spelled l) s.kind

  -- A line that is read as a value is that of the value, which is in its range.
  pub line_back : (u : List ℕ) (l : List ℕ) (v : ℕ) → line_said s u (part_of s (Key 0) l) ≡ Ok v → (l ≡ line_body s v) × InRange s.kind u v
  line_back u l v e =
      let b = subst (Tells s.kind u l) e (line-tells u l) in
      (b.0 ∙ append_assoc (word_bytes s.key) (equals ∷ []) (value_bytes s.kind v), b.1)

  -- A refusal is for the form, or for a used tag.
  pub refused-tag : (u l : List ℕ) (n : Fault) → line_said s u (part_of s (Key 0) l) ≡ Err n
      → (n ≡ Form) ⊎ ((n ≡ TagUsed) × (w : ℕ) × (s.kind ≡ Tag) × IsWord w × (is_used u w ≡ true) × (l ≡ line_body s w))
  unfolding value_bytes
  refused-tag u l n e =
      ⊎_elim (λ h. inl h)
      (λ h. inr (
        h.0,
        h.1,
        h.2,
        h.3,
        h.4,
        h.5 ∙ append_assoc (word_bytes s.key) (equals ∷ []) (word_bytes h.1)
            ∙ ap (λ (k : Kind). word_bytes s.key ++ (equals ∷ value_bytes k h.1)) (sym h.2),
      ))
      (subst (Tells s.kind u l) e (line-tells u l))
