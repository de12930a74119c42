-- Digits read back: of a word in base 256, of a number in base 10. Assumes nothing.
--
-- Both go by the end of the list: the last digit of b * n + d is d, and those before it are the digits of n.
use mathlib.Core.Path.{◌≡◌, refl, sym, ap, subst, ◌∙◌}
use mathlib.Core.Bool.{Bool, true, false}
use mathlib.Core.List.{List, [], ◌∷◌, ◌++◌}
use Prim.Native.Nat.{ℕ, zero, suc, ◌+◌, ◌*◌, ◌/◌, ◌%◌, ◌^◌, ◌≤◌, ◌<◌}
use native.Mathlib.Omega.{arith}
use native.Mathlib.Nat.{pow-zero, pow-suc, mod-lt, mod-eq_of_lt, div-add-mod, div-eq_of_lt, div-lt_iff_lt-mul, le-div_iff_mul-le, div-le_self, mul-add-div, mul-add-mod_self_left}
use borrow.Author.Tests.{ltb-true, ltb-false, le-ltb}
use lib.Dec.{ltb}
use Rattle.shapes.specs.declared.line.Shape.{Shape}
use Rattle.shapes.specs.declared.line.Part.{Part}
use Rattle.shapes.specs.Line.{read}
use Rattle.shapes.specs.Bytes.{digits_of, part_of}
use Rattle.shapes.specs.Ranges.{AllOf}
use Rattle.shapes.proofs.BytesLaws.{digits_one}

pub part_on : (s : Shape) (p : Part) (l m : List ℕ) → part_of s p (l ++ m) ≡ part_of s (part_of s p l) m
unfolding part_of
part_on s p [] m = refl
part_on s p (b ∷ l) m = part_on s (read s p b) l m

part_one : (s : Shape) (p : Part) (b : ℕ) → part_of s p (b ∷ []) ≡ read s p b
unfolding part_of
part_one s p b = refl

pub all_left : (P : ℕ → Type 0) (l m : List ℕ) → AllOf P (l ++ m) → AllOf P l
all_left P [] m h = tt
all_left P (b ∷ l) m h = (h.0, all_left P l m h.1)

all_last : (P : ℕ → Type 0) (l : List ℕ) (b : ℕ) → AllOf P (l ++ (b ∷ [])) → P b
all_last P [] b h = h.0
all_last P (c ∷ l) b h = all_last P l b h.1

pub all_more : (P : ℕ → Type 0) (l : List ℕ) (b : ℕ) → AllOf P l → P b → AllOf P (l ++ (b ∷ []))
all_more P [] b h i = (i, tt)
all_more P (c ∷ l) b h i = (h.0, all_more P l b h.1 i)

module _ (base from : ℕ) (some : 0 < base) where
  less : (k n : ℕ) → n < base ^ suc k → n / base < base ^ k
  less k n h = (div-lt_iff_lt-mul {k = base} {x = n} {y = base ^ k} some).1 (subst (λ (w : ℕ). n < w) (pow-suc base k) h)

  one_digit : (n : ℕ) → n < base ^ 1 → n < base
  one_digit n h = let e : base ^ 1 ≡ 1 * base = pow-suc base 0 ∙ ap (λ (w : ℕ). w * base) (pow-zero base) in omega arith

  pos-quotient : (n : ℕ) → base ≤ n → 1 ≤ n / base
  pos-quotient n h = (le-div_iff_mul-le {k = base} {x = 1} {y = n} some).1 (omega arith)

  last_digit : (k n : ℕ) → base ≤ n → digits_of base from (suc k) n ≡ digits_of base from k (n / base) ++ ((from + n % base) ∷ [])
  unfolding digits_of
  last_digit k n h = rw (le-ltb n base h)

  -- Room for more digits than there are changes nothing.
  digits-enough : (k n : ℕ) → n < base ^ suc k → digits_of base from (suc (suc k)) n ≡ digits_of base from (suc k) n
  digits-enough zero n h =
      digits_one base from 2 n (one_digit n h) (omega arith) ∙ sym (digits_one base from 1 n (one_digit n h) (omega arith))
  digits-enough (suc k) n h = go (ltb n base) refl (digits-enough k (n / base) (less (suc k) n h))
    where
      go : (t : Bool) → ltb n base ≡ t → digits_of base from (suc (suc k)) (n / base) ≡ digits_of base from (suc k) (n / base)
          → digits_of base from (suc (suc (suc k))) n ≡ digits_of base from (suc (suc k)) n
      go true e i =
          digits_one base from (suc (suc (suc k))) n (ltb-true n base e) (omega arith)
          ∙ sym (digits_one base from (suc (suc k)) n (ltb-true n base e) (omega arith))
      go false e i =
          last_digit (suc (suc k)) n (ltb-false n base e) ∙ ap (λ (l : List ℕ). l ++ ((from + n % base) ∷ [])) i
          ∙ sym (last_digit (suc k) n (ltb-false n base e))

  -- One digit more.
  pub digits_push : (k n d : ℕ) → 1 ≤ n → n < base ^ suc k → d < base
      → digits_of base from (suc (suc k)) (base * n + d) ≡ digits_of base from (suc (suc k)) n ++ ((from + d) ∷ [])
  digits_push k zero d h i j = absurd (omega arith)
  digits_push k (suc m) d h i j =
      let n = suc m in
      let q : (base * n + d) / base ≡ n = mul-add-div some n d ∙ ap (λ (w : ℕ). n + w) (div-eq_of_lt j) ∙ omega arith in
      let r : (base * n + d) % base ≡ d = mul-add-mod_self_left base n d ∙ mod-eq_of_lt j in
      last_digit (suc k) (base * n + d) (omega arith)
      ∙ ap (λ (w : ℕ). digits_of base from (suc k) w ++ ((from + (base * n + d) % base) ∷ [])) q
      ∙ ap (λ (w : ℕ). digits_of base from (suc k) n ++ ((from + w) ∷ [])) r
      ∙ ap (λ (l : List ℕ). l ++ ((from + d) ∷ [])) (sym (digits-enough k n i))

  -- The digits of n are read to n: from p by its first digit, and from there by each further one.
  module _ (s : Shape) (p : Part) (c : ℕ → Part) (P : ℕ → Type 0) (least cap : ℕ) (small : least ≤ 1)
      (first : (d : ℕ) → d < base → least ≤ d → P (from + d) → read s p (from + d) ≡ c d)
      (more : (m d : ℕ) → 1 ≤ m → m < cap → d < base → P (from + d) → read s (c m) (from + d) ≡ c (base * m + d)) where
    one_read : (k n : ℕ) → n < base → least ≤ n → AllOf P (digits_of base from (suc k) n) → part_of s p (digits_of base from (suc k) n) ≡ c n
    one_read k n h j a =
        let o = digits_one base from (suc k) n h (omega arith) in
        ap (part_of s p) o ∙ part_one s p (from + n) ∙ first n h j (subst (AllOf P) o a).0

    pub digits-read : (k n : ℕ) → n < base ^ suc k → n < cap * base → least ≤ n → AllOf P (digits_of base from (suc k) n)
        → part_of s p (digits_of base from (suc k) n) ≡ c n
    digits-read zero n h i j a = one_read 0 n (one_digit n h) j a
    digits-read (suc k) n h i j a = go (ltb n base) refl (digits-read k (n / base) (less (suc k) n h) (omega (arith, div-le_self n base)))
      where
        go : (t : Bool) → ltb n base ≡ t
            → (least ≤ n / base → AllOf P (digits_of base from (suc k) (n / base)) → part_of s p (digits_of base from (suc k) (n / base)) ≡ c (n / base))
            → part_of s p (digits_of base from (suc (suc k)) n) ≡ c n
        go true e r = one_read (suc k) n (ltb-true n base e) j a
        go false e r =
            let q = n / base in
            let o = last_digit (suc k) n (ltb-false n base e) in
            let l = digits_of base from (suc k) q in
            let b = subst (AllOf P) o a in
            let x : q < cap = (div-lt_iff_lt-mul {k = base} {x = n} {y = cap} some).1 i in
            let y : 1 ≤ q = pos-quotient n (ltb-false n base e) in
            ap (part_of s p) o
            ∙ part_on s p l ((from + n % base) ∷ [])
            ∙ part_one s (part_of s p l) (from + n % base)
            ∙ ap (λ (w : Part). read s w (from + n % base)) (r (omega arith) (all_left P l ((from + n % base) ∷ []) b))
            ∙ more q (n % base) y x (mod-lt n some) (all_last P l (from + n % base) b)
            ∙ ap c (div-add-mod n base)
