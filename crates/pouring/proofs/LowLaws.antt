-- The digits of a number are as many of its lowest ones as are counted. Assumes nothing.
use mathlib.Core.Path.{◌≡◌, refl, ap, ◌∙◌}
use mathlib.Core.List.{List, [], ◌∷◌, ◌++◌}
use Prim.Native.Nat.{ℕ, zero, suc, ◌+◌, ◌/◌, ◌%◌, ◌<◌}
use native.Mathlib.Omega.{arith}
use native.Mathlib.Nat.{mod-eq_of_lt}
use native.Mathlib.Decide.{dec_lt}
use borrow.Author.Tests.{lt-ltb, le-ltb}
use lib.ListN.{length, length-append}
use Rattle.shapes.specs.Bytes.{digits_of}
use Rattle.pouring.specs.Poured.{poured, low}
use Rattle.pouring.proofs.PouredLaws.{Put}

module _ (base from : ℕ) where
  pub low-length : (c n : ℕ) → length (low base from c n) ≡ c
  unfolding low
  low-length zero n = refl
  low-length (suc c) n = simp length-append (omega (arith, low-length c (n / base)))

  low_is : (k n : ℕ) → low base from (length (digits_of base from k n)) n ≡ digits_of base from k n
  unfolding digits_of low
  low_is zero n = refl
  low_is (suc k) n = go (dec_lt n base) (low_is k (n / base))
    where
      go : Dec (n < base) → low base from (length (digits_of base from k (n / base))) (n / base) ≡ digits_of base from k (n / base)
          → low base from (length (digits_of base from (suc k) n)) n ≡ digits_of base from (suc k) n
      go (yes h) i = rw (lt-ltb n base h, mod-eq_of_lt h)
      go (no h) i =
          let l = digits_of base from k (n / base) in
          let e : length (l ++ ((from + n % base) ∷ [])) ≡ suc (length l) = simp length-append (omega arith) in
          rw (le-ltb n base (omega arith), e, i)

  pub counted-put : (old : List ℕ) (at count k n : ℕ) (new : List ℕ) → count ≡ length (digits_of base from k n) → new ≡ poured old at (low base from count n)
      → Put old at (digits_of base from k n) (at + count) new
  counted-put old at count k n new e h =
      (ap (λ (j : ℕ). at + j) e, h ∙ ap (poured old at) (ap (λ (j : ℕ). low base from j n) e ∙ low_is k n))
