-- What `any` over the numbers below n gives is whether some of them passes, and what `all` gives, whether each does. Assumes nothing.
use mathlib.Core.Path.{◌≡◌, sym, subst}
use mathlib.Core.Bool.{Bool, true, false}
use Prim.Native.Nat.{ℕ, ◌<◌}
use native.Mathlib.Omega.{arith}
use lib.ListN.{length, get_or}
use Rattle.std.specs.Bool.{MatchBool}
use Rattle.std.specs.List.{range_with_len, AllWithin, HoldsAt}
use Rattle.std.proofs.lemmas.List.FromFn.{length-range_with_len, get_or-range_with_len}
use Rattle.lists.specs.Lowest.{some}
use Rattle.lists.proofs.LowestLaws.{some-true, some-false}

module _ (p : ℕ → Bool) (n : ℕ) where
  at : (k : ℕ) → k < n → get_or (range_with_len 0 n) k 0 ≡ k
  at k l = omega (arith, get_or-range_with_len 0 n k 0 l)

  pub some-from_any : (r : Bool)
      → MatchBool r ((k : ℕ) × (k < length (range_with_len 0 n)) × HoldsAt (λ i. p i ≡ true) (range_with_len 0 n) k)
      (AllWithin (λ i. p i ≡ false) (range_with_len 0 n) 0 (length (range_with_len 0 n)))
      → r ≡ some p n
  some-from_any true h =
      let l : h.0 < n = omega (arith, h.1, length-range_with_len 0 n) in
      sym (some-true p n h.0 l (subst (λ i. p i ≡ true) (at h.0 l) (h.2 0)))
  some-from_any false h =
      sym (some-false p n (λ j l. subst (λ i. p i ≡ false) (at j l) (h j 0 (omega arith) (omega (arith, length-range_with_len 0 n)))))

  pub each-from_all : (r : Bool)
      → MatchBool r (AllWithin (λ i. p i ≡ true) (range_with_len 0 n) 0 (length (range_with_len 0 n)))
      ((k : ℕ) × (k < length (range_with_len 0 n)) × HoldsAt (λ i. p i ≡ false) (range_with_len 0 n) k)
      → MatchBool r ((k : ℕ) → k < n → p k ≡ true) ((k : ℕ) × (k < n) × (p k ≡ false))
  each-from_all true h = λ k l. subst (λ i. p i ≡ true) (at k l) (h k 0 (omega arith) (omega (arith, length-range_with_len 0 n)))
  each-from_all false h =
      let l : h.0 < n = omega (arith, h.1, length-range_with_len 0 n) in
      (h.0, l, subst (λ i. p i ≡ false) (at h.0 l) (h.2 0))
