-- What `any`, `all`, `find` and `position` find, over the numbers below n or the entries of a slice, in the words of `some` and `lowest`.
-- Each takes the test, the call's clause `ran`, and that a call of the closure leaves it as it was and answers the test. Assumes nothing.
use mathlib.Core.Path.{◌≡◌, refl, sym, subst, ap}
use mathlib.Core.Bool.{Bool, true, false, not}
use mathlib.Core.List.{List}
use Prim.Native.Nat.{ℕ, ◌+◌, ◌-◌, ◌<◌, ◌≤◌}
use native.Mathlib.Omega.{arith}
use lib.ListN.{length, get_or}
use denote.Ref.{Bor}
use denote.Param.Members.{Mut}
use Rattle.std.specs.Prelude.{Option, Some, None}
use Rattle.std.specs.declared.ops.Range.{Range}
use Rattle.std.specs.declared.slice.Iter.{Iter}
use Rattle.std.specs.Bool.{MatchBool}
use Rattle.std.specs.Option.{MatchOption, unwrap_or}
use Rattle.std.specs.Fn.{Called, CalledAt}
use Rattle.std.specs.Iterator.{ChecksAny, ChecksAll, FindsPosition, FindsItem}
use Rattle.std.specs.List.{range_with_len, AllWithin, HoldsAt}
use Rattle.std.specs.Slice.Iter.{iter_rest}
use Rattle.std.proofs.iter.Yields.{fronts, nat_range_steps}
use Rattle.std.proofs.lemmas.Iterator.{YieldsList-from_range, YieldsList-from_slice, cases_from_any, cases_from_all, first_from_Range, IsFirst-from_position}
use Rattle.std.proofs.lemmas.List.FromFn.{length-range_with_len, get_or-range_with_len}
use Rattle.lists.specs.Lowest.{lowest, some}
use Rattle.lists.proofs.LowestLaws.{lowest_is, lowest_none, some-true, some-false}

-- The numbers from 0 to n - 1.
abbrev pub below : ℕ → Range ℕ
below n = record { start = 0; end = n }

-- The numbers from a to b - 1.
abbrev pub between : ℕ → ℕ → Range ℕ
between a b = record { start = a; end = b }

-- What a search among n numbers has found: the lowest that passes, or none.
abbrev pub Lowest : (ℕ → Bool) → ℕ → Option ℕ → Type 0
Lowest p n r = MatchOption r (n ≡ lowest p n) (λ k. (k < n) × (k ≡ lowest p n))

pub lowest_or : (p : ℕ → Bool) (n : ℕ) (r : Option ℕ) → Lowest p n r → unwrap_or r n ≡ lowest p n
lowest_or p n None h = h
lowest_or p n (Some k) h = h.1

-- A list whose entry k passes the test of entries just where k passes p.
module _ {A : Type 0} (l : List A) (p : ℕ → Bool) (n : ℕ) (long : length l ≡ n) (Yes No : A → Type 0)
    (passes : (k : ℕ) → k < n → HoldsAt Yes l k → p k ≡ true) (fails : (k : ℕ) → k < n → HoldsAt No l k → p k ≡ false) where
  any-of : (r : Bool) → MatchBool r ((k : ℕ) × (k < length l) × HoldsAt Yes l k) (AllWithin No l 0 (length l)) → r ≡ some p n
  any-of true (k, h, w) = let i : k < n = omega (arith, long) in sym (some-true p n k i (passes k i w))
  any-of false w = sym (some-false p n (λ k h. fails k h (λ d. w k d (omega arith) (omega (arith, long)))))

  first-of : (r : Option ℕ) → MatchOption r (AllWithin No l 0 (length l)) (λ k. (k < length l) × HoldsAt Yes l k × AllWithin No l 0 k) → Lowest p n r
  first-of None w = sym (lowest_none p n (λ k h. fails k h (λ d. w k d (omega arith) (omega (arith, long)))))
  first-of (Some k) (h, w, o) =
      let i : k < n = omega (arith, long) in
      (i, sym (lowest_is p n k i (passes k i w) (λ j e. fails j (omega arith) (λ d. o j d (omega arith) e))))

-- The same of a test of all.
all-of :
    {A : Type 0} (l : List A) (p : ℕ → Bool) (n : ℕ) (long : length l ≡ n) (Yes No : A → Type 0)
    (passes : (k : ℕ) → k < n → HoldsAt Yes l k → p k ≡ true) (fails : (k : ℕ) → k < n → HoldsAt No l k → p k ≡ false) (r : Bool)
    → MatchBool r (AllWithin Yes l 0 (length l)) ((k : ℕ) × (k < length l) × HoldsAt No l k) → r ≡ not (some (λ k. not (p k)) n)
all-of l p n long Yes No passes fails false (k, h, w) =
    let i : k < n = omega (arith, long) in
    ap not (sym (some-true (λ k. not (p k)) n k i (ap not (fails k i w))))
all-of l p n long Yes No passes fails true w =
    ap not (sym (some-false (λ k. not (p k)) n (λ k h. ap not (passes k h (λ d. w k d (omega arith) (omega (arith, long)))))))

-- Over `0..n`.
number : (n : ℕ) (b : Bool) (p : ℕ → Bool) (k : ℕ) → k < n → HoldsAt (λ x. x < n → p x ≡ b) (range_with_len 0 n) k → p k ≡ b
number n b p k h w =
    let e : get_or (range_with_len 0 n) k 0 ≡ k = omega (arith, get_or-range_with_len 0 n k 0 h) in
    subst (λ x. x < n → p x ≡ b) e (w 0) h

module _ {F : Type 0} {g : Mut F (ℕ × Unit {0}) Bool} {f : F} {u : Range ℕ} (p : ℕ → Bool) (n : ℕ) (r : Bool) where
  pub any-below :
      ChecksAny nat_range_steps g (below n) f r u
      → ((k : ℕ) (b : Bool) (q : F) → Called g f (k, tt) b q → (q ≡ f) × (k < n → b ≡ p k))
      → r ≡ some p n
  any-below ran t =
      any-of (range_with_len 0 n) p n (length-range_with_len 0 n) (λ k. k < n → p k ≡ true) (λ k. k < n → p k ≡ false) (number n true p) (number n false p) r
      (cases_from_any u f r (λ k. k < n → p k ≡ true) (λ k. k < n → p k ≡ false) ran (YieldsList-from_range 0 n n refl (omega arith))
      (λ k q c h. sym ((t k true q c).1 h))
      (λ k q c. ((t k false q c).0, λ h. sym ((t k false q c).1 h))))

  pub all-below :
      ChecksAll nat_range_steps g (below n) f r u
      → ((k : ℕ) (b : Bool) (q : F) → Called g f (k, tt) b q → (q ≡ f) × (k < n → b ≡ p k))
      → r ≡ not (some (λ k. not (p k)) n)
  all-below ran t =
      all-of (range_with_len 0 n) p n (length-range_with_len 0 n) (λ k. k < n → p k ≡ true) (λ k. k < n → p k ≡ false) (number n true p) (number n false p) r
      (cases_from_all u f r (λ k. k < n → p k ≡ true) (λ k. k < n → p k ≡ false) ran (YieldsList-from_range 0 n n refl (omega arith))
      (λ k q c. ((t k true q c).0, λ h. sym ((t k true q c).1 h)))
      (λ k q c h. sym ((t k false q c).1 h)))

pub find-below :
    {F : Type 0} {g : Mut F (Bor ℕ × Unit {0}) Bool} {f : F} (u : Range ℕ) (p : ℕ → Bool) (n : ℕ) (r : Option ℕ)
    → FindsItem nat_range_steps g (below n) f r u
    → ((k : ℕ) (b : Bool) (q : F) → CalledAt g f k b q → (q ≡ f) × (k < n → b ≡ p k))
    → Lowest p n r
find-below {F} {g} {f} u p n r ran t =
    go r
    (first_from_Range (below n) u f r (λ k. k < n → p k ≡ true) (λ k. k < n → p k ≡ false) ran
    (λ k q c h. sym ((t k true q c).1 h))
    (λ k q c. ((t k false q c).0, λ h. sym ((t k false q c).1 h))))
  where
    go : (o : Option ℕ)
        → MatchOption o ((k : ℕ) → 0 ≤ k → k < n → k < n → p k ≡ false) (λ i. (0 ≤ i) × (i < n) × (i < n → p i ≡ true) × ((k : ℕ) → 0 ≤ k → k < i → k < n → p k ≡ false))
        → Lowest p n o
    go None w = sym (lowest_none p n (λ k h. w k (omega arith) h h))
    go (Some i) w = (w.1, sym (lowest_is p n i w.1 (w.2 w.1) (λ j h. w.3 j (omega arith) h (omega (arith, w.1)))))

-- Over `a..b`: some number there passes, or none does; and the first that passes, none before it passing, or none.
abbrev pub Some-between : (ℕ → Bool) → ℕ → ℕ → Bool → Type 0
Some-between p a b r = MatchBool r ((k : ℕ) × (a ≤ k) × (k < b) × (p k ≡ true)) ((k : ℕ) → a ≤ k → k < b → p k ≡ false)

abbrev pub First-between : (ℕ → Bool) → ℕ → ℕ → Option ℕ → Type 0
First-between p a b r =
    MatchOption r ((k : ℕ) → a ≤ k → k < b → p k ≡ false)
    (λ i. (a ≤ i) × (i < b) × (p i ≡ true) × ((k : ℕ) → a ≤ k → k < i → p k ≡ false))

shifted : (a b k : ℕ) → k < b - a → get_or (range_with_len a (b - a)) k 0 ≡ a + k
shifted a b k h = get_or-range_with_len a (b - a) k 0 h

pub any-between :
    {F : Type 0} {g : Mut F (ℕ × Unit {0}) Bool} {f : F} {u : Range ℕ} (p : ℕ → Bool) (a b : ℕ) (r : Bool)
    → ChecksAny nat_range_steps g (between a b) f r u
    → ((k : ℕ) (c : Bool) (q : F) → Called g f (k, tt) c q → (q ≡ f) × (a ≤ k → k < b → c ≡ p k))
    → Some-between p a b r
any-between {F} {g} {f} {u} p a b r ran t =
    go r
    (cases_from_any u f r (Yes true) (Yes false) ran (YieldsList-from_range a b (b - a) refl refl)
    (λ k q c h l. sym ((t k true q c).1 h l))
    (λ k q c. ((t k false q c).0, λ h l. sym ((t k false q c).1 h l))))
  where
    Yes : Bool → ℕ → Type 0
    Yes c k = a ≤ k → k < b → p k ≡ c

    all : List ℕ
    all = range_with_len a (b - a)

    long : length all ≡ b - a
    long = length-range_with_len a (b - a)

    there : (c : Bool) (k : ℕ) → k < b - a → HoldsAt (Yes c) all k → p (a + k) ≡ c
    there c k h w = subst (Yes c) (shifted a b k h) (w 0) (omega arith) (omega arith)

    go : (o : Bool) → MatchBool o ((k : ℕ) × (k < length all) × HoldsAt (Yes true) all k) (AllWithin (Yes false) all 0 (length all)) → Some-between p a b o
    go true (k, h, w) = (a + k, omega arith, omega (arith, long), there true k (omega (arith, long)) w)
    go false w =
        λ k h l.
        let e : a + (k - a) ≡ k = omega arith in
        subst (λ (m : ℕ). p m ≡ false) e (there false (k - a) (omega arith) (λ d. w (k - a) d (omega arith) (omega (arith, long))))

pub find-between :
    {F : Type 0} {g : Mut F (Bor ℕ × Unit {0}) Bool} {f : F} (u : Range ℕ) (p : ℕ → Bool) (a b : ℕ) (r : Option ℕ)
    → FindsItem nat_range_steps g (between a b) f r u
    → ((k : ℕ) (c : Bool) (q : F) → CalledAt g f k c q → (q ≡ f) × (a ≤ k → k < b → c ≡ p k))
    → First-between p a b r
find-between {F} {g} {f} u p a b r ran t =
    go r
    (first_from_Range (between a b) u f r (λ k. a ≤ k → k < b → p k ≡ true) (λ k. a ≤ k → k < b → p k ≡ false) ran
    (λ k q c h l. sym ((t k true q c).1 h l))
    (λ k q c. ((t k false q c).0, λ h l. sym ((t k false q c).1 h l))))
  where
    go : (o : Option ℕ)
        → MatchOption o ((k : ℕ) → a ≤ k → k < b → a ≤ k → k < b → p k ≡ false)
        (λ i. (a ≤ i) × (i < b) × (a ≤ i → i < b → p i ≡ true) × ((k : ℕ) → a ≤ k → k < i → a ≤ k → k < b → p k ≡ false))
        → First-between p a b o
    go None w = λ k h l. w k h l h l
    go (Some i) w = (w.0, w.1, w.2 w.0 w.1, λ k h l. w.3 k h l h (omega (arith, w.1)))

-- Over a slice's `iter()`, where d stands for an entry that is not there.
module _ {A F : Type 0} {g : Mut F (Bor A × Unit {0}) Bool} {f : F} {s : Iter A} (u : Iter A) (xs : List A) (d : A) (p : A → Bool) where
  pub any-entry :
      (r : Bool) → iter_rest s ≡ xs → ChecksAny fronts g s f r u
      → ((x : Bor A) (b : Bool) (q : F) → Called g f (x, tt) b q → (q ≡ f) × (b ≡ p x.now))
      → r ≡ some (λ k. p (get_or xs k d)) (length xs)
  any-entry r e ran t =
      any-of xs (λ k. p (get_or xs k d)) (length xs) refl (λ x. p x ≡ true) (λ x. p x ≡ false) (λ k h w. w d) (λ k h w. w d) r
      (cases_from_any u f r (λ x. p x ≡ true) (λ x. p x ≡ false) ran (YieldsList-from_slice xs e)
      (λ x q c. sym (t x true q c).1)
      (λ x q c. ((t x false q c).0, sym (t x false q c).1)))

  pub all-entries :
      (r : Bool) → iter_rest s ≡ xs → ChecksAll fronts g s f r u
      → ((x : Bor A) (b : Bool) (q : F) → Called g f (x, tt) b q → (q ≡ f) × (b ≡ p x.now))
      → r ≡ not (some (λ k. not (p (get_or xs k d))) (length xs))
  all-entries r e ran t =
      all-of xs (λ k. p (get_or xs k d)) (length xs) refl (λ x. p x ≡ true) (λ x. p x ≡ false) (λ k h w. w d) (λ k h w. w d) r
      (cases_from_all u f r (λ x. p x ≡ true) (λ x. p x ≡ false) ran (YieldsList-from_slice xs e)
      (λ x q c. ((t x true q c).0, sym (t x true q c).1))
      (λ x q c. sym (t x false q c).1))

  pub position-entry :
      (r : Option ℕ) → iter_rest s ≡ xs → FindsPosition fronts g s f r u
      → ((x : Bor A) (b : Bool) (q : F) → Called g f (x, tt) b q → (q ≡ f) × (b ≡ p x.now))
      → Lowest (λ k. p (get_or xs k d)) (length xs) r
  position-entry r e ran t =
      first-of xs (λ k. p (get_or xs k d)) (length xs) refl (λ x. p x ≡ true) (λ x. p x ≡ false) (λ k h w. w d) (λ k h w. w d) r
      (IsFirst-from_position u f r (λ x. p x ≡ true) (λ x. p x ≡ false) ran (YieldsList-from_slice xs e)
      (λ x q c. sym (t x true q c).1)
      (λ x q c. ((t x false q c).0, sym (t x false q c).1)))
