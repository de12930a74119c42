-- A search finds a number that passes, all before it fail, and the three steps of its loop. Assumes nothing.
--
-- The loop at i has `lowest_from p (n - i) i ≡ lowest p n` as its invariant: it stops at i where p passes there (`lowest-hit`), goes
-- on to i + 1 where it fails (`lowest-miss`), and has n where i has come to n (`lowest-end`).
use mathlib.Core.Path.{◌≡◌, refl, sym, ap, ◌∙◌}
use mathlib.Core.Bool.{Bool, true, false, true≢false, cond, ◌||◌}
use Prim.Native.Nat.{ℕ, zero, suc, ◌+◌, ◌-◌, ◌<◌, ◌≤◌}
use native.Mathlib.Numerals.{add-one}
use native.Mathlib.Omega.{arith}
use native.Mathlib.Decide.{dec_lt, ℕ_discrete}
use borrow.Author.Tests.{lt-ltb, le-ltb, ltb-true, ltb-false}
use Rattle.lists.specs.Lowest.{lowest_from, lowest, some}

left : (n i : ℕ) → i < n → n - i ≡ suc (n - (i + 1))
left n i h = omega arith

module _ (p : ℕ → Bool) where
  pub lowest-hit : (n i : ℕ) → i < n → p i ≡ true → lowest_from p (n - i) i ≡ i
  lowest-hit n i h e = rw (left n i h, e)

  pub lowest-miss : (n i : ℕ) → i < n → p i ≡ false → lowest_from p (n - i) i ≡ lowest_from p (n - (i + 1)) (i + 1)
  lowest-miss n i h e = rw (left n i h, e, add-one)

  pub lowest-end : (n i : ℕ) → n ≤ i → lowest_from p (n - i) i ≡ i
  lowest-end n i h = let z : n - i ≡ 0 = omega arith in rw z

  -- What the search from i finds, whatever it finds.
  pub record Found (k i r : ℕ) : Type 0 where
    pub from : i ≤ r
    pub within : r ≤ i + k
    pub passes : r < i + k → p r ≡ true
    pub fails : (j : ℕ) → i ≤ j → j < r → p j ≡ false

  found_from : (k i : ℕ) → Found k i (lowest_from p k i)
  found_from zero i =
      record { from = omega arith; within = omega arith; passes = λ h. absurd (omega arith); fails = λ j h l. absurd (omega arith) }
  found_from (suc k) i = go (p i) refl (found_from k (suc i))
    where
      go : (b : Bool) → p i ≡ b → Found k (suc i) (lowest_from p k (suc i)) → Found (suc k) i (cond b i (lowest_from p k (suc i)))
      go true e f = record { from = omega arith; within = omega arith; passes = λ h. e; fails = λ j h l. absurd (omega arith) }
      go false e f =
          record {
            from = omega (arith, f.from);
            within = omega (arith, f.within);
            passes = λ h. f.passes (omega arith);
            fails = λ j h l. at j h l (ℕ_discrete i j);
          }
        where
          at : (j : ℕ) → i ≤ j → j < lowest_from p k (suc i) → Dec (i ≡ j) → p j ≡ false
          at j h l (yes u) = ap p (sym u) ∙ e
          at j h l (no u) = f.fails j (omega arith) l

  -- The lowest number below n that passes p does so, and no lower one does.
  pub lowest-le : (n : ℕ) → lowest p n ≤ n
  lowest-le n = omega (arith, (found_from n 0).within)

  pub lowest-passes : (n : ℕ) → lowest p n < n → p (lowest p n) ≡ true
  lowest-passes n h = (found_from n 0).passes (omega arith)

  pub lowest-fails : (n j : ℕ) → j < lowest p n → p j ≡ false
  lowest-fails n j h = (found_from n 0).fails j (omega arith) h

  -- A number that passes, none lower passing, is the lowest.
  pub lowest_is : (n k : ℕ) → k < n → p k ≡ true → ((j : ℕ) → j < k → p j ≡ false) → lowest p n ≡ k
  lowest_is n k h e f = go (dec_lt (lowest p n) k) (dec_lt k (lowest p n))
    where
      go : Dec (lowest p n < k) → Dec (k < lowest p n) → lowest p n ≡ k
      go (yes l) _ = absurd (true≢false (sym (lowest-passes n (omega arith)) ∙ f (lowest p n) l))
      go (no l) (yes m) = absurd (true≢false (sym e ∙ lowest-fails n k m))
      go (no l) (no m) = omega arith

  pub lowest_none : (n : ℕ) → ((j : ℕ) → j < n → p j ≡ false) → lowest p n ≡ n
  lowest_none n f = go (dec_lt (lowest p n) n)
    where
      go : Dec (lowest p n < n) → lowest p n ≡ n
      go (yes l) = absurd (true≢false (sym (lowest-passes n l) ∙ f (lowest p n) l))
      go (no l) = omega (arith, lowest-le n)

  -- `some` by an example, and by none.
  pub some-true : (n k : ℕ) → k < n → p k ≡ true → some p n ≡ true
  some-true n k h e = go (dec_lt k (lowest p n))
    where
      go : Dec (k < lowest p n) → some p n ≡ true
      go (yes l) = absurd (true≢false (sym e ∙ lowest-fails n k l))
      go (no l) = lt-ltb (lowest p n) n (omega arith)

  pub some-false : (n : ℕ) → ((j : ℕ) → j < n → p j ≡ false) → some p n ≡ false
  some-false n f = le-ltb (lowest p n) n (omega (arith, lowest_none n f))

  -- and back.
  pub some-found : (n : ℕ) → some p n ≡ true → p (lowest p n) ≡ true
  some-found n e = lowest-passes n (ltb-true (lowest p n) n e)

  pub none_found : (n : ℕ) → some p n ≡ false → (j : ℕ) → j < n → p j ≡ false
  none_found n e j h = lowest-fails n j (omega (arith, ltb-false (lowest p n) n e))

  -- `some` one number further: the step of a loop that looks at every number.
  pub some_more : (n : ℕ) → some p (n + 1) ≡ (some p n || p n)
  some_more n = go (some p n) refl (p n) refl
    where
      fails : some p n ≡ false → p n ≡ false → (j : ℕ) → j < n + 1 → p j ≡ false
      fails e f j h = at (ℕ_discrete j n)
        where
          at : Dec (j ≡ n) → p j ≡ false
          at (yes u) = ap p u ∙ f
          at (no u) = none_found n e j (omega arith)

      go : (b : Bool) → some p n ≡ b → (d : Bool) → p n ≡ d → some p (n + 1) ≡ (b || d)
      go true e d f = some-true (n + 1) (lowest p n) (omega (arith, ltb-true (lowest p n) n e)) (some-found n e)
      go false e true f = some-true (n + 1) n (omega arith) f
      go false e false f = some-false (n + 1) (fails e f)

-- Tests that agree below n have one lowest number there.
pub lowest-agree : (p q : ℕ → Bool) (n : ℕ) → ((j : ℕ) → j < n → p j ≡ q j) → lowest p n ≡ lowest q n
lowest-agree p q n e = go (dec_lt (lowest q n) n)
  where
    go : Dec (lowest q n < n) → lowest p n ≡ lowest q n
    go (yes l) =
        lowest_is p n (lowest q n) l (e _ l ∙ lowest-passes q n l) (λ j h. e j (omega arith) ∙ lowest-fails q n j h)
    go (no l) =
        let f : lowest q n ≡ n = omega (arith, lowest-le q n) in
        lowest_none p n (λ j h. e j h ∙ lowest-fails q n j (omega (arith, f))) ∙ sym f
