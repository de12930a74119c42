-- The test of a half-side from the numbers that the code reads: each case of it. Assumes nothing.
use mathlib.Core.Path.{◌≡◌, refl, sym, ◌∙◌, subst}
use mathlib.Core.Bool.{Bool, true, false, cond, ◌&&◌}
use mathlib.Core.List.{List}
use Prim.Native.Nat.{ℕ, ◌+◌, ◌-◌, ◌%◌, ◌≤◌, ◌<◌}
use native.Mathlib.Omega.{arith}
use native.Mathlib.Decide.{dec_lt, ℕ_discrete}
use borrow.Author.Tests.{lt-ltb, le-ltb, eq-eqb, ne_eqb}
use lib.Dec.{eqb, ltb}
use Rattle.neighbours.specs.Half.{after, corner_in}
use Rattle.neighbours.proofs.HalfLaws.{after_next, after_last}
use Rattle.seams.specs.Sewn.{is_tied, passes}

-- ---- two numbers are the same, and a second test
pub same_and : (x y : ℕ) (q r : Bool) → x ≡ y → r ≡ q → r ≡ (eqb x y && q)
same_and x y q r e f = rw (eq-eqb x y e) f

pub differ-and : (x y : ℕ) (q : Bool) → (x ≡ y → ⊥) → false ≡ (eqb x y && q)
differ-and x y q d = rw (ne_eqb x y d)

-- ---- one test for a number that is less, another for one that is not
pub less_by : (g m : ℕ) (p q r : Bool) → g < m → r ≡ p → r ≡ cond (ltb g m) p q
less_by g m p q r l e = rw (lt-ltb g m l) e

pub far_by : (g m : ℕ) (p q r : Bool) → m ≤ g → r ≡ q → r ≡ cond (ltb g m) p q
far_by g m p q r l e = rw (le-ltb g m l) e

pub less-true : (g m : ℕ) (p q : Bool) → g < m → cond (ltb g m) p q ≡ true → p ≡ true
less-true g m p q l e = less_by g m p q p l refl ∙ e

pub far-true : (g m : ℕ) (p q : Bool) → m ≤ g → cond (ltb g m) p q ≡ true → q ≡ true
far-true g m p q l e = far_by g m p q q l refl ∙ e

-- ---- the half-sides of a triangle, of which h is the first, from its corners
module _ (l twin next first : List ℕ) (m : ℕ) where
  abbrev Pass : ℕ → Type 0
  Pass h = passes l twin next first m h ≡ true

  abbrev Runs : ℕ → ℕ → Type 0
  Runs h k = is_tied l twin next first m h (corner_in l h) (corner_in l k) ≡ true

  runs-pass : (h k : ℕ) → k ≡ after h → Runs h k → Pass h
  runs-pass h k e p = subst (Runs h) e p

  pub triangle-passes : (h : ℕ) → h % 3 ≡ 0 → Runs h (h + 1) → Runs (h + 1) (h + 2) → Runs (h + 2) h
      → (k : ℕ) → h ≤ k → k < h + 3 → Pass k
  triangle-passes h e p q r k low high = go (ℕ_discrete k h) (ℕ_discrete k (h + 1))
    where
      go : Dec (k ≡ h) → Dec (k ≡ h + 1) → Pass k
      go (yes f) s = subst Pass (sym f) (runs-pass h (h + 1) (after_next h (λ n. omega (arith, n, e))) p)
      go (no f) (yes g) =
          let n : h + 1 + 1 ≡ h + 2 = omega arith in
          subst Pass (sym g) (runs-pass (h + 1) (h + 2) (sym n ∙ after_next (h + 1) (λ n. omega (arith, n, e))) q)
      go (no f) (no g) =
          let d : h + 2 ≡ k = omega (arith, f, g) in
          let n : h ≡ h + 2 - 2 = omega arith in
          subst Pass d (runs-pass (h + 2) h (n ∙ after_last (h + 2) (omega (arith, e))) r)

  -- Three half-sides more.
  pub three-more : (h : ℕ) → ((k : ℕ) → k < h → Pass k) → ((k : ℕ) → h ≤ k → k < h + 3 → Pass k) → (k : ℕ) → k < h + 3 → Pass k
  three-more h before these k q = go (dec_lt k h)
    where
      go : Dec (k < h) → Pass k
      go (yes l) = before k l
      go (no l) = these k (omega arith) q
