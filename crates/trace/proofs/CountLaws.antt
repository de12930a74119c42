-- How often a side stands in a list, and what taking one out does to that and to the length. Assumes nothing.
use Prim.Native.Nat.{suc, ◌+◌, ◌≤◌, ◌<◌}
use native.Mathlib.Omega.{arith}
use mathlib.Core.Path.{◌≡◌, refl, ap}
use mathlib.Core.Bool.{Bool, true, false, cond, true≢false}
use mathlib.Core.List.{List, [], ◌∷◌, ◌++◌}
use mathlib.Core.Logic.{◌⊎◌, inl, inr}
use lib.ListN.{length}
use lib.Dec.{eqb}
use borrow.Author.Tests.{eqb-true, eq-eqb}
use Rattle.lists.proofs.TestLaws.{and_left, and_right}
use Rattle.trace.specs.Side.{Directed, ◌⟶◌, bit, is_same}
use Rattle.trace.specs.Lines.{remove}
use Rattle.trace.specs.Mesh.{count}

-- A test with the way it came out.
pub data Tested (b : Bool) : Type 0 where
  passes : b ≡ true → Tested b
  fails : b ≡ false → Tested b

pub tested : (b : Bool) → Tested b
tested true = passes refl
tested false = fails refl

-- A test that counts passes; one that does not fails.
pub bit_one : (b : Bool) → 0 < bit b → b ≡ true
bit_one true h = refl
bit_one false h = absurd (omega arith)

pub bit-zero : (b : Bool) → bit b ≤ 0 → b ≡ false
bit-zero true h = absurd (omega arith)
bit-zero false h = refl

-- `is_same` is equality.
pub same_is : (x y : Directed) → is_same x y ≡ true → x ≡ y
unfolding is_same
same_is (a ⟶ b) (c ⟶ d) e =
    let p = eqb-true a c (and_left (eqb a c) (eqb b d) e) in
    let q = eqb-true b d (and_right (eqb a c) (eqb b d) e) in
    cc

pub same_self : (x : Directed) → is_same x x ≡ true
unfolding is_same
same_self (a ⟶ b) = rw (eq-eqb a a refl, eq-eqb b b refl)

pub same_not : (x y : Directed) → (x ≡ y → ⊥) → is_same x y ≡ false
same_not x y f = by (tested (is_same x y))
  where
    by : Tested (is_same x y) → is_same x y ≡ false
    by (passes p) = absurd (f (same_is x y p))
    by (fails p) = p

pub not_same : (x y : Directed) → is_same x y ≡ false → x ≡ y → ⊥
not_same x y f e = true≢false (let g = same_self y in cc)

-- Two tests agree where each equality gives the other.
pub same_both : (x y u v : Directed) → (x ≡ y → u ≡ v) → (u ≡ v → x ≡ y) → is_same x y ≡ is_same u v
same_both x y u v f g = by (tested (is_same x y)) (tested (is_same u v))
  where
    by : Tested (is_same x y) → Tested (is_same u v) → is_same x y ≡ is_same u v
    by (passes p) (passes q) = cc
    by (fails p) (fails q) = cc
    by (passes p) (fails q) = let h = f (same_is x y p) in cc (same_self u)
    by (fails p) (passes q) = let h = g (same_is u v q) in cc (same_self x)

-- Counts add up.
pub count-append : (d : Directed) (l m : List Directed) → count d (l ++ m) ≡ count d l + count d m
unfolding count
count-append d [] m = omega arith
count-append d (x ∷ l) m = omega (arith, count-append d l m)

-- No entry of no list; the first entry is there, and so is a later one; an entry is the first or a later one.
pub count_none : (d : Directed) → 0 < count d [] → ⊥
unfolding count
count_none d h = omega arith

pub count_head : (x : Directed) (l : List Directed) → 0 < count x (x ∷ l)
unfolding count
count_head x l = omega (arith, ap bit (same_self x))

pub count-later : (d x : Directed) (l : List Directed) → 0 < count d l → 0 < count d (x ∷ l)
unfolding count
count-later d x l h = omega arith

pub count-either : (d x : Directed) (l : List Directed) → 0 < count d (x ∷ l) → (d ≡ x) ⊎ (0 < count d l)
unfolding count
count-either d x l h = by (tested (is_same d x))
  where
    by : Tested (is_same d x) → (d ≡ x) ⊎ (0 < count d l)
    by (passes e) = inl (same_is d x e)
    by (fails e) = inr (omega (arith, ap bit e))

-- Taking out what is there takes one copy of it and nothing else, and one from the length.
pub count-remove : (d y : Directed) (l : List Directed) → 0 < count y l → count d (remove y l) + bit (is_same d y) ≡ count d l
unfolding count remove
count-remove d y [] h = absurd (omega arith)
count-remove d y (x ∷ l) h = by (count-remove d y l) (tested (is_same y x))
  where
    by : (0 < count y l → count d (remove y l) + bit (is_same d y) ≡ count d l) → Tested (is_same y x)
        → count d (cond (is_same y x) l (x ∷ remove y l)) + bit (is_same d y) ≡ bit (is_same d x) + count d l
    by ih (passes p) = let q = same_is y x p in rw (p, q) (omega arith)
    by ih (fails p) = rw p (omega (arith, ih (omega (arith, ap bit p))))

pub length-remove : (y : Directed) (l : List Directed) → 0 < count y l → suc (length (remove y l)) ≡ length l
unfolding count remove
length-remove y [] h = absurd (omega arith)
length-remove y (x ∷ l) h = by (length-remove y l) (tested (is_same y x))
  where
    by : (0 < count y l → suc (length (remove y l)) ≡ length l) → Tested (is_same y x) → suc (length (cond (is_same y x) l (x ∷ remove y l))) ≡ suc (length l)
    by ih (passes p) = rw p
    by ih (fails p) = rw p (omega (arith, ih (omega (arith, ap bit p))))

-- Taking out adds nothing, whether it is there or not.
pub remove-less : (d y : Directed) (l : List Directed) → count d (remove y l) ≤ count d l
unfolding count remove
remove-less d y [] = omega arith
remove-less d y (x ∷ l) = by (is_same y x) (remove-less d y l)
  where
    by : (t : Bool) → count d (remove y l) ≤ count d l → count d (cond t l (x ∷ remove y l)) ≤ bit (is_same d x) + count d l
    by true ih = omega arith
    by false ih = omega arith

-- A list that has nothing more often than another is no longer.
pub fewer : (l m : List Directed) → ((d : Directed) → count d l ≤ count d m) → length l ≤ length m
unfolding count
fewer [] m f = omega arith
fewer (x ∷ l) m f = omega (arith, fewer l (remove x m) (λ d. omega (arith, f d, count-remove d x m there)), length-remove x m there)
  where
    there : 0 < count x m
    there = omega (arith, f x, ap bit (same_self x))
