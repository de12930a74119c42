-- The list of unused sides stays in order, so that its first is the lowest, and its first hull side the lowest of those. Assumes
-- nothing.
use Prim.Native.Nat.{ℕ, zero, suc, ◌+◌, ◌≤◌, ◌<◌}
use native.Mathlib.Omega.{arith}
use native.Mathlib.Decide.{dec_lt}
use mathlib.Core.Path.{◌≡◌, refl, sym, ◌∙◌, ap}
use mathlib.Core.Bool.{Bool, true, false, cond}
use mathlib.Core.Option.{Option, none, some, none-ne-some}
use mathlib.Core.Logic.{◌⊎◌, inl, inr}
use mathlib.Core.List.{List, [], ◌∷◌, ◌++◌}
use Rattle.trace.specs.Side.{Directed, ◌⟶◌, bit, is_same, side_of, inward}
use Rattle.trace.specs.Crossed.{Before, lower, higher, row, rows, crossed}
use Rattle.trace.specs.Lines.{remove, strike, first_hull}
use Rattle.trace.specs.Mesh.{count}
use Rattle.trace.specs.Rule.{Lowest, IsHull, AnySide}
use Rattle.trace.proofs.CountLaws.{same_self, count_none, count_head, count-later, count-either, count-append, remove-less}
use Rattle.trace.proofs.SideLaws.{row_in, rows_in}

-- No two sides come before each other, and none before itself.
before-round : (x y z : Directed) → Before x y → Before y z → x ≡ z → ⊥
before-round (a ⟶ b) (c ⟶ d) (e ⟶ f) (lower h) (lower k) q = let p : a ≡ e = cc in omega arith
before-round (a ⟶ b) (c ⟶ d) (e ⟶ f) (lower h) (higher k) q = let p : a ≡ e = cc in omega arith
before-round (a ⟶ b) (c ⟶ d) (e ⟶ f) (higher h) (lower k) q = let p : a ≡ e = cc in omega arith
before-round (a ⟶ b) (c ⟶ d) (e ⟶ f) (higher h) (higher k) q = let p : b ≡ f = cc in omega arith

pub before-both : (x y : Directed) → Before x y → Before y x → ⊥
before-both x y h k = before-round x y x h k refl

pub before_self : (x y : Directed) → Before x y → x ≡ y → ⊥
before_self x y h e = before-both y y (rw e at h) (rw e at h)

-- Each side of the list comes before all after it.
pub data Sorted : List Directed → Type 0 where
  none_left : Sorted []
  least : {x : Directed} {l : List Directed} → ((d : Directed) → 0 < count d l → Before x d) → Sorted l → Sorted (x ∷ l)

-- Striking out adds nothing.
pub strike-less : (d : Directed) (p l : List Directed) → count d (strike p l) ≤ count d l
unfolding strike
strike-less d [] l = omega arith
strike-less d (y ∷ p) l = omega (arith, strike-less d p (remove (side_of y) l), remove-less d (side_of y) l)

-- What is left stays in order.
remove-sorted : (y : Directed) (l : List Directed) → Sorted l → Sorted (remove y l)
unfolding remove
remove-sorted y [] none_left = none_left
remove-sorted y (x ∷ l) (least f s) = by (is_same y x) (remove-sorted y l s)
  where
    by : (t : Bool) → Sorted (remove y l) → Sorted (cond t l (x ∷ remove y l))
    by true ih = s
    by false ih = least (λ d (h : 0 < count d (remove y l)). f d (omega (arith, remove-less d y l))) ih

pub strike-sorted : (p l : List Directed) → Sorted l → Sorted (strike p l)
unfolding strike
strike-sorted [] l s = s
strike-sorted (d ∷ p) l s = strike-sorted p (remove (side_of d) l) (remove-sorted (side_of d) l s)

-- A row is in order, and so are the rows.
keep-sorted : (t : Bool) (x : Directed) (l : List Directed) → ((d : Directed) → 0 < count d l → Before x d) → Sorted l → Sorted (cond t (x ∷ l) l)
keep-sorted true x l f s = least f s
keep-sorted false x l f s = s

row-sorted : (p : Directed → Bool) (i j k : ℕ) → Sorted (row p i j k)
unfolding row
row-sorted p i j zero = none_left
row-sorted p i j (suc k) = keep-sorted (p (i ⟶ j)) (i ⟶ j) _ after (row-sorted p i (suc j) k)
  where
    after : (d : Directed) → 0 < count d (row p i (suc j) k) → Before (i ⟶ j) d
    after (a ⟶ b) h = let q = row_in p i a b (suc j) k h in rw q.0 (higher q.1)

append-sorted : (l m : List Directed) → Sorted l → Sorted m → ((x y : Directed) → 0 < count x l → 0 < count y m → Before x y) → Sorted (l ++ m)
unfolding count
append-sorted [] m sl sm f = sm
append-sorted (x ∷ l) m (least g sl) sm f =
    least after (append-sorted l m sl sm (λ y z (h : 0 < count y l). f y z (omega arith)))
  where
    by : (d : Directed) → Dec (0 < count d l) → 0 < count d l + count d m → Before x d
    by d (yes k) h = g d k
    by d (no k) h = f x d (omega (arith, ap bit (same_self x))) (omega arith)

    after : (d : Directed) → 0 < count d (l ++ m) → Before x d
    after d h = by d (dec_lt 0 (count d l)) (omega (arith, count-append d l m))

rows-sorted : (p : Directed → Bool) (n i k : ℕ) → Sorted (rows p n i k)
unfolding rows
rows-sorted p n i zero = none_left
rows-sorted p n i (suc k) = append-sorted (row p i 0 n) _ (row-sorted p i 0 n) (rows-sorted p n (suc i) k) after
  where
    after : (x y : Directed) → 0 < count x (row p i 0 n) → 0 < count y (rows p n (suc i) k) → Before x y
    after (a ⟶ b) (c ⟶ d) h g =
        let u = (row_in p i a b 0 n h).0 in
        let v = rows_in p n c d (suc i) k g in
        lower {a = a} {b = b} {c = c} {d = d} (omega arith)

-- The crossed sides stand in order.
pub crossed-sorted : (left : Directed → Option ℕ) (below : ℕ → Bool) (n : ℕ) → Sorted (crossed left below n)
unfolding crossed
crossed-sorted left below n = rows-sorted _ n 0 n

-- The first of a list in order is the lowest.
pub head-lowest : (x : Directed) (l : List Directed) → Sorted (x ∷ l) → Lowest AnySide (x ∷ l) x
head-lowest x l (least f s) = record { there = count_head x l; has = tt; least = λ d h u. by d (count-either d x l h) }
  where
    by : (d : Directed) → (d ≡ x) ⊎ (0 < count d l) → (d ≡ x) ⊎ Before x d
    by d (inl e) = inl e
    by d (inr h) = inr (f d h)

-- The first hull side of a list in order is the lowest one.
pub first_lowest : (left : Directed → Option ℕ) (l : List Directed) (s : Directed) → Sorted l → first_hull left l ≡ some s
    → (e : Directed) × Lowest (IsHull left) l e × (inward left e ≡ some s)
unfolding first_hull
first_lowest left [] s so h = absurd (none-ne-some s h)
first_lowest left (x ∷ l) s (least f so) h = by (inward left x) refl (first_lowest left l s so)
  where
    front : (d : Directed) → (d ≡ x) ⊎ (0 < count d l) → (d ≡ x) ⊎ Before x d
    front d (inl e) = inl e
    front d (inr k) = inr (f d k)

    behind : (d e : Directed) → inward left x ≡ none → Lowest (IsHull left) l e → IsHull left d → (d ≡ x) ⊎ (0 < count d l) → (d ≡ e) ⊎ Before e d
    behind d e q w n (inl t) = absurd (n (cc))
    behind d e q w n (inr k) = w.least d k n

    by : (m : Option Directed) → inward left x ≡ m → (first_hull left l ≡ some s → (e : Directed) × Lowest (IsHull left) l e × (inward left e ≡ some s))
        → (e : Directed) × Lowest (IsHull left) (x ∷ l) e × (inward left e ≡ some s)
    by (some y) q ih = (
      x,
      record { there = count_head x l; has = λ z. none-ne-some y (sym z ∙ q); least = λ d k n. front d (count-either d x l k) },
      q ∙ rw q at h,
    )
    by none q ih =
        let r = ih (rw q at h) in (
          r.0,
          record { there = count-later r.0 x l r.1.there; has = r.1.has; least = λ d k n. behind d r.0 q r.1 n (count-either d x l k) },
          r.2,
        )

-- Where there is none, no side of the list is one.
pub first_none : (left : Directed → Option ℕ) (l : List Directed) → first_hull left l ≡ none → (d : Directed) → 0 < count d l → inward left d ≡ none
unfolding first_hull
first_none left [] h d k = absurd (count_none d k)
first_none left (x ∷ l) h d k = by (inward left x) refl (first_none left l) (count-either d x l k)
  where
    by : (m : Option Directed) → inward left x ≡ m → (first_hull left l ≡ none → (d : Directed) → 0 < count d l → inward left d ≡ none)
        → (d ≡ x) ⊎ (0 < count d l) → inward left d ≡ none
    by none q ih (inl t) = cc
    by none q ih (inr t) = ih (rw q at h) d t
    by (some y) q ih t = absurd (none-ne-some y (sym (rw q at h)))
