-- One line: it takes each of its sides once from the unused ones, leaves the others as it found them, and ends. Assumes nothing.
--
-- Between lines the two crossed sides of a triangle are unused equally often (`Even`). Once the start s is taken out this fails at
-- the triangle that the line is about to enter over d and at the one left of the start's reverse, and only there (`Odd`). Each step
-- takes out one unused side and moves the first of these places on; the line ends when it reaches the hull, or the second of them,
-- and then the count is even again.
use Prim.Native.Nat.{ℕ, zero, suc, ◌+◌, ◌<◌}
use native.Mathlib.Omega.{arith}
use mathlib.Core.Path.{◌≡◌, refl, ap}
use mathlib.Core.Bool.{Bool, true, false, cond}
use mathlib.Core.Option.{Option, none, some, none-ne-some}
use mathlib.Core.List.{List, [], ◌∷◌, map}
use lib.ListN.{length}
use Rattle.trace.specs.Side.{Directed, bit, is_same, side_of}
use Rattle.trace.specs.Lines.{remove, strike}
use Rattle.trace.specs.Walk.{next, onward, walk}
use Rattle.trace.specs.Mesh.{count}
use Rattle.trace.specs.Rule.{Walk, hull, round, on}
use Rattle.trace.proofs.CountLaws.{Tested, passes, fails, tested, same_is, same_not, same_self, not_same, count-remove, length-remove}
use Rattle.trace.proofs.StepLaws.{Runs, Mesh, next-runs, next_same, side_same}

-- Between lines: the two crossed sides of a triangle are unused equally often.
abbrev pub Even : (Directed → Option Directed) → (ℕ → Bool) → Bool → List Directed → Type 0
Even follow below o l = (x y : Directed) → Runs below o x → follow x ≡ some y → count (side_of x) l ≡ count (side_of y) l

-- Along a line: but for the triangle that d leads into and the one that is left over s.
abbrev pub Odd : (Directed → Option Directed) → (ℕ → Bool) → Bool → Directed → Directed → List Directed → Type 0
Odd follow below o s d l = (x y : Directed) → Runs below o x → follow x ≡ some y → count (side_of x) l + bit (is_same x d) ≡ count (side_of y) l + bit (is_same y s)

-- No step leads to the start of an open line; a closed one is traced where neither d nor an unused side leads to the hull.
pub data Kind (follow : Directed → Option Directed) (below : ℕ → Bool) (o : Bool) (s : Directed) (l : List Directed) (d : Directed) : Bool → Type 0 where
  opening : ((x : Directed) → Runs below o x → follow x ≡ some s → ⊥) → Kind follow below o s l d false
  closing : (follow d ≡ none → ⊥) → ((x : Directed) → 0 < count (side_of x) l → follow x ≡ none → ⊥) → Kind follow below o s l d true

-- What a walk from d over the unused sides l comes to, with the sides p.
pub record Walked (follow : Directed → Option Directed) (below : ℕ → Bool) (o : Bool) (s : Directed) (c : Bool) (d : Directed) (l p : List Directed) : Type 0 where
  pub rule : Walk follow s c d p
  pub even : Even follow below o (strike p l)
  pub size : length l ≡ length p + length (strike p l)
  pub once : (e : Directed) → count e l ≡ count e (map side_of p) + count e (strike p l)

module _ (left : Directed → Option ℕ) (below : ℕ → Bool) (mesh : Mesh left) (o c : Bool) (s : Directed) where
  -- What holds at d.
  abbrev At : Directed → List Directed → Type 0
  At d l = Runs below o d × Odd (next left below) below o s d l × Kind (next left below) below o s l d c

  -- What is to be shown of the sides p after d.
  abbrev To : Directed → List Directed → List Directed → Type 0
  To d l p = Walked (next left below) below o s c d l p

  -- Nothing more is taken.
  stop : (d : Directed) (l : List Directed) → Walk (next left below) s c d [] → Even (next left below) below o l → To d l []
  unfolding strike count
  stop d l w ev = record { rule = w; even = ev; size = omega arith; once = λ e. omega arith }

  -- The line is at the hull; it is at the start again.
  at_hull : (d : Directed) (l : List Directed) → At d l → next left below d ≡ none → To d l []
  at_hull d l a e = by c a.2 refl
    where
      by : (k : Bool) → Kind (next left below) below o s l d k → c ≡ k → To d l []
      by k (opening f) q =
          stop d l (rw q (hull e))
          (λ x y r n. omega (arith, a.1 x y r n, ap bit (same_not x d (λ p. none-ne-some y (cc))), ap bit (same_not y s (λ p. f x r (cc)))))
      by k (closing f g) q = absurd (f e)

  at_start : (d : Directed) (l : List Directed) → At d l → next left below d ≡ some s → To d l []
  at_start d l a e = by c a.2 refl
    where
      by : (k : Bool) → Kind (next left below) below o s l d k → c ≡ k → To d l []
      by k (opening f) q = absurd (f d a.0 e)
      by k (closing f g) q = stop d l (rw q (round e)) (λ x y r n. omega (arith, a.1 x y r n, ap bit (next_same left below mesh o x y d s r a.0 n e)))

  -- The next side is unused.
  unused : (d y : Directed) (l : List Directed) → At d l → next left below d ≡ some y → (y ≡ s → ⊥) → 0 < count (side_of y) l
  unused d y l a e ne = omega (arith, a.1 d y a.0 e, ap bit (same_self d), ap bit (same_not y s ne))

  -- What holds at d holds at the next side, once that is taken out.
  onto : (d y : Directed) (l : List Directed) → At d l → next left below d ≡ some y → (y ≡ s → ⊥) → At y (remove (side_of y) l)
  onto d y l a e ne = (ry, odd, by c a.2)
    where
      there : 0 < count (side_of y) l
      there = unused d y l a e ne

      ry : Runs below o y
      ry = next-runs left below o d y a.0 e

      gone : (x : Directed) → Runs below o x → count (side_of x) (remove (side_of y) l) + bit (is_same x y) ≡ count (side_of x) l
      gone x r = rw (← side_same below o x y r ry) (count-remove (side_of x) (side_of y) l there)

      odd : Odd (next left below) below o s y (remove (side_of y) l)
      odd x z r n =
          omega (arith, a.1 x z r n, gone x r, gone z (next-runs left below o x z r n), ap bit (next_same left below mesh o x z d y r a.0 n e))

      by : (k : Bool) → Kind (next left below) below o s l d k → Kind (next left below) below o s (remove (side_of y) l) y k
      by k (opening f) = opening f
      by k (closing f g) = closing (g y there) (λ x h. g x (omega (arith, count-remove (side_of x) (side_of y) l there)))

  -- One side more.
  more : (d y : Directed) (l p : List Directed) → At d l → next left below d ≡ some y → (y ≡ s → ⊥) → To y (remove (side_of y) l) p → To d l (y ∷ p)
  unfolding strike count
  more d y l p a e ne t =
      record {
        rule = on e ne t.rule;
        even = t.even;
        size = omega (arith, t.size, length-remove (side_of y) l (unused d y l a e ne));
        once = λ z. omega (arith, t.once z, count-remove z (side_of y) l (unused d y l a e ne));
      }

  abbrev Enough : ℕ → Type 0
  Enough fuel = (d : Directed) (l : List Directed) → At d l → length l < fuel → To d l (walk (next left below) s fuel d)

  -- More steps than unused sides are enough.
  pub walked : (fuel : ℕ) → Enough fuel
  unfolding walk
  walked zero d l a h = absurd (omega arith)
  walked (suc fuel) d l a h = by (next left below d) refl (walked fuel)
    where
      test : (y : Directed) → next left below d ≡ some y → Enough fuel → Tested (is_same y s)
          → To d l (cond (is_same y s) [] (y ∷ walk (next left below) s fuel y))
      test y e ih (passes q) = rw q (at_start d l a (let r = same_is y s q in cc))
      test y e ih (fails q) =
          let ne : (y ≡ s → ⊥) = not_same y s q in
          rw q
          (more d y l _ a e ne (ih y (remove (side_of y) l) (onto d y l a e ne) (omega (arith, length-remove (side_of y) l (unused d y l a e ne)))))

      by : (m : Option Directed) → next left below d ≡ m → Enough fuel → To d l (onward m s (walk (next left below) s fuel))
      by none e ih = at_hull d l a e
      by (some y) e ih = test y e ih (tested (is_same y s))
