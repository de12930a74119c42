-- Where a line starts: its start leads into a triangle, and once it is taken out a walk can begin. Assumes nothing.
--
-- The start of an open line is a hull side, so no step leads to it, and the line can only end at the hull. A closed line starts when
-- no unused side is a hull side, so it can only come round.
use Prim.Native.Nat.{ℕ, ◌+◌, ◌<◌}
use native.Mathlib.Omega.{arith}
use mathlib.Core.Path.{◌≡◌, refl, sym, ◌∙◌}
use mathlib.Core.Bool.{Bool, true, false, not}
use mathlib.Core.Option.{Option, none, some, none-ne-some}
use mathlib.Core.Logic.{◌⊎◌, inl, inr}
use mathlib.Core.List.{List}
use Rattle.trace.specs.Side.{Directed, bit, is_same, reversed, side_of, inward}
use Rattle.trace.specs.Lines.{remove}
use Rattle.trace.specs.Walk.{next}
use Rattle.trace.specs.Mesh.{count}
use Rattle.trace.proofs.CountLaws.{count-remove}
use Rattle.trace.proofs.StepLaws.{Runs, Mesh, runs-reversed, next-runs, next_back, next_none, none_next, side-reversed, reversed-twice, side-cases, side_same}
use Rattle.trace.proofs.WalkLaws.{Even, Odd, Kind, opening, closing}

-- A crossed side of the mesh, as it runs.
pub record Crossing (left : Directed → Option ℕ) (below : ℕ → Bool) (d : Directed) : Type 0 where
  pub low : side_of d ≡ d
  pub flag : Bool
  pub runs : Runs below flag d
  pub held : left d ≡ none → left (reversed d) ≡ none → ⊥

abbrev pub Proper : (Directed → Option ℕ) → (ℕ → Bool) → List Directed → Type 0
Proper left below l = (d : Directed) → 0 < count d l → Crossing left below d

-- An unused crossed side that leads into a triangle.
pub record Enters (left : Directed → Option ℕ) (below : ℕ → Bool) (l : List Directed) (s : Directed) : Type 0 where
  pub there : 0 < count (side_of s) l
  pub flag : Bool
  pub runs : Runs below flag s
  pub front : left s ≡ none → ⊥

-- A hull side, for an open line; for a closed one a side as it runs, with no unused hull side.
pub data Fit (left : Directed → Option ℕ) (l : List Directed) (s : Directed) : Bool → Type 0 where
  edge : left (reversed s) ≡ none → Fit left l s false
  inner : side_of s ≡ s → ((d : Directed) → 0 < count d l → inward left d ≡ none) → Fit left l s true

-- A side that is no hull side has a triangle on each hand.
inward_none : (left : Directed → Option ℕ) (d : Directed) → inward left d ≡ none → (left d ≡ none → ⊥) × (left (reversed d) ≡ none → ⊥)
unfolding inward
inward_none left d h = by (left d) (left (reversed d)) refl refl
  where
    by : (m n : Option ℕ) → left d ≡ m → left (reversed d) ≡ n → (left d ≡ none → ⊥) × (left (reversed d) ≡ none → ⊥)
    by none n p q = absurd (none-ne-some (reversed d) (sym (rw p at h)))
    by (some c) none p q = absurd (none-ne-some d (sym (rw (p, q) at h)))
    by (some c) (some r) p q = (λ z. none-ne-some c (cc), λ z. none-ne-some r (cc))

-- A hull side is run into its triangle.
pub inward-some : (left : Directed → Option ℕ) (below : ℕ → Bool) (l : List Directed) (d s : Directed) → Crossing left below d → 0 < count d l
    → inward left d ≡ some s
    → Enters left below l s × (left (reversed s) ≡ none)
unfolding inward
inward-some left below l d s x k h = by (left d) (left (reversed d)) refl refl
  where
    by : (m n : Option ℕ) → left d ≡ m → left (reversed d) ≡ n → Enters left below l s × (left (reversed s) ≡ none)
    by none n p q =
        let f : s ≡ reversed d = let g = rw p at h in cc in
        rw f (
          record {
            there = rw (side-reversed d, x.low) k;
            flag = not x.flag;
            runs = runs-reversed below x.flag d x.runs;
            front = x.held p;
          },
          rw reversed-twice p,
        )
    by (some c) none p q =
        let f : s ≡ d = let g = rw (p, q) at h in cc in
        rw f (record { there = rw x.low k; flag = x.flag; runs = x.runs; front = λ z. none-ne-some c (cc) }, q)
    by (some c) (some r) p q = absurd (none-ne-some s (rw (p, q) at h))

-- The start of a closed line.
pub inner-enters : (left : Directed → Option ℕ) (below : ℕ → Bool) (l : List Directed) (d : Directed) → Crossing left below d → 0 < count d l
    → inward left d ≡ none
    → Enters left below l d
inner-enters left below l d x k h = record { there = rw x.low k; flag = x.flag; runs = x.runs; front = (inward_none left d h).0 }

module _ (left : Directed → Option ℕ) (below : ℕ → Bool) (mesh : Mesh left) where
  -- What is even one way is even the other way.
  even-reversed : (o : Bool) (l : List Directed) → Even (next left below) below (not o) l → Even (next left below) below o l
  even-reversed o l ev x y r n =
      let ry : Runs below (not o) (reversed y) = runs-reversed below o y (next-runs left below o x y r n) in
      let h = ev (reversed y) (reversed x) ry (next_back left below mesh o x y r n) in
      sym (simp side-reversed at h)

  pub even_any : (o u : Bool) (l : List Directed) → Even (next left below) below o l → Even (next left below) below u l
  even_any true true l ev = ev
  even_any false false l ev = ev
  even_any true false l ev = even-reversed false l ev
  even_any false true l ev = even-reversed true l ev

  -- When the start is taken out, the walk can begin.
  pub begun : (l : List Directed) (s : Directed) (en : Enters left below l s) → Even (next left below) below en.flag l
      → Odd (next left below) below en.flag s s (remove (side_of s) l)
  begun l s en ev x y r n = omega (arith, ev x y r n, gone x r, gone y (next-runs left below en.flag x y r n))
    where
      gone : (x : Directed) → Runs below en.flag x → count (side_of x) (remove (side_of s) l) + bit (is_same x s) ≡ count (side_of x) l
      gone x r = rw (← side_same below en.flag x s r en.runs) (count-remove (side_of x) (side_of s) l en.there)

  -- The start is right for an open line, or for a closed one.
  pub kind : (l : List Directed) (c : Bool) (s : Directed) (en : Enters left below l s) → Fit left l s c
      → Kind (next left below) below en.flag s (remove (side_of s) l) s c
  kind l c s en (edge h) =
      opening (λ x r n. none-ne-some (reversed x) (sym (next_none left below (reversed s) h) ∙ next_back left below mesh en.flag x s r n))
  kind l c s en (inner w f) = closing (λ h. en.front (none_next left below s h)) (λ x k h. by x k (none_next left below x h) (side-cases x))
    where
      by : (x : Directed) → 0 < count (side_of x) (remove (side_of s) l) → left x ≡ none → (side_of x ≡ x) ⊎ (side_of x ≡ reversed x) → ⊥
      by x k h q = way (inward_none left (side_of x) (f (side_of x) (omega (arith, count-remove (side_of x) (side_of s) l en.there)))) q
        where
          way : (left (side_of x) ≡ none → ⊥) × (left (reversed (side_of x)) ≡ none → ⊥) → (side_of x ≡ x) ⊎ (side_of x ≡ reversed x) → ⊥
          way i (inl e) = i.0 (rw e h)
          way i (inr e) = i.1 (rw (e, reversed-twice) h)
