-- The crossed sides of a sound mesh: each once in their list, two or none to a triangle, and no more than three times the triangles.
-- Assumes nothing.
use Prim.Native.Nat.{ℕ, ◌+◌, ◌*◌, ◌≤◌, ◌<◌}
use native.Mathlib.Omega.{arith}
use mathlib.Core.Path.{◌≡◌, refl, sym, ◌∙◌, ap}
use mathlib.Core.Bool.{Bool, true, false, cond, not, ◌&&◌, ◌||◌, beq}
use mathlib.Core.Option.{Option, none, some, none-ne-some}
use mathlib.Core.Logic.{◌⊎◌, inl, inr}
use mathlib.Core.List.{List, [], ◌∷◌, map}
use lib.ListN.{length, length-map}
use lib.Dec.{ltb}
use borrow.Author.Tests.{ltb-false, lt-ltb}
use Rattle.lists.proofs.TestLaws.{and_left, and_right}
use Rattle.sweep.specs.Sweep.{Three}
use Rattle.trace.specs.Side.{Directed, ◌⟶◌, bit, is_same, reversed, side_of, left_corner, is_there, is_side}
use Rattle.trace.specs.Crossed.{is_crossed, sides, crossed}
use Rattle.trace.specs.Walk.{next}
use Rattle.trace.specs.Mesh.{count, boundaries, Sound}
use Rattle.trace.specs.Promise.{is_crossed_side}
use Rattle.trace.proofs.CountLaws.{Tested, passes, fails, tested, bit_one, same_is, same_self, fewer}
use Rattle.trace.proofs.StepLaws.{Runs, next-runs, next_back, outs, Out, keep_from, keep_to, runs-reversed, side-reversed, not_self}
use Rattle.trace.proofs.MeshLaws.{has_turned, has_count, left_has, mesh_of, boundaries-length}
use Rattle.trace.proofs.SideLaws.{rows-count}
use Rattle.trace.proofs.WalkLaws.{Even}
use Rattle.trace.proofs.StartLaws.{Proper}

-- ---- tests
there_some : (m : Option ℕ) → is_there m ≡ true → (c : ℕ) × (m ≡ some c)
there_some none e = (0, cc)
there_some (some c) e = (c, refl)

pub either_there : (m r : Option ℕ) → (is_there m || is_there r) ≡ true → ((c : ℕ) × (m ≡ some c)) ⊎ ((c : ℕ) × (r ≡ some c))
either_there none r e = inr (there_some r e)
either_there (some c) r e = inl (c, refl)

differ : (p q : Bool) → not (beq p q) ≡ true → q ≡ not p
differ true false e = refl
differ false true e = refl
differ true true e = cc
differ false false e = cc

or_by_right : (a b : Bool) → b ≡ true → (a || b) ≡ true
or_by_right true b e = refl
or_by_right false b e = e

and-three : {a b c : Bool} → a ≡ true → b ≡ true → c ≡ true → (a && b && c) ≡ true
and-three p q r = rw (p, q, r)

crossing : (o p q : Bool) → p ≡ o → q ≡ not o → not (beq p q) ≡ true
crossing true p q e f = rw (e, f)
crossing false p q e f = rw (e, f)

-- The side of what stands in a list is among its sides.
sides-hold : (d : Directed) (l : List Directed) → 0 < count d l → 0 < count (side_of d) (map side_of l)
unfolding count
sides-hold d [] h = absurd (omega arith)
sides-hold d (x ∷ l) h = by (tested (is_same d x)) (sides-hold d l)
  where
    by : Tested (is_same d x) → (0 < count d l → 0 < count (side_of d) (map side_of l)) → 0 < bit (is_same (side_of d) (side_of x)) + count (side_of d) (map side_of l)
    by (passes e) ih = rw (same_is d x e) (omega (arith, ap bit (same_self (side_of x))))
    by (fails e) ih = omega (arith, ih (omega (arith, ap bit e)))

module _ (ts : List (Three ℕ)) (n : ℕ) (sound : Sound ts n) where
  -- The stations of a side are below n.
  ends-in : (i j c : ℕ) → left_corner ts (i ⟶ j) ≡ some c → (i < n) × (j < n)
  ends-in i j c h = let g = left_has i j c ts h in (sound.within i j c g, sound.within j c i (has_turned g))

  pub side-ends : (i j : ℕ) → is_side (left_corner ts) (i ⟶ j) ≡ true → (i < n) × (j < n)
  unfolding is_side
  side-ends i j h = by (either_there (left_corner ts (i ⟶ j)) (left_corner ts (j ⟶ i)) (and_right (ltb i j) _ h))
    where
      by : ((c : ℕ) × (left_corner ts (i ⟶ j) ≡ some c)) ⊎ ((c : ℕ) × (left_corner ts (j ⟶ i) ≡ some c)) → (i < n) × (j < n)
      by (inl g) = ends-in i j g.0 g.1
      by (inr g) = let k = ends-in j i g.0 g.1 in (k.1, k.0)

  -- A side is the side of a directed side of a triangle.
  side-run : (i j : ℕ) → is_side (left_corner ts) (i ⟶ j) ≡ true → 0 < count (i ⟶ j) (map side_of (boundaries ts))
  unfolding is_side side_of
  side-run i j h = by (either_there (left_corner ts (i ⟶ j)) (left_corner ts (j ⟶ i)) (and_right (ltb i j) _ h))
    where
      low : side_of (i ⟶ j) ≡ i ⟶ j
      low = rw (and_left (ltb i j) _ h)

      by : ((c : ℕ) × (left_corner ts (i ⟶ j) ≡ some c)) ⊎ ((c : ℕ) × (left_corner ts (j ⟶ i) ≡ some c)) → 0 < count (i ⟶ j) (map side_of (boundaries ts))
      by (inl g) = rw low at (sides-hold (i ⟶ j) (boundaries ts) (has_count (left_has i j g.0 ts g.1)))
      by (inr g) = rw (side-reversed (i ⟶ j), low) at (sides-hold (j ⟶ i) (boundaries ts) (has_count (left_has j i g.0 ts g.1)))

  -- Each side stands once in the list of sides.
  pub sides_once : (d : Directed) → count d (sides (left_corner ts) n) ≡ bit (is_side (left_corner ts) d)
  unfolding sides
  sides_once (i ⟶ j) = rows-count (is_side (left_corner ts)) n i j (side-ends i j)

  module _ (below : ℕ → Bool) where
    -- Each crossed side stands once in the list of crossed sides, and no other.
    pub crossed_once : (d : Directed) → count d (crossed (left_corner ts) below n) ≡ bit (is_crossed_side ts below d)
    unfolding crossed
    crossed_once (i ⟶ j) =
        rows-count (is_crossed_side ts below) n i j (λ e. side-ends i j (and_left (is_side (left_corner ts) (i ⟶ j)) (is_crossed below (i ⟶ j)) e))

    pub crossed-proper : Proper (left_corner ts) below (crossed (left_corner ts) below n)
    unfolding is_side is_crossed side_of
    crossed-proper (i ⟶ j) h =
        record {
          low = rw up;
          flag = below i;
          runs = (refl, differ (below i) (below j) (and_right (is_side (left_corner ts) (i ⟶ j)) _ is));
          held = λ x y. by x y (either_there (left_corner ts (i ⟶ j)) (left_corner ts (j ⟶ i)) held);
        }
      where
        is : is_crossed_side ts below (i ⟶ j) ≡ true
        is = bit_one (is_crossed_side ts below (i ⟶ j)) (rw (crossed_once (i ⟶ j)) at h)

        up : ltb i j ≡ true
        up = and_left (ltb i j) _ (and_left (is_side (left_corner ts) (i ⟶ j)) _ is)

        held : (is_there (left_corner ts (i ⟶ j)) || is_there (left_corner ts (j ⟶ i))) ≡ true
        held = and_right (ltb i j) _ (and_left (is_side (left_corner ts) (i ⟶ j)) _ is)

        by : left_corner ts (i ⟶ j) ≡ none → left_corner ts (j ⟶ i) ≡ none
            → ((c : ℕ) × (left_corner ts (i ⟶ j) ≡ some c)) ⊎ ((c : ℕ) × (left_corner ts (j ⟶ i) ≡ some c)) → ⊥
        by x y (inl g) = none-ne-some g.0 (sym x ∙ g.1)
        by x y (inr g) = none-ne-some g.0 (sym y ∙ g.1)

    -- The side of a crossed directed side with a triangle left of it is a crossed side.
    side_in : (o : Bool) (x : Directed) (c : ℕ) → Runs below o x → left_corner ts x ≡ some c → is_crossed_side ts below (side_of x) ≡ true
    unfolding is_side is_crossed side_of
    side_in o (a ⟶ b) c r h = by (tested (ltb a b))
      where
        by : Tested (ltb a b) → is_crossed_side ts below (cond (ltb a b) (a ⟶ b) (b ⟶ a)) ≡ true
        by (passes p) = rw p (and-three p (ap (λ m. is_there m || is_there (left_corner ts (b ⟶ a))) h) (crossing o (below a) (below b) r.0 r.1))
        by (fails p) =
            let ne : (a ≡ b → ⊥) = λ e. not_self o (let f = ap below e in cc) in
            let lt : b < a = omega (arith, ltb-false a b p) in
            rw p
            (and-three (lt-ltb b a lt) (or_by_right (is_there (left_corner ts (b ⟶ a))) (is_there (left_corner ts (a ⟶ b))) (ap is_there h))
            (crossing (not o) (below b) (below a) r.1 (runs-reversed below o (a ⟶ b) r).1))

    -- A step starts at a crossed side.
    step_in : (o : Bool) (x y : Directed) → Runs below o x → next (left_corner ts) below x ≡ some y → is_crossed_side ts below (side_of x) ≡ true
    step_in o (a ⟶ b) y r e = by (outs (left_corner ts) below o a b y r e)
      where
        by : Out (left_corner ts) below o a b y → is_crossed_side ts below (side_of (a ⟶ b)) ≡ true
        by (keep_from c h f g) = side_in o (a ⟶ b) c r h
        by (keep_to c h f g) = side_in o (a ⟶ b) c r h

    -- Before the first line both crossed sides of each triangle are unused.
    pub crossed-even : Even (next (left_corner ts) below) below true (crossed (left_corner ts) below n)
    crossed-even x y r e =
        rw (
          crossed_once (side_of x),
          crossed_once (side_of y),
          step_in true x y r e,
          ← side-reversed y,
          step_in false (reversed y) (reversed x) ry (next_back (left_corner ts) below (mesh_of ts n sound) true x y r e),
        )
      where
        ry : Runs below false (reversed y)
        ry = runs-reversed below true y (next-runs (left_corner ts) below true x y r e)

    -- A crossed side is a side of a triangle, so three times the triangles are enough.
    pub crossed-few : length (crossed (left_corner ts) below n) ≤ 3 * length ts
    crossed-few = omega (arith, fewer (crossed (left_corner ts) below n) (map side_of (boundaries ts)) among, length-map (boundaries ts) side_of, boundaries-length ts)
      where
        by : (i j : ℕ) → Tested (is_crossed_side ts below (i ⟶ j)) → bit (is_crossed_side ts below (i ⟶ j)) ≤ count (i ⟶ j) (map side_of (boundaries ts))
        by i j (passes e) = rw e (side-run i j (and_left (is_side (left_corner ts) (i ⟶ j)) (is_crossed below (i ⟶ j)) e))
        by i j (fails e) = rw e (omega arith)

        among : (d : Directed) → count d (crossed (left_corner ts) below n) ≤ count d (map side_of (boundaries ts))
        among (i ⟶ j) = rw (crossed_once (i ⟶ j)) (by i j (tested (is_crossed_side ts below (i ⟶ j))))

    -- No more crossed sides than sides.
    pub crossed-less : length (crossed (left_corner ts) below n) ≤ length (sides (left_corner ts) n)
    crossed-less =
        fewer (crossed (left_corner ts) below n) (sides (left_corner ts) n)
        (λ d. omega (arith, crossed_once d, sides_once d, both (is_side (left_corner ts) d) (is_crossed below d)))
      where
        both : (p q : Bool) → bit (p && q) ≤ bit p
        both true true = omega arith
        both true false = omega arith
        both false q = omega arith
