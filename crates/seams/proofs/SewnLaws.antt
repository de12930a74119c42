-- Where every half-side passes the test, the triangles are sewn together: `all_sewn`. Assumes nothing.
--
-- How often triangles run from i to j is a sum over their half-sides. Off the sides that `next` names, each half-side from i to j has a
-- twin, which runs from j to i and whose twin it is; so no two have the same twin, and there are no more of them than run from j to i.
-- Where none runs from j to i, no half-side from i to j has a twin, so each is the one that `first` names for i.
use mathlib.Core.Path.{◌≡◌, refl, sym, ap, ap₂, ◌∙◌}
use mathlib.Core.Bool.{cond}
use mathlib.Core.List.{List}
use Prim.Native.Nat.{ℕ, zero, suc, ◌+◌, ◌*◌, ◌≤◌, ◌<◌}
use native.Mathlib.Omega.{arith}
use native.Mathlib.Nat.{le_antisymm}
use native.Mathlib.Decide.{dec_lt}
use borrow.Author.Tests.{eqb-true, eq-eqb, ne_eqb}
use lib.Dec.{eqb}
use lib.ListN.{get_or, drop}
use lib.Seq.{get_or-drop}
use Rattle.lists.proofs.TestLaws.{and_left, and_right}
use Rattle.sweep.specs.Members.{total}
use Rattle.neighbours.specs.Half.{after, corner_in}
use Rattle.neighbours.specs.Room.{threes}
use Rattle.neighbours.proofs.HalfLaws.{after-third}
use Rattle.hull.specs.MeshOf.{step_is, runs_in}
use Rattle.hull.proofs.GridLaws.{sum_to, sum-agree, sum-zero, sum_one, grid, grid-swap}
use Rattle.hull.proofs.SideLaws.{Step, is, is_not, step}
use Rattle.seams.specs.Sewn.{SewnUp, is_matched, is_lone, AllTied}
use Rattle.seams.proofs.TestLaws.{less-true, far-true}

-- ---- sums
sum-front : (F : ℕ → ℕ) (n : ℕ) → sum_to F (suc n) ≡ F 0 + sum_to (λ i. F (suc i)) n
unfolding sum_to
sum-front F zero = omega arith
sum-front F (suc n) = omega (arith, sum-front F n)

sum_mono : (F G : ℕ → ℕ) (n : ℕ) → ((i : ℕ) → i < n → F i ≤ G i) → sum_to F n ≤ sum_to G n
unfolding sum_to
sum_mono F G zero h = omega arith
sum_mono F G (suc n) h = omega (arith, sum_mono F G n (λ i l. h i (omega arith)), h n (omega arith))

-- A sum is no less than what one number gives.
sum-least : (F : ℕ → ℕ) (k n : ℕ) → k < n → F k ≤ sum_to F n
unfolding sum_to
sum-least F k zero h = absurd (omega arith)
sum-least F k (suc n) h = go (dec_lt k n) (λ l. sum-least F k n l)
  where
    go : Dec (k < n) → (k < n → F k ≤ sum_to F n) → F k ≤ sum_to F n + F n
    go (yes l) less = omega (arith, less l)
    go (no l) less = let e : k ≡ n = omega arith in rw e (omega arith)

-- One number gives r, if it is among them.
sum-pick : (k r n : ℕ) → sum_to (λ i. cond (eqb k i) r 0) n ≤ r
sum-pick k r n = go (dec_lt k n)
  where
    other : (i : ℕ) → (i ≡ k → ⊥) → cond (eqb k i) r 0 ≡ 0
    other i d = rw (ne_eqb k i (λ e. d (sym e)))

    go : Dec (k < n) → sum_to (λ i. cond (eqb k i) r 0) n ≤ r
    go (yes l) = omega (arith, sum_one (λ i. cond (eqb k i) r 0) k n l (λ i q d. other i d), own)
      where
        own : cond (eqb k k) r 0 ≡ r
        own = rw (eq-eqb k k refl)
    go (no l) = omega (arith, sum-zero (λ i. cond (eqb k i) r 0) n (λ i q. other i (λ e. omega (arith, e))))

-- ---- half-sides
-- 1 where half-side h runs from i to j, else 0.
abbrev run : (ℕ → ℕ) → ℕ → ℕ → ℕ → ℕ
run corner i j h = step_is i j (corner h) (corner (after h))

-- How often triangles run from i to j is how many of their half-sides do.
runs-sum : (i j t : ℕ) (l : List ℕ) → runs_in i j (threes t l) ≡ sum_to (run (corner_in l) i j) (3 * t)
unfolding threes total sum_to after
runs-sum i j zero l = refl
runs-sum i j (suc t) l =
    omega (
      arith,
      runs-sum i j t (drop 3 l),
      sum-agree (run (corner_in (drop 3 l)) i j) (λ h. F (suc (suc (suc h)))) (3 * t) (λ h q. third h),
      sum-front (λ h. F (suc (suc h))) (3 * t),
      sum-front (λ h. F (suc h)) (suc (3 * t)),
      sum-front F (suc (suc (3 * t))),
      ap (sum_to F) size,
    )
  where
    F : ℕ → ℕ
    F = run (corner_in l) i j

    size : 3 * suc t ≡ suc (suc (suc (3 * t)))
    size = omega arith

    third : (h : ℕ) → run (corner_in (drop 3 l)) i j h ≡ run (corner_in l) i j (suc (suc (suc h)))
    third h = ap₂ (step_is i j) (at h) (at (after h) ∙ ap (corner_in l) (sym (after-third h)))
      where
        at : (k : ℕ) → get_or (drop 3 l) k 0 ≡ get_or l (suc (suc (suc k))) 0
        at k = let e : 3 + k ≡ suc (suc (suc k)) = omega arith in get_or-drop 3 l k 0 ∙ ap (λ n. get_or l n 0) e

-- ---- the test
module _ (corner twin next first : ℕ → ℕ) (m : ℕ) where
  -- What it says of a half-side that passes.
  data Passes (h : ℕ) : Type 0 where
    matched : twin h < m → corner (twin h) ≡ corner (after h) → corner (after (twin h)) ≡ corner h → twin (twin h) ≡ h → Passes h
    lone : next (corner h) ≡ corner (after h) → first (corner h) ≡ h → Passes h

  module _ (all : (h : ℕ) → h < m → Passes h) where
    -- What is known of half-side h, where it may run from i to j.
    data Stands (i j h : ℕ) : Type 0 where
      twinned : run corner i j h ≡ 1 → twin h < m → run corner j i (twin h) ≡ 1 → twin (twin h) ≡ h → Stands i j h
      alone : run corner i j h ≡ 1 → next i ≡ j → first i ≡ h → Stands i j h
      other : run corner i j h ≡ 0 → Stands i j h

    stands : (i j h : ℕ) → h < m → Stands i j h
    stands i j h l = go (step i j (corner h) (corner (after h)))
      where
        back : corner (twin h) ≡ j → corner (after (twin h)) ≡ i → Step j i (corner (twin h)) (corner (after (twin h))) (run corner j i (twin h))
            → run corner j i (twin h) ≡ 1
        back p q (is e f one) = one
        back p q (is_not d none) = absurd (d p q)

        here : corner h ≡ i → corner (after h) ≡ j → run corner i j h ≡ 1 → Passes h → Stands i j h
        here p q one (matched w b c d) = twinned one w (back (b ∙ q) (c ∙ p) (step j i (corner (twin h)) (corner (after (twin h))))) d
        here p q one (lone b c) = alone one (ap next (sym p) ∙ b ∙ q) (ap first (sym p) ∙ c)

        go : Step i j (corner h) (corner (after h)) (run corner i j h) → Stands i j h
        go (is p q one) = here p q one (all h l)
        go (is_not d none) = other none

    -- 1 where the twin of half-side g, which runs from j to i, is h.
    abbrev cell : ℕ → ℕ → ℕ → ℕ → ℕ
    cell i j g h = cond (eqb (twin g) h) (run corner j i g) 0

    -- No more half-sides run from i to j than from j to i.
    no_more : (i j : ℕ) → (next i ≡ j → ⊥) → sum_to (run corner i j) m ≤ sum_to (run corner j i) m
    unfolding grid
    no_more i j off =
        omega (
          arith,
          sum_mono (run corner i j) (λ h. sum_to (λ g. cell i j g h) m) m (λ h l. counted h (stands i j h l)),
          grid-swap m (λ h g. cell i j g h),
          sum_mono (λ g. sum_to (cell i j g) m) (run corner j i) m (λ g l. sum-pick (twin g) (run corner j i g) m),
        )
      where
        counted : (h : ℕ) → Stands i j h → run corner i j h ≤ sum_to (λ g. cell i j g h) m
        counted h (twinned one w r d) = omega (arith, one, sum-least (λ g. cell i j g h) (twin h) m w, own)
          where
            own : cell i j (twin h) h ≡ 1
            own = rw (eq-eqb _ _ d) r
        counted h (alone one e f) = absurd (off e)
        counted h (other none) = omega (arith, none)

    -- Where none runs from j to i, one at most runs from i to j.
    at_most_one : (i j : ℕ) → sum_to (run corner j i) m ≡ 0 → sum_to (run corner i j) m ≤ 1
    at_most_one i j none = go (dec_lt (first i) m)
      where
        not_named : (h : ℕ) → (h ≡ first i → ⊥) → Stands i j h → run corner i j h ≡ 0
        not_named h d (twinned one w r e) = absurd (omega (arith, none, sum-least (run corner j i) (twin h) m w, r))
        not_named h d (alone one e f) = absurd (d (sym f))
        not_named h d (other z) = z

        small : (h : ℕ) → Stands i j h → run corner i j h ≤ 1
        small h (twinned one w r e) = omega (arith, one)
        small h (alone one e f) = omega (arith, one)
        small h (other z) = omega (arith, z)

        go : Dec (first i < m) → sum_to (run corner i j) m ≤ 1
        go (yes l) =
            omega (
              arith,
              sum_one (run corner i j) (first i) m l (λ h q d. not_named h d (stands i j h q)),
              small (first i) (stands i j (first i) l),
            )
        go (no l) = omega (arith, sum-zero (run corner i j) m (λ h q. not_named h (λ e. omega (arith, e)) (stands i j h q)))

-- ---- the test in lists
abbrev entry : List ℕ → ℕ → ℕ
entry l k = get_or l k 0

-- The test of h, and that of its guess where it has one, whose own guess h is.
module _ (l twin next first : List ℕ) (m : ℕ) (pass : AllTied l twin next first m) where
  abbrev g : ℕ → ℕ
  g h = get_or twin h 0

  -- A guess starts from where h runs to, and h is its guess.
  near : (h : ℕ) → h < m → g h < m → (corner_in l (g h) ≡ corner_in l (after h)) × (g (g h) ≡ h)
  near h q w =
      let e = less-true (g h) m (is_matched l twin (g h) h (corner_in l (after h))) _ w (pass.each h q) in (
        eqb-true _ _ (and_left (eqb (corner_in l (g h)) (corner_in l (after h))) _ e),
        eqb-true _ _ (and_right (eqb (corner_in l (g h)) (corner_in l (after h))) _ e),
      )

  -- It runs to where h starts: that is the guess's own test.
  all_pass : (h : ℕ) → h < m → Passes (corner_in l) (entry twin) (entry next) (entry first) m h
  all_pass h q = go (dec_lt (g h) m)
    where
      go : Dec (g h < m) → Passes (corner_in l) (entry twin) (entry next) (entry first) m h
      go (yes w) =
          let own = (near h q w).1 in
          let back = (near (g h) w (omega (arith, own, q))).0 in
          matched w (near h q w).0 (sym back ∙ ap (corner_in l) own) own
      go (no w) =
          let e = far-true (g h) m _ (is_lone next first h (corner_in l h) (corner_in l (after h))) (omega arith) (pass.each h q) in
          lone (eqb-true _ _ (and_left (eqb (entry next (corner_in l h)) (corner_in l (after h))) _ e))
          (eqb-true _ _ (and_right (eqb (entry next (corner_in l h)) (corner_in l (after h))) _ e))

-- Of the triangles at the front of a list.
pub all_sewn : (l : List ℕ) (t : ℕ) {twin next first : List ℕ} → AllTied l twin next first (3 * t) → SewnUp (λ i. get_or next i 0) (threes t l)
all_sewn l t {twin} {next} {first} pass =
    record {
      even = λ i j d e.
          runs-sum i j t l
          ∙ le_antisymm (no_more (corner_in l) (entry twin) (entry next) (entry first) (3 * t) all i j d)
          (no_more (corner_in l) (entry twin) (entry next) (entry first) (3 * t) all j i e)
          ∙ sym (runs-sum j i t l);
      single = λ i j none.
          omega (
            arith,
            runs-sum i j t l,
            at_most_one (corner_in l) (entry twin) (entry next) (entry first) (3 * t) all i j (sym (runs-sum j i t l) ∙ none),
          );
    }
  where
    all : (h : ℕ) → h < 3 * t → Passes (corner_in l) (entry twin) (entry next) (entry first) (3 * t) h
    all h q = all_pass l twin next first (3 * t) pass h q
