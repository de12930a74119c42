-- How often the sides of a list of triangles are run, by pairs of stations: three to each triangle (`runs-grid`), and so '3n-b-3
-- sides' where there are 2n-b-2 triangles (`sides-counted`). Assumes nothing.
use mathlib.Core.Path.{◌≡◌, refl, sym, ap, ◌∙◌}
use mathlib.Core.Bool.{Bool, true, false, cond, ◌&&◌}
use mathlib.Core.List.{List, [], ◌∷◌, map}
use mathlib.Core.Logic.{⊎_elim}
use Prim.Native.Nat.{ℕ, ◌+◌, ◌*◌, ◌<◌, ◌≤◌}
use native.Mathlib.Omega.{arith}
use native.Mathlib.Decide.{dec_lt, ℕ_discrete}
use borrow.Author.Tests.{lt-ltb, le-ltb, eq-eqb, ne_eqb}
use lib.Dec.{eqb, ltb}
use lib.IntN.{ℤ, pos, ◌+ℤ◌}
use lib.ListN.{length}
use lib.Signed.{◌<ℤ◌}
use Rattle.whole.specs.Turn.{turn}
use Rattle.whole.proofs.Bridge.{int}
use Rattle.whole.proofs.TurnLaws.{turn-cycle, turn-start}
use Rattle.survey.specs.Fit.{Fit}
use Rattle.survey.specs.Survey.{Survey, count, place_of}
use Rattle.sweep.specs.Boundary.{around}
use Rattle.sweep.specs.Members.{In, here, there, sum, total}
use Rattle.sweep.specs.Sweep.{Three}
use Rattle.sweep.proofs.Fill.{total_in}
use Rattle.sweep.proofs.MemberLaws.{any_cons, any_none, total-map}
use Rattle.sweep.proofs.OnceLaws.{side, Hits, it_is, not_it, hits, total_mono, total-zero}
use Rattle.hull.specs.Hull.{is_hull_side, hull_sides, hull_count, pairs_passing}
use Rattle.hull.specs.MeshOf.{placed, twice_of, OnStations, step_is, runs, runs_in, is_side_in, sides_in}
use Rattle.hull.proofs.GridLaws.{grid, grid-agree, grid-zero, grid-add, grid_one, grid-swap, grid-fold, total-ones, total-pairs}
use Rattle.hull.proofs.OutlineLaws as outline
use Rattle.triangles.proofs.SurveyLaws.{SurveyMesh, survey-mesh}

-- ---- steps and sides
-- What a step says: it is the one from i to j, or not.
pub data Step (i j a b : ℕ) (n : ℕ) : Type 0 where
  is : a ≡ i → b ≡ j → n ≡ 1 → Step i j a b n
  is_not : (a ≡ i → b ≡ j → ⊥) → n ≡ 0 → Step i j a b n

pub step : (i j a b : ℕ) → Step i j a b (step_is i j a b)
unfolding step_is
step i j a b = go (ℕ_discrete a i) (ℕ_discrete b j)
  where
    go : Dec (a ≡ i) → Dec (b ≡ j) → Step i j a b (cond (eqb a i && eqb b j) 1 0)
    go (yes e) (yes f) = is e f (rw (eq-eqb a i e, eq-eqb b j f))
    go (yes e) (no f) = is_not (λ p q. f q) (rw (eq-eqb a i e, ne_eqb b j f))
    go (no e) d = is_not (λ p q. e p) (rw (ne_eqb a i e))

-- The pairs that pass a test stand in their list once each, and no others do.
pub listed_once : (p : ℕ → ℕ → Bool) (n i j : ℕ) → i < n → j < n → total (λ e. step_is i j e.from e.to) (pairs_passing p n) ≡ cond (p i j) 1 0
listed_once p n i j li lj =
    total-pairs (λ e. step_is i j e.from e.to) p n
    ∙ grid_one n (λ a b. cond (p a b) (step_is i j a b) 0) i j li lj (λ a b la lb d. other a b (p a b) d (step i j a b))
    ∙ self (p i j) (step i j i j)
  where
    other : (a b : ℕ) (c : Bool) → (a ≡ i → b ≡ j → ⊥) → Step i j a b (step_is i j a b) → cond c (step_is i j a b) 0 ≡ 0
    other a b true d (is u v e) = absurd (d u v)
    other a b true d (is_not n e) = e
    other a b false d s = refl

    self : (c : Bool) → Step i j i j (step_is i j i j) → cond c (step_is i j i j) 0 ≡ cond c 1 0
    self true (is u v e) = e
    self true (is_not n e) = absurd (n refl refl)
    self false s = refl

-- ---- lists
-- Sums of values that agree are equal.
pub total-agree : {A : Type 0} (f g : A → ℕ) (l : List A) → ((x : A) → In x l → f x ≡ g x) → total f l ≡ total g l
total-agree f g l h = omega (arith, total_mono f g l (λ x i. omega (arith, h x i)), total_mono g f l (λ x i. omega (arith, h x i)))

pub sum-map : {A B : Type 0} (f : B → ℤ) (g : A → B) (l : List A) → sum f (map g l) ≡ sum (λ x. f (g x)) l
unfolding sum
sum-map f g [] = refl
sum-map f g (x ∷ l) = ap (λ z. f (g x) +ℤ z) (sum-map f g l)

pub in_map : {A B : Type 0} (g : A → B) {x : A} {l : List A} → In x l → In (g x) (map g l)
in_map g (here e) = here (ap g e)
in_map g (there i) = there (in_map g i)

-- In a sum of at most 1, one member at most counts.
pub one_only : {A : Type 0} (g : A → ℕ) {x y : A} (l : List A) → total g l ≤ 1 → In x l → In y l → g x ≡ 1 → g y ≡ 1 → x ≡ y
unfolding total
one_only g [] h i j ex ey = absurd (any_none i)
one_only g {x} {y} (z ∷ l) h i j ex ey =
    ⊎_elim
    (λ p. ⊎_elim (λ q. p ∙ sym q) (λ q. absurd (omega (arith, ap g p, total_in g q))) (any_cons j))
    (λ p. ⊎_elim (λ q. absurd (omega (arith, ap g q, total_in g p))) (λ q. one_only g l (omega arith) p q ex ey) (any_cons j))
    (any_cons i)

-- ---- the sides of a list of triangles
-- A weight of pairs of stations over the three sides of a triangle, as they are run.
abbrev pub circuit : (ℕ → ℕ → ℕ) → Three ℕ → ℕ
circuit g t = g t.a t.b + g t.b t.c + g t.c t.a

-- Each of a triangle's three steps is one pair of stations.
step-grid : (g : ℕ → ℕ → ℕ) (n a b : ℕ) → a < n → b < n → grid (λ i j. step_is i j a b * g i j) n ≡ g a b
step-grid g n a b la lb = grid_one n (λ i j. step_is i j a b * g i j) a b la lb (λ i j li lj d. other i j d (step i j a b)) ∙ self (step a b a b)
  where
    other : (i j : ℕ) → (i ≡ a → j ≡ b → ⊥) → Step i j a b (step_is i j a b) → step_is i j a b * g i j ≡ 0
    other i j d (is p q e) = absurd (d (sym p) (sym q))
    other i j d (is_not n e) = rw e (omega arith)

    self : Step a b a b (step_is a b a b) → step_is a b a b * g a b ≡ g a b
    self (is p q e) = rw e (omega arith)
    self (is_not n e) = absurd (n refl refl)

-- So a sum over the sides of triangles is one over pairs of stations, each as often as it is run.
circuit-grid : (s : Survey) (g : ℕ → ℕ → ℕ) (ts : List (Three ℕ)) → ((t : Three ℕ) → In t ts → OnStations s t)
    → total (circuit g) ts ≡ grid (λ i j. runs_in i j ts * g i j) (count s)
unfolding total
circuit-grid s g [] h = sym (grid-zero (count s) (λ i j. 0 * g i j) (λ i j li lj. omega arith))
circuit-grid s g (t ∷ ts) h =
    let c = h t (here refl) in
    omega (
      arith,
      grid-agree (count s) (λ i j. (runs i j t + runs_in i j ts) * g i j) (λ i j. ab i j + bc i j + ca i j + runs_in i j ts * g i j) (λ i j li lj. omega arith),
      grid-add (count s) (λ i j. ab i j + bc i j + ca i j) (λ i j. runs_in i j ts * g i j),
      grid-add (count s) (λ i j. ab i j + bc i j) ca,
      grid-add (count s) ab bc,
      step-grid g (count s) t.a t.b c.on_a c.on_b,
      step-grid g (count s) t.b t.c c.on_b c.on_c,
      step-grid g (count s) t.c t.a c.on_c c.on_a,
      circuit-grid s g ts (λ u i. h u (there i)),
    )
  where
    ab : ℕ → ℕ → ℕ
    ab i j = step_is i j t.a t.b * g i j

    bc : ℕ → ℕ → ℕ
    bc i j = step_is i j t.b t.c * g i j

    ca : ℕ → ℕ → ℕ
    ca i j = step_is i j t.c t.a * g i j

-- Where a pair of stations is run as often as it is run back, but for what P adds, every sum over the triangles' sides is the sum over
-- them run back, but for what P adds.
pub exchange : (s : Survey) (ts : List (Three ℕ)) → ((t : Three ℕ) → In t ts → OnStations s t) → (P : ℕ → ℕ → ℕ)
    → ((i j : ℕ) → i < count s → j < count s → runs_in i j ts + P j i ≡ runs_in j i ts + P i j) → (g : ℕ → ℕ → ℕ)
    → total (circuit g) ts + grid (λ i j. P j i * g i j) (count s) ≡ total (circuit (λ i j. g j i)) ts + grid (λ i j. P i j * g i j) (count s)
exchange s ts stations P even g =
    omega (
      arith,
      circuit-grid s g ts stations,
      circuit-grid s (λ i j. g j i) ts stations,
      grid-swap (count s) (λ i j. runs_in i j ts * g j i),
      grid-add (count s) (λ i j. runs_in i j ts * g i j) (λ i j. P j i * g i j),
      grid-add (count s) (λ i j. runs_in j i ts * g i j) (λ i j. P i j * g i j),
      grid-agree (count s) (λ i j. runs_in i j ts * g i j + P j i * g i j) (λ i j. runs_in j i ts * g i j + P i j * g i j)
          (λ i j li lj. omega (arith, ap (λ n. n * g i j) (even i j li lj))),
    )

total-threes : {A : Type 0} (l : List A) → total (λ x. 1 + 1 + 1) l ≡ 3 * length l
unfolding total
total-threes [] = refl
total-threes (x ∷ l) = omega (arith, total-threes l)

runs-grid : (s : Survey) (ts : List (Three ℕ)) → ((t : Three ℕ) → In t ts → OnStations s t) → grid (λ i j. runs_in i j ts) (count s) ≡ 3 * length ts
runs-grid s ts h =
    grid-agree (count s) (λ i j. runs_in i j ts) (λ i j. runs_in i j ts * 1) (λ i j li lj. omega arith)
    ∙ sym (circuit-grid s (λ i j. 1) ts h)
    ∙ total-threes ts

-- A counterclockwise triangle has three corners.
pub corners-differ : (s : Survey) (t : Three ℕ) → pos 0 <ℤ twice_of s t → (t.a ≡ t.b → ⊥) × (t.b ≡ t.c → ⊥) × (t.c ≡ t.a → ⊥)
corners-differ s t h = (
  λ e. flat t.a t.b t.c e h,
  λ e. flat t.b t.c t.a e (rw (← turn-cycle (place_of s t.a) (place_of s t.b) (place_of s t.c)) h),
  λ e. flat t.c t.a t.b e (rw (turn-cycle (place_of s t.c) (place_of s t.a) (place_of s t.b)) h),
)
  where
    zero_turn : (a b c : ℕ) → a ≡ b → turn (place_of s a) (place_of s b) (place_of s c) ≡ pos 0
    zero_turn a b c e = rw e (turn-cycle (place_of s b) (place_of s b) (place_of s c) ∙ turn-start (place_of s b) (place_of s c))

    flat : (a b c : ℕ) → a ≡ b → pos 0 <ℤ turn (place_of s a) (place_of s b) (place_of s c) → ⊥
    flat a b c e l = omega (arith, int, zero_turn a b c e)

-- So it has no step from a station to itself.
no_loop : (s : Survey) (i : ℕ) (t : Three ℕ) → pos 0 <ℤ twice_of s t → runs i i t ≡ 0
no_loop s i t h =
    let d = corners-differ s t h in
    omega (
      arith,
      go t.a t.b d.0 (step i i t.a t.b),
      go t.b t.c d.1 (step i i t.b t.c),
      go t.c t.a d.2 (step i i t.c t.a),
    )
  where
    go : (a b : ℕ) → (a ≡ b → ⊥) → Step i i a b (step_is i i a b) → step_is i i a b ≡ 0
    go a b d (is p q e) = absurd (d (p ∙ sym q))
    go a b d (is_not n e) = e

-- ---- sides by stations and by places
module _ (s : Survey) (fit : Fit s) (m : SurveyMesh s) (ts : List (Three ℕ)) (stations : (t : Three ℕ) → In t ts → OnStations s t) where
  step-side : (i j a b : ℕ) → i < count s → j < count s → a < count s → b < count s
      → side (place_of s i) (place_of s j) (place_of s a) (place_of s b) ≡ step_is i j a b
  step-side i j a b li lj la lb = go (step i j a b) (hits (place_of s i) (place_of s j) (place_of s a) (place_of s b))
    where
      go : Step i j a b (step_is i j a b)
          → Hits (place_of s i) (place_of s j) (place_of s a) (place_of s b) (side (place_of s i) (place_of s j) (place_of s a) (place_of s b))
          → side (place_of s i) (place_of s j) (place_of s a) (place_of s b) ≡ step_is i j a b
      go (is p q e) (it_is u v g) = g ∙ sym e
      go (is p q e) (not_it n g) = absurd (n (ap (place_of s) p) (ap (place_of s) q))
      go (is_not n e) (it_is u v g) = absurd (n (outline.one_place s fit m a i la li u) (outline.one_place s fit m b j lb lj v))
      go (is_not n e) (not_it k g) = g ∙ sym e

  pub runs-sides : (i j : ℕ) → i < count s → j < count s → total (around (side (place_of s i) (place_of s j))) (map (placed s) ts) ≡ runs_in i j ts
  runs-sides i j li lj =
      total-map (around (side (place_of s i) (place_of s j))) (placed s) ts
      ∙ total-agree (λ t. around (side (place_of s i) (place_of s j)) (placed s t)) (runs i j) ts
      (λ t q.
      let c = stations t q in
      omega (
        arith,
        step-side i j t.a t.b li lj c.on_a c.on_b,
        step-side i j t.b t.c li lj c.on_b c.on_c,
        step-side i j t.c t.a li lj c.on_c c.on_a,
      ))

  -- A side on what is no station is not run.
  pub runs_none : (i j : ℕ) → (i < count s → j < count s → ⊥) → runs_in i j ts ≡ 0
  runs_none i j h =
      total-agree (runs i j) (λ t. 0) ts
      (λ t q.
      let c = stations t q in
      omega (
        arith,
        go t.a t.b c.on_a c.on_b (step i j t.a t.b),
        go t.b t.c c.on_b c.on_c (step i j t.b t.c),
        go t.c t.a c.on_c c.on_a (step i j t.c t.a),
      ))
      ∙ total-zero ts
    where
      go : (a b : ℕ) → a < count s → b < count s → Step i j a b (step_is i j a b) → step_is i j a b ≡ 0
      go a b la lb (is p q e) = absurd (h (rw (← p) la) (rw (← q) lb))
      go a b la lb (is_not n e) = e

-- Of a list that meets the other parts of `MeshOf`: '3n-b-3 sides'.
module _
    (s : Survey)
    (fit : Fit s)
    (ts : List (Three ℕ))
    (stations : (t : Three ℕ) → In t ts → OnStations s t)
    (positive : (t : Three ℕ) → In t ts → pos 0 <ℤ twice_of s t)
    (once : (i j : ℕ) → runs_in i j ts ≤ 1)
    (hull : (i j : ℕ) → is_hull_side s i j ≡ true → (runs_in i j ts ≡ 1) × (runs_in j i ts ≡ 0))
    (shared : (i j : ℕ) → is_hull_side s i j ≡ false → 0 < runs_in i j ts → runs_in j i ts ≡ 1)
  where
    -- How often a pair of stations is run, and once more where it is a hull side.
    abbrev share : ℕ → ℕ → ℕ
    share i j = runs_in i j ts + cond (is_hull_side s i j) 1 0

    share_self : (i : ℕ) → share i i ≡ 0
    share_self i = omega (arith, total-agree (runs i i) (λ t. 0) ts (λ t q. no_loop s i t (positive t q)), total-zero ts, none (is_hull_side s i i) refl)
      where
        none : (b : Bool) → is_hull_side s i i ≡ b → ◌≡◌ {A = ℕ} (cond b 1 0) 0
        none true e = absurd (omega (arith, (hull i i e).0, (hull i i e).1))
        none false e = refl

    -- Each side has two shares.
    two-shares : (i j : ℕ) → cond (is_side_in ts i j) 1 0 + cond (is_side_in ts i j) 1 0 ≡ cond (ltb i j) (share i j + share j i) 0
    unfolding is_side_in
    two-shares i j = go (ltb i j) (dec_lt 0 (runs_in i j ts + runs_in j i ts))
      where
        both : (b c : Bool) → is_hull_side s i j ≡ b → is_hull_side s j i ≡ c → 0 < runs_in i j ts + runs_in j i ts
            → 2 ≡ runs_in i j ts + cond b 1 0 + (runs_in j i ts + cond c 1 0)
        both true true e g h = absurd (omega (arith, (hull i j e).0, (hull j i g).1))
        both true false e g h = omega (arith, (hull i j e).0, (hull i j e).1)
        both false true e g h = omega (arith, (hull j i g).0, (hull j i g).1)
        both false false e g h = some (dec_lt 0 (runs_in i j ts))
          where
            some : Dec (0 < runs_in i j ts) → 2 ≡ runs_in i j ts + 0 + (runs_in j i ts + 0)
            some (yes l) = let q = shared i j e l in omega (arith, q, shared j i g (omega (arith, q)))
            some (no l) = absurd (omega (arith, shared j i g (omega arith)))

        neither : (b c : Bool) → is_hull_side s i j ≡ b → is_hull_side s j i ≡ c → (0 < runs_in i j ts + runs_in j i ts → ⊥)
            → 0 ≡ runs_in i j ts + cond b 1 0 + (runs_in j i ts + cond c 1 0)
        neither true c e g h = absurd (h (omega (arith, (hull i j e).0)))
        neither false true e g h = absurd (h (omega (arith, (hull j i g).0)))
        neither false false e g h = omega arith

        go : (b : Bool) → Dec (0 < runs_in i j ts + runs_in j i ts)
            → cond (b && ltb 0 (runs_in i j ts + runs_in j i ts)) 1 0 + cond (b && ltb 0 (runs_in i j ts + runs_in j i ts)) 1 0 ≡ cond b (share i j + share j i) 0
        go false d = refl
        go true (yes l) = rw (lt-ltb 0 (runs_in i j ts + runs_in j i ts) l) (both (is_hull_side s i j) (is_hull_side s j i) refl refl l)
        go true (no l) = rw (le-ltb 0 (runs_in i j ts + runs_in j i ts) (omega arith)) (neither (is_hull_side s i j) (is_hull_side s j i) refl refl l)

    twice-sides : 2 * length (sides_in (count s) ts) ≡ 3 * length ts + length (hull_sides s)
    twice-sides =
        omega (
          arith,
          total-ones (sides_in (count s) ts),
          total-pairs (λ e. 1) (is_side_in ts) (count s),
          grid-add (count s) (λ i j. cond (is_side_in ts i j) 1 0) (λ i j. cond (is_side_in ts i j) 1 0),
          grid-agree (count s) (λ i j. cond (is_side_in ts i j) 1 0 + cond (is_side_in ts i j) 1 0) (λ i j. cond (ltb i j) (share i j + share j i) 0)
              (λ i j li lj. two-shares i j),
          grid-fold (count s) share (λ i l. share_self i),
          grid-add (count s) (λ i j. runs_in i j ts) (λ i j. cond (is_hull_side s i j) 1 0),
          runs-grid s ts stations,
          total-pairs (λ e. 1) (is_hull_side s) (count s),
          total-ones (hull_sides s),
        )

    pub sides-counted : length ts + hull_count s + 2 ≡ 2 * count s → length (sides_in (count s) ts) + hull_count s + 3 ≡ 3 * count s
    sides-counted e = omega (arith, twice-sides, outline.hull-count s fit (survey-mesh s fit))
