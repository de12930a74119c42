-- What is asked of triangles that are handed in makes them a mesh of their survey: `woven-mesh`. Assumes nothing.
--
-- A side is run as often as it is run back, but for the hull's sides that are run (`balance`). So at each station as many of these come
-- in as go out (`flow`), and where one of the hull's sides is run the next one is (`onward`), all round the hull. One is, since the areas
-- of the triangles would else sum to 0 (`some-rim`). With all of them run (`rim-run`) the triangles have the hull as their boundary
-- (`balanced`), and with every station a corner they hold none but at corners.
use mathlib.Core.Path.{◌≡◌, refl, sym, ap, ◌∙◌, subst}
use mathlib.Core.Bool.{Bool, true, false, cond}
use mathlib.Core.List.{List, [], ◌∷◌, map, reverse}
use mathlib.Core.Logic.{⊎_elim}
use Prim.Native.Nat.{ℕ, ◌+◌, ◌*◌, ◌<◌}
use native.Mathlib.Omega.{arith}
use native.Mathlib.Decide.{dec_lt}
use lib.IntN.{pos}
use lib.Signed.{◌<ℤ◌}
use Rattle.whole.specs.Place.{Place}
use Rattle.whole.specs.Turn.{turn}
use Rattle.whole.proofs.Bridge.{int, minus}
use Rattle.whole.proofs.TurnLaws.{turn-cycle, turn-swap}
use Rattle.survey.specs.Fit.{Fit}
use Rattle.survey.specs.Survey.{Survey, count, place_of}
use Rattle.sweep.specs.Hull.{HullSide}
use Rattle.sweep.specs.Members.{In, here, there, total}
use Rattle.sweep.specs.Sweep.{Three, State, Edge, edge, turned, pairs, outline as outline_of}
use Rattle.sweep.proofs.AreaLaws.{xy, twice_is}
use Rattle.sweep.proofs.HullLaws.{low-hull, up_hull}
use Rattle.sweep.proofs.Invariants.{Inv}
use Rattle.sweep.proofs.MemberLaws.{any_cons, any_none, any_split, any_reverse, any_map, any_find}
use Rattle.sweep.proofs.OnceLaws.{total_mono, total-zero}
use Rattle.sweep.proofs.Slopes.{lower, upper}
use Rattle.sweep.proofs.Stack.{Chain, bottom, more}
use Rattle.triangles.proofs.SurveyLaws.{SurveyMesh, survey-mesh}
use Rattle.hull.specs.Hull.{is_hull_side}
use Rattle.hull.specs.MeshOf.{placed, twice_of, OnStations, step_is, runs, runs_in, MeshOf}
use Rattle.woven.specs.Woven.{Woven}
use Rattle.hull.proofs.BalanceLaws.{Balanced, balanced-mesh, mesh-even}
use Rattle.hull.proofs.GridLaws.{sum_to, only, only_at, only_else, sum-agree, sum-zero, sum_one, sum_in, grid, grid-some}
use Rattle.hull.proofs.OutlineLaws as outline
use Rattle.hull.proofs.SideLaws.{Step, is, is_not, step, total-agree, circuit, exchange}
use Rattle.woven.proofs.ClearLaws.{clear}

-- Of two sums with at least one part, the one whose parts are less is less.
total-less : {A : Type 0} (f g : A → ℕ) {y : A} (l : List A) → ((x : A) → In x l → f x < g x) → In y l → total f l < total g l
unfolding total
total-less f g [] h i = absurd (any_none i)
total-less f g (x ∷ l) h i = omega (arith, h x (here refl), total_mono f g l (λ y j. omega (arith, h y (there j))))

-- No triangle runs a hull side backwards: its third corner would lie to the right of it.
module _
    (s : Survey)
    (fit : Fit s)
    (m : SurveyMesh s)
    (ts : List (Three ℕ))
    (stations : (t : Three ℕ) → In t ts → OnStations s t)
    (positive : (t : Three ℕ) → In t ts → pos 0 <ℤ twice_of s t)
  where
    third : (i j a b c : ℕ) → is_hull_side s i j ≡ true → c < count s → pos 0 <ℤ turn (place_of s a) (place_of s b) (place_of s c) → step_is j i a b ≡ 0
    third i j a b c h l left = go (step j i a b)
      where
        go : Step j i a b (step_is j i a b) → step_is j i a b ≡ 0
        go (is p q e) =
            absurd
            (omega (
              arith,
              int,
              (outline.side-hull s fit m i j h).2.left (place_of s c) (outline.station-at s fit m c l),
              turn-swap (place_of s i) (place_of s j) (place_of s c),
              minus (pos 0) (turn (place_of s j) (place_of s i) (place_of s c)),
              rw (p, q) at left,
            ))
        go (is_not n e) = e

    pub never_back : (i j : ℕ) → is_hull_side s i j ≡ true → runs_in j i ts ≡ 0
    never_back i j h =
        total-agree (runs j i) (λ t. 0) ts
        (λ t q.
        let c = stations t q in
        let left = positive t q in
        let cycle = turn-cycle (place_of s t.a) (place_of s t.b) (place_of s t.c) in
        omega (
          arith,
          third i j t.a t.b t.c h c.on_c left,
          third i j t.b t.c t.a h c.on_a (rw (← cycle) left),
          third i j t.c t.a t.b h c.on_b (rw (turn-cycle (place_of s t.c) (place_of s t.a) (place_of s t.b)) left),
        ))
        ∙ total-zero ts

module _ (s : Survey) (fit : Fit s) (m : SurveyMesh s) (ts : List (Three ℕ)) (woven : Woven s ts) where
  -- ---- the boundary, where some of the hull's sides may not be run
  -- How often a pair of stations is run as a side of the hull.
  rim-runs : ℕ → ℕ → ℕ
  rim-runs i j = cond (is_hull_side s i j) (runs_in i j ts) 0

  balance : (i j : ℕ) → runs_in i j ts + rim-runs j i ≡ runs_in j i ts + rim-runs i j
  unfolding rim-runs
  balance i j = go (is_hull_side s i j) (is_hull_side s j i) refl refl
    where
      go : (b c : Bool) → is_hull_side s i j ≡ b → is_hull_side s j i ≡ c → runs_in i j ts + cond c (runs_in j i ts) 0 ≡ runs_in j i ts + cond b (runs_in i j ts) 0
      go true true e f = absurd (outline.one_way s fit m i j e f)
      go true false e f = omega (arith, never_back s fit m ts woven.stations woven.positive i j e)
      go false true e f = omega (arith, never_back s fit m ts woven.stations woven.positive j i f)
      go false false e f = omega (arith, woven.even i j e f)

  -- ---- round the hull
  into : ℕ → ℕ
  into k = sum_to (λ i. rim-runs i k) (count s)

  -- As many of the hull's sides that are run come to a station as leave it.
  flow : (k : ℕ) → k < count s → into k ≡ sum_to (λ j. rim-runs k j) (count s)
  unfolding into grid
  flow k l =
      omega (
        arith,
        exchange s ts woven.stations rim-runs (λ i j li lj. balance i j) (λ i j. only k 1 i),
        total-agree (circuit (λ i j. only k 1 i)) (circuit (λ i j. only k 1 j)) ts (λ t q. omega arith),
        sum_one (λ i. sum_to (λ j. rim-runs j i * only k 1 i) (count s)) k (count s) l
            (λ i q d. sum-zero (λ j. rim-runs j i * only k 1 i) (count s) (λ j r. rw (only_else k 1 i d) (omega arith))),
        sum_one (λ i. sum_to (λ j. rim-runs i j * only k 1 i) (count s)) k (count s) l
            (λ i q d. sum-zero (λ j. rim-runs i j * only k 1 i) (count s) (λ j r. rw (only_else k 1 i d) (omega arith))),
        sum-agree (λ j. rim-runs j k * only k 1 k) (λ j. rim-runs j k) (count s) (λ j r. rw (only_at k 1 k refl) (omega arith)),
        sum-agree (λ j. rim-runs k j * only k 1 k) (λ j. rim-runs k j) (count s) (λ j r. rw (only_at k 1 k refl) (omega arith)),
      )

  run_is : (i j : ℕ) → is_hull_side s i j ≡ true → rim-runs i j ≡ runs_in i j ts
  unfolding rim-runs
  run_is i j e = rw e

  entered : (i j : ℕ) → is_hull_side s i j ≡ true → 0 < runs_in i j ts → 0 < into j
  unfolding into
  entered i j e l = omega (arith, sum_in (λ i. rim-runs i j) i (count s) (outline.side-hull s fit m i j e).0, run_is i j e)

  -- Where one of them comes in, the hull's next side is run.
  onward : (k j : ℕ) → is_hull_side s k j ≡ true → 0 < into k → (runs_in k j ts ≡ 1) × (0 < into j)
  unfolding rim-runs
  onward k j e h = (omega (arith, run, woven.single k j e), entered k j e run)
    where
      other : (i : ℕ) → (i ≡ j → ⊥) → (b : Bool) → is_hull_side s k i ≡ b → cond b (runs_in k i ts) 0 ≡ 0
      other i d true g = absurd (d (outline.next_one s fit m k i j g e))
      other i d false g = refl

      alone : sum_to (λ i. rim-runs k i) (count s) ≡ rim-runs k j
      alone = sum_one (λ i. rim-runs k i) j (count s) (outline.side-hull s fit m k j e).1 (λ i l d. other i d (is_hull_side s k i) refl)

      run : 0 < runs_in k j ts
      run = omega (arith, h, flow k (outline.side-hull s fit m k j e).0, alone, run_is k j e)

  -- The same of places: one that a hull side that is run comes to, and a side that is run.
  abbrev Entered : Place → Type 0
  Entered v = (k : ℕ) → k < count s → v ≡ place_of s k → 0 < into k

  abbrev Run : Place → Place → Type 0
  Run a b = (i j : ℕ) → i < count s → j < count s → a ≡ place_of s i → b ≡ place_of s j → runs_in i j ts ≡ 1

  abbrev Station : Place → Type 0
  Station = outline.Station s fit m

  onward-place : (a b : Place) → HullSide Station a b → Entered a → Run a b × Entered b
  onward-place a b h e = (
    λ i j li lj p q. (onward i j (hull-of i j li lj p q) (e i li p)).0,
    λ j lj q. let x = outline.station_of s fit m a h.from in (onward x.0 j (hull-of x.0 j x.1 lj x.2 q) (e x.0 x.1 x.2)).1,
  )
    where
      hull-of : (i j : ℕ) → i < count s → j < count s → a ≡ place_of s i → b ≡ place_of s j → is_hull_side s i j ≡ true
      hull-of i j li lj p q = outline.hull-side s fit m i j li lj (rw (p, q) at h)

  -- Up the lower chain, and down the upper one.
  module _ (z : Place) where
    rise : {t : Place} {l : List Place} → Chain lower Station z t l → Entered z → Entered t × ((e : Edge) → In e (pairs t l) → Run e.from e.to)
    unfolding pairs
    rise (bottom i) h = (h, λ e j. absurd (any_none j))
    rise (more {t = t} {s = r} sd ch) h =
        let x = rise ch h in
        let y = onward-place r t (low-hull Station r t sd) x.0 in
        (y.1, λ e j. ⊎_elim (λ p. subst (λ (e : Edge). Run e.from e.to) (sym p) y.0) (λ k. x.1 e k) (any_cons j))

    fall : {t : Place} {l : List Place} → Chain upper Station z t l → Entered t → Entered z × ((e : Edge) → In e (pairs t l) → Run e.to e.from)
    unfolding pairs
    fall (bottom i) h = (h, λ e j. absurd (any_none j))
    fall (more {t = t} {s = r} sd ch) h =
        let y = onward-place t r (up_hull Station r t sd) h in
        let x = fall ch y.1 in
        (x.0, λ e j. ⊎_elim (λ p. subst (λ (e : Edge). Run e.to e.from) (sym p) y.0) (λ k. x.1 e k) (any_cons j))

    -- From the end of one of their sides on.
    rise_from : {t : Place} {l : List Place} → Chain lower Station z t l → (e : Edge) → In e (pairs t l) → Entered e.to → Entered t
    unfolding pairs
    rise_from (bottom i) e j h = absurd (any_none j)
    rise_from (more {t = t} {s = r} sd ch) e j h =
        ⊎_elim (λ p. subst (λ (e : Edge). Entered e.to) p h) (λ k. (onward-place r t (low-hull Station r t sd) (rise_from ch e k h)).1) (any_cons j)

    fall_from : {t : Place} {l : List Place} → Chain upper Station z t l → (e : Edge) → In e (pairs t l) → Entered e.from → Entered z
    unfolding pairs
    fall_from (bottom i) e j h = absurd (any_none j)
    fall_from (more {t = t} {s = r} sd ch) e j h =
        ⊎_elim (λ p. (fall ch (subst (λ (e : Edge). Entered e.from) p h)).0) (λ k. fall_from ch e k h) (any_cons j)

  -- ---- the stations' two chains
  abbrev first : Place
  first = place_of s m.first

  abbrev others : List Place
  others = map (place_of s) m.rest

  abbrev swept : State
  swept = outline.swept s fit m

  inv : Inv first (first ∷ others) swept
  inv = outline.swept-inv s fit m

  -- A hull side is on one of them.
  on_chain : {A : Type 0} (i j : ℕ) → is_hull_side s i j ≡ true
      → ((e : Edge) → In e (pairs swept.top swept.lo) → e.from ≡ place_of s i → e.to ≡ place_of s j → A)
      → ((e : Edge) → In e (pairs swept.top swept.up) → e.to ≡ place_of s i → e.from ≡ place_of s j → A) → A
  unfolding outline_of
  on_chain i j h low high =
      ⊎_elim (λ q. low (edge (place_of s i) (place_of s j)) (any_reverse _ q) refl refl)
      (λ q. let r = any_find (any_map turned _ q) in high r.0 r.1 (sym (ap (λ e. e.from) r.2)) (sym (ap (λ e. e.to) r.2)))
      (any_split (reverse (pairs swept.top swept.lo)) ((m.all.outline_is (place_of s i) (place_of s j)).1 (outline.side-hull s fit m i j h).2))

  -- ---- all of the hull is run
  -- Round from one side that is run.
  all_round : (i j : ℕ) → is_hull_side s i j ≡ true → 0 < runs_in i j ts → Entered first
  all_round i j h l =
      on_chain i j h (λ e q p r. (fall first inv.high (rise_from first inv.low e q (subst Entered (sym r) at_end))).0)
      (λ e q p r. fall_from first inv.high e q (subst Entered (sym r) at_end))
    where
      at_end : Entered (place_of s j)
      at_end k lk e = rw (← outline.one_place s fit m j k (outline.side-hull s fit m i j h).1 lk e) (entered i j h l)

  -- One is: else the areas would sum to 0.
  some-rim : (i : ℕ) × (j : ℕ) × (is_hull_side s i j ≡ true) × (0 < runs_in i j ts)
  unfolding rim-runs
  some-rim = found (grid-some (count s) (λ i j. rim-runs i j * cross i j) some-area)
    where
      cross : ℕ → ℕ → ℕ
      cross i j = xy (place_of s i) (place_of s j)

      less : (t : Three ℕ) → In t ts → circuit (λ i j. cross j i) t < circuit cross t
      less t q = omega (arith, int, woven.positive t q, (twice_is (placed s t)).is)

      some-area : 0 < grid (λ i j. rim-runs i j * cross i j) (count s)
      some-area =
          omega (
            arith,
            exchange s ts woven.stations rim-runs (λ i j li lj. balance i j) cross,
            total-less (circuit (λ i j. cross j i)) (circuit cross) ts less (any_find (woven.used 0 (omega (arith, fit.least)))).1,
          )

      hull : (i j : ℕ) (b : Bool) → is_hull_side s i j ≡ b → 0 < cond b (runs_in i j ts) 0 * cross i j → (is_hull_side s i j ≡ true) × (0 < runs_in i j ts)
      hull i j true e l = (e, go (dec_lt 0 (runs_in i j ts)))
        where
          go : Dec (0 < runs_in i j ts) → 0 < runs_in i j ts
          go (yes l) = l
          go (no n) = let e : runs_in i j ts ≡ 0 = omega arith in absurd (omega (arith, rw e at l))
      hull i j false e l = absurd (omega arith)

      found : (i : ℕ) × (i < count s) × (j : ℕ) × (j < count s) × (0 < rim-runs i j * cross i j)
          → (i : ℕ) × (j : ℕ) × (is_hull_side s i j ≡ true) × (0 < runs_in i j ts)
      found r = let h = hull r.0 r.2 (is_hull_side s r.0 r.2) refl r.4 in (r.0, r.2, h.0, h.1)

  rim-run : (i j : ℕ) → is_hull_side s i j ≡ true → runs_in i j ts ≡ 1
  rim-run i j h =
      on_chain i j h (λ e q p r. low.1 e q i j li lj p r) (λ e q p r. (fall first inv.high low.0).1 e q i j li lj p r)
    where
      li : i < count s
      li = (outline.side-hull s fit m i j h).0

      lj : j < count s
      lj = (outline.side-hull s fit m i j h).1

      low : Entered swept.top × ((e : Edge) → In e (pairs swept.top swept.lo) → Run e.from e.to)
      low = let r = some-rim in rise first inv.low (all_round r.0 r.1 r.2 r.3)

  -- ---- so the hull is their boundary
  balanced : Balanced s ts
  unfolding rim-runs
  balanced =
      record {
        stations = woven.stations;
        positive = woven.positive;
        even = λ i j li lj. all i j (is_hull_side s i j) (is_hull_side s j i) refl refl (balance i j);
      }
    where
      all : (i j : ℕ) (b c : Bool) → is_hull_side s i j ≡ b → is_hull_side s j i ≡ c
          → runs_in i j ts + cond c (runs_in j i ts) 0 ≡ runs_in j i ts + cond b (runs_in i j ts) 0 → runs_in i j ts + cond c 1 0 ≡ runs_in j i ts + cond b 1 0
      all i j true true e f h = absurd (outline.one_way s fit m i j e f)
      all i j true false e f h = omega (arith, rim-run i j e, h)
      all i j false true e f h = omega (arith, rim-run j i f, h)
      all i j false false e f h = h

-- So they hold no station but at their corners, and are a mesh, with the areas, the counts and the cover; and a mesh meets what is asked.
pub woven-mesh : (s : Survey) → Fit s → (ts : List (Three ℕ)) → Woven s ts → MeshOf s ts
woven-mesh s fit ts woven =
    let all = balanced s fit (survey-mesh s fit) ts woven in
    balanced-mesh s fit ts all (clear s fit ts all woven.used)

pub mesh-woven : (s : Survey) (ts : List (Three ℕ)) → MeshOf s ts → Woven s ts
mesh-woven s ts mesh =
    record { stations = mesh.stations; positive = mesh.positive; even = mesh-even s ts mesh; single = λ i j e. mesh.once i j; used = mesh.used }
