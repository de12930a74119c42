-- What makes a list of triangles a mesh of a survey makes it sound (`mesh-sound`), open lines end on the convex outline (`mesh-hull`),
-- and it and its lines have room (`mesh-triangles-fit`, `mesh-work-fit`, `mesh-vertices-fit`, `mesh-records-fit`), in whichever order the
-- triangles stand and from whichever corner each is written. Assumes nothing.
use mathlib.Core.Path.{◌≡◌, refl, sym, ap, ◌∙◌, subst}
use mathlib.Core.Bool.{Bool, true, false, cond, ◌&&◌, ◌||◌}
use mathlib.Core.List.{List, [], ◌∷◌, map}
use mathlib.Core.Logic.{◌↔◌}
use mathlib.Core.Option.{Option, none, some}
use Prim.Native.Nat.{ℕ, ◌+◌, ◌*◌, ◌≤◌, ◌<◌}
use native.Mathlib.Decide.{ℕ_discrete}
use native.Mathlib.Omega.{arith}
use borrow.Author.Tests.{lt-ltb, le-ltb, eq-eqb, ne_eqb}
use lib.Dec.{eqb, ltb}
use lib.IntN.{pos}
use lib.ListN.{length, length-map}
use lib.Signed.{◌<ℤ◌}
use Rattle.whole.specs.Place.{Place}
use Rattle.whole.specs.Turn.{turn}
use Rattle.whole.proofs.Bridge.{int, minus}
use Rattle.whole.proofs.TurnLaws.{turn-cycle, turn-swap, turn-start}
use Rattle.sweep.specs.Members.{In, total}
use Rattle.sweep.specs.Sweep.{Three, EdgeOf}
use Rattle.survey.specs.Fit.{Fit}
use Rattle.survey.specs.Rooms.{triangle_room, vertex_room, record_room, work_room}
use Rattle.survey.specs.Survey.{Survey, count, place_of}
use Rattle.trace.specs.Side.{Directed, ◌⟶◌, bit, is_same, left_corner, is_there, is_side}
use Rattle.trace.specs.Crossed.{sides}
use Rattle.trace.specs.Lines.{lines, vertices}
use Rattle.trace.specs.Mesh.{count as count_of, boundaries, Has, Sound}
use Rattle.trace.proofs.CountLaws.{Tested, passes, fails, tested, fewer}
use Rattle.trace.proofs.CrossedLaws.{side-ends, sides_once}
use Rattle.trace.proofs.LinesLaws.{lines-meet}
use Rattle.trace.proofs.MeshLaws.{has_all, has_left, has_count, left_has, none_count}
use Rattle.neighbours.specs.Room.{half_for, order}
use Rattle.hull.specs.Hull.{is_hull_side}
use Rattle.hull.specs.MeshOf.{twice_of, OnStations, step_is, runs_in, is_side_in, sides_in, MeshOf}
use Rattle.hull.proofs.SideLaws.{listed_once}
use Rattle.hull.proofs.OutlineLaws.{hull-three}
use Rattle.triangles.proofs.SurveyLaws.{survey-mesh}

-- ---- any mesh of a survey is sound
-- Two ways to say that a step is that from i to j.
step_same : (i j a b : ℕ) → bit (is_same (i ⟶ j) (a ⟶ b)) ≡ step_is i j a b
unfolding is_same step_is
step_same i j a b = by (ℕ_discrete i a) (ℕ_discrete j b)
  where
    by : Dec (i ≡ a) → Dec (j ≡ b) → bit (eqb i a && eqb j b) ≡ cond (eqb a i && eqb b j) 1 0
    by (yes p) (yes q) = rw (eq-eqb i a p, eq-eqb j b q, eq-eqb a i (sym p), eq-eqb b j (sym q))
    by (yes p) (no q) = rw (eq-eqb i a p, ne_eqb j b q, eq-eqb a i (sym p), ne_eqb b j (λ e. q (sym e)))
    by (no p) q = rw (ne_eqb i a p, ne_eqb a i (λ e. p (sym e)))

pub runs-count : (i j : ℕ) (ts : List (Three ℕ)) → count_of (i ⟶ j) (boundaries ts) ≡ runs_in i j ts
unfolding boundaries count_of total
runs-count i j [] = refl
runs-count i j (t ∷ ts) =
    let a = step_same i j t.a t.b in
    let b = step_same i j t.b t.c in
    let c = step_same i j t.c t.a in
    omega (arith, a, b, c, runs-count i j ts)

-- A triangle of a list, from any of its corners: on stations, and counterclockwise.
pub listed-stations : {i j l : ℕ} (s : Survey) (ts : List (Three ℕ)) → ((t : Three ℕ) → In t ts → OnStations s t) → Has i j l ts
    → (i < count s) × (j < count s) × (l < count s)
listed-stations s ts h =
    has_all (λ a b c. (a < count s) × (b < count s) × (c < count s)) (λ a b c h. (h.1, h.2, h.0)) (λ t i. ((h t i).on_a, (h t i).on_b, (h t i).on_c))

pub listed-positive : {i j l : ℕ} (s : Survey) (ts : List (Three ℕ)) → ((t : Three ℕ) → In t ts → pos 0 <ℤ twice_of s t) → Has i j l ts
    → pos 0 <ℤ turn (place_of s i) (place_of s j) (place_of s l)
listed-positive s ts h =
    has_all (λ a b c. pos 0 <ℤ turn (place_of s a) (place_of s b) (place_of s c))
    (λ a b c h. subst (λ z. pos 0 <ℤ z) (turn-cycle (place_of s a) (place_of s b) (place_of s c)) h) h

module _ (s : Survey) (ts : List (Three ℕ)) (m : MeshOf s ts) where
  one : (d : Directed) → count_of d (boundaries ts) ≤ 1
  one (i ⟶ j) = omega (arith, runs-count i j ts, m.once i j)

  -- The triangle of a side is found; its corners are stations; it is counterclockwise.
  pub has_found : {i j l : ℕ} → Has i j l ts → left_corner ts (i ⟶ j) ≡ some l
  has_found = has_left one

  pub has_stations : {i j l : ℕ} → Has i j l ts → (i < count s) × (j < count s) × (l < count s)
  has_stations = listed-stations s ts m.stations

  pub has_positive : {i j l : ℕ} → Has i j l ts → pos 0 <ℤ turn (place_of s i) (place_of s j) (place_of s l)
  has_positive = listed-positive s ts m.positive

  pub mesh-sound : Sound ts (count s)
  mesh-sound =
      record {
        single = one;
        apart = λ a b c h e. omega (arith, int, has_positive h, flat a b c e);
        unshared = λ a b c h k. omega (arith, int, has_positive h, has_positive k, turn-swap (f a) (f b) (f c), minus (pos 0) (turn (f b) (f a) (f c)));
        within = λ a b c h. (has_stations h).0;
      }
    where
      f : ℕ → Place
      f = place_of s

      flat : (a b c : ℕ) → a ≡ b → turn (f a) (f b) (f c) ≡ pos 0
      flat a b c e = ap (λ k. turn (f k) (f b) (f c)) e ∙ turn-cycle (f b) (f b) (f c) ∙ turn-start (f b) (f c)

-- ---- its hull sides
-- The triangle left of i ⟶ j is the side's only one, exactly where i, j is a side of the hull as it runs counterclockwise. So the hull
-- sides at which open lines start and end are those of the convex outline.
pub mesh-hull : (s : Survey) (ts : List (Three ℕ)) → MeshOf s ts → (i j : ℕ)
    → (((c : ℕ) × (left_corner ts (i ⟶ j) ≡ some c)) × (left_corner ts (j ⟶ i) ≡ none)) ↔ (is_hull_side s i j ≡ true)
mesh-hull s ts m i j = (λ h. is (is_hull_side s i j) refl h.0.0 h.0.1 h.1, λ e. (there (left_corner ts (i ⟶ j)) refl e, none_back (left_corner ts (j ⟶ i)) refl e))
  where
    is : (b : Bool) → is_hull_side s i j ≡ b → (c : ℕ) → left_corner ts (i ⟶ j) ≡ some c → left_corner ts (j ⟶ i) ≡ none → is_hull_side s i j ≡ true
    is true e c p q = e
    is false e c p q =
        let run : 0 < runs_in i j ts = omega (arith, runs-count i j ts, has_count (left_has i j c ts p)) in
        absurd (omega (arith, m.shared i j e run, runs-count j i ts, none_count (j ⟶ i) ts q))

    there : (r : Option ℕ) → left_corner ts (i ⟶ j) ≡ r → is_hull_side s i j ≡ true → (c : ℕ) × (left_corner ts (i ⟶ j) ≡ some c)
    there (some c) p e = (c, p)
    there none p e = absurd (omega (arith, (m.hull i j e).0, runs-count i j ts, none_count (i ⟶ j) ts p))

    none_back : (r : Option ℕ) → left_corner ts (j ⟶ i) ≡ r → is_hull_side s i j ≡ true → left_corner ts (j ⟶ i) ≡ none
    none_back none p e = p
    none_back (some c) p e = absurd (omega (arith, (m.hull i j e).1, runs-count j i ts, has_count (left_has j i c ts p)))

-- ---- its lines have room
-- Two ways to say that i and j are joined: a triangle lies left of one direction of the side; a boundary runs one direction of it.
pub side_same : (ts : List (Three ℕ)) (i j : ℕ) → is_side (left_corner ts) (i ⟶ j) ≡ is_side_in ts i j
unfolding is_side is_side_in
side_same ts i j = ap (λ b. ltb i j && b) (by (left_corner ts (i ⟶ j)) (left_corner ts (j ⟶ i)) refl refl)
  where
    by : (m r : Option ℕ) → left_corner ts (i ⟶ j) ≡ m → left_corner ts (j ⟶ i) ≡ r → (is_there m || is_there r) ≡ ltb 0 (runs_in i j ts + runs_in j i ts)
    by (some c) r p q = sym (lt-ltb 0 (runs_in i j ts + runs_in j i ts) (omega (arith, runs-count i j ts, has_count (left_has i j c ts p))))
    by none (some c) p q = sym (lt-ltb 0 (runs_in i j ts + runs_in j i ts) (omega (arith, runs-count j i ts, has_count (left_has j i c ts q))))
    by none none p q =
        sym
        (le-ltb 0 (runs_in i j ts + runs_in j i ts)
        (omega (arith, runs-count i j ts, runs-count j i ts, none_count (i ⟶ j) ts p, none_count (j ⟶ i) ts q)))

-- A pair of stations as a directed side.
abbrev run : EdgeOf ℕ → Directed
run e = e.from ⟶ e.to

pairs-count : (i j : ℕ) (es : List (EdgeOf ℕ)) → count_of (i ⟶ j) (map run es) ≡ total (λ e. step_is i j e.from e.to) es
unfolding count_of total
pairs-count i j [] = refl
pairs-count i j (e ∷ es) = let a = step_same i j e.from e.to in omega (arith, a, pairs-count i j es)

-- So there are no more sides for lines to cross than sides of the mesh.
sides-few : (ts : List (Three ℕ)) (n : ℕ) → Sound ts n → length (sides (left_corner ts) n) ≤ length (sides_in n ts)
sides-few ts n sound = omega (arith, fewer (sides (left_corner ts) n) (map run (sides_in n ts)) among, length-map (sides_in n ts) run)
  where
    by : (i j : ℕ) → Tested (is_side (left_corner ts) (i ⟶ j)) → bit (is_side (left_corner ts) (i ⟶ j)) ≤ count_of (i ⟶ j) (map run (sides_in n ts))
    by i j (fails e) = rw e (omega arith)
    by i j (passes e) =
        let k = side-ends ts n sound i j e in
        let one : total (λ d. step_is i j d.from d.to) (sides_in n ts) ≡ 1 =
        listed_once (is_side_in ts) n i j k.0 k.1 ∙ ap (λ b. cond b 1 0) (sym (side_same ts i j) ∙ e) in
        rw e (omega (arith, pairs-count i j (sides_in n ts), one))

    among : (d : Directed) → count_of d (sides (left_corner ts) n) ≤ count_of d (map run (sides_in n ts))
    among (i ⟶ j) = omega (arith, sides_once ts n sound (i ⟶ j), by i j (tested (is_side (left_corner ts) (i ⟶ j))))

-- With b stations on the hull's edge, three at least, there are 2n-b-2 triangles and 3n-b-3 sides.
pub mesh-triangles-fit : (s : Survey) → Fit s → (ts : List (Three ℕ)) → MeshOf s ts → 3 * length ts ≤ triangle_room (count s)
mesh-triangles-fit s fit ts m = omega (arith, m.triangle-count, hull-three s fit (survey-mesh s fit))

pub mesh-sides-fit : (s : Survey) → Fit s → (ts : List (Three ℕ)) → MeshOf s ts → length (sides (left_corner ts) (count s)) ≤ vertex_room (count s)
mesh-sides-fit s fit ts m =
    omega (arith, sides-few ts (count s) (mesh-sound s ts m), m.side-count, hull-three s fit (survey-mesh s fit))

-- Its records and its sides in order fit the work room.
pub mesh-work-fit : (s : Survey) → Fit s → (ts : List (Three ℕ)) → MeshOf s ts → 2 * (3 * length ts) + length (order ts (count s)) ≤ work_room (count s)
unfolding order
mesh-work-fit s fit ts m =
    omega (arith, mesh-triangles-fit s fit ts m, mesh-sides-fit s fit ts m, length-map (sides (left_corner ts) (count s)) (half_for ts), fit.least)

-- 'line vertices 3n-6 each for x and y; line records (3n-6)/2 rounded down', whatever is below.
pub mesh-vertices-fit : (s : Survey) → Fit s → (ts : List (Three ℕ)) → MeshOf s ts → (below : ℕ → Bool)
    → length (vertices (lines ts below (count s))) ≤ vertex_room (count s)
mesh-vertices-fit s fit ts m below =
    omega (arith, (lines-meet ts below (count s) (mesh-sound s ts m)).most, mesh-sides-fit s fit ts m)

pub mesh-records-fit : (s : Survey) → Fit s → (ts : List (Three ℕ)) → MeshOf s ts → (below : ℕ → Bool)
    → length (lines ts below (count s)) ≤ record_room (count s)
mesh-records-fit s fit ts m below = omega (arith, mesh-vertices-fit s fit ts m below, (lines-meet ts below (count s) (mesh-sound s ts m)).half)
