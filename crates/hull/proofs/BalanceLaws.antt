-- Triangles that have the hull as their boundary cover it once (`covered`, `outside`, `inside`, `areas`) and run no side twice (`once`,
-- `on_hull`, `shared`). Where they hold no station but at their corners they are a mesh: `balanced-mesh`. Assumes nothing.
--
-- Their sides, each as often as it is run, sum with any weight to the same as the sides run back, but for the hull (`boundary`). That is
-- all that the counting of places and of sides asks of the sweep's triangles, so what it says of those it says of these. There are as many
-- as the sweep makes, where no station is held but at a corner, since both have one boundary (`same_count`).
use mathlib.Core.Path.{◌≡◌, refl, sym, ap, ◌∙◌, subst}
use mathlib.Core.Bool.{Bool, true, false, cond}
use mathlib.Core.List.{List, ◌∷◌, map}
use Prim.Native.Nat.{ℕ, ◌+◌, ◌*◌, ◌<◌, ◌≤◌}
use native.Mathlib.Nat.{one-mul}
use native.Mathlib.Omega.{arith}
use native.Mathlib.Decide.{dec_lt}
use lib.IntN.{pos}
use lib.ListN.{length, length-map}
use lib.Signed.{◌≤ℤ◌, ◌<ℤ◌}
use Rattle.whole.specs.Place.{Place}
use Rattle.whole.specs.Turn.{turn}
use Rattle.survey.specs.Fit.{Fit}
use Rattle.survey.specs.Survey.{Survey, count, place_of}
use Rattle.sweep.specs.Boundary.{around, back, on}
use Rattle.sweep.specs.Cover.{Corner, at_a as place-a, at_b as place-b, at_c as place-c, Holds, Inside, Fine, big, scale}
use Rattle.sweep.specs.Hull.{HullSide, twice}
use Rattle.sweep.specs.Members.{Any, In, sum, total}
use Rattle.sweep.specs.Sweep.{Three, Triangle, State}
use Rattle.sweep.proofs.AreaLaws.{xy, areas_of, total-outline}
use Rattle.sweep.proofs.CoverLaws.{ind}
use Rattle.sweep.proofs.CoverLaws as cover
use Rattle.sweep.proofs.Fill.{total-some}
use Rattle.sweep.proofs.Invariants.{Inv, Good}
use Rattle.sweep.proofs.MemberLaws.{any_map, any_find, in_any, total-map}
use Rattle.sweep.proofs.OnceLaws.{sides_once}
use Rattle.sweep.proofs.Within as places
use Rattle.triangles.proofs.OrderLaws.{order-length}
use Rattle.triangles.proofs.SurveyLaws.{SurveyMesh, survey-mesh}
use Rattle.hull.specs.Hull.{is_hull_side, hull_sides, hull_count, twice_hull}
use Rattle.hull.specs.MeshOf.{placed, twice_of, CornerOf, at_a, at_b, at_c, OnStations, runs, runs_in, InHull, OffHull, MeshOf}
use Rattle.hull.proofs.EulerLaws.{Sound, same_count}
use Rattle.hull.proofs.GridLaws.{grid, grid-agree, grid-swap, grid-some, total-ones, total-pairs}
use Rattle.hull.proofs.OutlineLaws as outline
use Rattle.hull.proofs.SideLaws.{sum-map, in_map, one_only, exchange, runs-sides, runs_none, sides-counted}

-- 1 at a hull side, else 0.
abbrev pub hull_runs : Survey → ℕ → ℕ → ℕ
hull_runs s i j = cond (is_hull_side s i j) 1 0

-- Counterclockwise triangles on stations, with the hull as their boundary: each pair of stations is run as often as it is run back, and a
-- hull side once more.
pub record Balanced (s : Survey) (ts : List (Three ℕ)) : Type 0 where
  pub stations : (t : Three ℕ) → In t ts → OnStations s t
  pub positive : (t : Three ℕ) → In t ts → pos 0 <ℤ twice_of s t
  pub even : (i j : ℕ) → i < count s → j < count s → runs_in i j ts + hull_runs s j i ≡ runs_in j i ts + hull_runs s i j

-- No station is in the triangle but its corners.
abbrev pub Clear : Survey → Three ℕ → Type 0
Clear s t = (k : ℕ) → k < count s → Holds turn (placed s t) (place_of s k) → CornerOf k t

module _ (s : Survey) (fit : Fit s) (m : SurveyMesh s) (ts : List (Three ℕ)) (all : Balanced s ts) where
  abbrev tris : List Triangle
  tris = map (placed s) ts

  -- ---- the hull is the boundary
  boundary : (g : Place → Place → ℕ)
      → total (around g) tris + total (on (back g)) (outline.rim s fit m) ≡ total (around (back g)) tris + total (on g) (outline.rim s fit m)
  boundary g =
      omega (
        arith,
        exchange s ts all.stations (hull_runs s) all.even (λ i j. g (place_of s i) (place_of s j)),
        total-map (around g) (placed s) ts,
        total-map (around (back g)) (placed s) ts,
        over-rim g,
        over-rim (back g),
        grid-swap (count s) (λ i j. hull_runs s j i * g (place_of s i) (place_of s j)),
      )
    where
      part : (x : ℕ) (b : Bool) → cond b 1 0 * x ≡ cond b x 0
      part x true = omega arith
      part x false = omega arith

      over-rim : (g : Place → Place → ℕ) → grid (λ i j. hull_runs s i j * g (place_of s i) (place_of s j)) (count s) ≡ total (on g) (outline.rim s fit m)
      over-rim g =
          grid-agree (count s) (λ i j. hull_runs s i j * g (place_of s i) (place_of s j)) (λ i j. cond (is_hull_side s i j) (g (place_of s i) (place_of s j)) 0)
          (λ i j li lj. part (g (place_of s i) (place_of s j)) (is_hull_side s i j))
          ∙ sym (total-pairs (λ e. g (place_of s e.from) (place_of s e.to)) (is_hull_side s) (count s))
          ∙ sym (outline.rim-total s fit m g)

  abbrev Station : Place → Type 0
  Station = outline.Station s fit m

  -- The stations' two chains, as the sweep makes them.
  abbrev first : Place
  first = place_of s m.first

  abbrev others : List Place
  others = map (place_of s) m.rest

  abbrev swept : State
  swept = outline.swept s fit m

  inv : Inv first (first ∷ others) swept
  inv = outline.swept-inv s fit m

  -- The sweep's chains with these triangles.
  abbrev state : State
  state = record { top = swept.top; lo = swept.lo; up = swept.up; tris = tris }

  from_tris : {P : Triangle → Type 0} → Any P tris → Any (λ t. P (placed s t)) ts
  from_tris {P} i = any_map {P = P} (placed s) ts i

  fine : (t : Triangle) → In t tris → Fine (first ∷ others) t
  fine t i =
      let r = any_find (from_tris i) in
      let c = all.stations r.0 r.1 in
      subst (Fine (first ∷ others)) (sym r.2)
      (record {
        left = all.positive r.0 r.1;
        in_a = outline.station-at s fit m r.0.a c.on_a;
        in_b = outline.station-at s fit m r.0.b c.on_b;
        in_c = outline.station-at s fit m r.0.c c.on_c;
      })

  good : Good first (first ∷ others) state
  good =
      record {
        first = inv.first;
        last = inv.last;
        low = inv.low;
        high = inv.high;
        sums = λ g. omega (arith, boundary g, total-outline g swept, total-outline (back g) swept);
        fine = fine;
      }

  -- The hull has a side, and so there is a triangle.
  some-triangle : (t : Three ℕ) × In t ts
  some-triangle = on_side (grid-some (count s) (hull_runs s) some-side)
    where
      some-side : 0 < grid (hull_runs s) (count s)
      some-side =
          omega (
            arith,
            total-pairs (λ e. 1) (is_hull_side s) (count s),
            total-ones (hull_sides s),
            outline.hull-count s fit m,
            outline.hull-three s fit m,
          )

      back_not : (i j : ℕ) (b c : Bool) → is_hull_side s i j ≡ b → is_hull_side s j i ≡ c → ◌≡◌ {A = ℕ} (cond b 1 0) 1 → ◌≡◌ {A = ℕ} (cond c 1 0) 0
      back_not i j true true e f h = absurd (outline.one_way s fit m i j e f)
      back_not i j b false e f h = refl
      back_not i j false true e f h = absurd (omega (arith, h))

      most : (b : Bool) → 0 < cond b 1 0 → ◌≡◌ {A = ℕ} (cond b 1 0) 1
      most true h = refl
      most false h = absurd (omega arith)

      on_side : (i : ℕ) × (i < count s) × (j : ℕ) × (j < count s) × (0 < hull_runs s i j) → (t : Three ℕ) × In t ts
      on_side r =
          let one = most (is_hull_side s r.0 r.2) r.4 in
          let none = back_not r.0 r.2 (is_hull_side s r.0 r.2) (is_hull_side s r.2 r.0) refl refl one in
          let t = any_find (total-some (runs r.0 r.2) ts (omega (arith, all.even r.0 r.2 r.1 r.3, one, none))) in
          (t.0, t.1)

  -- A hull side by stations and by places.
  left-of : (k : ℕ) (q : Place) → InHull s k q → (a b : Place) → HullSide Station a b → pos 0 ≤ℤ turn (scale k a) (scale k b) q
  left-of k q within a b h =
      let x = outline.station_of s fit m a h.from in
      let y = outline.station_of s fit m b h.to in
      rw (x.2, y.2) (within x.0 y.0 (outline.hull-side s fit m x.0 y.0 x.1 y.1 (rw (x.2, y.2) at h)))

  covered : (k : ℕ) → 0 < k → (q : Place) → InHull s k q → Any (λ t. Holds turn (big k (placed s t)) q) ts
  covered k l q within =
      from_tris
      (places.within k l q first (first ∷ others) state good (placed s some-triangle.0) (in_map (placed s) some-triangle.1) (left-of k q within))

  outside : (k : ℕ) → 0 < k → (q : Place) → OffHull s k q → (t : Three ℕ) → In t ts → Holds turn (big k (placed s t)) q → ⊥
  outside k l q off t i h =
      places.outside k l q first (first ∷ others) state good (place_of s off.i) (place_of s off.j)
      (outline.side-hull s fit m off.i off.j off.side).2 off.right (placed s t) (in_map (placed s) i) h

  pub inside : (k : ℕ) → 0 < k → (q : Place) (t u : Three ℕ) → In t ts → In u ts → Inside (big k (placed s t)) q → Inside (big k (placed s u)) q → t ≡ u
  inside k l q t u i j h g =
      one_only (λ t. ind k q (placed s t)) ts (rw (← total-map (ind k q) (placed s) ts) (cover.once k l q first (first ∷ others) state good)) i j
      (cover.inside-ind k l q (placed s t) (all.positive t i) h) (cover.inside-ind k l q (placed s u) (all.positive u j) g)

  areas : sum (twice_of s) ts ≡ twice_hull s
  areas = sym (sum-map twice (placed s) ts) ∙ areas_of tris (outline.rim s fit m) (boundary xy) ∙ outline.rim-area s fit m

  -- ---- sides
  once : (i j : ℕ) → runs_in i j ts ≤ 1
  once i j = go (dec_lt i (count s)) (dec_lt j (count s))
    where
      go : Dec (i < count s) → Dec (j < count s) → runs_in i j ts ≤ 1
      go (yes li) (yes lj) =
          omega (arith, runs-sides s fit m ts all.stations i j li lj, sides_once first (first ∷ others) state good (place_of s i) (place_of s j))
      go (yes li) (no lj) = omega (arith, runs_none s fit m ts all.stations i j (λ u v. lj v))
      go (no li) d = omega (arith, runs_none s fit m ts all.stations i j (λ u v. li u))

  on_hull : (i j : ℕ) → is_hull_side s i j ≡ true → (runs_in i j ts ≡ 1) × (runs_in j i ts ≡ 0)
  on_hull i j h = go (is_hull_side s j i) refl (all.even i j (outline.side-hull s fit m i j h).0 (outline.side-hull s fit m i j h).1 ∙ rw h)
    where
      go : (b : Bool) → is_hull_side s j i ≡ b → runs_in i j ts + hull_runs s j i ≡ runs_in j i ts + 1 → (runs_in i j ts ≡ 1) × (runs_in j i ts ≡ 0)
      go true e x = absurd (outline.one_way s fit m i j h e)
      go false e x = let y : runs_in i j ts + 0 ≡ runs_in j i ts + 1 = rw e at x in (omega (arith, once i j), omega (arith, once i j))

  pub shared : (i j : ℕ) → is_hull_side s i j ≡ false → 0 < runs_in i j ts → runs_in j i ts ≡ 1
  shared i j h l = go (dec_lt i (count s)) (dec_lt j (count s))
    where
      run_back : runs_in i j ts + hull_runs s j i ≡ runs_in j i ts + 0 → runs_in j i ts ≡ 1
      run_back e = omega (arith, once j i)

      go : Dec (i < count s) → Dec (j < count s) → runs_in j i ts ≡ 1
      go (yes li) (yes lj) = run_back (all.even i j li lj ∙ rw h)
      go (yes li) (no lj) = absurd (omega (arith, runs_none s fit m ts all.stations i j (λ u v. lj v)))
      go (no li) d = absurd (omega (arith, runs_none s fit m ts all.stations i j (λ u v. li u)))

  -- ---- where they hold no station but at their corners
  module _ (clear : (t : Three ℕ) → In t ts → Clear s t) where
    -- There are as many as the sweep makes.
    sound : (t : Triangle) → In t tris → Sound s fit m t
    sound t i =
        let r = any_find (from_tris i) in
        let f = fine t i in
        record { left = f.left; in_a = f.in_a; in_b = f.in_b; in_c = f.in_c; clear = subst Free (sym r.2) (free r.0 r.1) }
      where
        Free : Triangle → Type 0
        Free t = (w : Place) → Station w → Holds turn t w → Corner w t

        corner : (k : ℕ) (u : Three ℕ) → CornerOf k u → Corner (place_of s k) (placed s u)
        corner k u (at_a e) = place-a (ap (place_of s) e)
        corner k u (at_b e) = place-b (ap (place_of s) e)
        corner k u (at_c e) = place-c (ap (place_of s) e)

        free : (u : Three ℕ) → In u ts → Free (placed s u)
        free u j w q h =
            let k = outline.station_of s fit m w q in
            subst (λ w. Corner w (placed s u)) (sym k.2) (corner k.0 u (clear u j k.0 k.1 (subst (Holds turn (placed s u)) k.2 h)))

    swept-sound : (t : Triangle) → In t swept.tris → Sound s fit m t
    swept-sound t i = let f = inv.fine t i in record { left = f.left; in_a = f.in_a; in_b = f.in_b; in_c = f.in_c; clear = inv.clear t i }

    triangle-count : length ts + hull_count s + 2 ≡ 2 * count s
    triangle-count =
        omega (
          arith,
          same_count s fit m tris swept.tris sound swept-sound (λ g. omega (arith, boundary g, m.all.boundary g)),
          length-map ts (placed s),
          m.all.count,
          length-map m.rest (place_of s),
          ap length m.order,
          order-length s fit,
          outline.rim-length s fit m,
          outline.hull-count s fit m,
        )

    -- Every station is a corner: it is in the hull, so a triangle holds it, and what a triangle holds is its corner.
    used : (k : ℕ) → k < count s → Any (CornerOf k) ts
    used k l =
        let r = any_find (covered 1 (omega arith) (place_of s k) within) in in_any r.1 (clear r.0 r.1 k l (plain r.0 r.2))
      where
        one : (i : ℕ) → scale 1 (place_of s i) ≡ place_of s i
        one i = λ r. record { x = one-mul (place_of s i).x r; y = one-mul (place_of s i).y r }

        within : InHull s 1 (place_of s k)
        within i j h = rw (one i, one j) ((outline.side-hull s fit m i j h).2.left (place_of s k) (outline.station-at s fit m k l))

        plain : (t : Three ℕ) → Holds turn (big 1 (placed s t)) (place_of s k) → Holds turn (placed s t) (place_of s k)
        plain t h =
            record {
              ab = rw (one t.a, one t.b) at h.ab;
              bc = rw (one t.b, one t.c) at h.bc;
              ca = rw (one t.c, one t.a) at h.ca;
            }

-- They are a mesh.
pub balanced-mesh : (s : Survey) → Fit s → (ts : List (Three ℕ)) → Balanced s ts → ((t : Three ℕ) → In t ts → Clear s t) → MeshOf s ts
balanced-mesh s fit ts all clear =
    let m = survey-mesh s fit in
    record {
      stations = all.stations;
      positive = all.positive;
      areas = areas s fit m ts all;
      triangle-count = triangle-count s fit m ts all clear;
      side-count =
          sides-counted s fit ts all.stations all.positive (once s fit m ts all) (on_hull s fit m ts all) (shared s fit m ts all)
          (triangle-count s fit m ts all clear);
      used = used s fit m ts all clear;
      clear = clear;
      once = once s fit m ts all;
      hull = on_hull s fit m ts all;
      shared = shared s fit m ts all;
      covered = covered s fit m ts all;
      outside = outside s fit m ts all;
      inside = inside s fit m ts all;
    }

-- A mesh runs a side off the hull as often as it runs it back.
pub mesh-even : (s : Survey) (ts : List (Three ℕ)) → MeshOf s ts → (i j : ℕ) → is_hull_side s i j ≡ false → is_hull_side s j i ≡ false
    → runs_in i j ts ≡ runs_in j i ts
mesh-even s ts mesh i j e f = go (dec_lt 0 (runs_in i j ts)) (dec_lt 0 (runs_in j i ts))
  where
    go : Dec (0 < runs_in i j ts) → Dec (0 < runs_in j i ts) → runs_in i j ts ≡ runs_in j i ts
    go (yes l) d = let r = mesh.shared i j e l in omega (arith, r, mesh.shared j i f (omega (arith, r)))
    go (no l) (yes r) = absurd (omega (arith, mesh.shared j i f r))
    go (no l) (no r) = omega arith

-- And it has the hull as its boundary.
pub mesh-balanced : (s : Survey) (ts : List (Three ℕ)) → MeshOf s ts → Balanced s ts
mesh-balanced s ts mesh =
    record { stations = mesh.stations; positive = mesh.positive; even = λ i j li lj. even i j (is_hull_side s i j) (is_hull_side s j i) refl refl }
  where
    even : (i j : ℕ) (b c : Bool) → is_hull_side s i j ≡ b → is_hull_side s j i ≡ c → runs_in i j ts + cond c 1 0 ≡ runs_in j i ts + cond b 1 0
    even i j true true e f = absurd (omega (arith, (mesh.hull i j e).0, (mesh.hull j i f).1))
    even i j true false e f = omega (arith, (mesh.hull i j e).0, (mesh.hull i j e).1)
    even i j false true e f = omega (arith, (mesh.hull j i f).0, (mesh.hull j i f).1)
    even i j false false e f = omega (arith, mesh-even s ts mesh i j e f)
