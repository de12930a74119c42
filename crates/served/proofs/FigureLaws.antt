-- What the code that counts a triangle leans on: its places are near, its areas are not negative, and its parts are the definition's.
-- Assumes nothing.
use mathlib.Core.Path.{◌≡◌, refl, sym, ap, ◌∙◌, subst}
use mathlib.Core.Bool.{Bool, true, false, not, xor}
use mathlib.Core.List.{List, [], ◌∷◌}
use Prim.Native.Nat.{ℕ, ◌≤◌, ◌<◌}
use native.Mathlib.Omega.{arith}
use native.Mathlib.Decide.{dec_lt}
use borrow.Author.Tests.{lt-ltb, le-ltb}
use lib.IntN.{ℤ, pos, ◌*ℤ◌}
use lib.Signed.{◌≤ℤ◌, ◌<ℤ◌}
use Rattle.whole.proofs.Bridge.{int}
use Rattle.whole.proofs.SignLaws.{nonneg-mul}
use Rattle.whole.proofs.TurnLaws.{turn-cycle}
use Rattle.survey.specs.Survey.{Survey, count, place_of, height_of}
use Rattle.curve.specs.Below.{below, is_crossed}
use Rattle.curve.specs.Bracket.{bracket_of}
use Rattle.curve.specs.Curve.{curve_of, scaled}
use Rattle.curve.specs.declared.spot.Spot.{Spot}
use Rattle.curve.proofs.SpotLaws.{side-bracket, spot-le}
use Rattle.sweep.specs.Sweep.{Three, tri}
use Rattle.trace.specs.Side.{◌⟶◌, side_of}
use Rattle.spots.specs.Lines.{is_below, end_at, spot_between, spot_on}
use Rattle.spots.specs.Prepared.{Crossing}
use Rattle.served.specs.declared.outline.Cut.{Cut}
use Rattle.survey.specs.declared.answers.Figures.{Figures}
use Rattle.ground.specs.Segments.{station_place, standing, spot_place}
use Rattle.parcels.specs.Parts.{part_of}
use Rattle.parcels.specs.Area.{twice_within}
use Rattle.served.specs.Figures.{most_area, Near, AllRanged, Counter, corner_spot, CutAt, figures_by, PartsOf}
use Rattle.parcels.proofs.AreaLaws.{whole-area}
use Rattle.ground.proofs.CutLaws.{Named, from_a}
use Rattle.ground.proofs.ShareLaws.{not_back, crossed_is}
use Rattle.parcels.proofs.OutlineLaws.{part_none, part_all, part_one, part-two, part-named}
use Rattle.parcels.proofs.PartLaws.{cut-area, left-area}

-- ---- places
pub near-place : (s : Survey) (k : ℕ) → (place_of s k).x ≤ 8191 → (place_of s k).y ≤ 8191 → Near (corner_spot s.xs s.ys k)
near-place s k h l = record { x-near = omega arith; y-near = omega arith }

module _ (s : Survey) (slopes : List ℤ) (style : ℕ) (level : ℤ) (ranged : AllRanged s slopes) where
  pub near-corner : (k : ℕ) → k < count s → Near (corner_spot s.xs s.ys k)
  near-corner k h = near-place s k (ranged.ranged k h).x-range (ranged.ranged k h).y-range

  near-between : {i j : ℕ} → i < count s → j < count s → is_crossed level (height_of s i) (height_of s j) ≡ true → Near (spot_between s slopes style level i j)
  near-between {i} {j} hi hj e =
      let low = end_at s slopes i in
      let high = end_at s slopes j in
      let k = bracket_of (curve_of style low high) (scaled style level) in
      let within = (side-bracket style low high level e).within in
      record {
        x-near = spot-le low.x high.x k within (ranged.ranged i hi).x-range (ranged.ranged j hj).x-range;
        y-near = spot-le low.y high.y k within (ranged.ranged i hi).y-range (ranged.ranged j hj).y-range;
      }

  pub crossing : {i j : ℕ} → i < count s → j < count s → is_crossed level (height_of s i) (height_of s j) ≡ true → Crossing s slopes level i j
  crossing {i} {j} hi hj e = record { low_in = hi; high_in = hj; low-range = ranged.ranged i hi; high-range = ranged.ranged j hj; crossed = e }

xor_back : (a b : Bool) → xor a b ≡ true → xor b a ≡ true
unfolding xor
xor_back true true e = e
xor_back true false e = e
xor_back false true e = e
xor_back false false e = e

pub crossed_back : (level z1 z2 : ℤ) → is_crossed level z1 z2 ≡ true → is_crossed level z2 z1 ≡ true
crossed_back level z1 z2 e = xor_back (below level z1) (below level z2) e

-- The spot on a side, as the code finds it: from the lower station.
module _ (s : Survey) (slopes : List ℤ) (style : ℕ) (level : ℤ) {i j : ℕ} where
  pub spot_first : i < j → spot_on s slopes style level (side_of (i ⟶ j)) ≡ spot_between s slopes style level i j
  unfolding side_of spot_on
  spot_first h = rw (lt-ltb i j h)

  pub spot-second : j ≤ i → spot_on s slopes style level (side_of (i ⟶ j)) ≡ spot_between s slopes style level j i
  unfolding side_of spot_on
  spot-second h = rw (le-ltb i j h)

  pub near-spot : AllRanged s slopes → i < count s → j < count s → is_crossed level (height_of s i) (height_of s j) ≡ true
      → Near (spot_on s slopes style level (side_of (i ⟶ j)))
  near-spot ranged hi hj e = go (dec_lt i j)
    where
      go : Dec (i < j) → Near (spot_on s slopes style level (side_of (i ⟶ j)))
      go (yes h) = subst Near (sym (spot_first h)) (near-between s slopes style level ranged hi hj e)
      go (no h) = subst Near (sym (spot-second (omega arith))) (near-between s slopes style level ranged hj hi (crossed_back level (height_of s i) (height_of s j) e))

-- ---- areas
nonneg-parts : (n : ℕ) {y z : ℤ} → y ≡ pos n *ℤ z → pos 0 <ℤ z → pos 0 ≤ℤ y
nonneg-parts n {y} {z} e h = rw e (nonneg-mul {a = pos n} {b = z} (omega (arith, int)) (omega (arith, int)))

module _ (s : Survey) (slopes : List ℤ) (style : ℕ) (level : ℤ) (v w u : ℕ) (h : Counter s (tri v w u)) where
  pub whole-nonneg : pos 0 ≤ℤ twice_within (station_place s v ∷ station_place s w ∷ station_place s u ∷ [])
  whole-nonneg = nonneg-parts 16384 (whole-area (place_of s v) (place_of s w) (place_of s u)) h.positive

  module _ (e : is_below s level w ≡ not (is_below s level v)) (f : is_below s level u ≡ not (is_below s level v)) where
    pub corner-nonneg : pos 0 ≤ℤ twice_within (station_place s v ∷ spot_place s slopes style level (v ⟶ w) ∷ spot_place s slopes style level (u ⟶ v) ∷ [])
    corner-nonneg = nonneg-parts _ (cut-area s slopes style level h.stations from_a e f) h.positive

    pub rest-nonneg :
        pos 0 ≤ℤ twice_within (spot_place s slopes style level (v ⟶ w) ∷ station_place s w ∷ station_place s u ∷ spot_place s slopes style level (u ⟶ v) ∷ [])
    rest-nonneg = nonneg-parts _ (left-area s slopes style level h.stations from_a e f) h.positive

    pub crossed-vw : is_crossed level (height_of s v) (height_of s w) ≡ true
    crossed-vw = crossed_is s slopes style level h.stations.on_a h.stations.on_b e

    pub crossed-uv : is_crossed level (height_of s u) (height_of s v) ≡ true
    crossed-uv = crossed_is s slopes style level h.stations.on_c h.stations.on_a (not_back (is_below s level v) f)

-- ---- what the code holds of a triangle v, w, u that is cut at v: its corners and its spots
module _ (s : Survey) (slopes : List ℤ) (style : ℕ) (level : ℤ) (v w u : ℕ) (ranged : AllRanged s slopes) (h : Counter s (tri v w u))
    (e : is_below s level w ≡ not (is_below s level v)) (f : is_below s level u ≡ not (is_below s level v)) {a b c p q : Spot}
    (at_a : a ≡ corner_spot s.xs s.ys v) (at_b : b ≡ corner_spot s.xs s.ys w) (at_c : c ≡ corner_spot s.xs s.ys u)
    (at_p : p ≡ spot_on s slopes style level (side_of (v ⟶ w))) (at-q : q ≡ spot_on s slopes style level (side_of (u ⟶ v))) where
  near_p : Near p
  near_p = subst Near (sym at_p) (near-spot s slopes style level ranged h.stations.on_a h.stations.on_b (crossed-vw s slopes style level v w u h e f))

  near-q : Near q
  near-q = subst Near (sym at-q) (near-spot s slopes style level ranged h.stations.on_c h.stations.on_a (crossed-uv s slopes style level v w u h e f))

  pub corner-asked : Near a × Near p × Near q × (pos 0 ≤ℤ twice_within (standing a ∷ standing p ∷ standing q ∷ []))
  unfolding spot_place
  corner-asked = (
    subst Near (sym at_a) (near-corner s slopes style level ranged v h.stations.on_a),
    near_p,
    near-q,
    rw (at_a, at_p, at-q) (corner-nonneg s slopes style level v w u h e f),
  )

  pub rest-asked : Near p × Near b × Near c × Near q × (pos 0 ≤ℤ twice_within (standing p ∷ standing b ∷ standing c ∷ standing q ∷ []))
  unfolding spot_place
  rest-asked = (
    near_p,
    subst Near (sym at_b) (near-corner s slopes style level ranged w h.stations.on_b),
    subst Near (sym at_c) (near-corner s slopes style level ranged u h.stations.on_c),
    near-q,
    rw (at_p, at_b, at_c, at-q) (rest-nonneg s slopes style level v w u h e f),
  )

  pub cut_is : {r : Cut} → (pos r.corner ≡ twice_within (standing a ∷ standing p ∷ standing q ∷ [])) × (r.corner ≤ most_area)
      → (pos r.rest ≡ twice_within (standing p ∷ standing b ∷ standing c ∷ standing q ∷ [])) × (r.rest ≤ most_area) → CutAt s slopes style level v w u r
  unfolding spot_place
  cut_is k l =
      record {
        corner_is = k.0 ∙ (λ i. twice_within (standing (at_a i) ∷ standing (at_p i) ∷ standing (at-q i) ∷ []));
        rest_is = l.0 ∙ (λ i. twice_within (standing (at_p i) ∷ standing (at_b i) ∷ standing (at_c i) ∷ standing (at-q i) ∷ []));
        corner-most = k.1;
        rest-most = l.1;
      }

-- ---- the parts of a triangle, by the areas r of a corner and of the rest: the corner's is that of its side of the level
nothing-within : twice_within [] ≡ pos 0
unfolding twice_within
nothing-within = refl

twice_not : (f : Bool) → f ≡ not (not f)
twice_not true = refl
twice_not false = refl

module _ (s : Survey) (slopes : List ℤ) (style : ℕ) (level : ℤ) (r : Cut) {g : Figures} where
  parts_by : (t : Three ℕ) (f : Bool) → g ≡ figures_by f r → r.corner ≤ most_area → r.rest ≤ most_area
      → twice_within (part_of s slopes style level f t) ≡ pos r.corner → twice_within (part_of s slopes style level (not f) t) ≡ pos r.rest
      → PartsOf s slopes style level t g
  parts_by t true made k l e h =
      subst (PartsOf s slopes style level t) (sym made) (record { served-part = sym h; unserved-part = sym e; served-most = l; unserved-most = k })
  parts_by t false made k l e h =
      subst (PartsOf s slopes style level t) (sym made) (record { served-part = sym e; unserved-part = sym h; served-most = k; unserved-most = l })

  -- A corner v is cut off.
  pub parts_cut : {t : Three ℕ} {v w u : ℕ} → Named t v w u → (f : Bool) → g ≡ figures_by f r
      → is_below s level v ≡ f → is_below s level w ≡ not f → is_below s level u ≡ not f → CutAt s slopes style level v w u r → PartsOf s slopes style level t g
  parts_cut {t} {v} {w} {u} named f made e p q k =
      parts_by t f made k.corner-most k.rest-most
      (part-named s slopes style level f named ∙ ap twice_within (part_one s slopes style level f v w u e p q) ∙ sym k.corner_is)
      (part-named s slopes style level (not f) named ∙ ap twice_within (part-two s slopes style level (not f) v w u (e ∙ twice_not f) p q) ∙ sym k.rest_is)

  -- None is.
  pub parts_whole : (t : Three ℕ) (f : Bool) → g ≡ figures_by f r → is_below s level t.a ≡ f → is_below s level t.b ≡ f → is_below s level t.c ≡ f
      → pos r.corner ≡ twice_within (station_place s t.a ∷ station_place s t.b ∷ station_place s t.c ∷ []) → r.rest ≡ 0 → r.corner ≤ most_area
      → PartsOf s slopes style level t g
  parts_whole t f made e p q k l m =
      parts_by t f made m (omega (arith, l))
      (ap twice_within (part_all s slopes style level f t.a t.b t.c e p q) ∙ sym k)
      (ap twice_within (part_none s slopes style level (not f) t.a t.b t.c (e ∙ twice_not f) (p ∙ twice_not f) (q ∙ twice_not f))
      ∙ nothing-within ∙ ap pos (sym l))

-- A triangle from another of its corners.
pub counter_next : (s : Survey) {a b c : ℕ} → Counter s (tri a b c) → Counter s (tri b c a)
counter_next s {a} {b} {c} h =
    record {
      stations = record { on_a = h.stations.on_b; on_b = h.stations.on_c; on_c = h.stations.on_a };
      positive = subst (λ (z : ℤ). pos 0 <ℤ z) (turn-cycle (place_of s a) (place_of s b) (place_of s c)) h.positive;
    }
