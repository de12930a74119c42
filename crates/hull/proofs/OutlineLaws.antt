-- The hull of a survey, found by testing pairs of stations, is the outline of its mesh: `side-hull`, `hull-side`, `rim-total`. Each of
-- its stations starts one of its sides (`hull-count`), and there are three at least (`hull-three`). Assumes nothing.
use mathlib.Core.Path.{◌≡◌, refl, sym, ap, ◌∙◌, subst}
use mathlib.Core.Bool.{Bool, true, false, true≢false, cond, not, ◌&&◌, ◌||◌}
use mathlib.Core.List.{List, [], ◌∷◌, map}
use mathlib.Core.Logic.{◌⊎◌, inl, inr, ⊎_elim}
use Prim.Native.Nat.{ℕ, ◌+◌, ◌*◌, ◌<◌, ◌≤◌}
use native.Mathlib.Omega.{arith}
use native.Mathlib.Decide.{dec_lt}
use borrow.Author.Tests.{lt-ltb, ltb-true, eq-eqb, ne_eqb, not-true}
use lib.Dec.{eqb}
use lib.IntN.{pos}
use lib.ListN.{length}
use Rattle.lists.specs.Lowest.{lowest, some}
use Rattle.lists.proofs.LowestLaws.{none_found, some-found, some-false}
use Rattle.lists.proofs.TestLaws.{and_left, and_right, or_left, or_right}
use Rattle.whole.specs.Place.{Place, Before}
use Rattle.whole.specs.Turn.{turn}
use Rattle.whole.proofs.Bridge.{int, minus, test-false, false-test}
use Rattle.whole.proofs.TurnLaws.{turn-swap, line-turn}
use Rattle.survey.specs.Checks.{is_nonzero}
use Rattle.survey.specs.Fit.{Fit}
use Rattle.survey.specs.Survey.{Survey, count, place_of, in_use}
use Rattle.survey.proofs.CheckLaws.{is_zero, zero_is}
use Rattle.sweep.specs.Boundary.{around, back, on}
use Rattle.sweep.specs.Hull.{Between, HullSide, cross}
use Rattle.sweep.specs.Members.{In, here, there, sum, total}
use Rattle.sweep.specs.Page.{is_before}
use Rattle.sweep.specs.Sweep.{Triangle, State, Edge, mesh, outline}
use Rattle.sweep.proofs.AreaLaws.{sum_is, xy, cross_is}
use Rattle.sweep.proofs.Fill.{total_in, total-some}
use Rattle.sweep.specs.Rising.{Sorted}
use Rattle.sweep.proofs.Invariants.{Inv, mesh-inv}
use Rattle.sweep.proofs.MemberLaws.{any_map, any_find}
use Rattle.sweep.proofs.NextLaws.{next_same}
use Rattle.sweep.proofs.StationLaws.{counted_in}
use Rattle.sweep.proofs.OnceLaws.{eq?, total_mono, side, Hits, it_is, not_it, hits, side_self}
use Rattle.sweep.proofs.PageTests.{before-yes, before_of, in_places}
use Rattle.hull.specs.Hull.{is_right, is_between, is_hull_side, is_hull_station, hull_sides, hull_stations, hull_count, twice_hull}
use Rattle.hull.proofs.GridLaws.{sum_to, sum-agree, sum-zero, sum_one, grid, grid-agree, grid-zero, grid-add, grid_one, total-ones, total-passing, total-pairs}
use Rattle.triangles.proofs.OrderLaws.{order_in, in_order_lem, order-sorted, sorted_rises}
use Rattle.triangles.proofs.SurveyLaws.{SurveyMesh}

-- 1 for yes, 0 for no.
abbrev pub one? : {A : Type 0} → Dec A → ℕ
one? (yes _) = 1
one? (no _) = 0

-- 1 at a side that starts at v, else 0.
from : Place → Place → Place → ℕ
from v a b = one? (eq? a v)

from_self : (v b : Place) → from v v b ≡ 1
unfolding from
from_self v b = go (eq? v v)
  where
    go : (d : Dec (v ≡ v)) → one? d ≡ 1
    go (yes e) = refl
    go (no n) = absurd (n refl)

from_is : (v a b : Place) → 0 < from v a b → a ≡ v
unfolding from
from_is v a b h = go (eq? a v) h
  where
    go : (d : Dec (a ≡ v)) → 0 < one? d → a ≡ v
    go (yes e) l = e
    go (no n) l = absurd (omega arith)

module _ (s : Survey) (fit : Fit s) (m : SurveyMesh s) where
  -- The places of the stations, the triangles of their mesh, and its outline.
  abbrev pub Station : Place → Type 0
  Station w = In w (place_of s m.first ∷ map (place_of s) m.rest)

  abbrev pub tris : List Triangle
  tris = (mesh (place_of s m.first) (map (place_of s) m.rest)).tris

  abbrev pub rim : List Edge
  rim = outline (mesh (place_of s m.first) (map (place_of s) m.rest))

  -- The sweep's state at its end, and what it keeps.
  abbrev pub swept : State
  swept = mesh (place_of s m.first) (map (place_of s) m.rest)

  pub swept-inv : Inv (place_of s m.first) (place_of s m.first ∷ map (place_of s) m.rest) swept
  swept-inv =
      mesh-inv (place_of s m.first) (map (place_of s) m.rest)
      (sorted_rises (place_of s) m.first m.rest (subst (Sorted (place_of s)) m.order (order-sorted s fit)))

  pub station-at : (k : ℕ) → k < count s → Station (place_of s k)
  station-at k l = in_places (place_of s) (subst (In k) m.order (in_order_lem s fit k l))

  pub station_of : (w : Place) → Station w → (k : ℕ) × (k < count s) × (w ≡ place_of s k)
  station_of w i = go (any_find (any_map (place_of s) (m.first ∷ m.rest) i))
    where
      go : (k : ℕ) × In k (m.first ∷ m.rest) × (w ≡ place_of s k) → (k : ℕ) × (k < count s) × (w ≡ place_of s k)
      go r = (r.0, order_in s fit {x = r.0} (subst (In r.0) (sym m.order) r.1), r.2)

  -- Stations at one place are one station.
  pub one_place : (i j : ℕ) → i < count s → j < count s → place_of s i ≡ place_of s j → i ≡ j
  one_place i j li lj e = go (dec_lt i j) (dec_lt j i)
    where
      go : Dec (i < j) → Dec (j < i) → i ≡ j
      go (yes h) _ = absurd (fit.apart i j h (lt-ltb i (count s) li) (lt-ltb j (count s) lj) e)
      go (no h) (yes k) = absurd (fit.apart j i k (lt-ltb j (count s) lj) (lt-ltb i (count s) li) (sym e))
      go (no h) (no k) = omega arith

  -- ---- the test of a hull side
  between-yes : (i j w : ℕ) → Between (place_of s i) (place_of s w) (place_of s j) → is_between s i j w ≡ true
  unfolding is_between
  between-yes i j w b = rw (is_zero _ b.flat) (go b.amid)
    where
      second : (x : Bool) → (x || true) ≡ true
      second true = refl
      second false = refl

      go : (Before (place_of s i) (place_of s w) × Before (place_of s w) (place_of s j)) ⊎ (Before (place_of s j) (place_of s w) × Before (place_of s w) (place_of s i))
          → ((is_before (place_of s i) (place_of s w) && is_before (place_of s w) (place_of s j))
          || (is_before (place_of s j) (place_of s w) && is_before (place_of s w) (place_of s i))) ≡ true
      go (inl p) = rw (before-yes _ _ p.0, before-yes _ _ p.1)
      go (inr p) = rw (before-yes _ _ p.0, before-yes _ _ p.1) (second (is_before (place_of s i) (place_of s w) && is_before (place_of s w) (place_of s j)))

  between_of : (i j w : ℕ) → is_between s i j w ≡ true → Between (place_of s i) (place_of s w) (place_of s j)
  unfolding is_between
  between_of i j w h =
      record {
        flat = zero_is _ (not-true _ (and_left (not (is_nonzero (turn (place_of s i) (place_of s j) (place_of s w)))) _ h));
        amid =
            go (is_before (place_of s i) (place_of s w)) (is_before (place_of s w) (place_of s j)) refl refl
            (and_right (not (is_nonzero (turn (place_of s i) (place_of s j) (place_of s w)))) _ h);
      }
    where
      go : (x y : Bool) → is_before (place_of s i) (place_of s w) ≡ x → is_before (place_of s w) (place_of s j) ≡ y
          → ((x && y) || (is_before (place_of s j) (place_of s w) && is_before (place_of s w) (place_of s i))) ≡ true
          → (Before (place_of s i) (place_of s w) × Before (place_of s w) (place_of s j))
          ⊎ (Before (place_of s j) (place_of s w) × Before (place_of s w) (place_of s i))
      go true true e g k = inl (before_of _ _ e, before_of _ _ g)
      go true false e g k = inr (before_of _ _ (and_left _ _ k), before_of _ _ (and_right (is_before (place_of s j) (place_of s w)) _ k))
      go false y e g k = inr (before_of _ _ (and_left _ _ k), before_of _ _ (and_right (is_before (place_of s j) (place_of s w)) _ k))

  -- A pair of stations that passes the test is a side of the convex outline.
  pub side-hull : (i j : ℕ) → is_hull_side s i j ≡ true → (i < count s) × (j < count s) × HullSide Station (place_of s i) (place_of s j)
  unfolding is_hull_side is_right
  side-hull i j h = (
    li,
    lj,
    record {
      from = station-at i li;
      to = station-at j lj;
      differ = λ e. true≢false (sym (eq-eqb i j (one_place i j li lj e)) ∙ not-true _ (and_left (not (eqb i j)) _ tests));
      left = λ w q. let k = station_of w q in rw k.2 (test-false (or_left _ _ (clear k.0 k.1)));
      none = λ w q b.
          let k = station_of w q in
          true≢false (sym (between-yes i j k.0 (rw k.2 at b)) ∙ or_right (is_right s i j k.0) _ (clear k.0 k.1));
    },
  )
    where
      used : (in_use s i && in_use s j) ≡ true
      used = and_left (in_use s i && in_use s j) _ h

      li : i < count s
      li = ltb-true i (count s) (and_left _ _ used)

      lj : j < count s
      lj = ltb-true j (count s) (and_right (in_use s i) _ used)

      tests : (not (eqb i j) && not (some (λ w. is_right s i j w || is_between s i j w) (count s))) ≡ true
      tests = and_right (in_use s i && in_use s j) _ h

      clear : (w : ℕ) → w < count s → (is_right s i j w || is_between s i j w) ≡ false
      clear w l = none_found (λ w. is_right s i j w || is_between s i j w) (count s) (not-true _ (and_right (not (eqb i j)) _ tests)) w l

  -- And a side of the outline passes it.
  pub hull-side : (i j : ℕ) → i < count s → j < count s → HullSide Station (place_of s i) (place_of s j) → is_hull_side s i j ≡ true
  unfolding is_hull_side is_right
  hull-side i j li lj h =
      rw (
        lt-ltb i (count s) li,
        lt-ltb j (count s) lj,
        ne_eqb i j (λ e. h.differ (ap (place_of s) e)),
        some-false (λ w. is_right s i j w || is_between s i j w) (count s) clear,
      )
    where
      apart : (w : ℕ) → w < count s → (b : Bool) → is_between s i j w ≡ b → b ≡ false
      apart w l true e = absurd (h.none (place_of s w) (station-at w l) (between_of i j w e))
      apart w l false e = refl

      clear : (w : ℕ) → w < count s → (is_right s i j w || is_between s i j w) ≡ false
      clear w l = rw (false-test (h.left (place_of s w) (station-at w l)), apart w l (is_between s i j w) refl)

  -- ---- sums over the outline
  -- The outline has each hull side once.
  pub rim-count : (i j : ℕ) → i < count s → j < count s → total (on (side (place_of s i) (place_of s j))) rim ≡ cond (is_hull_side s i j) 1 0
  rim-count i j li lj = go (is_hull_side s i j) refl
    where
      go : (b : Bool) → is_hull_side s i j ≡ b → total (on (side (place_of s i) (place_of s j))) rim ≡ cond b 1 0
      go true e =
          omega (
            arith,
            total_in (on (side (place_of s i) (place_of s j))) ((m.all.outline_is (place_of s i) (place_of s j)).1 (side-hull i j e).2),
            side_self (place_of s i) (place_of s j),
            m.all.outline-ones (place_of s i) (place_of s j),
          )
      go false e = at (dec_lt 0 (total (on (side (place_of s i) (place_of s j))) rim))
        where
          at : Dec (0 < total (on (side (place_of s i) (place_of s j))) rim) → total (on (side (place_of s i) (place_of s j))) rim ≡ 0
          at (yes h) =
              absurd
              (true≢false
              (sym (hull-side i j li lj ((m.all.outline_is (place_of s i) (place_of s j)).0 (counted_in (place_of s i) (place_of s j) rim h))) ∙ e))
          at (no h) = omega arith

  -- A side between stations.
  record Ends (e : Edge) : Type 0 where
    i : ℕ
    j : ℕ
    li : i < count s
    lj : j < count s
    from_is : e.from ≡ place_of s i
    to_is : e.to ≡ place_of s j

  rim-ends : (e : Edge) → In e rim → Ends e
  rim-ends e i =
      let h = (m.all.outline_is e.from e.to).0 i in
      let a = station_of e.from h.from in
      let b = station_of e.to h.to in
      record { i = a.0; j = b.0; li = a.1; lj = b.1; from_is = a.2; to_is = b.2 }

  -- A sum over sides between stations, by pairs of stations.
  ends-total : (g : Place → Place → ℕ) (es : List Edge) → ((e : Edge) → In e es → Ends e)
      → total (on g) es ≡ grid (λ i j. total (on (side (place_of s i) (place_of s j))) es * g (place_of s i) (place_of s j)) (count s)
  unfolding total
  ends-total g [] h = sym (grid-zero (count s) (λ i j. 0 * g (place_of s i) (place_of s j)) (λ i j li lj. omega arith))
  ends-total g (e ∷ es) h =
      omega (
        arith,
        grid-agree (count s) (λ i j. (here_at i j + rest_at i j) * g (place_of s i) (place_of s j))
            (λ i j. here_at i j * g (place_of s i) (place_of s j) + rest_at i j * g (place_of s i) (place_of s j)) (λ i j li lj. omega arith),
        grid-add (count s) (λ i j. here_at i j * g (place_of s i) (place_of s j)) (λ i j. rest_at i j * g (place_of s i) (place_of s j)),
        ends-total g es (λ d q. h d (there q)),
        one (h e (here refl)),
      )
    where
      here_at : ℕ → ℕ → ℕ
      here_at i j = side (place_of s i) (place_of s j) e.from e.to

      rest_at : ℕ → ℕ → ℕ
      rest_at i j = total (on (side (place_of s i) (place_of s j))) es

      one : Ends e → grid (λ i j. here_at i j * g (place_of s i) (place_of s j)) (count s) ≡ g e.from e.to
      one n =
          grid_one (count s) (λ i j. here_at i j * g (place_of s i) (place_of s j)) n.i n.j n.li n.lj other
          ∙ rw (n.from_is, n.to_is, side_self (place_of s n.i) (place_of s n.j)) (omega arith)
        where
          other : (i j : ℕ) → i < count s → j < count s → (i ≡ n.i → j ≡ n.j → ⊥) → here_at i j * g (place_of s i) (place_of s j) ≡ 0
          other i j li lj d = by (hits (place_of s i) (place_of s j) e.from e.to)
            where
              by : Hits (place_of s i) (place_of s j) e.from e.to (side (place_of s i) (place_of s j) e.from e.to)
                  → here_at i j * g (place_of s i) (place_of s j) ≡ 0
              by (it_is p q z) = absurd (d (one_place i n.i li n.li (sym p ∙ n.from_is)) (one_place j n.j lj n.lj (sym q ∙ n.to_is)))
              by (not_it k z) = rw z (omega arith)

  -- A sum over the outline is the same sum over the list of hull sides.
  pub rim-total : (g : Place → Place → ℕ) → total (on g) rim ≡ total (λ e. g (place_of s e.from) (place_of s e.to)) (hull_sides s)
  rim-total g =
      ends-total g rim rim-ends
      ∙ grid-agree (count s) (λ i j. total (on (side (place_of s i) (place_of s j))) rim * g (place_of s i) (place_of s j))
      (λ i j. cond (is_hull_side s i j) (g (place_of s i) (place_of s j)) 0)
      (λ i j li lj. at (is_hull_side s i j) (g (place_of s i) (place_of s j)) (rim-count i j li lj))
      ∙ sym (total-pairs (λ e. g (place_of s e.from) (place_of s e.to)) (is_hull_side s) (count s))
    where
      at : (b : Bool) (x : ℕ) {k : ℕ} → k ≡ cond b 1 0 → k * x ≡ cond b x 0
      at true x e = rw e (omega arith)
      at false x e = rw e (omega arith)

  -- So there are as many, and twice the area is the same.
  pub rim-length : length rim ≡ length (hull_sides s)
  rim-length = sym (total-ones rim) ∙ rim-total (λ a b. 1) ∙ total-ones (hull_sides s)

  pub rim-area : sum (λ e. cross e.from e.to) rim ≡ twice_hull s
  rim-area =
      omega (
        arith,
        int,
        (sum_is (λ e. cross e.from e.to) (on xy) (on (back xy)) (λ e. cross_is e.from e.to) rim).is,
        (sum_is (λ e. cross (place_of s e.from) (place_of s e.to)) (λ e. xy (place_of s e.from) (place_of s e.to))
            (λ e. xy (place_of s e.to) (place_of s e.from)) (λ e. cross_is (place_of s e.from) (place_of s e.to)) (hull_sides s)).is,
        rim-total xy,
        rim-total (back xy),
      )

  -- ---- hull stations
  -- As many sides of the outline end at a place as start there: a triangle's boundary comes to each corner as often as it leaves it.
  ends-start : (v : Place) → total (on (back (from v))) rim ≡ total (on (from v)) rim
  unfolding from
  ends-start v = omega (arith, m.all.boundary (from v), corners-leave, leave-corners)
    where
      corners-leave : total (around (from v)) tris ≤ total (around (back (from v))) tris
      corners-leave = total_mono (around (from v)) (around (back (from v))) tris (λ t i. omega arith)

      leave-corners : total (around (back (from v))) tris ≤ total (around (from v)) tris
      leave-corners = total_mono (around (back (from v))) (around (from v)) tris (λ t i. omega arith)

  -- Where a hull side ends, another starts.
  goes_on : (i k : ℕ) → is_hull_side s i k ≡ true → (j : ℕ) × (is_hull_side s k j ≡ true)
  goes_on i k h = leave (any_find (total-some (on (from (place_of s k))) rim some-start))
    where
      some-start : 0 < total (on (from (place_of s k))) rim
      some-start =
          omega (
            arith,
            ends-start (place_of s k),
            total_in (on (back (from (place_of s k)))) ((m.all.outline_is (place_of s i) (place_of s k)).1 (side-hull i k h).2),
            from_self (place_of s k) (place_of s i),
          )

      leave : (e : Edge) × In e rim × (0 < on (from (place_of s k)) e) → (j : ℕ) × (is_hull_side s k j ≡ true)
      leave r =
          let n = rim-ends r.0 r.1 in
          let e : n.i ≡ k = one_place n.i k n.li (side-hull i k h).1 (sym n.from_is ∙ from_is (place_of s k) r.0.from r.0.to r.2) in (
            n.j,
            hull-side k n.j (side-hull i k h).1 n.lj
                (subst (λ x. HullSide Station (place_of s x) (place_of s n.j)) e
                (subst (λ w. HullSide Station w (place_of s n.j)) n.from_is
                (subst (HullSide Station r.0.from) n.to_is ((m.all.outline_is r.0.from r.0.to).0 r.1)))),
          )

  -- A hull station starts a hull side, and one only.
  pub starts : (k : ℕ) → is_hull_station s k ≡ true → (j : ℕ) × (is_hull_side s k j ≡ true)
  unfolding is_hull_station
  starts k h = go (is_hull_side s k j) refl (some-found (λ i. is_hull_side s k i || is_hull_side s i k) (count s) h)
    where
      j : ℕ
      j = lowest (λ i. is_hull_side s k i || is_hull_side s i k) (count s)

      go : (b : Bool) → is_hull_side s k j ≡ b → (b || is_hull_side s j k) ≡ true → (i : ℕ) × (is_hull_side s k i ≡ true)
      go true e g = (j, e)
      go false e g = goes_on j k g

  pub next_one : (k i j : ℕ) → is_hull_side s k i ≡ true → is_hull_side s k j ≡ true → i ≡ j
  next_one k i j h g =
      ⊎_elim (λ e. one_place i j (side-hull k i h).1 (side-hull k j g).1 e)
      (λ flat.
      absurd
      (fit.spread.turned
      (line-turn _ _ _ _ _ (side-hull k j g).2.differ (flat _ (at _ fit.spread.i-used)) (flat _ (at _ fit.spread.j-used))
      (flat _ (at _ fit.spread.k-used)))))
      (next_same Station (place_of s k) (place_of s i) (place_of s j) (side-hull k i h).2 (side-hull k j g).2)
    where
      at : (x : ℕ) → in_use s x ≡ true → Station (place_of s x)
      at x h = station-at x (ltb-true x (count s) h)

  -- No pair of stations is a hull side both ways.
  pub one_way : (i j : ℕ) → is_hull_side s i j ≡ true → is_hull_side s j i ≡ true → ⊥
  one_way i j h g =
      fit.spread.turned
      (line-turn _ _ _ _ _ (side-hull i j h).2.differ (flat _ fit.spread.i-used) (flat _ fit.spread.j-used) (flat _ fit.spread.k-used))
    where
      flat : (k : ℕ) → in_use s k ≡ true → turn (place_of s i) (place_of s j) (place_of s k) ≡ pos 0
      flat k u =
          omega (
            arith,
            int,
            (side-hull i j h).2.left (place_of s k) (station-at k (ltb-true k (count s) u)),
            (side-hull j i g).2.left (place_of s k) (station-at k (ltb-true k (count s) u)),
            turn-swap (place_of s i) (place_of s j) (place_of s k),
            minus (pos 0) (turn (place_of s j) (place_of s i) (place_of s k)),
          )

  -- No hull side starts at another station.
  no_side : (k : ℕ) → is_hull_station s k ≡ false → (j : ℕ) → j < count s → is_hull_side s k j ≡ false
  unfolding is_hull_station
  no_side k e j q = or_left (is_hull_side s k j) _ (none_found (λ i. is_hull_side s k i || is_hull_side s i k) (count s) e j q)

  -- So there are as many hull stations as hull sides.
  pub hull-count : hull_count s ≡ length (hull_sides s)
  unfolding grid
  hull-count =
      sym (total-ones (hull_stations s))
      ∙ total-passing (λ k. 1) (is_hull_station s) (count s)
      ∙ sum-agree (λ k. cond (is_hull_station s k) 1 0) (λ k. sum_to (λ j. cond (is_hull_side s k j) 1 0) (count s)) (count s)
      (λ k l. sym (at k l (is_hull_station s k) refl))
      ∙ sym (total-pairs (λ e. 1) (is_hull_side s) (count s))
      ∙ total-ones (hull_sides s)
    where
      starts_one : (k : ℕ) → (j : ℕ) × (is_hull_side s k j ≡ true) → sum_to (λ j. cond (is_hull_side s k j) 1 0) (count s) ≡ 1
      starts_one k r =
          sum_one (λ j. cond (is_hull_side s k j) 1 0) r.0 (count s) (side-hull k r.0 r.1).1 (λ i l d. no_other i d (is_hull_side s k i) refl) ∙ rw r.1
        where
          no_other : (i : ℕ) → (i ≡ r.0 → ⊥) → (b : Bool) → is_hull_side s k i ≡ b → ◌≡◌ {A = ℕ} (cond b 1 0) 0
          no_other i d true e = absurd (d (next_one k i r.0 e r.1))
          no_other i d false e = refl

      at : (k : ℕ) → k < count s → (b : Bool) → is_hull_station s k ≡ b → sum_to (λ j. cond (is_hull_side s k j) 1 0) (count s) ≡ cond b 1 0
      at k l true e = starts_one k (starts k e)
      at k l false e = sum-zero (λ j. cond (is_hull_side s k j) 1 0) (count s) (λ j q. rw (no_side k e j q))

  -- There are three at least, since there is a triangle.
  pub hull-three : 3 ≤ hull_count s
  hull-three = go tris refl
    where
      go : (ts : List Triangle) → tris ≡ ts → 3 ≤ hull_count s
      go [] e = absurd (m.some e)
      go (t ∷ ts) e = omega (arith, hull-count, rim-length, m.all.three t (rw e (here refl)))
