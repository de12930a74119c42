-- The triangles of every survey that passes the checks are a mesh of it: `mesh_of`. Assumes nothing.
--
-- What `Facts` says of places is said of the stations that stand there, since no two stand at one place, and so they are `Balanced`. A
-- triangle that is written from another corner is the same triangle, so turning each to its lowest station keeps that.
use mathlib.Core.Path.{◌≡◌, refl, sym, ap, ◌∙◌, subst}
use mathlib.Core.Bool.{Bool, true, false, true≢false, cond, ◌&&◌}
use mathlib.Core.List.{List, ◌∷◌, map}
use mathlib.Core.Logic.{◌⊎◌, ⊎_elim}
use Prim.Native.Nat.{ℕ, ◌+◌, ◌<◌, ◌≤◌}
use native.Mathlib.Omega.{arith}
use native.Mathlib.Decide.{dec_le, ℕ_discrete}
use borrow.Author.Tests.{le-leb, leb-true}
use lib.Dec.{leb}
use lib.IntN.{pos}
use lib.Signed.{◌<ℤ◌}
use Rattle.lists.proofs.TestLaws.{and_left, and_right}
use Rattle.whole.specs.Place.{Place}
use Rattle.whole.proofs.TurnLaws.{turn-cycle}
use Rattle.survey.specs.Fit.{Fit}
use Rattle.survey.specs.Survey.{Survey, count, place_of}
use Rattle.sweep.specs.Boundary.{around, back, on}
use Rattle.sweep.specs.Cover.{Corner, at_a as place-a, at_b as place-b, at_c as place-c}
use Rattle.sweep.specs.Members.{In, total}
use Rattle.sweep.specs.Page.{page}
use Rattle.sweep.specs.Rising.{Rises, Sorted}
use Rattle.sweep.specs.Sweep.{Three, Triangle, tri, mesh}
use Rattle.sweep.proofs.MemberLaws.{any_map, any_find, total-map}
use Rattle.sweep.proofs.OnceLaws.{side, side_back}
use Rattle.sweep.proofs.PageLaws.{page_is}
use Rattle.sweep.proofs.StationLaws.{Corners, mesh-corners}
use Rattle.triangles.specs.Mesh.{lowest_first, triangles}
use Rattle.hull.specs.MeshOf.{placed, twice_of, CornerOf, at_a, at_b, at_c, OnStations, runs, runs_in, MeshOf}
use Rattle.triangles.specs.Order.{in_order}
use Rattle.triangles.proofs.OrderLaws.{order_in, order-sorted, sorted_rises}
use Rattle.hull.proofs.OutlineLaws as outline
use Rattle.triangles.proofs.SurveyLaws.{SurveyMesh, survey-mesh, turned}
use Rattle.hull.proofs.SideLaws.{total-agree, in_map, runs-sides, corners-differ}
use Rattle.hull.proofs.BalanceLaws.{hull_runs, Clear, Balanced, balanced-mesh, mesh-balanced}

-- ---- the page's triangles
module _ (s : Survey) (fit : Fit s) (m : SurveyMesh s) where
  abbrev ts : List (Three ℕ)
  ts = page (place_of s) (in_order s)

  abbrev tris : List Triangle
  tris = (mesh (place_of s m.first) (map (place_of s) m.rest)).tris

  in_tris : {t : Three ℕ} → In t ts → In (placed s t) tris
  in_tris {t} i = subst (In (placed s t)) m.placed (in_map (placed s) i)

  on_stations : (t : Three ℕ) → In t ts → OnStations s t
  on_stations t i = record { on_a = below c.in_a; on_b = below c.in_b; on_c = below c.in_c }
    where
      rises : Rises (place_of s m.first) (map (place_of s) m.rest)
      rises = sorted_rises (place_of s) m.first m.rest (subst (Sorted (place_of s)) m.order (order-sorted s fit))

      c : Corners (λ x. In x (m.first ∷ m.rest)) t
      c =
          mesh-corners (λ x. In x (m.first ∷ m.rest)) (place_of s) m.first m.rest (λ x q. q) t
          (subst (In t) (ap (page (place_of s)) m.order ∙ page_is (place_of s) m.first m.rest rises) i)

      below : {x : ℕ} → In x (m.first ∷ m.rest) → x < count s
      below {x} q = order_in s fit {x = x} (subst (In x) (sym m.order) q)

  -- The boundary at one side: it is run, and back, as often, but for the hull.
  even : (i j : ℕ) → i < count s → j < count s → runs_in i j ts + hull_runs s j i ≡ runs_in j i ts + hull_runs s i j
  even i j li lj =
      omega (
        arith,
        m.all.boundary (side (place_of s i) (place_of s j)),
        by_stations i j li lj,
        by_stations j i lj li,
        outline.rim-count s fit m i j li lj,
        outline.rim-count s fit m j i lj li,
        total-agree (around (back (side (place_of s i) (place_of s j)))) (around (side (place_of s j) (place_of s i))) tris
            (λ t q. omega (arith, backed t.a t.b, backed t.b t.c, backed t.c t.a)),
        total-agree (on (back (side (place_of s i) (place_of s j)))) (on (side (place_of s j) (place_of s i))) (outline.rim s fit m)
            (λ e q. backed e.from e.to),
      )
    where
      by_stations : (i j : ℕ) → i < count s → j < count s → total (around (side (place_of s i) (place_of s j))) tris ≡ runs_in i j ts
      by_stations i j li lj = sym (ap (total (around (side (place_of s i) (place_of s j)))) m.placed) ∙ runs-sides s fit m ts on_stations i j li lj

      backed : (c d : Place) → side (place_of s i) (place_of s j) d c ≡ side (place_of s j) (place_of s i) c d
      backed c d = omega (arith, side_back (place_of s i) (place_of s j) c d, side_back (place_of s j) (place_of s i) d c)

  -- A corner by its place.
  corner-of : (k : ℕ) (t : Three ℕ) → k < count s → OnStations s t → Corner (place_of s k) (placed s t) → CornerOf k t
  corner-of k t l c (place-a e) = at_a (outline.one_place s fit m k t.a l c.on_a e)
  corner-of k t l c (place-b e) = at_b (outline.one_place s fit m k t.b l c.on_b e)
  corner-of k t l c (place-c e) = at_c (outline.one_place s fit m k t.c l c.on_c e)

  page-balanced : Balanced s ts
  page-balanced = record { stations = on_stations; positive = λ t i. (m.all.fine (placed s t) (in_tris i)).left; even = even }

  page-clear : (t : Three ℕ) → In t ts → Clear s t
  page-clear t i k l h = corner-of k t l (on_stations t i) (m.all.clear (placed s t) (in_tris i) (place_of s k) (outline.station-at s fit m k l) h)

-- ---- triangles written from other corners
module _ (s : Survey) (g : Three ℕ → Three ℕ)
    (turns : (t : Three ℕ) → (g t ≡ t) ⊎ ((g t ≡ tri t.b t.c t.a) ⊎ (g t ≡ tri t.c t.a t.b))) where
  -- What stays when a triangle is written from its next corner stays when it is turned.
  keep : (P : Three ℕ → Type 0) → ((t : Three ℕ) → P t → P (tri t.b t.c t.a)) → (t : Three ℕ) → P t → P (g t)
  keep P next t p =
      ⊎_elim (λ e. subst P (sym e) p) (λ r. ⊎_elim (λ e. subst P (sym e) (next t p)) (λ e. subst P (sym e) (next _ (next t p))) r) (turns t)

  keep_all : (P : Three ℕ → Type 0) → ((t : Three ℕ) → P t → P (tri t.b t.c t.a)) → (ts : List (Three ℕ))
      → ((t : Three ℕ) → In t ts → P t) → (u : Three ℕ) → In u (map g ts) → P u
  keep_all P next ts h u i = let r = any_find (any_map g ts i) in subst P (sym r.2) (keep P next r.0 (h r.0 r.1))

  runs-turned : (i j : ℕ) (ts : List (Three ℕ)) → runs_in i j (map g ts) ≡ runs_in i j ts
  runs-turned i j ts =
      total-map (runs i j) g ts
      ∙ total-agree (λ t. runs i j (g t)) (runs i j) ts (λ t q. keep (λ u. runs i j u ≡ runs i j t) (λ u e. omega (arith, e)) t refl)

  -- They keep their boundary and what they hold, so they are a mesh.
  turned-mesh : Fit s → (ts : List (Three ℕ)) → Balanced s ts → ((t : Three ℕ) → In t ts → Clear s t) → MeshOf s (map g ts)
  turned-mesh fit ts all clear =
      balanced-mesh s fit (map g ts)
      (record {
        stations = keep_all (OnStations s) (λ t c. record { on_a = c.on_b; on_b = c.on_c; on_c = c.on_a }) ts all.stations;
        positive =
            keep_all (λ t. pos 0 <ℤ twice_of s t) (λ t h. rw (← turn-cycle (place_of s t.a) (place_of s t.b) (place_of s t.c)) h) ts all.positive;
        even = λ i j li lj. omega (arith, runs-turned i j ts, runs-turned j i ts, all.even i j li lj);
      })
      (keep_all (Clear s) (λ t h k l w. next-corner k t (h k l (record { ab = w.ca; bc = w.ab; ca = w.bc }))) ts clear)
    where
      next-corner : (k : ℕ) (t : Three ℕ) → CornerOf k t → CornerOf k (tri t.b t.c t.a)
      next-corner k t (at_a e) = at_c e
      next-corner k t (at_b e) = at_a e
      next-corner k t (at_c e) = at_b e

  -- A mesh stays a mesh.
  pub mesh-turned : Fit s → (ts : List (Three ℕ)) → MeshOf s ts → MeshOf s (map g ts)
  mesh-turned fit ts mesh = turned-mesh fit ts (mesh-balanced s ts mesh) mesh.clear

-- 'Every survey in range, with distinct places not all on one line' has a mesh: the triangles that the job writes.
pub mesh_of : (s : Survey) → Fit s → MeshOf s (triangles s)
unfolding triangles
mesh_of s fit =
    let m = survey-mesh s fit in
    turned-mesh s lowest_first turned fit (page (place_of s) (in_order s)) (page-balanced s fit m) (page-clear s fit m)

-- ---- 'lowest station first'
pub lowest-least : (t : Three ℕ) → ((lowest_first t).a ≤ (lowest_first t).b) × ((lowest_first t).a ≤ (lowest_first t).c)
unfolding lowest_first
lowest-least t = go (leb t.a t.b && leb t.a t.c) (leb t.b t.a && leb t.b t.c) refl refl
  where
    at : Bool → Bool → Three ℕ
    at p q = cond p t (cond q (tri t.b t.c t.a) (tri t.c t.a t.b))

    not_both : (a b c : ℕ) → (leb a b && leb a c) ≡ false → a ≤ b → a ≤ c → ⊥
    not_both a b c e h k = true≢false (sym (rw (le-leb a b h, le-leb a c k)) ∙ e)

    third : (a b c : ℕ) → (a ≤ b → a ≤ c → ⊥) → (b ≤ a → b ≤ c → ⊥) → Dec (a ≤ b) → Dec (a ≤ c) → Dec (b ≤ c) → (c ≤ a) × (c ≤ b)
    third a b c m n (yes h) (yes k) d = absurd (m h k)
    third a b c m n (yes h) (no k) d = (omega arith, omega arith)
    third a b c m n (no h) k (yes d) = absurd (n (omega arith) d)
    third a b c m n (no h) k (no d) = (omega arith, omega arith)

    go : (p q : Bool) → (leb t.a t.b && leb t.a t.c) ≡ p → (leb t.b t.a && leb t.b t.c) ≡ q
        → ((at p q).a ≤ (at p q).b) × ((at p q).a ≤ (at p q).c)
    go true q e f = (leb-true t.a t.b (and_left _ _ e), leb-true t.a t.c (and_right (leb t.a t.b) _ e))
    go false true e f = (leb-true t.b t.c (and_right (leb t.b t.a) _ f), leb-true t.b t.a (and_left _ _ f))
    go false false e f =
        third t.a t.b t.c (not_both t.a t.b t.c e) (not_both t.b t.a t.c f)
        (dec_le t.a t.b) (dec_le t.a t.c) (dec_le t.b t.c)

-- Each triangle that the job writes starts with the lowest of its three stations.
pub lowest-station_first : (s : Survey) → Fit s → (t : Three ℕ) → In t (triangles s) → (t.a < t.b) × (t.a < t.c)
unfolding triangles
lowest-station_first s fit t i = go (any_find (any_map lowest_first (page (place_of s) (in_order s)) i)) (corners-differ s t ((mesh_of s fit).positive t i))
  where
    least : (a b c : ℕ) → a ≤ b → a ≤ c → (a ≡ b → ⊥) → (c ≡ a → ⊥) → (a < b) × (a < c)
    least a b c h k d e = at (ℕ_discrete a b) (ℕ_discrete c a)
      where
        at : Dec (a ≡ b) → Dec (c ≡ a) → (a < b) × (a < c)
        at (yes p) q = absurd (d p)
        at (no p) (yes q) = absurd (e q)
        at (no p) (no q) = (omega arith, omega arith)

    go : (u : Three ℕ) × In u (page (place_of s) (in_order s)) × (t ≡ lowest_first u)
        → (t.a ≡ t.b → ⊥) × (t.b ≡ t.c → ⊥) × (t.c ≡ t.a → ⊥) → (t.a < t.b) × (t.a < t.c)
    go r d =
        let l = subst (λ (u : Three ℕ). (u.a ≤ u.b) × (u.a ≤ u.c)) (sym r.2) (lowest-least r.0) in
        least t.a t.b t.c l.0 l.1 d.0 d.2
