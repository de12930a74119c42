-- The sides of both chains, written into a list that names no station, are the hull's: `outlined`. Assumes nothing.
--
-- The chains' sides are those of the mesh's outline, on station numbers; as places they are the sides of the convex outline. An entry that
-- names a station is that of a side. And where a hull side starts, the entry is that of a side which starts there; only one does.
use mathlib.Core.Path.{◌≡◌, refl, sym, ap, ap₂, ◌∙◌, subst}
use mathlib.Core.Bool.{true, false}
use mathlib.Core.List.{List, [], ◌∷◌, ◌++◌, reverse, map, map-append}
use mathlib.Core.Logic.{⊎_elim}
use Prim.Native.Nat.{ℕ, ◌≤◌, ◌<◌}
use native.Mathlib.Omega.{arith}
use lib.ListN.{length, get_or, take}
use Rattle.whole.specs.Place.{Place}
use Rattle.survey.specs.Fit.{Fit}
use Rattle.survey.specs.Limits.{most_stations}
use Rattle.survey.specs.Rank.{by_rank}
use Rattle.survey.specs.Survey.{Survey, count, place_of}
use Rattle.sweep.specs.Hull.{HullSide}
use Rattle.sweep.specs.Members.{Any, In}
use Rattle.sweep.specs.Sweep.{StateOf, EdgeOf, Edge, edge, turned, pairs, outline, mesh_n}
use Rattle.sweep.proofs.MemberLaws.{any_left, any_right, any_split, any_reverse, any_reversed, any_map, any_mapped, any_find, any_imp, in_any, map-reverse}
use Rattle.sweep.proofs.Numbers.{placed, mesh-map}
use Rattle.triangles.specs.Growth.{swept}
use Rattle.triangles.proofs.FitLaws.{fit-x, fit-y}
use Rattle.triangles.proofs.OrderLaws.{order_in, order-length, order-ranks}
use Rattle.triangles.proofs.SurveyLaws.{SurveyMesh, survey-mesh}
use Rattle.hull.specs.Hull.{is_hull_side}
use Rattle.hull.proofs.OutlineLaws.{Station, side-hull, hull-side, one_place, next_one, rim}
use Rattle.outline.specs.Outline.{chain_sides, Blank, written, Outlined}
use Rattle.outline.proofs.AmongLaws.{Ends, swept-among, side-among}
use Rattle.outline.proofs.WrittenLaws.{written-append, entry_is, entry_of}

-- The sides of both chains are the outline's.
abbrev both : StateOf ℕ → List (EdgeOf ℕ)
both s = chain_sides true s ++ chain_sides false s

both-outline : (s : StateOf ℕ) {P : EdgeOf ℕ → Type 0} → Any P (both s) → Any P (outline s)
unfolding chain_sides outline
both-outline s i =
    ⊎_elim (λ j. any_right (reverse (pairs s.top s.lo)) j) (λ j. any_left _ (any_reversed _ j)) (any_split (map turned (pairs s.top s.up)) i)

outline-both : (s : StateOf ℕ) {P : EdgeOf ℕ → Type 0} → Any P (outline s) → Any P (both s)
unfolding chain_sides outline
outline-both s i =
    ⊎_elim (λ j. any_right (map turned (pairs s.top s.up)) (any_reverse _ j)) (λ j. any_left _ j) (any_split (reverse (pairs s.top s.lo)) i)

-- ---- an outline on places
module _ (f : ℕ → Place) where
  abbrev places : EdgeOf ℕ → Edge
  places e = edge (f e.from) (f e.to)

  pairs-map : (t : ℕ) (l : List ℕ) → pairs (f t) (map f l) ≡ map places (pairs t l)
  unfolding pairs
  pairs-map t [] = refl
  pairs-map t (s ∷ l) = ap (λ es. edge (f s) (f t) ∷ es) (pairs-map s l)

  turned-map : (es : List (EdgeOf ℕ)) → map turned (map places es) ≡ map places (map turned es)
  turned-map [] = refl
  turned-map (e ∷ es) = ap (λ ds. turned (places e) ∷ ds) (turned-map es)

  outline-map : (s : StateOf ℕ) → outline (placed f s) ≡ map places (outline s)
  unfolding outline
  outline-map s =
      ap₂ (λ es ds. reverse es ++ map turned ds) (pairs-map s.top s.lo) (pairs-map s.top s.up)
      ∙ ap₂ ◌++◌ (sym (map-reverse places (pairs s.top s.lo))) (turned-map (pairs s.top s.up))
      ∙ sym (map-append places (reverse (pairs s.top s.lo)) (map turned (pairs s.top s.up)))

-- ---- the hull
-- The sweep over all stations, by their ranks.
abbrev sweep_of : Survey → StateOf ℕ
sweep_of s = swept (place_of s) (by_rank s.xs s.ys)

module _ (s : Survey) (fit : Fit s) where
  m : SurveyMesh s
  m = survey-mesh s fit

  swept_is : sweep_of s ≡ mesh_n (place_of s) m.first m.rest
  swept_is = ap (swept (place_of s)) (order-ranks s fit ∙ m.order)

  -- The outline's sides, as places.
  rim_is : map (places (place_of s)) (outline (sweep_of s)) ≡ rim s fit m
  rim_is =
      ap (λ t. map (places (place_of s)) (outline t)) swept_is
      ∙ sym (outline-map (place_of s) (mesh_n (place_of s) m.first m.rest))
      ∙ ap outline (mesh-map (place_of s) m.first m.rest)

  -- A side of a chain is a hull side.
  is-side : (i j : ℕ) → i < count s → j < count s → In (edge i j) (both (sweep_of s)) → is_hull_side s i j ≡ true
  is-side i j li lj k =
      hull-side s fit m i j li lj
      ((m.all.outline_is (place_of s i) (place_of s j)).0
      (subst (In (edge (place_of s i) (place_of s j))) rim_is
      (any_mapped (places (place_of s)) (any_imp (λ e p. ap (places (place_of s)) p) (both-outline (sweep_of s) k)))))

  -- The ranked stations are stations.
  ranked_in : (q : ℕ) → In q (by_rank s.xs s.ys) → q < count s
  ranked_in q i = order_in s fit (subst (In q) (order-ranks s fit) i)

  -- The ends of a side of a chain are stations.
  ends : (e : EdgeOf ℕ) → In e (both (sweep_of s)) → (e.from < count s) × (e.to < count s)
  ends e k = (ranked_in e.from of.from_in, ranked_in e.to of.to_in)
    where
      of : Ends e (by_rank s.xs s.ys)
      of =
          let a = swept-among (place_of s) (by_rank s.xs s.ys) (omega (arith, ap length (order-ranks s fit), order-length s fit, fit.least)) in
          ⊎_elim (λ i. side-among a true e i) (λ i. side-among a false e i) (any_split (chain_sides true (sweep_of s)) k)

  -- Where a hull side starts, a side of a chain does.
  starts : (i j : ℕ) → is_hull_side s i j ≡ true → Any (λ e. e.from ≡ i) (both (sweep_of s))
  starts i j h = go (any_find (any_map (places (place_of s)) _ listed))
    where
      side : (i < count s) × (j < count s) × HullSide (Station s fit m) (place_of s i) (place_of s j)
      side = side-hull s fit m i j h

      listed : In (edge (place_of s i) (place_of s j)) (map (places (place_of s)) (outline (sweep_of s)))
      listed = subst (In (edge (place_of s i) (place_of s j))) (sym rim_is) ((m.all.outline_is (place_of s i) (place_of s j)).1 side.2)

      go : (e : EdgeOf ℕ) × In e (outline (sweep_of s)) × (edge (place_of s i) (place_of s j) ≡ places (place_of s) e)
          → Any (λ e. e.from ≡ i) (both (sweep_of s))
      go r =
          let k = outline-both (sweep_of s) r.1 in
          in_any k (one_place s fit m r.0.from i (ends r.0 k).0 side.0 (sym (ap (λ d. d.from) r.2)))

  -- What the two climbs ask for: the stations in order at the front of a list, and a place for each of them.
  pub asked : (order : List ℕ) {b : ℕ} → count s ≤ length order → take (count s) order ≡ by_rank s.xs s.ys → count s ≤ b
      → (0 < count s) × (count s ≤ length order) × (count s ≤ most_stations) × ((q : ℕ) → In q (take (count s) order) → q < b)
      × ((i : ℕ) → get_or s.xs i 0 ≤ 8191)
      × ((i : ℕ) → get_or s.ys i 0 ≤ 8191)
  asked order long in_order h = (
    omega (arith, fit.least),
    long,
    fit.most,
    λ q i. omega (arith, ranked_in q (subst (In q) in_order i)),
    fit-x s fit,
    fit-y s fit,
  )

  -- The sides of the lower chain, then those of the upper one, of the stations l by their ranks.
  module _ (l : List ℕ) (in_order : l ≡ by_rank s.xs s.ys) {none low next : List ℕ} (long : count s ≤ length none) (clear : Blank (count s) none)
      (below : low ≡ written (chain_sides false (swept (place_of s) l)) none) (above : next ≡ written (chain_sides true (swept (place_of s) l)) low) where
    next_is : next ≡ written (both (sweep_of s)) none
    next_is =
        above
        ∙ ap (written (chain_sides true (swept (place_of s) l))) below
        ∙ ap (λ k. written (chain_sides true (swept (place_of s) k)) (written (chain_sides false (swept (place_of s) k)) none)) in_order
        ∙ sym (written-append (chain_sides true (sweep_of s)) (chain_sides false (sweep_of s)) none)

    entry-side : (i j : ℕ) → i < count s → j < count s → get_or next i 0 ≡ j → is_hull_side s i j ≡ true
    entry-side i j li lj e =
        ⊎_elim
        (λ k. is-side i j li lj (subst (λ v. In (edge i v) (both (sweep_of s))) at k))
        (λ q. absurd (omega (arith, sym at ∙ q ∙ clear.none i li, fit.most)))
        (entry_is none i (omega arith) (both (sweep_of s)))
      where
        at : get_or (written (both (sweep_of s)) none) i 0 ≡ j
        at = ap (λ l. get_or l i 0) (sym next_is) ∙ e

    side-entry : (i j : ℕ) → is_hull_side s i j ≡ true → get_or next i 0 ≡ j
    side-entry i j h = next_one s fit m i (get_or next i 0) j (is-side i (get_or next i 0) (side-hull s fit m i j h).0 (ends _ listed).1 listed) h
      where
        listed : In (edge i (get_or next i 0)) (both (sweep_of s))
        listed =
            subst (λ v. In (edge i v) (both (sweep_of s))) (ap (λ l. get_or l i 0) (sym next_is))
            (entry_of none i (omega (arith, (side-hull s fit m i j h).0)) (both (sweep_of s)) (starts i j h))

    pub outlined : Outlined s next
    outlined = record { side = entry-side; entry = side-entry }
