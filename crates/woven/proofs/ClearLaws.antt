-- Where triangles have the hull as their boundary, and every station is a corner of one, no station lies in a triangle but at its corners:
-- `clear`. Assumes nothing.
--
-- A station that lies in a triangle is a corner of a triangle of its own. If it lies strictly inside the first, so does a place near it
-- in its own; no place is strictly inside two, so the two are one (`cornered`). If it lies on a side of the first, and is no end of it, the
-- place is chosen off the side's line (`between`). Left of the line it is strictly inside the first again. Right of it there is a station,
-- so the side is none of the hull and a triangle runs it back; the place is strictly inside that one: but the station is none of its
-- corners, for the third is not on the line (`beyond`).
use mathlib.Core.Path.{◌≡◌, refl, sym, ap, subst}
use mathlib.Core.Bool.{Bool, true, false}
use mathlib.Core.List.{List, ◌∷◌}
use mathlib.Core.Option.{Option, none, some}
use Prim.Native.Nat.{ℕ, zero, suc, ◌<◌}
use native.Mathlib.Omega.{arith}
use native.Mathlib.Decide.{ℕ_discrete}
use lib.IntN.{ℤ, pos, negsuc, ◌+ℤ◌, ◌*ℤ◌, ℤ_discrete}
use lib.Signed.{◌≤ℤ◌, ◌<ℤ◌}
use Rattle.whole.specs.Place.{Place}
use Rattle.whole.specs.Turn.{turn}
use Rattle.whole.proofs.Bridge.{int, add, mul, minus}
use Rattle.whole.proofs.SignLaws.{nonneg-mul}
use Rattle.whole.proofs.TurnLaws.{turn-cycle, turn-swap, turn-start, line-turn}
use Rattle.survey.specs.Fit.{Fit}
use Rattle.survey.specs.Survey.{Survey, count, place_of}
use Rattle.sweep.specs.Cover.{Holds, Inside, big}
use Rattle.sweep.specs.Members.{Any, In, here, there}
use Rattle.sweep.specs.Sweep.{Three, tri}
use Rattle.sweep.proofs.MemberLaws.{any_find}
use Rattle.trace.specs.Mesh.{Has, first, later}
use Rattle.trace.specs.Side.{◌⟶◌, left_corner}
use Rattle.trace.proofs.MeshLaws.{has_turned, has_count, has_all, left_has, none_count}
use Rattle.triangles.proofs.SurveyLaws.{SurveyMesh, survey-mesh}
use Rattle.hull.specs.Hull.{is_hull_side}
use Rattle.hull.specs.MeshOf.{CornerOf, at_a, at_b, at_c, runs_in}
use Rattle.hull.proofs.BalanceLaws.{Balanced, Clear, inside, shared}
use Rattle.hull.proofs.OutlineLaws as outline
use Rattle.hull.proofs.SoundLaws.{runs-count, listed-stations, listed-positive}
use Rattle.woven.proofs.NearLaws.{parts, near, lean, lean_back, Leaves, near-inside, near_own, on_line, off_line, enough}
use Rattle.woven.proofs.OnSideLaws.{strict, not_end, not_start, left-ao, left-ob}

-- A triangle of a list, named from its first corner.
has_first : {t : Three ℕ} {ts : List (Three ℕ)} → In t ts → Has t.a t.b t.c ts
has_first {t} (here {l = l} e) = subst (λ u. Has t.a t.b t.c (u ∷ l)) e first
has_first (there i) = later (has_first i)

module _ (s : Survey) (fit : Fit s) (ts : List (Three ℕ)) (all : Balanced s ts) where
  m : SurveyMesh s
  m = survey-mesh s fit

  abbrev f : ℕ → Place
  f = place_of s

  has_positive : {x y z : ℕ} → Has x y z ts → pos 0 <ℤ turn (f x) (f y) (f z)
  has_positive = listed-positive s ts all.positive

  has_stations : {x y z : ℕ} → Has x y z ts → (x < count s) × (y < count s) × (z < count s)
  has_stations = listed-stations s ts all.stations

  -- Two triangles that a place is strictly inside of have the same corners.
  module _ (n : ℕ) (l : 0 < n) (q : Place) where
    abbrev In_it : ℕ → ℕ → ℕ → Type 0
    In_it x y z = Inside (big n (tri (f x) (f y) (f z))) q

    before : (x y z : ℕ) → In_it y z x → In_it x y z
    before x y z h = record { ab = h.ca; bc = h.ab; ca = h.bc }

    same_corners : {i j o x y z : ℕ} → Has i j o ts → Has x y z ts → In_it i j o → In_it x y z → CornerOf i (tri x y z)
    same_corners {i} h g hi gi =
        has_all (λ x y z. In_it x y z → CornerOf i (tri x y z)) (λ x y z r k. next x y z (r (before x y z k))) own g gi
      where
        next : (x y z : ℕ) → CornerOf i (tri x y z) → CornerOf i (tri y z x)
        next x y z (at_a e) = at_c e
        next x y z (at_b e) = at_a e
        next x y z (at_c e) = at_b e

        own : (t : Three ℕ) → In t ts → In_it t.a t.b t.c → CornerOf i t
        own t it k =
            has_all (λ x y z. In_it x y z → CornerOf i (tri x y z) → CornerOf i t)
            (λ x y z r k c. r (before x y z k) (next z x y (next y z x c)))
            (λ u iu v c. subst (CornerOf i) (inside s fit m ts all n l q u t iu it v k) c) h hi (at_a refl)

  -- ---- station k, and a triangle k, i, j of its own
  module _ (k i j : ℕ) (own : Has k i j ts) where
    abbrev w : Place
    w = f k

    -- On which side of the side from x to y it is, and how far the step toward i, and v times toward j, turns left of that.
    abbrev turn_at : ℕ → ℕ → ℤ
    turn_at x y = turn (f x) (f y) w

    abbrev lean_of : ℕ → ℕ → ℕ → ℤ
    lean_of v x y = lean w (f i) (f j) v (f x) (f y)

    -- A place near it is strictly inside its own triangle; a triangle that the place is strictly inside of has it as a corner.
    cornered : {x y z : ℕ} (v : ℕ) → 0 < v → Has x y z ts → Leaves w (f i) (f j) v (enough w (f i) (f j) v (f x) (f y) (f z)) (f x) (f y)
        → pos 0 <ℤ turn_at y z → pos 0 <ℤ turn_at z x → CornerOf k (tri x y z)
    cornered {x} {y} {z} v h g xy yz zx =
        let n = enough w (f i) (f j) v (f x) (f y) (f z) in
        same_corners (parts w (f i) (f j) v n) (omega arith) (near w (f i) (f j) v n) own g
        (near_own w (f i) (f j) v n (omega arith) h (has_positive own))
        (near-inside w (f i) (f j) v n (f x) (f y) (f z) xy (off_line w (f i) (f j) v n (f y) (f z) yz (omega arith))
        (off_line w (f i) (f j) v n (f z) (f x) zx (omega arith)))

    -- It is on the line of the side from x to y of a triangle, and on no other side's.
    module _ (x y z : ℕ) (g : Has x y z ts) (flat : turn_at x y ≡ pos 0) (yz : pos 0 <ℤ turn_at y z) (zx : pos 0 <ℤ turn_at z x) where
      flat_back : turn_at y x ≡ pos 0
      flat_back = omega (arith, int, turn-swap (f y) (f x) w, minus (pos 0) (turn_at x y), flat)

      back_triangle : 0 < runs_in y x ts → (o : ℕ) × Has y x o ts
      back_triangle h = go (left_corner ts (y ⟶ x)) refl
        where
          go : (r : Option ℕ) → left_corner ts (y ⟶ x) ≡ r → (o : ℕ) × Has y x o ts
          go (some o) e = (o, left_has y x o ts e)
          go none e = absurd (omega (arith, h, runs-count y x ts, none_count (y ⟶ x) ts e))

      -- The step does not leave the line to the right, but at an end: a triangle there would have a corner at w.
      beyond : (v : ℕ) → 0 < v → lean_of v x y <ℤ pos 0 → (k ≡ x → ⊥) → (k ≡ y → ⊥) → ⊥
      unfolding lean
      beyond v h l nx ny = go (is_hull_side s x y) refl
        where
          all_left : (e : ℕ) → e < count s → is_hull_side s x y ≡ true → pos 0 ≤ℤ turn (f x) (f y) (f e)
          all_left e q r = (outline.side-hull s fit m x y r).2.left (f e) (outline.station-at s fit m e q)

          corner : (o : ℕ) → Has y x o ts → CornerOf k (tri y x o) → ⊥
          corner o r (at_a e) = ny e
          corner o r (at_b e) = nx e
          corner o r (at_c e) = omega (arith, int, subst (λ o. pos 0 <ℤ turn (f y) (f x) (f o)) (sym e) (has_positive r), flat_back)

          go : (b : Bool) → is_hull_side s x y ≡ b → ⊥
          go true r =
              omega (
                arith,
                int,
                l,
                add (turn (f x) (f y) (f i)) (pos v *ℤ turn (f x) (f y) (f j)),
                all_left i (has_stations own).1 r,
                nonneg-mul {a = pos v} (omega (arith, int)) (all_left j (has_stations own).2 r),
              )
          go false r =
              let o = back_triangle (omega (arith, shared s fit m ts all x y r (omega (arith, runs-count x y ts, has_count g)))) in
              let left = has_positive o.1 in
              let n = enough w (f i) (f j) v (f y) (f x) (f o.0) in
              corner o.0 o.1
              (cornered v h o.1
              (on_line w (f i) (f j) v n (f y) (f x) flat_back (omega (arith, int, l, lean_back w (f i) (f j) v (f x) (f y), minus (pos 0) (lean_of v x y))))
              (left-ao (f x) (f y) (f z) w (has_positive g) flat (f o.0) left yz zx)
              (left-ob (f x) (f y) (f z) w (has_positive g) flat (f o.0) left yz zx))

      -- Not both steps go along the line.
      not_along : lean_of 1 x y ≡ pos 0 → lean_of 2 x y ≡ pos 0 → ⊥
      unfolding lean
      not_along e r =
          let q = both_zero (turn (f x) (f y) (f i)) (turn (f x) (f y) (f j)) e r in
          omega (arith, int, has_positive own, line-turn (f x) (f y) w (f i) (f j) apart flat q.0 q.1)
        where
          apart : f x ≡ f y → ⊥
          apart q =
              omega (arith, int, has_positive g, ap (λ p. turn p (f y) (f z)) q, turn-cycle (f y) (f y) (f z), turn-start (f y) (f z))

          both_zero : (y z : ℤ) → y +ℤ pos 1 *ℤ z ≡ pos 0 → y +ℤ pos 2 *ℤ z ≡ pos 0 → (y ≡ pos 0) × (z ≡ pos 0)
          both_zero y z e h =
              let p = add y (pos 1 *ℤ z) in
              let q = add y (pos 2 *ℤ z) in
              (omega (arith, int, p, q, mul (pos 1) z, mul (pos 2) z), omega (arith, int, p, q, mul (pos 1) z, mul (pos 2) z))

      -- Toward i and j, or, where that goes along the line, once more toward j.
      between : (k ≡ x → ⊥) → (k ≡ y → ⊥) → CornerOf k (tri x y z)
      between nx ny = at 1 (omega arith) (λ e. at 2 (omega arith) (λ r. absurd (not_along e r)))
        where
          at : (v : ℕ) → 0 < v → (lean_of v x y ≡ pos 0 → CornerOf k (tri x y z)) → CornerOf k (tri x y z)
          at v h along = go (lean_of v x y) refl
            where
              go : (r : ℤ) → lean_of v x y ≡ r → CornerOf k (tri x y z)
              go (pos zero) e = along e
              go (pos (suc n)) e =
                  cornered v h g (on_line w (f i) (f j) v (enough w (f i) (f j) v (f x) (f y) (f z)) (f x) (f y) flat (omega (arith, int, e))) yz zx
              go (negsuc n) e = absurd (beyond v h (omega (arith, int, e)) nx ny)

    -- On the line of a side: at one of its ends, or between them.
    on_side : (x y z : ℕ) → Has x y z ts → k < count s → turn_at x y ≡ pos 0 → pos 0 ≤ℤ turn_at y z → pos 0 ≤ℤ turn_at z x → CornerOf k (tri x y z)
    on_side x y z g l flat yz zx = go (ℕ_discrete k x) (ℕ_discrete k y)
      where
        go : Dec (k ≡ x) → Dec (k ≡ y) → CornerOf k (tri x y z)
        go (yes e) q = at_a e
        go (no d) (yes e) = at_b e
        go (no d) (no e) =
            let q = has_stations g in
            let left = has_positive g in
            between x y z g flat
            (strict (turn_at y z) yz (not_end (f x) (f y) (f z) w left flat (λ r. e (outline.one_place s fit m k y l q.1 r))))
            (strict (turn_at z x) zx (not_start (f x) (f y) (f z) w left flat (λ r. d (outline.one_place s fit m k x l q.0 r)))) d e

    -- In the triangle: on the line of one of its sides, or of none.
    held : (x y z : ℕ) → Has x y z ts → k < count s → Holds turn (tri (f x) (f y) (f z)) w → CornerOf k (tri x y z)
    held x y z g l h = go (ℤ_discrete (turn_at x y) (pos 0)) (ℤ_discrete (turn_at y z) (pos 0)) (ℤ_discrete (turn_at z x) (pos 0))
      where
        back : (x y z : ℕ) → CornerOf k (tri y z x) → CornerOf k (tri x y z)
        back x y z (at_a e) = at_b e
        back x y z (at_b e) = at_c e
        back x y z (at_c e) = at_a e

        go : Dec (turn_at x y ≡ pos 0) → Dec (turn_at y z ≡ pos 0) → Dec (turn_at z x ≡ pos 0) → CornerOf k (tri x y z)
        go (yes e) q r = on_side x y z g l e h.bc h.ca
        go (no p) (yes e) r = back x y z (on_side y z x (has_turned g) l e h.ca h.ab)
        go (no p) (no q) (yes e) = back x y z (back y z x (on_side z x y (has_turned (has_turned g)) l e h.ab h.bc))
        go (no p) (no q) (no r) =
            cornered 1 (omega arith) g
            (off_line w (f i) (f j) 1 (enough w (f i) (f j) 1 (f x) (f y) (f z)) (f x) (f y) (strict (turn_at x y) h.ab p) (omega arith))
            (strict (turn_at y z) h.bc q) (strict (turn_at z x) h.ca r)

  pub clear : ((k : ℕ) → k < count s → Any (CornerOf k) ts) → (t : Three ℕ) → In t ts → Clear s t
  clear used t it k l h =
      let u = any_find (used k l) in
      let r = own_triangle u.0 u.1 u.2 in
      held k r.0 r.1 r.2 t.a t.b t.c (has_first it) l h
    where
      own_triangle : (u : Three ℕ) → In u ts → CornerOf k u → (i : ℕ) × (j : ℕ) × Has k i j ts
      own_triangle u iu (at_a e) = (u.b, u.c, rw e (has_first iu))
      own_triangle u iu (at_b e) = (u.c, u.a, rw e (has_turned (has_first iu)))
      own_triangle u iu (at_c e) = (u.a, u.b, rw e (has_turned (has_turned (has_first iu))))
