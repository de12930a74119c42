-- A place that is strictly between the ends of a side of the mesh is so on no other side (`one_side_only`), and strictly inside no triangle
-- (`not_inside`). Assumes nothing.
--
-- Say it is on two sides: then it is on the edge of two triangles, one on each. From the place a step goes into the second triangle, off the
-- line of the first side (`stepped`): there is a triangle on that hand of the first side, or the step would leave the hull, and a place near
-- by is strictly inside both. So the two are one triangle, and no place is strictly between the ends of two sides of one. Where the place
-- is strictly inside a triangle, so is one near by, and the two triangles are one again.
use mathlib.Core.Path.{◌≡◌, refl, sym, ap, ◌∙◌, subst}
use mathlib.Core.Bool.{true, not, ◌&&◌, ◌||◌}
use mathlib.Core.List.{List}
use mathlib.Core.Logic.{◌⊎◌, inl, inr}
use mathlib.Core.Option.{Option, none, some}
use Prim.Native.Nat.{ℕ, zero, suc, ◌+◌, ◌*◌, ◌<◌}
use native.Mathlib.Nat.{mul-lt-mul_of_pos_left}
use native.Mathlib.Omega.{arith}
use borrow.Author.Tests.{not-true}
use lib.Dec.{eqb}
use lib.IntN.{ℤ, pos, negsuc, ◌+ℤ◌, ◌*ℤ◌, ℤ_discrete}
use lib.Signed.{◌≤ℤ◌, ◌<ℤ◌}
use Rattle.lists.specs.Lowest.{some as some_below}
use Rattle.lists.proofs.LowestLaws.{none_found}
use Rattle.lists.proofs.TestLaws.{and_right, or_left}
use Rattle.whole.specs.Place.{Place}
use Rattle.whole.specs.Turn.{turn}
use Rattle.whole.proofs.Bridge.{int, loss, add, mul, minus, test-false}
use Rattle.whole.proofs.OrderLaws.{same_place}
use Rattle.whole.proofs.SignLaws.{positive-mul, nonneg-mul, mul-zero}
use Rattle.whole.proofs.TurnLaws.{turn-cycle, turn-start, turn_end, line-turn}
use Rattle.sweep.specs.Cover.{Inside, scale, big}
use Rattle.sweep.specs.Members.{In}
use Rattle.sweep.specs.Sweep.{Three, tri}
use Rattle.sweep.proofs.CoverLaws.{scale-area}
use Rattle.survey.specs.Survey.{Survey, count, place_of, in_use}
use Rattle.trace.specs.Mesh.{Has}
use Rattle.trace.specs.Side.{◌⟶◌, left_corner}
use Rattle.trace.proofs.MeshLaws.{left_has}
use Rattle.hull.specs.Hull.{is_right, is_between, is_hull_side}
use Rattle.hull.specs.MeshOf.{placed, MeshOf}
use Rattle.hull.proofs.SoundLaws.{has_found, has_stations, has_positive, mesh-hull}
use Rattle.woven.proofs.NearLaws.{parts, near, lean, lean_back, Leaves, near-inside, on_line, off_line}
use Rattle.ground.specs.Sides.{mixed}
use Rattle.ground.proofs.AlongLaws.{turn-mixed, scale-scale}
use Rattle.ground.proofs.CutLaws.{Named, from_a, from_b, from_c, has_named, Turned, same, next, before, named-twice}

module _ (s : Survey) (ts : List (Three ℕ)) (mesh : MeshOf s ts) where
  -- No station is to the right of a hull side.
  all_left : (i j k : ℕ) → is_hull_side s i j ≡ true → k < count s → pos 0 ≤ℤ turn (place_of s i) (place_of s j) (place_of s k)
  unfolding is_hull_side is_right
  all_left i j k h l =
      let found = some_below (λ w. is_right s i j w || is_between s i j w) (count s) in
      let clear = not-true found (and_right (not (eqb i j)) (not found) (and_right (in_use s i && in_use s j) (not (eqb i j) && not found) h)) in
      test-false (or_left _ _ (none_found (λ w. is_right s i j w || is_between s i j w) (count s) clear k l))

  -- The place p, in k-ths, is strictly between the ends of the side from i to j of a triangle i, j, c.
  pub record OnSide (k : ℕ) (p : Place) (i j c : ℕ) : Type 0 where
    pub has : Has i j c ts
    pub m : ℕ
    pub n : ℕ
    pub some-m : 0 < m
    pub some-n : 0 < n
    pub all : m + n ≡ k
    pub at : p ≡ mixed m (place_of s i) n (place_of s j)

  module _ (K : ℕ) where
    -- The stations in k-ths, and the turn of three as they stand.
    abbrev f : ℕ → Place
    f a = scale K (place_of s a)

    abbrev turn_at : ℕ → ℕ → ℕ → ℤ
    turn_at a b d = turn (place_of s a) (place_of s b) (place_of s d)

    module _ {p : Place} {i j c : ℕ} (h : OnSide K p i j c) where
      area : pos 0 <ℤ turn_at i j c
      area = has_positive s ts mesh h.has

      parts-turn : (a b : ℕ)
          → turn (f a) (f b) p ≡ pos K *ℤ (pos h.m *ℤ turn_at a b i +ℤ pos h.n *ℤ turn_at a b j)
      parts-turn a b =
          (λ r. turn (scale (sym h.all r) (place_of s a)) (scale (sym h.all r) (place_of s b)) (h.at r))
          ∙ turn-mixed (place_of s a) (place_of s b) (place_of s i) (place_of s j) h.m h.n
          ∙ ap (λ k. pos k *ℤ (pos h.m *ℤ turn_at a b i +ℤ pos h.n *ℤ turn_at a b j)) h.all

      some-parts : pos 0 <ℤ pos K
      some-parts = omega (arith, int, h.all, h.some-m)

      -- It is on the line of its side, and left of the other two.
      flat : turn (f i) (f j) p ≡ pos 0
      flat = parts-turn i j ∙ mul-zero (pos K) none
        where
          none : pos h.m *ℤ turn_at i j i +ℤ pos h.n *ℤ turn_at i j j ≡ pos 0
          none =
              omega (
                arith,
                int,
                add (pos h.m *ℤ turn_at i j i) (pos h.n *ℤ turn_at i j j),
                mul-zero (pos h.m) (turn-start (place_of s i) (place_of s j)),
                mul-zero (pos h.n) (turn_end (place_of s i) (place_of s j)),
              )

      left-second : pos 0 <ℤ turn (f j) (f c) p
      left-second = rw (parts-turn j c) (positive-mul some-parts more)
        where
          more : pos 0 <ℤ (pos h.m *ℤ turn_at j c i +ℤ pos h.n *ℤ turn_at j c j)
          more =
              omega (
                arith,
                int,
                add (pos h.m *ℤ turn_at j c i) (pos h.n *ℤ turn_at j c j),
                positive-mul {a =
                    pos h.m} (omega (arith, int, h.some-m)) (subst (λ z. pos 0 <ℤ z) (turn-cycle (place_of s i) (place_of s j) (place_of s c)) area),
                mul-zero (pos h.n) (turn-start (place_of s j) (place_of s c)),
              )

      left-third : pos 0 <ℤ turn (f c) (f i) p
      left-third = rw (parts-turn c i) (positive-mul some-parts more)
        where
          more : pos 0 <ℤ (pos h.m *ℤ turn_at c i i +ℤ pos h.n *ℤ turn_at c i j)
          more =
              omega (
                arith,
                int,
                add (pos h.m *ℤ turn_at c i i) (pos h.n *ℤ turn_at c i j),
                mul-zero (pos h.m) (turn_end (place_of s c) (place_of s i)),
                positive-mul {a =
                    pos h.n} (omega (arith, int, h.some-n)) (subst (λ z. pos 0 <ℤ z) (sym (turn-cycle (place_of s c) (place_of s i) (place_of s j))) area),
              )

      -- The area of the stretched triangle.
      big-area : pos 0 <ℤ turn (f i) (f j) (f c)
      big-area = rw (scale-area K (place_of s i) (place_of s j) (place_of s c)) (positive-mul (positive-mul some-parts some-parts) area)

    -- It is on one side of a triangle only.
    one_of : {p : Place} {t : Three ℕ} {i j c x y z : ℕ} → OnSide K p i j c → OnSide K p x y z → Named t i j c → Named t x y z → (x ≡ i) × (y ≡ j)
    one_of {p} h k a b = go (named-twice a b) h k
      where
        go : {i j c x y z : ℕ} → Turned i j c x y z → OnSide K p i j c → OnSide K p x y z → (x ≡ i) × (y ≡ j)
        go same h k = (refl, refl)
        go next h k = absurd (omega (arith, int, flat k, left-second h))
        go before h k = absurd (omega (arith, int, flat k, left-third h))

    -- A place that is strictly inside a triangle, named from any corner, is strictly inside it as it is written.
    written : (w : ℕ) (r : Place) (t : Three ℕ) (a b d : ℕ) → Named t a b d → Inside (big w (tri (f a) (f b) (f d))) r → Inside (big (w * K) (placed s t)) r
    written w r t a b d named l =
        turned named
        (subst (λ u. Inside u r) (λ e. tri (scale-scale w K (place_of s a) e) (scale-scale w K (place_of s b) e) (scale-scale w K (place_of s d) e)) l)
      where
        turned : {a b d : ℕ} → Named t a b d → Inside (big (w * K) (tri (place_of s a) (place_of s b) (place_of s d))) r → Inside (big (w * K) (placed s t)) r
        turned from_a m = m
        turned from_b m = record { ab = m.ca; bc = m.ab; ca = m.bc }
        turned from_c m = record { ab = m.bc; bc = m.ca; ca = m.ab }

    -- A step from p into the triangle x, y, z: toward z, and v times toward y.
    module _ {p : Place} {x y z : ℕ} (k : OnSide K p x y z) (v : ℕ) where
      abbrev lean_of : ℕ → ℕ → ℤ
      lean_of a b = lean p (f z) (f y) v (f a) (f b)

      abbrev LeavesIt : ℕ → ℕ → ℕ → Type 0
      LeavesIt n a b = Leaves p (f z) (f y) v n (f a) (f b)

      own_lean : pos 0 <ℤ lean_of x y
      unfolding lean
      own_lean = omega (arith, int, big-area k, add (turn (f x) (f y) (f z)) (pos v *ℤ turn (f x) (f y) (f y)), mul-zero (pos v) (turn_end (f x) (f y)))

      -- Parts enough for a triangle a, b, d and for its own.
      abbrev many : ℕ → ℕ → ℕ → ℕ
      many a b d = suc (loss (lean_of a b) + loss (lean_of b d) + loss (lean_of d a) + loss (lean_of y z) + loss (lean_of z x))

      -- If a place near p on that way is strictly inside another triangle, the two are one.
      one_triangle : {t : Three ℕ} {a b d : ℕ} → In t ts → Named t a b d → LeavesIt (many a b d) a b → LeavesIt (many a b d) b d
          → LeavesIt (many a b d) d a → Named t x y z
      one_triangle {t} {a} {b} {d} i named ab bd da = go (has_named k.has)
        where
          n : ℕ
          n = many a b d

          r : Place
          r = near p (f z) (f y) v n

          w : ℕ
          w = parts p (f z) (f y) v n

          own : Inside (big w (tri (f x) (f y) (f z))) r
          own =
              near-inside p (f z) (f y) v n (f x) (f y) (f z) (on_line p (f z) (f y) v n (f x) (f y) (flat k) own_lean)
              (off_line p (f z) (f y) v n (f y) (f z) (left-second k) (omega arith)) (off_line p (f z) (f y) v n (f z) (f x) (left-third k) (omega arith))

          go : (u : Three ℕ) × In u ts × Named u x y z → Named t x y z
          go (u, j, named') =
              let whole : 0 < w * K = omega (arith, mul-lt-mul_of_pos_left (kept k) (first_some)) in
              subst (λ t. Named t x y z)
              (sym (mesh.inside (w * K) whole r t u i j
              (written w r t a b d named (near-inside p (f z) (f y) v n (f a) (f b) (f d) ab bd da)) (written w r u x y z named' own)))
              named'
            where
              first_some : 0 < w
              first_some = omega arith

              kept : OnSide K p x y z → 0 < K
              kept h = omega (arith, h.all, h.some-m)

    -- It is strictly inside no triangle.
    pub not_inside : {p : Place} {t : Three ℕ} {x y z : ℕ} → In t ts → Inside (big K (placed s t)) p → OnSide K p x y z → ⊥
    not_inside {p} {t} {x} {y} {z} i h k =
        flat_not
        (one_triangle k 0 i from_a
        (off_line p (f z) (f y) 0 _ (f t.a) (f t.b) h.ab (omega arith))
        (off_line p (f z) (f y) 0 _ (f t.b) (f t.c) h.bc (omega arith))
        (off_line p (f z) (f y) 0 _ (f t.c) (f t.a) h.ca (omega arith)))
        (flat k)
      where
        flat_not : {x y z : ℕ} → Named t x y z → turn (f x) (f y) p ≡ pos 0 → ⊥
        flat_not from_a e = omega (arith, int, h.ab)
        flat_not from_b e = omega (arith, int, h.bc)
        flat_not from_c e = omega (arith, int, h.ca)

    -- ---- two sides
    -- One side of the mesh, whichever way it is run.
    abbrev pub SameSide : ℕ → ℕ → ℕ → ℕ → Type 0
    SameSide i j x y = ((x ≡ i) × (y ≡ j)) ⊎ ((x ≡ j) × (y ≡ i))

    module _ {p : Place} {i j c x y z : ℕ} (h : OnSide K p i j c) (k : OnSide K p x y z) where
      -- The step goes to the left of the first side.
      to_left : {i j c : ℕ} → OnSide K p i j c → (v : ℕ) → pos 0 <ℤ lean_of k v i j → (x ≡ i) × (y ≡ j)
      to_left {i} {j} {c} h v toward = go (has_named h.has)
        where
          go : (t : Three ℕ) × In t ts × Named t i j c → (x ≡ i) × (y ≡ j)
          go (t, a, named) =
              one_of h k named
              (one_triangle k v a named (on_line p (f z) (f y) v _ (f i) (f j) (flat h) toward)
              (off_line p (f z) (f y) v _ (f j) (f c) (left-second h) (omega arith)) (off_line p (f z) (f y) v _ (f c) (f i) (left-third h) (omega arith)))

      -- It goes off its line: to the left, or to the right where a triangle runs the side back.
      stepped : (v : ℕ) → (lean_of k v i j ≡ pos 0 → ⊥) → SameSide i j x y
      unfolding lean
      stepped v d = go (lean_of k v i j) refl
        where
          stations : (y < count s) × (z < count s)
          stations = let r = has_stations s ts mesh k.has in (r.1, r.2)

          not_right : is_hull_side s i j ≡ true → (w : ℕ) → w < count s → pos 0 ≤ℤ turn (f i) (f j) (f w)
          not_right e w l =
              rw (scale-area K (place_of s i) (place_of s j) (place_of s w))
              (nonneg-mul (nonneg-mul {a = pos K} {b = pos K} (omega (arith, int)) (omega (arith, int))) (all_left i j w e l))

          back : (o : ℕ) → left_corner ts (j ⟶ i) ≡ some o → OnSide K p j i o
          back o e =
              record {
                has = left_has j i o ts e;
                m = h.n;
                n = h.m;
                some-m = h.some-n;
                some-n = h.some-m;
                all = omega (arith, h.all);
                at = h.at ∙ same_place (omega arith) (omega arith);
              }

          right : (r : Option ℕ) → left_corner ts (j ⟶ i) ≡ r → lean_of k v i j <ℤ pos 0 → SameSide i j x y
          right (some o) e l = inr (to_left (back o e) v (omega (arith, int, lean_back p (f z) (f y) v (f i) (f j), minus (pos 0) (lean_of k v i j))))
          right none e l =
              let hull = (mesh-hull s ts mesh i j).0 ((c, has_found s ts mesh h.has), e) in
              absurd (omega (
                arith,
                int,
                l,
                add (turn (f i) (f j) (f z)) (pos v *ℤ turn (f i) (f j) (f y)),
                not_right hull z stations.1,
                nonneg-mul {a = pos v} (omega (arith, int)) (not_right hull y stations.0),
              ))

          go : (a : ℤ) → lean_of k v i j ≡ a → SameSide i j x y
          go (pos zero) e = absurd (d e)
          go (pos (suc a)) e = inl (to_left h v (rw e (omega (arith, int))))
          go (negsuc a) e = right (left_corner ts (j ⟶ i)) refl (rw e (omega (arith, int)))

      -- Toward z, or toward z and y: not both are on the line, for p is on it and not on that of y and z.
      pub one_side_only : SameSide i j x y
      unfolding lean
      one_side_only = go (ℤ_discrete (turn (f i) (f j) (f z)) (pos 0)) (ℤ_discrete (turn (f i) (f j) (f y)) (pos 0))
        where
          apart : f i ≡ f j → ⊥
          apart e = omega (arith, int, big-area h, ap (λ q. turn q (f j) (f c)) e, turn-cycle (f j) (f j) (f c), turn-start (f j) (f c))

          go : Dec (turn (f i) (f j) (f z) ≡ pos 0) → Dec (turn (f i) (f j) (f y) ≡ pos 0) → SameSide i j x y
          go (no d) _ =
              stepped 0 (λ e. d (omega (arith, int, e, add (turn (f i) (f j) (f z)) (pos 0 *ℤ turn (f i) (f j) (f y)), mul (pos 0) (turn (f i) (f j) (f y)))))
          go (yes a) (no d) =
              stepped 1 (λ e. d (omega (arith, int, e, add (turn (f i) (f j) (f z)) (pos 1 *ℤ turn (f i) (f j) (f y)), mul (pos 1) (turn (f i) (f j) (f y)))))
          go (yes a) (yes b) = absurd (omega (arith, int, left-second k, line-turn (f i) (f j) (f y) (f z) p apart b a (flat h)))
