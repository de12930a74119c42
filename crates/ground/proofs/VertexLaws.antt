-- A drawn line meets a side of the mesh in that side's spot and nowhere else (`side-meets`), and no two vertices of a level are at one place
-- (`vertices-apart`). Assumes nothing.
--
-- A spot is strictly between the ends of its side, and so on no other side. All of a segment but its ends is strictly inside a triangle, and
-- so on no side.
use mathlib.Core.Path.{◌≡◌, refl, sym, ap, ◌∙◌, subst, subst₂}
use mathlib.Core.Bool.{Bool, true, not}
use mathlib.Core.List.{List, [], ◌∷◌, map}
use mathlib.Core.Logic.{◌⊎◌, inl, inr}
use mathlib.Core.Option.{some}
use Prim.Native.Nat.{ℕ, zero, suc, ◌+◌, ◌*◌, ◌<◌}
use native.Mathlib.Nat.{mul-lt-mul_of_pos_left}
use native.Mathlib.Omega.{arith}
use borrow.Author.Tests.{lt-ltb, ltb-true}
use lib.Dec.{ltb}
use lib.IntN.{ℤ}
use lib.ListN.{length, length-map, get_or}
use Rattle.lists.proofs.TestLaws.{and_left, and_right}
use Rattle.whole.specs.Place.{Place, place}
use Rattle.whole.proofs.OrderLaws.{same_place}
use Rattle.sweep.specs.Cover.{Inside, scale, big}
use Rattle.sweep.specs.Members.{In, total}
use Rattle.sweep.specs.Sweep.{Three, EdgeOf}
use Rattle.sweep.proofs.EntryLaws.{in_at, two_at, map_at}
use Rattle.survey.specs.Survey.{Survey, count, place_of}
use Rattle.trace.specs.Crossed.{is_crossed}
use Rattle.trace.specs.Lines.{vertices}
use Rattle.trace.specs.Mesh.{count as count_of, Has}
use Rattle.trace.specs.Promise.{is_crossed_side}
use Rattle.trace.specs.Side.{Directed, ◌⟶◌, bit, is_same, side_of, left_corner, is_side}
use Rattle.trace.proofs.CountLaws.{same_self}
use Rattle.trace.proofs.CrossedLaws.{either_there, side-ends}
use Rattle.trace.proofs.MeshLaws.{left_has}
use Rattle.hull.specs.MeshOf.{placed, MeshOf}
use Rattle.hull.proofs.SoundLaws.{has_stations, mesh-sound}
use Rattle.spots.specs.Lines.{is_below, lines_of, spot_on, spots_of}
use Rattle.ground.specs.Segments.{standing, spot_place, segments}
use Rattle.ground.specs.Sides.{mixed}
use Rattle.ground.proofs.AlongLaws.{along-mixed}
use Rattle.ground.proofs.ShareLaws.{share_of, shared, not_back}
use Rattle.ground.proofs.CutLaws.{next-named, named_has, Ends, spot_back, crossed-unlike, unlike-crossed}
use Rattle.ground.proofs.SegmentLaws.{cut_inside}
use Rattle.ground.proofs.StepLaws.{vertex-crossed, vertex_once, SegmentOf, segment-cut}
use Rattle.ground.proofs.MapLaws.{station_off}
use Rattle.ground.proofs.SideLaws.{OnSide, SameSide, not_inside, one_side_only}

count-total : (d : Directed) (l : List Directed) → count_of d l ≡ total (λ x. bit (is_same d x)) l
unfolding count_of total
count-total d [] = refl
count-total d (x ∷ l) = ap (λ n. bit (is_same d x) + n) (count-total d l)

module _ (s : Survey) (ts : List (Three ℕ)) (mesh : MeshOf s ts) (level : ℤ) (slopes : List ℤ) (style : ℕ) where
  abbrev at : ℕ → Bool
  at k = is_below s level k

  abbrev spot : ℕ → ℕ → Place
  spot i j = spot_place s slopes style level (i ⟶ j)

  -- The spot of a crossed side, in any parts of a 128th.
  spot-side : (k : ℕ) {v w u : ℕ} → 0 < k → Has v w u ts → at w ≡ not (at v) → OnSide s ts mesh (k * 128) (scale k (spot v w)) v w u
  spot-side k {v} {w} {u} many has e =
      let in-v = (has_stations s ts mesh has).0 in
      let in-w = (has_stations s ts mesh has).1 in
      let h = shared s slopes style level in-v in-w e in
      let m = share_of s slopes style level w v in
      let n = share_of s slopes style level v w in
      record {
        has = has;
        m = k * m;
        n = k * n;
        some-m = omega (arith, mul-lt-mul_of_pos_left h.some_to many);
        some-n = omega (arith, mul-lt-mul_of_pos_left h.some_from many);
        all = omega (arith, ap (λ a. k * a) h.all);
        at = ap (scale k) (along-mixed (place_of s v) (place_of s w) m n (omega (arith, h.all)) h.forth) ∙ same_place (omega arith) (omega arith);
      }

  -- A side of the mesh has a triangle on one hand at least.
  sided : (k : ℕ) (p : Place) (i j m n : ℕ) → 0 < m → 0 < n → m + n ≡ k → p ≡ mixed m (place_of s i) n (place_of s j) → is_side (left_corner ts) (i ⟶ j) ≡ true
      → ((c : ℕ) × OnSide s ts mesh k p i j c) ⊎ ((c : ℕ) × OnSide s ts mesh k p j i c)
  unfolding is_side
  sided k p i j m n some-m some-n all place h = go (either_there (left_corner ts (i ⟶ j)) (left_corner ts (j ⟶ i)) (and_right (ltb i j) _ h))
    where
      go : ((c : ℕ) × (left_corner ts (i ⟶ j) ≡ some c)) ⊎ ((c : ℕ) × (left_corner ts (j ⟶ i) ≡ some c))
          → ((c : ℕ) × OnSide s ts mesh k p i j c) ⊎ ((c : ℕ) × OnSide s ts mesh k p j i c)
      go (inl (c, e)) = inl (c, record { has = left_has i j c ts e; m = m; n = n; some-m = some-m; some-n = some-n; all = all; at = place })
      go (inr (c, e)) =
          inr (
            c,
            record {
              has = left_has j i c ts e;
              m = n;
              n = m;
              some-m = some-n;
              some-n = some-m;
              all = omega (arith, all);
              at = place ∙ same_place (omega arith) (omega arith);
            },
          )

  -- One side, whichever of the two triangles it is seen from.
  same_sided : (k : ℕ) (p : Place) {i j x y z : ℕ} → ((c : ℕ) × OnSide s ts mesh k p i j c) ⊎ ((c : ℕ) × OnSide s ts mesh k p j i c)
      → OnSide s ts mesh k p x y z
      → SameSide s ts mesh k i j x y
  same_sided k p (inl (c, h)) g = one_side_only s ts mesh k h g
  same_sided k p (inr (c, h)) g = go (one_side_only s ts mesh k h g)
    where
      go : {i j x y : ℕ} → SameSide s ts mesh k j i x y → SameSide s ts mesh k i j x y
      go (inl e) = inr e
      go (inr e) = inl e

  -- ---- where a line meets a side
  pub record Met (i j : ℕ) (k : ℕ) (p : Place) : Type 0 where
    pub crossed : is_crossed (is_below s level) (i ⟶ j) ≡ true
    pub spot_there : p ≡ scale k (spot i j)

  -- A spot that is on the side is its own.
  own_spot : (k : ℕ) {i j v w u : ℕ} {p : Place} → 0 < k → Has v w u ts → at w ≡ not (at v) → p ≡ scale k (spot v w)
      → ((c : ℕ) × OnSide s ts mesh (k * 128) p i j c) ⊎ ((c : ℕ) × OnSide s ts mesh (k * 128) p j i c) → Met i j k p
  own_spot k {i} {j} {v} {w} {u} {p} many has e f h =
      go (same_sided (k * 128) p h (subst (λ q. OnSide s ts mesh (k * 128) q v w u) (sym f) (spot-side k many has e)))
    where
      go : SameSide s ts mesh (k * 128) i j v w → Met i j k p
      go (inl (a, b)) =
          record {
            crossed = unlike-crossed s slopes style level i j (subst₂ (λ v w. at w ≡ not (at v)) a b e);
            spot_there = f ∙ subst₂ (λ x y. scale k (spot v w) ≡ scale k (spot x y)) a b refl;
          }
      go (inr (a, b)) =
          record {
            crossed = unlike-crossed s slopes style level i j (not_back (at j) (subst₂ (λ v w. at w ≡ not (at v)) a b e));
            spot_there = f ∙ subst₂ (λ x y. scale k (spot v w) ≡ scale k (spot x y)) a b refl ∙ ap (scale k) (spot_back s slopes style level j i);
          }

  -- The place is m parts of the one end of a segment and n of the other, and k parts of the one end of a side and l of the other.
  module _ {e : EdgeOf Place} (drawn : In e (segments s ts slopes style level)) (i j : ℕ) (side : is_side (left_corner ts) (i ⟶ j) ≡ true) (m n k l : ℕ)
      (many : 0 < m + n) (parts : k + l ≡ (m + n) * 128) (meet : mixed m e.from n e.to ≡ mixed k (place_of s i) l (place_of s j)) where
    abbrev p : Place
    p = mixed m e.from n e.to

    stations : (i < count s) × (j < count s)
    stations = side-ends ts (count s) (mesh-sound s ts mesh) i j side

    -- It is no station, so neither k nor l is 0.
    first_some : 0 < k
    first_some = go k refl
      where
        go : (a : ℕ) → k ≡ a → 0 < k
        go (suc a) f = omega arith
        go zero f =
            absurd (station_off s ts mesh slopes style level j stations.1 m n many drawn
            (meet ∙ same_place (only (place_of s i).x (place_of s j).x) (only (place_of s i).y (place_of s j).y)))
          where
            only : (a b : ℕ) → k * a + l * b ≡ (m + n) * (128 * b)
            only a b = omega (arith, ap (λ k. k * a) f, ap (λ k. k * b) f, ap (λ k. k * b) parts)

    second-some : 0 < l
    second-some = go l refl
      where
        go : (a : ℕ) → l ≡ a → 0 < l
        go (suc a) f = omega arith
        go zero f =
            absurd (station_off s ts mesh slopes style level i stations.0 m n many drawn
            (meet ∙ same_place (only (place_of s i).x (place_of s j).x) (only (place_of s i).y (place_of s j).y)))
          where
            only : (a b : ℕ) → k * a + l * b ≡ (m + n) * (128 * a)
            only a b = omega (arith, ap (λ l. l * b) f, ap (λ l. l * a) f, ap (λ k. k * a) parts)

    on_side : ((c : ℕ) × OnSide s ts mesh ((m + n) * 128) p i j c) ⊎ ((c : ℕ) × OnSide s ts mesh ((m + n) * 128) p j i c)
    on_side = sided ((m + n) * 128) p i j k l first_some second-some parts meet side

    pub side-meets : Met i j (m + n) p
    side-meets = go (segment-cut s ts mesh level slopes style drawn)
      where
        go : SegmentOf s ts mesh level slopes style e.from e.to → Met i j (m + n) p
        go g = by m n refl refl
          where
            -- Inside the segment it is strictly inside the triangle, and on no side.
            strict : 0 < m → 0 < n → Inside (big ((m + n) * 128) (placed s g.t)) p
            strict = cut_inside s slopes style level g.t (mesh.stations g.t g.in_mesh) (mesh.positive g.t g.in_mesh) g.cut m n

            inner : Inside (big ((m + n) * 128) (placed s g.t)) p
                → ((c : ℕ) × OnSide s ts mesh ((m + n) * 128) p i j c) ⊎ ((c : ℕ) × OnSide s ts mesh ((m + n) * 128) p j i c)
                → ⊥
            inner a (inl (c, h)) = not_inside s ts mesh ((m + n) * 128) g.in_mesh a h
            inner a (inr (c, h)) = not_inside s ts mesh ((m + n) * 128) g.in_mesh a h

            -- At an end it is the spot of a side of the triangle.
            end : (q : Place) → p ≡ scale (m + n) q → (q ≡ spot g.cut.v g.cut.w) ⊎ (q ≡ spot g.cut.v g.cut.u) → Met i j (m + n) p
            end q f (inl a) = own_spot (m + n) many (named_has g.in_mesh g.cut.named) g.cut.w-unlike (f ∙ ap (scale (m + n)) a) on_side
            end q f (inr a) =
                own_spot (m + n) many (named_has g.in_mesh (next-named (next-named g.cut.named))) (not_back (at g.cut.v) g.cut.u-unlike)
                (f ∙ ap (scale (m + n)) (a ∙ spot_back s slopes style level g.cut.v g.cut.u)) on_side

            first_end : Ends e.from e.to (spot g.cut.v g.cut.w) (spot g.cut.v g.cut.u)
                → (e.from ≡ spot g.cut.v g.cut.w) ⊎ (e.from ≡ spot g.cut.v g.cut.u)
            first_end (inl (a, b)) = inl a
            first_end (inr (a, b)) = inr a

            second-end : Ends e.from e.to (spot g.cut.v g.cut.w) (spot g.cut.v g.cut.u)
                → (e.to ≡ spot g.cut.v g.cut.w) ⊎ (e.to ≡ spot g.cut.v g.cut.u)
            second-end (inl (a, b)) = inr b
            second-end (inr (a, b)) = inl b

            by : (a b : ℕ) → m ≡ a → n ≡ b → Met i j (m + n) p
            by zero b f h = end e.to (same_place (last e.from.x e.to.x) (last e.from.y e.to.y)) (second-end g.cut.ends)
              where
                last : (x y : ℕ) → m * x + n * y ≡ (m + n) * y
                last x y = omega (arith, ap (λ m. m * x) f, ap (λ m. m * y) f)
            by (suc a) zero f h = end e.from (same_place (last e.from.x e.to.x) (last e.from.y e.to.y)) (first_end g.cut.ends)
              where
                last : (x y : ℕ) → m * x + n * y ≡ (m + n) * x
                last x y = omega (arith, ap (λ n. n * x) h, ap (λ n. n * y) h)
            by (suc a) (suc b) f h = absurd (inner (strict (omega arith) (omega arith)) on_side)

  -- ---- vertices
  -- The spot of a crossed side, by its triangle on either hand.
  module _ (i j : ℕ) (h : is_crossed_side ts (is_below s level) (i ⟶ j) ≡ true) where
    is-side : is_side (left_corner ts) (i ⟶ j) ≡ true
    is-side = and_left (is_side (left_corner ts) (i ⟶ j)) (is_crossed (is_below s level) (i ⟶ j)) h

    unlike : at j ≡ not (at i)
    unlike = crossed-unlike s slopes style level i j (and_right (is_side (left_corner ts) (i ⟶ j)) (is_crossed (is_below s level) (i ⟶ j)) h)

    rises : i < j
    unfolding is_side
    rises = ltb-true i j (and_left (ltb i j) _ is-side)

    spot_is : standing (spot_on s slopes style level (i ⟶ j)) ≡ spot i j
    unfolding spot_place side_of
    spot_is = ap (λ d. standing (spot_on s slopes style level d)) (rw (lt-ltb i j rises))

    onto : ((c : ℕ) × OnSide s ts mesh 128 (scale 1 (spot i j)) i j c) ⊎ ((c : ℕ) × OnSide s ts mesh 128 (scale 1 (spot i j)) j i c)
    unfolding is_side
    onto = go (either_there (left_corner ts (i ⟶ j)) (left_corner ts (j ⟶ i)) (and_right (ltb i j) _ is-side))
      where
        go : ((c : ℕ) × (left_corner ts (i ⟶ j) ≡ some c)) ⊎ ((c : ℕ) × (left_corner ts (j ⟶ i) ≡ some c))
            → ((c : ℕ) × OnSide s ts mesh 128 (scale 1 (spot i j)) i j c) ⊎ ((c : ℕ) × OnSide s ts mesh 128 (scale 1 (spot i j)) j i c)
        go (inl (c, e)) = inl (c, spot-side 1 (omega arith) (left_has i j c ts e) unlike)
        go (inr (c, e)) =
            inr (
              c,
              subst (λ p. OnSide s ts mesh 128 (scale 1 p) j i c) (spot_back s slopes style level j i)
                  (spot-side 1 (omega arith) (left_has j i c ts e) (not_back (at i) unlike)),
            )

  -- Spots at one place are those of one side.
  same_spot : (d e : Directed) → is_crossed_side ts (is_below s level) d ≡ true → is_crossed_side ts (is_below s level) e ≡ true
      → standing (spot_on s slopes style level d) ≡ standing (spot_on s slopes style level e) → d ≡ e
  same_spot (i ⟶ j) (x ⟶ y) h k e = go (rises i j h) (rises x y k) (seen (onto x y k))
    where
      p : Place
      p = scale 1 (spot i j)

      one : scale 1 (spot x y) ≡ p
      one = ap (scale 1) (sym (spot_is x y k) ∙ sym e ∙ spot_is i j h)

      seen : ((c : ℕ) × OnSide s ts mesh 128 (scale 1 (spot x y)) x y c) ⊎ ((c : ℕ) × OnSide s ts mesh 128 (scale 1 (spot x y)) y x c)
          → SameSide s ts mesh 128 i j x y
      seen (inl (c, g)) = same_sided 128 p (onto i j h) (subst (λ q. OnSide s ts mesh 128 q x y c) one g)
      seen (inr (c, g)) = turned (same_sided 128 p (onto i j h) (subst (λ q. OnSide s ts mesh 128 q y x c) one g))
        where
          turned : SameSide s ts mesh 128 i j y x → SameSide s ts mesh 128 i j x y
          turned (inl (a, b)) = inr (b, a)
          turned (inr (a, b)) = inl (b, a)

      go : i < j → x < y → SameSide s ts mesh 128 i j x y → i ⟶ j ≡ x ⟶ y
      go l m (inl (a, b)) = λ r. sym a r ⟶ sym b r
      go l m (inr (a, b)) = absurd (omega arith)

  -- Each crossed side has one vertex, so no place has two.
  pub vertices-apart : (i j : ℕ) → i < j → j < length (map standing (spots_of s ts slopes style level))
      → get_or (map standing (spots_of s ts slopes style level)) i (place 0 0) ≡ get_or (map standing (spots_of s ts slopes style level)) j (place 0 0) → ⊥
  unfolding spots_of
  vertices-apart i j h k e =
      let l = vertices (lines_of s ts level) in
      let to = spot_on s slopes style level in
      let most : j < length l = omega (arith, k, length-map (map to l) standing, length-map l to) in
      let least : i < length l = omega (arith, most) in
      let x = get_or l j (0 ⟶ 0) in
      let same : get_or l i (0 ⟶ 0) ≡ x =
      same_spot (get_or l i (0 ⟶ 0)) x (vertex-crossed s ts mesh level (in_at (0 ⟶ 0) l i least)) (vertex-crossed s ts mesh level (in_at (0 ⟶ 0) l j most))
      (sym (placed_at l i least) ∙ e ∙ placed_at l j most) in
      let there : 0 < bit (is_same x x) = rw (same_self x) (omega arith) in
      omega (
        arith,
        vertex_once s ts mesh level x,
        count-total x l,
        two_at (0 ⟶ 0) (λ y. bit (is_same x y)) l i j least most (λ f. omega (arith, f, h)),
        subst (λ y. 0 < bit (is_same x y)) (sym same) there,
        there,
      )
    where
      placed_at : (l : List Directed) (i : ℕ) → i < length l
          → get_or (map standing (map (spot_on s slopes style level) l)) i (place 0 0) ≡ standing (spot_on s slopes style level (get_or l i (0 ⟶ 0)))
      placed_at l i h =
          map_at standing (spot_on s slopes style level (0 ⟶ 0)) (place 0 0) (map (spot_on s slopes style level) l) i
          (omega (arith, length-map l (spot_on s slopes style level)))
          ∙ ap standing (map_at (spot_on s slopes style level) (0 ⟶ 0) (spot_on s slopes style level (0 ⟶ 0)) l i h)
