-- The triangles fill the hull and no more: a place beyond a hull side is in no triangle, and a place in the hull is in one, edges counted.
-- Assumes nothing.
use mathlib.Core.Path.{◌≡◌, refl, sym, ◌∙◌, ap}
use mathlib.Core.List.{List, [], ◌∷◌}
use mathlib.Core.Logic.{◌⊎◌, inl, inr, ⊎_elim}
use Prim.Native.Nat.{ℕ, ◌<◌}
use native.Mathlib.Omega.{arith}
use lib.IntN.{pos, ◌+ℤ◌, ◌-ℤ◌, ◌*ℤ◌}
use lib.Signed.{◌≤ℤ◌, ◌<ℤ◌}
use Rattle.whole.proofs.Bridge.{int, minus, add}
use Rattle.whole.proofs.Polynomial.{◌:+◌, ◌:*◌}
use Rattle.whole.proofs.Solver.{identity}
use Rattle.whole.specs.Place.{Place, Before}
use Rattle.whole.specs.Turn.{turn, bend}
use Rattle.whole.proofs.TurnLaws.{turn-swap, Turn, coordinates}
use Rattle.whole.proofs.SignLaws.{positive-mul, nonneg-mul, nonneg_of_mul}
use Rattle.whole.proofs.OrderLaws.{Compared, compared, before-trans, before-irrefl, same, earlier, later}
use Rattle.whole.proofs.BendLaws.{half}
use Rattle.sweep.specs.Sweep.{Triangle, tri, State}
use Rattle.sweep.proofs.Slopes.{lower, upper, low₁, low₂, low₃, low-cyc, turn-anti, flip, zero_from, zero_to, sign}
use Rattle.sweep.proofs.Stack.{Side, top_in}
use Rattle.sweep.specs.Members.{Any, In}
use Rattle.sweep.proofs.MemberLaws.{any_find, in_any}
use Rattle.sweep.specs.Boundary.{around, back, along}
use Rattle.sweep.proofs.Invariants.{Good}
use Rattle.sweep.specs.Cover.{Holds, scale, big}
use Rattle.sweep.specs.Hull.{HullSide}
use Rattle.sweep.proofs.HullLaws.{low-hull, up_hull, side-pair, before-top}
use Rattle.sweep.proofs.CountLaws.{in_line}
use Rattle.sweep.proofs.Spans.{before?, above_one, above_zero, not_before}
use Rattle.sweep.proofs.OnceLaws.{side, side_self, Hits, it_is, not_it, hits, pair_once, rise_none}
use Rattle.sweep.proofs.Fill.{total-some, total_in, Upto, upto, seg_a, seg-b, Over, over, first_side, last_side}
use Rattle.sweep.proofs.CoverLaws.{big-left, scale-area, scale-lex, weight, ind, ind-holds, cover}

-- The place p as a weighted middle of the corners.
pub middle : (a b c s t p : Place) → turn a b c *ℤ turn s t p ≡ turn b c p *ℤ turn s t a +ℤ turn c a p *ℤ turn s t b +ℤ turn a b p *ℤ turn s t c
unfolding turn
middle a b c s t p = identity (coordinates (a ∷ b ∷ c ∷ s ∷ t ∷ p ∷ [])) (Turn 0 1 2 :* Turn 3 4 5) (Turn 1 2 5 :* Turn 3 4 0 :+ Turn 2 0 5 :* Turn 3 4 1 :+ Turn 0 1 5 :* Turn 3 4 2) refl

-- A side that has the three corners on its left has what the triangle holds on its left.
held-left : (t : Triangle) (u v p : Place) → pos 0 <ℤ turn t.a t.b t.c → Holds turn t p → pos 0 ≤ℤ turn u v t.a → pos 0 ≤ℤ turn u v t.b → pos 0 ≤ℤ turn u v t.c →
    pos 0 ≤ℤ turn u v p
held-left t u v p l h x y z =
    nonneg_of_mul l
    (omega (
      arith,
      int,
      middle t.a t.b t.c u v p,
      add (turn t.b t.c p *ℤ turn u v t.a +ℤ turn t.c t.a p *ℤ turn u v t.b) (turn t.a t.b p *ℤ turn u v t.c),
      add (turn t.b t.c p *ℤ turn u v t.a) (turn t.c t.a p *ℤ turn u v t.b),
      nonneg-mul h.bc x,
      nonneg-mul h.ca y,
      nonneg-mul h.ab z,
    ))

module _ (k : ℕ) (h : 0 < k) (p : Place) (z : Place) (done : List Place) (m : State) (gd : Good z done m) where
  -- Scaling keeps left.
  scale-left : (s t w : Place) → pos 0 ≤ℤ turn s t w → pos 0 ≤ℤ turn (scale k s) (scale k t) (scale k w)
  scale-left s t w l = rw (scale-area k s t w) (nonneg-mul (nonneg-mul k-nat k-nat) l)
    where
      k-nat : pos 0 ≤ℤ pos k
      k-nat = omega (arith, int)

  -- A place strictly beyond a side of the hull is in no triangle.
  pub outside : (s t : Place) → HullSide (λ w. In w done) s t → turn (scale k s) (scale k t) p <ℤ pos 0 → (u : Triangle) → In u m.tris → Holds turn (big k u) p → ⊥
  outside s t hs out u i hold =
      let f = gd.fine u i in
      omega (
        arith,
        int,
        held-left (big k u) (scale k s) (scale k t) p (big-left k h u f.left) hold (scale-left s t u.a (hs.left u.a f.in_a)) (scale-left s t u.b (hs.left u.b f.in_b))
            (scale-left s t u.c (hs.left u.c f.in_c)),
      )

  -- ---- a mesh with a triangle
  module _ (u : Triangle) (iu : In u m.tris) where
    -- No side is on both chains: all stations would be on its line.
    pub not_both : (a b : Place) → Side lower (λ w. In w done) a b → Side upper (λ w. In w done) a b → ⊥
    not_both a b l r =
        let f = gd.fine u iu in
        omega (arith, int, f.left, in_line a b u.a u.b u.c l.lex (flat u.a f.in_a) (flat u.b f.in_b) (flat u.c f.in_c))
      where
        flat : (w : Place) → In w done → turn a b w ≡ pos 0
        flat w i = omega (arith, int, l.left w i, r.left w i, turn-swap a b w, minus (pos 0) (turn b a w))

    -- The first station is not the last.
    pub apart : Before z m.top
    apart = go (compared z m.top)
      where
        only : z ≡ m.top → (w : Place) → In w done → w ≡ z
        only e w i = ⊎_elim (λ f. f ∙ sym e) (λ l. absurd (gd.first w i (rw (← e) at l))) (gd.last w i)

        go : Compared z m.top → Before z m.top
        go (same e) = let f = gd.fine u iu in absurd (omega (arith, int, f.left, same_three (only e u.a f.in_a) (only e u.b f.in_b) (only e u.c f.in_c)))
          where
            same_three : {a b c : Place} → a ≡ z → b ≡ z → c ≡ z → turn a b c ≡ pos 0
            same_three x y v = rw (x, y, v) (zero_from lower z z)
        go (earlier l) = l
        go (later l) = absurd (gd.first m.top (top_in gd.low) l)

    -- A hull side of the upper chain has a triangle.
    pub upper-tri : (a b : Place) → Side upper (λ w. In w done) a b → Any (λ t. 0 < around (side b a) t) m.tris
    upper-tri a b sd = total-some (around (side b a)) m.tris (omega (arith, gd.sums (side b a), has, hasn't, rise_none upper _ z b a (λ ba. before-irrefl (before-trans ba sd.lex)) gd.high))
      where
        has : 0 < along (back (side b a)) m.top m.up
        has = omega (arith, total_in (λ e. side b a e.to e.from) (side-pair upper _ z gd.first a b sd (before-top (λ w. In w done) m.top gd.last a b sd.to sd.lex) gd.high), side_self b a)

        hasn't : along (back (side b a)) m.top m.lo ≡ 0
        hasn't = ⊎_elim (λ e. e) (λ r. absurd (not_both a b r.1 sd)) (pair_once lower _ z b a gd.low)

    -- A place on a side of the upper chain is in that side's triangle.
    on_side : (a b : Place) → Side upper (λ w. In w done) a b → turn (scale k a) (scale k b) p ≡ pos 0 → Upto (scale k a) p → Upto p (scale k b) → Any (λ t. Holds turn (big k t) p) m.tris
    on_side a b sd flat ap pb = let r = any_find (upper-tri a b sd) in in_any r.1 (found r.0 r.1 r.2)
      where
        three : (c d e : Place) → pos 0 <ℤ turn c d e → c ≡ b → d ≡ a → Holds turn (big k (tri c d e)) p
        three c d e l x y =
            record {
              ab = rw (x, y) (omega (arith, int, flat, turn-swap (scale k b) (scale k a) p, minus (pos 0) (turn (scale k a) (scale k b) p)));
              bc = rw y (seg_a (scale k a) (scale k b) (scale k e) p flat ap pb l' (scale-lex k h sd.lex));
              ca = rw x (seg-b (scale k a) (scale k b) (scale k e) p flat ap pb l' (scale-lex k h sd.lex));
            }
          where
            l' : pos 0 <ℤ turn (scale k b) (scale k a) (scale k e)
            l' = big-left k h (tri b a e) (rw (x, y) at l)

        found : (t : Triangle) → In t m.tris → 0 < around (side b a) t → Holds turn (big k t) p
        found t i n = go (hits b a t.a t.b) (hits b a t.b t.c) (hits b a t.c t.a)
          where
            l : pos 0 <ℤ turn t.a t.b t.c
            l = (gd.fine t i).left

            go : Hits b a t.a t.b (side b a t.a t.b) → Hits b a t.b t.c (side b a t.b t.c) → Hits b a t.c t.a (side b a t.c t.a) → Holds turn (big k t) p
            go (it_is x y e) _ _ = three t.a t.b t.c l x y
            go (not_it _ d) (it_is x y e) _ =
                let r = three t.b t.c t.a (rw (low-cyc t.b t.c t.a) l) x y in record { ab = r.ca; bc = r.ab; ca = r.bc }
            go (not_it _ d) (not_it _ e) (it_is x y f) = let r = three t.c t.a t.b (rw low-cyc at l) x y in record { ab = r.bc; bc = r.ca; ca = r.ab }
            go (not_it _ d) (not_it _ e) (not_it _ f) = absurd (omega (arith, n))

    module _ (hull : (s t : Place) → HullSide (λ w. In w done) s t → pos 0 ≤ℤ turn (scale k s) (scale k t) p) where
      low_in : (s t : Place) → Side lower (λ w. In w done) s t → pos 0 ≤ℤ turn (scale k s) (scale k t) p
      low_in s t sd = hull s t (low-hull _ s t sd)

      up_in : (s t : Place) → Side upper (λ w. In w done) s t → pos 0 ≤ℤ turn (scale k t) (scale k s) p
      up_in s t sd = hull t s (up_hull _ s t sd)

      unscale : (s t w : Place) → pos 0 ≤ℤ turn (scale k s) (scale k t) (scale k w) → pos 0 ≤ℤ turn s t w
      unscale s t w l = nonneg_of_mul (positive-mul k-pos k-pos) (rw (scale-area k s t w) at l)
        where
          k-pos : pos 0 <ℤ pos k
          k-pos = omega (arith, int)

      -- A place before the first station is beyond one of its two sides.
      not_first : Before p (scale k z) → ⊥
      not_first pz = go (first_side apart gd.low) (first_side apart gd.high)
        where
          go : (t : Place) × Side lower (λ w. In w done) z t → (v : Place) × Side upper (λ w. In w done) z v → ⊥
          go x y = ends (compared t v)
            where
              t : Place
              t = x.0

              v : Place
              v = y.0

              Z : Place
              Z = scale k z

              round : pos 0 ≤ℤ turn z v t
              round =
                  unscale z v t
                  (rw (low₂ Z (scale k v) (scale k t))
                  (half Z (scale k v) p Z Z (scale k t) (scale-lex k h y.1.lex) pz (scale-lex k h x.1.lex)
                  (omega (arith, int, up_in z v y.1, turn-swap (scale k v) Z p, minus (pos 0) (turn Z (scale k v) p), low-cyc Z (scale k v) p, low₁ p Z (scale k v), turn-anti Z (scale k v) p Z, minus (pos 0) (bend p Z Z (scale k v))))
                  (omega (arith, int, low_in z t x.1, low-cyc Z (scale k t) p, low₁ p Z (scale k t)))))

              ends : Compared t v → ⊥
              ends (same e) = not_both z t x.1 (rw e y.1)
              ends (earlier l) = omega (arith, int, round, y.1.apart t x.1.to x.1.lex l, turn-swap v z t, minus (pos 0) (turn z v t))
              ends (later l) = omega (arith, int, round, x.1.apart v y.1.to y.1.lex l, flip lower z v t, minus (pos 0) (turn z t v))

      -- And a place after the last one is beyond one of its two.
      not_last : Before (scale k m.top) p → ⊥
      not_last tp = go (last_side apart gd.low) (last_side apart gd.high)
        where
          T : Place
          T = scale k m.top

          go : (s : Place) × Side lower (λ w. In w done) s m.top → (r : Place) × Side upper (λ w. In w done) r m.top → ⊥
          go x y = ends (compared s r)
            where
              s : Place
              s = x.0

              r : Place
              r = y.0

              round : pos 0 ≤ℤ turn s r m.top
              round =
                  unscale s r m.top
                  (rw (low₃ (scale k s) (scale k r) T)
                  (half (scale k s) T T p (scale k r) T (scale-lex k h x.1.lex) tp (scale-lex k h y.1.lex)
                  (omega (arith, int, low_in s m.top x.1, low₁ (scale k s) T p))
                  (omega (arith, int, up_in r m.top y.1, turn-swap T (scale k r) p, minus (pos 0) (turn (scale k r) T p), low₁ (scale k r) T p, turn-anti T p (scale k r) T, minus (pos 0) (bend (scale k r) T T p)))))

              ends : Compared s r → ⊥
              ends (same e) = not_both s m.top x.1 (rw e y.1)
              ends (earlier l) = omega (arith, int, round, x.1.apart r y.1.from l y.1.lex, flip lower s r m.top, minus (pos 0) (turn s m.top r))
              ends (later l) = omega (arith, int, round, y.1.apart s x.1.from l x.1.lex, low-cyc m.top r s, flip lower s r m.top, minus (pos 0) (turn s m.top r))

      -- A place that no hull side has on its right is in a triangle.
      pub within : Any (λ t. Holds turn (big k t) p) m.tris
      within = go (before? p (scale k z)) (before? p (scale k m.top))
        where
          between : Over lower (λ w. In w done) k p (along (weight k p) m.top m.lo) → Over upper (λ w. In w done) k p (along (weight k p) m.top m.up) → Any (λ t. Holds turn (big k t) p) m.tris
          between x y = ⊎_elim (λ l. inner l) (λ l. on_side y.s y.t y.side (flat l) (upto (scale k y.s) p (back_order (not_before p (scale k y.s) y.from))) (upto p (scale k y.t) (inr y.to))) (sign (turn (scale k y.t) (scale k y.s) p))
            where
              back_order : {a : Place} → (p ≡ a) ⊎ Before a p → (a ≡ p) ⊎ Before a p
              back_order (inl e) = inl (sym e)
              back_order (inr l) = inr l

              swap : turn (scale k y.t) (scale k y.s) p ≡ pos 0 -ℤ turn (scale k y.s) (scale k y.t) p
              swap = turn-swap (scale k y.t) (scale k y.s) p

              flat : turn (scale k y.t) (scale k y.s) p ≤ℤ pos 0 → turn (scale k y.s) (scale k y.t) p ≡ pos 0
              flat l = omega (arith, int, up_in y.s y.t y.side, swap, minus (pos 0) (turn (scale k y.s) (scale k y.t) p))

              inner : pos 0 <ℤ turn (scale k y.t) (scale k y.s) p → Any (λ t. Holds turn (big k t) p) m.tris
              inner l =
                  let r = any_find (total-some (ind k p) m.tris (omega (arith, cover k h p z done m gd, x.count, y.count, above_one (low_in x.s x.t x.side), above_zero {z = turn (scale k y.s) (scale k y.t) p} (omega (arith, int, swap, minus (pos 0) (turn (scale k y.s) (scale k y.t) p)))))) in
                  in_any r.1 (ind-holds k h p r.0 (gd.fine r.0 r.1).left r.2)

          at_last : (p ≡ scale k m.top) ⊎ Before (scale k m.top) p → Any (λ t. Holds turn (big k t) p) m.tris
          at_last (inl e) = corner (last_side apart gd.high)
            where
              corner : (r : Place) × Side upper (λ w. In w done) r m.top → Any (λ t. Holds turn (big k t) p) m.tris
              corner x =
                  on_side x.0 m.top x.1 (rw e (zero_to lower (scale k x.0) (scale k m.top))) (upto (scale k x.0) p (inr (rw e (scale-lex k h x.1.lex))))
                  (upto p (scale k m.top) (inl e))
          at_last (inr l) = absurd (not_last l)

          go : Dec (Before p (scale k z)) → Dec (Before p (scale k m.top)) → Any (λ t. Holds turn (big k t) p) m.tris
          go (yes x) d = absurd (not_first x)
          go (no x) (yes y) = between (over lower _ z k h p x y gd.low) (over upper _ z k h p x y gd.high)
          go (no x) (no y) = at_last (not_before p (scale k m.top) y)
