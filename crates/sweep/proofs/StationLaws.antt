-- The sweep makes triangles and an outline of no stations but those given, and a side that is counted is in its list. Assumes nothing.
use mathlib.Core.Bool.{Bool, true, false}
use mathlib.Core.List.{List, [], ◌∷◌, reverse, map}
use mathlib.Core.Logic.{⊎_elim}
use mathlib.Core.Path.{refl, subst}
use Prim.Native.Nat.{◌<◌}
use native.Mathlib.Omega.{arith}
use lib.IntN.{ℤ, pos}
use lib.Signed.{lt_z}
use Rattle.whole.specs.Place.{Place}
use Rattle.whole.specs.Turn.{turn}
use Rattle.sweep.specs.Members.{total, In, here, there}
use Rattle.sweep.specs.Sweep.{Three, tri, mirror, high, pop, fan, StateOf, ordered, start, EdgeOf, edge, by, step_n, sweep_n, mesh_n}
use Rattle.sweep.specs.Boundary.{on}
use Rattle.sweep.proofs.Fill.{total-some}
use Rattle.sweep.proofs.OnceLaws.{side, Hits, it_is, not_it, hits}
use Rattle.sweep.proofs.MemberLaws.{any_cons, any_none, any_split, any_reverse, any_map, any_find}

-- A side that is counted is in the list.
pub counted_in : (a b : Place) (es : List (EdgeOf Place)) → 0 < total (on (side a b)) es → In (edge a b) es
counted_in a b es h = found (any_find (total-some (on (side a b)) es h))
  where
    found : (e : EdgeOf Place) × In e es × (0 < on (side a b) e) → In (edge a b) es
    found r = by (hits a b r.0.from r.0.to)
      where
        by : Hits a b r.0.from r.0.to (side a b r.0.from r.0.to) → In (edge a b) es
        by (it_is u v e) = subst (λ d. In d es) (λ i. edge (u i) (v i)) r.1
        by (not_it n e) = absurd (omega (arith, e, r.2))

module _ {A : Type 0} (S : A → Type 0) where
  -- All of a list are in S; all corners of a triangle; all of a list of triangles; both ends of a side.
  abbrev pub Stations : List A → Type 0
  Stations l = (x : A) → In x l → S x

  pub record Corners (t : Three A) : Type 0 where
    pub in_a : S t.a
    pub in_b : S t.b
    pub in_c : S t.c

  abbrev pub AllCorners : List (Three A) → Type 0
  AllCorners ts = (t : Three A) → In t ts → Corners t

  cons : {x : A} {l : List A} → S x → Stations l → Stations (x ∷ l)
  cons s f y i = ⊎_elim (λ e. rw e s) (λ j. f y j) (any_cons i)

  pop-stations : (o : A → A → A → ℤ) (q t : A) (l : List A) → S t → Stations l → Stations (pop o q t l)
  unfolding pop
  pop-stations o q t [] h f = cons h f
  pop-stations o q t (s ∷ l) h f = go (lt_z (o s t q) (pos 0)) (pop-stations o q s l (f s (here refl)) (λ x i. f x (there i)))
    where
      go : (b : Bool) → Stations (pop o q s l) → Stations (elim b [ true ↦ pop o q s l | false ↦ t ∷ s ∷ l ])
      go true r = r
      go false r = cons h f

  fan-corners : (o : A → A → A → ℤ) (q t : A) (l : List A) → S q → S t → Stations l → AllCorners (fan o q t l)
  unfolding fan
  fan-corners o q t [] k h f = λ u i. absurd (any_none i)
  fan-corners o q t (s ∷ l) k h f = go (lt_z (o s t q) (pos 0)) (fan-corners o q s l k (f s (here refl)) (λ x i. f x (there i)))
    where
      go : (b : Bool) → AllCorners (fan o q s l) → AllCorners (elim b [ true ↦ tri s q t ∷ fan o q s l | false ↦ [] ])
      go true r u i = ⊎_elim (λ e. rw e (record { in_a = f s (here refl); in_b = k; in_c = h })) (λ j. r u j) (any_cons i)
      go false r u i = absurd (any_none i)

  mirror-corners : (ts : List (Three A)) → AllCorners ts → AllCorners (map mirror ts)
  mirror-corners ts f u i =
      let r = any_find (any_map mirror ts i) in
      let h = f r.0 r.1 in
      rw r.2 (record { in_a = h.in_c; in_b = h.in_b; in_c = h.in_a })

  ordered-corners : (ts us : List (Three A)) → AllCorners us → AllCorners (ordered ts us)
  unfolding ordered
  ordered-corners [] us f u i = f u (any_reverse us i)
  ordered-corners (t ∷ ts) us f u i = f u i

  -- What a state is made of.
  record Made (s : StateOf A) : Type 0 where
    top_in : S s.top
    lo_in : Stations s.lo
    up_in : Stations s.up
    tris_in : AllCorners s.tris

  module _ (f : A → Place) where
    step-made : (s : StateOf A) (q : A) → S q → Made s → Made (step_n f s q)
    unfolding step_n
    step-made s q k m =
        record {
          top_in = k;
          lo_in = pop-stations (by f turn) q s.top s.lo m.top_in m.lo_in;
          up_in = pop-stations (by f high) q s.top s.up m.top_in m.up_in;
          tris_in =
              λ u i.
              ⊎_elim (λ j. m.tris_in u j)
              (λ j.
              ⊎_elim (λ h. low u (any_reverse (fan (by f turn) q s.top s.lo) h)) (λ h. ordered-corners s.tris _ (mirror-corners _ high-fan) u h)
              (any_split (reverse (fan (by f turn) q s.top s.lo)) j))
              (any_split s.tris i);
        }
      where
        low : AllCorners (fan (by f turn) q s.top s.lo)
        low = fan-corners (by f turn) q s.top s.lo k m.top_in m.lo_in

        high-fan : AllCorners (fan (by f high) q s.top s.up)
        high-fan = fan-corners (by f high) q s.top s.up k m.top_in m.up_in

    sweep-made : (s : StateOf A) (qs : List A) → Stations qs → Made s → Made (sweep_n f s qs)
    unfolding sweep_n
    sweep-made s [] h m = m
    sweep-made s (q ∷ qs) h m = sweep-made (step_n f s q) qs (λ x i. h x (there i)) (step-made s q (h q (here refl)) m)

    mesh-made : (p : A) (ps : List A) → Stations (p ∷ ps) → Made (mesh_n f p ps)
    unfolding mesh_n
    mesh-made p ps h =
        sweep-made (start p) ps (λ x i. h x (there i))
        (record { top_in = h p (here refl); lo_in = λ x i. absurd (any_none i); up_in = λ x i. absurd (any_none i); tris_in = λ t i. absurd (any_none i) })

    pub mesh-corners : (p : A) (ps : List A) → Stations (p ∷ ps) → AllCorners (mesh_n f p ps).tris
    mesh-corners p ps h = (mesh-made p ps h).tris_in
