-- How a level cuts a triangle: it has two spots or none (`two-or_none`). Where there are two, they cut off one corner, which is on another side
-- of the level than the other two (`cut_off`), and where a corner is so, its two sides carry the spots (`off_cut`); where there are none,
-- all corners are on one side of the level (`uncut`). Assumes nothing.
--
-- Each corner is below the level or not: eight cases, in two of which no side is crossed.
use mathlib.Core.Path.{◌≡◌, refl, sym, ap, ◌∙◌, subst}
use mathlib.Core.Bool.{Bool, true, false, cond, not, beq, true≢false}
use mathlib.Core.List.{List, [], ◌∷◌, ◌++◌}
use mathlib.Core.Logic.{◌⊎◌, inl, inr}
use Prim.Native.Nat.{ℕ, ◌<◌}
use native.Mathlib.Omega.{arith}
use lib.IntN.{ℤ, pos}
use lib.ListN.{length}
use lib.Signed.{◌<ℤ◌}
use Rattle.whole.specs.Place.{Place}
use Rattle.whole.specs.Turn.{turn}
use Rattle.whole.proofs.TurnLaws.{turn-cycle}
use Rattle.sweep.specs.Members.{In, here, there}
use Rattle.sweep.specs.Sweep.{Three}
use Rattle.survey.specs.Survey.{Survey, count, place_of}
use Rattle.trace.specs.Crossed.{is_crossed}
use Rattle.trace.specs.Mesh.{Has, first, second, third, later}
use Rattle.trace.specs.Side.{◌⟶◌}
use Rattle.trace.proofs.StepLaws.{side-reversed}
use Rattle.hull.specs.MeshOf.{CornerOf, at_a, at_b, at_c, OnStations, twice_of}
use Rattle.spots.specs.Lines.{is_below, spot_on}
use Rattle.ground.specs.Segments.{standing, spot_place, side_spots, spots_in}
use Rattle.ground.proofs.ShareLaws.{not_back}

-- ---- a triangle, named from any of its corners
pub data Named (t : Three ℕ) : ℕ → ℕ → ℕ → Type 0 where
  from_a : Named t t.a t.b t.c
  from_b : Named t t.b t.c t.a
  from_c : Named t t.c t.a t.b

pub next-named : {t : Three ℕ} {v w u : ℕ} → Named t v w u → Named t w u v
next-named from_a = from_b
next-named from_b = from_c
next-named from_c = from_a

-- A triangle of a list is one that is named so.
pub has_named : {v w u : ℕ} {ts : List (Three ℕ)} → Has v w u ts → (t : Three ℕ) × In t ts × Named t v w u
has_named (first {t = t}) = (t, here refl, from_a)
has_named (second {t = t}) = (t, here refl, from_b)
has_named (third {t = t}) = (t, here refl, from_c)
has_named (later h) = let r = has_named h in (r.0, there r.1, r.2)

pub named_has : {t : Three ℕ} {v w u : ℕ} {ts : List (Three ℕ)} → In t ts → Named t v w u → Has v w u ts
named_has {t} {v} {w} {u} (here {l = l} e) n = subst (λ x. Has v w u (x ∷ l)) e (go n)
  where
    go : {v w u : ℕ} → Named t v w u → Has v w u (t ∷ l)
    go from_a = first
    go from_b = second
    go from_c = third
named_has (there i) n = later (named_has i n)

pub named-corner : {t : Three ℕ} {v w u : ℕ} → Named t v w u → CornerOf v t
named-corner from_a = at_a refl
named-corner from_b = at_b refl
named-corner from_c = at_c refl

-- Each corner is one of the three that are named.
pub corner-named : {t : Three ℕ} {v w u k : ℕ} → Named t v w u → CornerOf k t → (k ≡ v) ⊎ ((k ≡ w) ⊎ (k ≡ u))
corner-named from_a (at_a e) = inl e
corner-named from_a (at_b e) = inr (inl e)
corner-named from_a (at_c e) = inr (inr e)
corner-named from_b (at_a e) = inr (inr e)
corner-named from_b (at_b e) = inl e
corner-named from_b (at_c e) = inr (inl e)
corner-named from_c (at_a e) = inr (inl e)
corner-named from_c (at_b e) = inr (inr e)
corner-named from_c (at_c e) = inl e

-- Two namings of one triangle: from the same corner, from the next, or from the one before.
pub data Turned (v w u : ℕ) : ℕ → ℕ → ℕ → Type 0 where
  same : Turned v w u v w u
  next : Turned v w u w u v
  before : Turned v w u u v w

pub named-twice : {t : Three ℕ} {v w u x y z : ℕ} → Named t v w u → Named t x y z → Turned v w u x y z
named-twice from_a from_a = same
named-twice from_a from_b = next
named-twice from_a from_c = before
named-twice from_b from_a = before
named-twice from_b from_b = same
named-twice from_b from_c = next
named-twice from_c from_a = next
named-twice from_c from_b = before
named-twice from_c from_c = same

-- Its corners are stations, and it is counterclockwise, from whichever corner.
module _ (s : Survey) {t : Three ℕ} where
  pub named_on : {v w u : ℕ} → OnStations s t → Named t v w u → (v < count s) × (w < count s) × (u < count s)
  named_on h from_a = (h.on_a, h.on_b, h.on_c)
  named_on h from_b = (h.on_b, h.on_c, h.on_a)
  named_on h from_c = (h.on_c, h.on_a, h.on_b)

  pub named-left : {v w u : ℕ} → pos 0 <ℤ twice_of s t → Named t v w u → pos 0 <ℤ turn (place_of s v) (place_of s w) (place_of s u)
  named-left h from_a = h
  named-left h from_b = rw (← turn-cycle (place_of s t.a) (place_of s t.b) (place_of s t.c)) h
  named-left h from_c = rw (turn-cycle (place_of s t.c) (place_of s t.a) (place_of s t.b)) h

-- ---- the corner that is cut off
-- p and q are x and y, in this order or the other.
abbrev pub Ends : Place → Place → Place → Place → Type 0
Ends p q x y = ((p ≡ x) × (q ≡ y)) ⊎ ((p ≡ y) × (q ≡ x))

beq-differ : (f g : Bool) → not (beq f g) ≡ true → g ≡ not f
beq-differ true true e = absurd (true≢false (sym e))
beq-differ true false e = refl
beq-differ false true e = refl
beq-differ false false e = absurd (true≢false (sym e))

module _ (s : Survey) (slopes : List ℤ) (style : ℕ) (level : ℤ) where
  abbrev at : ℕ → Bool
  at k = is_below s level k

  abbrev spot : ℕ → ℕ → Place
  spot i j = spot_place s slopes style level (i ⟶ j)

  -- The ends of a crossed side are on the two sides of the level, whichever is named first.
  pub crossed-unlike : (i j : ℕ) → is_crossed (is_below s level) (i ⟶ j) ≡ true → at j ≡ not (at i)
  unfolding is_crossed
  crossed-unlike i j e = beq-differ (at i) (at j) e

  pub unlike-crossed : (i j : ℕ) → at j ≡ not (at i) → is_crossed (is_below s level) (i ⟶ j) ≡ true
  unfolding is_crossed
  unlike-crossed i j e = go (at i) (at j) e
    where
      go : (f g : Bool) → g ≡ not f → not (beq f g) ≡ true
      go true g e = rw e
      go false g e = rw e

  pub unlike_back : (i j : ℕ) → at j ≡ not (at i) → at i ≡ not (at j)
  unlike_back i j e = not_back (at i) e

  -- Its spot is the same from either.
  pub spot_back : (i j : ℕ) → spot i j ≡ spot j i
  unfolding spot_place
  spot_back i j = ap (λ d. standing (spot_on s slopes style level d)) (side-reversed (j ⟶ i))

  -- The corner v of a triangle is on another side of the level than w and u, and p and q are the spots of its sides.
  pub record CutOff (t : Three ℕ) (p q : Place) : Type 0 where
    pub v : ℕ
    pub w : ℕ
    pub u : ℕ
    pub named : Named t v w u
    pub w-unlike : at w ≡ not (at v)
    pub u-unlike : at u ≡ not (at v)
    pub ends : Ends p q (spot v w) (spot v u)

  -- The spots of a triangle, by which corners are below.
  abbrev spots_by : Bool → Bool → Bool → Place → Place → Place → List Place
  spots_by fa fb fc ab bc ca =
      cond (not (beq fa fb)) (ab ∷ []) [] ++ (cond (not (beq fb fc)) (bc ∷ []) [] ++ cond (not (beq fc fa)) (ca ∷ []) [])

  module _ (t : Three ℕ) where
    abbrev ab : Place
    ab = spot t.a t.b

    abbrev bc : Place
    bc = spot t.b t.c

    abbrev ca : Place
    ca = spot t.c t.a

    spots-by : spots_in s slopes style level t ≡ spots_by (at t.a) (at t.b) (at t.c) ab bc ca
    unfolding spots_in side_spots is_crossed
    spots-by = refl

    by_a : (f : Bool) (x y z : Place) → spots_by f (not f) (not f) x y z ≡ x ∷ z ∷ []
    by_a true x y z = refl
    by_a false x y z = refl

    by_b : (f : Bool) (x y z : Place) → spots_by (not f) f (not f) x y z ≡ x ∷ y ∷ []
    by_b true x y z = refl
    by_b false x y z = refl

    by_c : (f : Bool) (x y z : Place) → spots_by (not f) (not f) f x y z ≡ y ∷ z ∷ []
    by_c true x y z = refl
    by_c false x y z = refl

    -- Two spots or none, by the corner that is cut off.
    module _ {p q : Place} where
      off_a : at t.b ≡ not (at t.a) → at t.c ≡ not (at t.a) → (p ≡ ab) × (q ≡ ca) → CutOff t p q
      off_a e f (h, k) =
          record { v = t.a; w = t.b; u = t.c; named = from_a; w-unlike = e; u-unlike = f; ends = inl (h, k ∙ sym (spot_back t.a t.c)) }

      off_b : at t.c ≡ not (at t.b) → at t.a ≡ not (at t.b) → (p ≡ ab) × (q ≡ bc) → CutOff t p q
      off_b e f (h, k) =
          record { v = t.b; w = t.c; u = t.a; named = from_b; w-unlike = e; u-unlike = f; ends = inr (h ∙ sym (spot_back t.b t.a), k) }

      off_c : at t.a ≡ not (at t.c) → at t.b ≡ not (at t.c) → (p ≡ bc) × (q ≡ ca) → CutOff t p q
      off_c e f (h, k) =
          record { v = t.c; w = t.a; u = t.b; named = from_c; w-unlike = e; u-unlike = f; ends = inr (h ∙ sym (spot_back t.c t.b), k) }

      two : {x y : Place} → x ∷ y ∷ [] ≡ p ∷ q ∷ [] → (p ≡ x) × (q ≡ y)
      two e = (cc, cc)

      empty : [] ≡ p ∷ q ∷ [] → ⊥
      empty e = omega (arith, ap length e)

      pub cut_off : spots_in s slopes style level t ≡ p ∷ q ∷ [] → CutOff t p q
      cut_off e = go (at t.a) (at t.b) (at t.c) refl refl refl (sym spots-by ∙ e)
        where
          go : (fa fb fc : Bool) → at t.a ≡ fa → at t.b ≡ fb → at t.c ≡ fc
              → spots_by (at t.a) (at t.b) (at t.c) ab bc ca ≡ p ∷ q ∷ [] → CutOff t p q
          go true false false x y z e = off_a (y ∙ ap not (sym x)) (z ∙ ap not (sym x)) (two (rw (x, y, z) at e))
          go false true true x y z e = off_a (y ∙ ap not (sym x)) (z ∙ ap not (sym x)) (two (rw (x, y, z) at e))
          go false true false x y z e = off_b (z ∙ ap not (sym y)) (x ∙ ap not (sym y)) (two (rw (x, y, z) at e))
          go true false true x y z e = off_b (z ∙ ap not (sym y)) (x ∙ ap not (sym y)) (two (rw (x, y, z) at e))
          go false false true x y z e = off_c (x ∙ ap not (sym z)) (y ∙ ap not (sym z)) (two (rw (x, y, z) at e))
          go true true false x y z e = off_c (x ∙ ap not (sym z)) (y ∙ ap not (sym z)) (two (rw (x, y, z) at e))
          go true true true x y z e = absurd (empty (rw (x, y, z) at e))
          go false false false x y z e = absurd (empty (rw (x, y, z) at e))

      -- And a corner that is so is cut off: its two sides carry the ends of the segment.
      pub off_cut : CutOff t p q → (spots_in s slopes style level t ≡ p ∷ q ∷ []) ⊎ (spots_in s slopes style level t ≡ q ∷ p ∷ [])
      off_cut c = go c.named c.w-unlike c.u-unlike c.ends
        where
          pair : {x y a b : Place} → spots_in s slopes style level t ≡ a ∷ b ∷ [] → a ≡ x → b ≡ y → Ends p q x y
              → (spots_in s slopes style level t ≡ p ∷ q ∷ []) ⊎ (spots_in s slopes style level t ≡ q ∷ p ∷ [])
          pair e f g (inl (h, k)) = inl (e ∙ rw (f, g, h, k))
          pair e f g (inr (h, k)) = inr (e ∙ rw (f, g, h, k))

          flip : {x y : Place} → Ends p q x y → Ends p q y x
          flip (inl h) = inr h
          flip (inr h) = inl h

          go : {v w u : ℕ} → Named t v w u → at w ≡ not (at v) → at u ≡ not (at v) → Ends p q (spot v w) (spot v u)
              → (spots_in s slopes style level t ≡ p ∷ q ∷ []) ⊎ (spots_in s slopes style level t ≡ q ∷ p ∷ [])
          go from_a e f h =
              pair (spots-by ∙ (λ i. spots_by (at t.a) (e i) (f i) ab bc ca) ∙ by_a (at t.a) ab bc ca) refl (sym (spot_back t.a t.c)) h
          go from_b e f h =
              pair (spots-by ∙ (λ i. spots_by (f i) (at t.b) (e i) ab bc ca) ∙ by_b (at t.b) ab bc ca) (sym (spot_back t.b t.a)) refl (flip h)
          go from_c e f h =
              pair (spots-by ∙ (λ i. spots_by (e i) (f i) (at t.c) ab bc ca) ∙ by_c (at t.c) ab bc ca) (sym (spot_back t.c t.b)) refl (flip h)

    -- 'its two crossed sides': there are two or none.
    pub two-or_none : (spots_in s slopes style level t ≡ []) ⊎ ((p : Place) × (q : Place) × (spots_in s slopes style level t ≡ p ∷ q ∷ []))
    two-or_none = subst (λ l. (l ≡ []) ⊎ ((p : Place) × (q : Place) × (l ≡ p ∷ q ∷ []))) (sym spots-by) (go (at t.a) (at t.b) (at t.c))
      where
        go : (fa fb fc : Bool) → (spots_by fa fb fc ab bc ca ≡ []) ⊎ ((p : Place) × (q : Place) × (spots_by fa fb fc ab bc ca ≡ p ∷ q ∷ []))
        go true true true = inl refl
        go true true false = inr (bc, ca, refl)
        go true false true = inr (ab, bc, refl)
        go true false false = inr (ab, ca, refl)
        go false true true = inr (ab, ca, refl)
        go false true false = inr (ab, bc, refl)
        go false false true = inr (bc, ca, refl)
        go false false false = inl refl

    -- A triangle without spots has all corners on one side of the level.
    pub uncut : spots_in s slopes style level t ≡ [] → {j k : ℕ} → CornerOf j t → CornerOf k t → at j ≡ at k
    uncut e h g = all h ∙ sym (all g)
      where
        full : {x : Place} {l : List Place} → x ∷ l ≡ [] → ⊥
        full e = omega (arith, ap length e)

        go : (fa fb fc : Bool) → spots_by fa fb fc ab bc ca ≡ [] → (fb ≡ fa) × (fc ≡ fa)
        go true true true e = (refl, refl)
        go false false false e = (refl, refl)
        go true false false e = absurd (full e)
        go false true true e = absurd (full e)
        go false true false e = absurd (full e)
        go true false true e = absurd (full e)
        go false false true e = absurd (full e)
        go true true false e = absurd (full e)

        all : {k : ℕ} → CornerOf k t → at k ≡ at t.a
        all (at_a f) = ap (is_below s level) f
        all (at_b f) = ap (is_below s level) f ∙ (go (at t.a) (at t.b) (at t.c) (sym spots-by ∙ e)).0
        all (at_c f) = ap (is_below s level) f ∙ (go (at t.a) (at t.b) (at t.c) (sym spots-by ∙ e)).1
