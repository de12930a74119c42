-- A swap keeps a mesh: `swap-keeps`. Assumes nothing.
--
-- The two triangles on the side are a convex quadrilateral, and the two new ones are the same quadrilateral cut the other way. So a
-- station, or any place, in a new triangle is in an old one and the other way round.
use mathlib.Core.Path.{◌≡◌, refl, sym, ap, ◌∙◌, subst}
use mathlib.Core.Bool.{Bool, true, false, true≢false, not, ◌&&◌, ◌||◌}
use mathlib.Core.List.{List, [], ◌∷◌, map}
use mathlib.Core.Logic.{◌⊎◌, inl, inr, ⊎_elim}
use Prim.Native.Nat.{ℕ, ◌+◌, ◌*◌, ◌≤◌, ◌<◌}
use native.Mathlib.Omega.{arith}
use lib.Dec.{eqb}
use lib.IntN.{ℤ, pos, nat_abs, ◌+ℤ◌, ◌*ℤ◌}
use lib.ListN.{length, length-map}
use lib.Signed.{◌≤ℤ◌, ◌<ℤ◌}
use Rattle.lists.proofs.LowestLaws.{none_found}
use Rattle.lists.proofs.TestLaws.{and_right, or_left}
use Rattle.whole.specs.Place.{Place}
use Rattle.whole.specs.Turn.{turn}
use Rattle.whole.proofs.Bridge.{int, gain, loss, Is, is_eq, eq_is, is_add, is_int, is_nat, add, minus, test-false}
use Rattle.whole.proofs.TurnLaws.{turn-cycle, turn-swap, turn-flip}
use Rattle.survey.specs.Fit.{Fit}
use Rattle.survey.specs.Survey.{Survey, count, place_of, in_use}
use Rattle.sweep.specs.Cover.{Holds, Inside, scale, big}
use Rattle.sweep.specs.Members.{Any, In, total, sum}
use Rattle.sweep.specs.Sweep.{Three, tri}
use Rattle.sweep.proofs.MemberLaws.{any_find, any_map, in_any}
use Rattle.trace.specs.Mesh.{Has}
use Rattle.hull.specs.Hull.{is_hull_side, is_right, is_between, hull_count}
use Rattle.hull.specs.MeshOf.{placed, twice_of, CornerOf, at_a, at_b, at_c, OnStations, step_is, runs, runs_in, MeshOf}
use Rattle.hull.proofs.SideLaws.{Step, step, is, is_not, corners-differ, in_map, sides-counted}
use Rattle.circle.specs.Circle.{circle}
use Rattle.fatter.specs.Swap.{exchange, square_of, load, slack}
use Rattle.circle.proofs.CircleLaws.{square, new-left, new-right, same_area, load-falls, abs_positive}
use Rattle.fatter.proofs.ExchangeLaws.{turned_in, turned_to, turned_same, runs-next, step_self, step_not, runs_own}
use Rattle.fatter.proofs.ExchangeLaws as exchanged
use Rattle.fatter.proofs.QuadLaws.{Convex, convex-next, holds-next, inside-next, cut}
use Rattle.fatter.proofs.FreshLaws.{quad_in, no_overlap, fresh}

-- A sum of whole numbers, as the gains less the losses.
pub sum-parts : {A : Type 0} (h : A → ℤ) (ts : List A) → Is (sum h ts) (total (λ t. gain (h t)) ts) (total (λ t. loss (h t)) ts)
unfolding sum total
sum-parts h [] = is_nat 0
sum-parts h (t ∷ ts) = is_add (is_int (h t)) (sum-parts h ts)

-- The load of a triangle, as a whole number; from whichever corner it is written.
load_is : (s : Survey) (t : Three ℕ) → pos 0 <ℤ twice_of s t
    → pos (load s t) ≡ twice_of s t *ℤ (square (place_of s t.a) +ℤ square (place_of s t.b) +ℤ square (place_of s t.c))
unfolding load
load_is s t h = ap (λ z. z *ℤ (square (place_of s t.a) +ℤ square (place_of s t.b) +ℤ square (place_of s t.c))) (abs_positive h)

pub load-next : (s : Survey) (t : Three ℕ) → load s (tri t.b t.c t.a) ≡ load s t
unfolding load
load-next s t =
    rw (← turn-cycle (place_of s t.a) (place_of s t.b) (place_of s t.c))
    (turns (nat_abs (twice_of s t)) (square_of (place_of s t.a)) (square_of (place_of s t.b)) (square_of (place_of s t.c)))
  where
    turns : (x a b c : ℕ) → x * (b + c + a) ≡ x * (a + b + c)
    turns x a b c = omega arith

module _
    (s : Survey)
    (ts : List (Three ℕ))
    (m : MeshOf s ts)
    (i j l r : ℕ)
    (on : Has i j l ts)
    (back : Has j i r ts)
    (far : pos 0 <ℤ circle (place_of s i) (place_of s j) (place_of s l) (place_of s r))
  where
    abbrev g : ℕ → Place
    g = place_of s

    abbrev us : List (Three ℕ)
    us = map (exchange i j l r) ts

    abbrev Case : Three ℕ → Three ℕ → Type 0
    Case = exchanged.Case s ts m.positive i j l r on back (m.once i j) (m.once j i)

    case : (t : Three ℕ) → In t ts → Case t (exchange i j l r t)
    case = exchanged.case s ts m.positive i j l r on back (m.once i j) (m.once j i)

    pub old-left : pos 0 <ℤ turn (g i) (g j) (g l)
    old-left = exchanged.positive_at s ts m.positive i j l r on back (m.once i j) (m.once j i) on

    pub old-right : pos 0 <ℤ turn (g j) (g i) (g r)
    old-right = exchanged.positive_at s ts m.positive i j l r on back (m.once i j) (m.once j i) back

    pub irl : pos 0 <ℤ turn (g i) (g r) (g l)
    irl = new-left (g i) (g j) (g l) (g r) old-left old-right far

    pub rjl : pos 0 <ℤ turn (g r) (g j) (g l)
    rjl = new-right (g i) (g j) (g l) (g r) old-left old-right far

    quad : Convex (g i) (g r) (g j) (g l)
    quad =
        record {
          abc = rw (← turn-cycle (g j) (g i) (g r)) old-right;
          bcd = rjl;
          cda = rw (← turn-cycle (g i) (g j) (g l)) old-left;
          dab = rw (turn-cycle (g l) (g i) (g r)) irl;
        }

    -- ---- members
    -- A triangle of the new list is one that stays, or one of the two.
    pub data Which (u : Three ℕ) : Type 0 where
      stays : In u ts → runs i j u ≡ 0 → runs j i u ≡ 0 → Which u
      first : u ≡ tri i r l → Which u
      second : u ≡ tri r j l → Which u

    pub which : (u : Three ℕ) → In u us → Which u
    which u k = let q = any_find (any_map (exchange i j l r) ts k) in go q.0 q.1 q.2 (case q.0 q.1)
      where
        go : (t : Three ℕ) → In t ts → u ≡ exchange i j l r t → Case t (exchange i j l r t) → Which u
        go t h e (exchanged.other p q x) = let same : t ≡ u = sym (e ∙ x) in subst Which same (stays h p q)
        go t h e (exchanged.left_one p q w x) = first (e ∙ x)
        go t h e (exchanged.right_one p q w x) = second (e ∙ x)

    every : (P : Three ℕ → Type 0) → ((t : Three ℕ) → In t ts → P t) → P (tri i r l) → P (tri r j l) → (u : Three ℕ) → In u us → P u
    every P old a b u k = go (which u k)
      where
        go : Which u → P u
        go (stays h p q) = old u h
        go (first e) = subst P (sym e) a
        go (second e) = subst P (sym e) b

    -- What holds of every old triangle, from any of its corners, holds of the two old ones on the side.
    at : (P : Three ℕ → Type 0) → ((t : Three ℕ) → P t → P (tri t.b t.c t.a)) → ((t : Three ℕ) → In t ts → P t) → {a b c : ℕ} → Has a b c ts → P (tri a b c)
    at P next all h = let q = turned_in h in turned_to P next q.2 (all q.0 q.1)

    pub in_first : In (tri i r l) us
    in_first = let q = turned_in on in go q.0 q.1 (turned_same (runs i j) (runs-next i j) q.2 ∙ runs_own s i j l old-left) (case q.0 q.1)
      where
        go : (t : Three ℕ) → In t ts → runs i j t ≡ 1 → Case t (exchange i j l r t) → In (tri i r l) us
        go t h o (exchanged.other p q x) = absurd (omega arith)
        go t h o (exchanged.left_one p q w x) = subst (λ u. In u us) x (in_map (exchange i j l r) h)
        go t h o (exchanged.right_one p q w x) = absurd (omega arith)

    pub in_second : In (tri r j l) us
    in_second = let q = turned_in back in go q.0 q.1 (turned_same (runs j i) (runs-next j i) q.2 ∙ runs_own s j i r old-right) (case q.0 q.1)
      where
        go : (t : Three ℕ) → In t ts → runs j i t ≡ 1 → Case t (exchange i j l r t) → In (tri r j l) us
        go t h o (exchanged.other p q x) = absurd (omega arith)
        go t h o (exchanged.left_one p q w x) = absurd (omega arith)
        go t h o (exchanged.right_one p q w x) = subst (λ u. In u us) x (in_map (exchange i j l r) h)

    -- What holds of an old triangle, from any of its corners, holds of a new one, if it goes over from the two old ones.
    some : (P : Three ℕ → Type 0) → ((t : Three ℕ) → P t → P (tri t.b t.c t.a)) → (P (tri i j l) → P (tri i r l) ⊎ P (tri r j l))
        → (P (tri j i r) → P (tri i r l) ⊎ P (tri r j l)) → Any P ts → Any P us
    some P next a b k = let q = any_find k in go q.0 q.1 q.2 (case q.0 q.1)
      where
        either : P (tri i r l) ⊎ P (tri r j l) → Any P us
        either (inl p) = in_any in_first p
        either (inr p) = in_any in_second p

        go : (t : Three ℕ) → In t ts → P t → Case t (exchange i j l r t) → Any P us
        go t h p (exchanged.other _ _ x) = in_any (in_map (exchange i j l r) h) (subst P (sym x) p)
        go t h p (exchanged.left_one _ _ w x) = either (a (turned_to P next w p))
        go t h p (exchanged.right_one _ _ w x) = either (b (turned_to P next w p))

    -- ---- sides
    pub new_once : runs_in r l ts ≡ 0
    new_once = fresh s ts m i j l r on back quad

    pub new_once_back : runs_in l r ts ≡ 0
    new_once_back = fresh s ts m j i r l back on (convex-next (convex-next quad))

    -- How often a side is run: the old side no more, the new one instead.
    run : (p q : ℕ) → runs_in p q us + step_is p q i j + step_is p q j i ≡ runs_in p q ts + step_is p q r l + step_is p q l r
    run p q = omega (arith, exchanged.sums s ts m.positive i j l r on back (m.once i j) (m.once j i) (runs p q) (runs-next p q))

    -- A step that is one of the four, or none.
    data Among (p q : ℕ) : Type 0 where
      old : p ≡ i → q ≡ j → Among p q
      old_back : p ≡ j → q ≡ i → Among p q
      new : p ≡ r → q ≡ l → Among p q
      new_back : p ≡ l → q ≡ r → Among p q
      none : runs_in p q us ≡ runs_in p q ts → runs_in q p us ≡ runs_in q p ts → Among p q

    among : (p q : ℕ) → Among p q
    among p q = go (step p q i j) (step p q j i) (step p q r l) (step p q l r)
      where
        go : Step p q i j (step_is p q i j) → Step p q j i (step_is p q j i) → Step p q r l (step_is p q r l) → Step p q l r (step_is p q l r) → Among p q
        go (is a b e) y z w = old (sym a) (sym b)
        go (is_not n d) (is a b e) z w = old_back (sym a) (sym b)
        go (is_not n d) (is_not y e) (is a b x) w = new (sym a) (sym b)
        go (is_not n d) (is_not y e) (is_not z x) (is a b v) = new_back (sym a) (sym b)
        go (is_not n d) (is_not y e) (is_not z x) (is_not w v) =
            none (omega (arith, run p q))
            (omega (
              arith,
              run q p,
              step_not q p i j (λ a b. y b a),
              step_not q p j i (λ a b. n b a),
              step_not q p r l (λ a b. w b a),
              step_not q p l r (λ a b. z b a),
            ))

    on_once : runs_in i j ts ≡ 1
    on_once = exchanged.run_on s ts m.positive i j l r on back (m.once i j) (m.once j i)

    back_once : runs_in j i ts ≡ 1
    back_once = exchanged.run_back s ts m.positive i j l r on back (m.once i j) (m.once j i)

    apart-new : (i ≡ r → ⊥) × (r ≡ l → ⊥) × (l ≡ i → ⊥)
    apart-new = corners-differ s (tri i r l) irl

    apart-side : (r ≡ j → ⊥) × (j ≡ l → ⊥) × (l ≡ r → ⊥)
    apart-side = corners-differ s (tri r j l) rjl

    apart-old : (i ≡ j → ⊥) × (j ≡ l → ⊥) × (l ≡ i → ⊥)
    apart-old = corners-differ s (tri i j l) old-left

    -- The old side is gone, and the new one is run once each way.
    pub gone : runs_in i j us ≡ 0
    gone =
        omega (
          arith,
          run i j,
          on_once,
          step_self i j,
          step_not i j j i (λ a b. apart-old.0 b),
          step_not i j r l (λ a b. apart-new.0 (sym a)),
          step_not i j l r (λ a b. apart-new.2 a),
        )

    pub gone_back : runs_in j i us ≡ 0
    gone_back =
        omega (
          arith,
          run j i,
          back_once,
          step_self j i,
          step_not j i i j (λ a b. apart-old.0 a),
          step_not j i r l (λ a b. apart-new.2 b),
          step_not j i l r (λ a b. apart-new.0 (sym b)),
        )

    come : runs_in r l us ≡ 1
    come =
        omega (
          arith,
          run r l,
          new_once,
          step_self r l,
          step_not r l i j (λ a b. apart-new.0 a),
          step_not r l j i (λ a b. apart-side.0 (sym a)),
          step_not r l l r (λ a b. apart-side.2 a),
        )

    come_back : runs_in l r us ≡ 1
    come_back =
        omega (
          arith,
          run l r,
          new_once_back,
          step_self l r,
          step_not l r i j (λ a b. apart-new.2 (sym a)),
          step_not l r j i (λ a b. apart-side.1 a),
          step_not l r r l (λ a b. apart-side.2 b),
        )

    once_kept : (p q : ℕ) → runs_in p q us ≤ 1
    once_kept p q = go (among p q)
      where
        go : Among p q → runs_in p q us ≤ 1
        go (old a b) = rw (a, b) (omega (arith, gone))
        go (old_back a b) = rw (a, b) (omega (arith, gone_back))
        go (new a b) = rw (a, b) (omega (arith, come))
        go (new_back a b) = rw (a, b) (omega (arith, come_back))
        go (none e f) = omega (arith, m.once p q)

    on_stations : OnStations s (tri i j l)
    on_stations = at (OnStations s) (λ t c. record { on_a = c.on_b; on_b = c.on_c; on_c = c.on_a }) m.stations on

    back_stations : OnStations s (tri j i r)
    back_stations = at (OnStations s) (λ t c. record { on_a = c.on_b; on_b = c.on_c; on_c = c.on_a }) m.stations back

    -- A hull side has every station on its left: so the new side is none.
    hull-left : (p q w : ℕ) → w < count s → is_hull_side s p q ≡ true → pos 0 ≤ℤ turn (g p) (g q) (g w)
    unfolding is_hull_side is_right
    hull-left p q w h e =
        test-false
        (or_left _ _ (none_found (λ w. is_right s p q w || is_between s p q w) (count s)
        (not_true _ (and_right (not (eqb p q)) _ (and_right (in_use s p && in_use s q) _ e))) w h))
      where
        not_true : (b : Bool) → not b ≡ true → b ≡ false
        not_true true e = absurd (true≢false (sym e))
        not_true false e = refl

    not_hull : is_hull_side s r l ≡ true → ⊥
    not_hull e =
        omega (arith, int, hull-left r l j on_stations.on_b e, turn-flip (g r) (g l) (g j), minus (pos 0) (turn (g r) (g j) (g l)), rjl)

    not_hull_back : is_hull_side s l r ≡ true → ⊥
    not_hull_back e =
        omega (arith, int, hull-left l r i on_stations.on_a e, turn-flip (g l) (g r) (g i), minus (pos 0) (turn (g l) (g i) (g r)), quad.dab)

    hull-kept : (p q : ℕ) → is_hull_side s p q ≡ true → (runs_in p q us ≡ 1) × (runs_in q p us ≡ 0)
    hull-kept p q h = go (among p q)
      where
        go : Among p q → (runs_in p q us ≡ 1) × (runs_in q p us ≡ 0)
        go (old a b) = absurd (omega (arith, (m.hull i j (rw (a, b) at h)).1, back_once))
        go (old_back a b) = absurd (omega (arith, (m.hull j i (rw (a, b) at h)).1, on_once))
        go (new a b) = absurd (not_hull (rw (a, b) at h))
        go (new_back a b) = absurd (not_hull_back (rw (a, b) at h))
        go (none e f) = (e ∙ (m.hull p q h).0, f ∙ (m.hull p q h).1)

    shared_kept : (p q : ℕ) → is_hull_side s p q ≡ false → 0 < runs_in p q us → runs_in q p us ≡ 1
    shared_kept p q h k = go (among p q)
      where
        go : Among p q → runs_in q p us ≡ 1
        go (old a b) = let z : 0 < runs_in i j us = rw (a, b) at k in absurd (omega (arith, gone))
        go (old_back a b) = let z : 0 < runs_in j i us = rw (a, b) at k in absurd (omega (arith, gone_back))
        go (new a b) = rw (a, b) come_back
        go (new_back a b) = rw (a, b) come
        go (none e f) = f ∙ m.shared p q h (omega arith)

    -- ---- stations
    -- A station of an old triangle that a new one holds is a corner of that.
    clear_at : {a b c : ℕ} → Has a b c ts → (k : ℕ) → k < count s → Holds turn (placed s (tri a b c)) (g k) → CornerOf k (tri a b c)
    clear_at h =
        at (λ t. (k : ℕ) → k < count s → Holds turn (placed s t) (g k) → CornerOf k t)
        (λ t c k n w. next k t (c k n (holds-next (holds-next w)))) m.clear h
      where
        next : (k : ℕ) (t : Three ℕ) → CornerOf k t → CornerOf k (tri t.b t.c t.a)
        next k t (at_a e) = at_c e
        next k t (at_b e) = at_a e
        next k t (at_c e) = at_b e

    clear_first : (k : ℕ) → k < count s → Holds turn (placed s (tri i r l)) (g k) → CornerOf k (tri i r l)
    clear_first k n h =
        ⊎_elim (λ w. from_back (clear_at back k n (holds-next (holds-next w)))) (λ w. from_on (clear_at on k n w))
        (cut (g i) (g r) (g j) (g l) (g k) quad h)
      where
        not_j : k ≡ j → ⊥
        not_j e =
            let z : pos 0 ≤ℤ turn (g r) (g l) (g j) = subst (λ k. pos 0 ≤ℤ turn (g r) (g l) (g k)) e h.bc in
            omega (arith, int, turn-flip (g r) (g l) (g j), minus (pos 0) (turn (g r) (g j) (g l)), rjl)

        from_on : CornerOf k (tri i j l) → CornerOf k (tri i r l)
        from_on (at_a e) = at_a e
        from_on (at_b e) = absurd (not_j e)
        from_on (at_c e) = at_c e

        from_back : CornerOf k (tri j i r) → CornerOf k (tri i r l)
        from_back (at_a e) = absurd (not_j e)
        from_back (at_b e) = at_a e
        from_back (at_c e) = at_b e

    clear_second : (k : ℕ) → k < count s → Holds turn (placed s (tri r j l)) (g k) → CornerOf k (tri r j l)
    clear_second k n h =
        ⊎_elim (λ w. from_on (clear_at on k n (holds-next (holds-next w)))) (λ w. from_back (clear_at back k n w))
        (cut (g j) (g l) (g i) (g r) (g k) (convex-next (convex-next quad)) (holds-next h))
      where
        not_i : k ≡ i → ⊥
        not_i e =
            let z : pos 0 ≤ℤ turn (g l) (g r) (g i) = subst (λ k. pos 0 ≤ℤ turn (g l) (g r) (g k)) e h.ca in
            omega (arith, int, turn-flip (g l) (g r) (g i), minus (pos 0) (turn (g l) (g i) (g r)), quad.dab)

        from_on : CornerOf k (tri i j l) → CornerOf k (tri r j l)
        from_on (at_a e) = absurd (not_i e)
        from_on (at_b e) = at_b e
        from_on (at_c e) = at_c e

        from_back : CornerOf k (tri j i r) → CornerOf k (tri r j l)
        from_back (at_a e) = at_b e
        from_back (at_b e) = absurd (not_i e)
        from_back (at_c e) = at_a e

    used-kept : (k : ℕ) → k < count s → Any (CornerOf k) us
    used-kept k n = some (CornerOf k) next from_on from_back (m.used k n)
      where
        next : (t : Three ℕ) → CornerOf k t → CornerOf k (tri t.b t.c t.a)
        next t (at_a e) = at_c e
        next t (at_b e) = at_a e
        next t (at_c e) = at_b e

        from_on : CornerOf k (tri i j l) → CornerOf k (tri i r l) ⊎ CornerOf k (tri r j l)
        from_on (at_a e) = inl (at_a e)
        from_on (at_b e) = inr (at_b e)
        from_on (at_c e) = inl (at_c e)

        from_back : CornerOf k (tri j i r) → CornerOf k (tri i r l) ⊎ CornerOf k (tri r j l)
        from_back (at_a e) = inr (at_b e)
        from_back (at_b e) = inl (at_a e)
        from_back (at_c e) = inl (at_b e)

    -- ---- places
    quad-scaled : (k : ℕ) → 0 < k → Convex (scale k (g i)) (scale k (g r)) (scale k (g j)) (scale k (g l))
    quad-scaled = quad_in s ts m i j l r on back quad

    -- A place of an old triangle is in a new one.
    covered-kept : (k : ℕ) → 0 < k → (q : Place) → Any (λ t. Holds turn (big k (placed s t)) q) ts → Any (λ t. Holds turn (big k (placed s t)) q) us
    covered-kept k n q =
        some (λ t. Holds turn (big k (placed s t)) q) (λ t w. holds-next w)
        (λ w. ⊎_elim (λ h. inl (holds-next h)) (λ h. inr (holds-next h))
        (cut (scale k (g l)) (scale k (g i)) (scale k (g r)) (scale k (g j)) q (convex-next (convex-next (convex-next (quad-scaled k n)))) (holds-next (holds-next w))))
        (λ w. ⊎_elim (λ h. inr h) (λ h. inl (holds-next (holds-next h)))
        (cut (scale k (g r)) (scale k (g j)) (scale k (g l)) (scale k (g i)) q (convex-next (quad-scaled k n)) (holds-next (holds-next w))))

    -- A place of a new triangle is in an old one.
    was-held : (k : ℕ) → 0 < k → (q : Place) → ((t : Three ℕ) → In t ts → Holds turn (big k (placed s t)) q → ⊥)
        → (u : Three ℕ) → In u us → Holds turn (big k (placed s u)) q → ⊥
    was-held k n q no_old =
        every (λ t. Holds turn (big k (placed s t)) q → ⊥) no_old
        (λ w. ⊎_elim (λ h. none_at back (holds-next (holds-next h))) (λ h. none_at on h)
        (cut (scale k (g i)) (scale k (g r)) (scale k (g j)) (scale k (g l)) q (quad-scaled k n) w))
        (λ w. ⊎_elim (λ h. none_at on (holds-next (holds-next h))) (λ h. none_at back h)
        (cut (scale k (g j)) (scale k (g l)) (scale k (g i)) (scale k (g r)) q (convex-next (convex-next (quad-scaled k n))) (holds-next w)))
      where
        none_at : {a b c : ℕ} → Has a b c ts → Holds turn (big k (placed s (tri a b c))) q → ⊥
        none_at = at (λ t. Holds turn (big k (placed s t)) q → ⊥) (λ t n w. n (holds-next (holds-next w))) no_old

    -- A place is strictly inside one new triangle at most.
    inside-kept : (k : ℕ) → 0 < k → (q : Place) (t u : Three ℕ) → In t us → In u us → Inside (big k (placed s t)) q → Inside (big k (placed s u)) q → t ≡ u
    inside-kept k n q t u x y h w = go (which t x) (which u y)
      where
        first_alone : (x : Three ℕ) → In x ts → runs i j x ≡ 0 → runs j i x ≡ 0 → Inside (big k (placed s x)) q → Inside (big k (placed s (tri i r l))) q → ⊥
        first_alone x v a b = no_overlap s ts m i j l r on back quad x v a b k n q

        second_alone : (x : Three ℕ) → In x ts → runs i j x ≡ 0 → runs j i x ≡ 0 → Inside (big k (placed s x)) q → Inside (big k (placed s (tri r j l))) q → ⊥
        second_alone x v a b c d = no_overlap s ts m j i r l back on (convex-next (convex-next quad)) x v b a k n q c (inside-next d)

        both : Inside (big k (placed s (tri i r l))) q → Inside (big k (placed s (tri r j l))) q → ⊥
        both a b =
            omega (arith, int, a.bc, b.ca, turn-swap (scale k (g r)) (scale k (g l)) q, minus (pos 0) (turn (scale k (g l)) (scale k (g r)) q))

        to : {x y : Three ℕ} → x ≡ y → Inside (big k (placed s x)) q → Inside (big k (placed s y)) q
        to e = subst (λ t. Inside (big k (placed s t)) q) e

        go : Which t → Which u → t ≡ u
        go (stays a b c) (stays d e f) = m.inside k n q t u a d h w
        go (stays a b c) (first e) = absurd (first_alone t a b c h (to e w))
        go (stays a b c) (second e) = absurd (second_alone t a b c h (to e w))
        go (first e) (stays a b c) = absurd (first_alone u a b c w (to e h))
        go (first e) (first f) = e ∙ sym f
        go (first e) (second f) = absurd (both (to e h) (to f w))
        go (second e) (stays a b c) = absurd (second_alone u a b c w (to e h))
        go (second e) (first f) = absurd (both (to f w) (to e h))
        go (second e) (second f) = e ∙ sym f

    -- ---- areas and loads
    areas-kept : sum (twice_of s) us ≡ sum (twice_of s) ts
    areas-kept =
        is_eq (sum-parts (twice_of s) us) (sum-parts (twice_of s) ts)
        (omega (
          arith,
          summed (λ t. gain (twice_of s t)) (λ t. ap gain (cycle t)),
          summed (λ t. loss (twice_of s t)) (λ t. ap loss (cycle t)),
          eq_is (add (turn (g i) (g j) (g l)) (turn (g j) (g i) (g r))) (add (turn (g i) (g r) (g l)) (turn (g r) (g j) (g l)))
              (same_area (g i) (g j) (g l) (g r)),
        ))
      where
        summed : (h : Three ℕ → ℕ) → ((t : Three ℕ) → h (tri t.b t.c t.a) ≡ h t)
            → total h us + h (tri i j l) + h (tri j i r) ≡ total h ts + h (tri i r l) + h (tri r j l)
        summed = exchanged.sums s ts m.positive i j l r on back (m.once i j) (m.once j i)

        cycle : (t : Three ℕ) → twice_of s (tri t.b t.c t.a) ≡ twice_of s t
        cycle t = sym (turn-cycle (g t.a) (g t.b) (g t.c))

    -- 'keeps the number of triangles and the total area, and uses the same hull'
    pub swap-keeps : Fit s → MeshOf s us
    swap-keeps fit =
        record {
          stations = stations-kept;
          positive = positive-kept;
          areas = areas-kept ∙ m.areas;
          triangle-count = count_kept;
          side-count = sides-counted s fit us stations-kept positive-kept once_kept hull-kept shared_kept count_kept;
          used = used-kept;
          clear = every (λ t. (k : ℕ) → k < count s → Holds turn (placed s t) (g k) → CornerOf k t) m.clear clear_first clear_second;
          once = once_kept;
          hull = hull-kept;
          shared = shared_kept;
          covered = λ k n q h. covered-kept k n q (m.covered k n q h);
          outside = λ k n q off. was-held k n q (m.outside k n q off);
          inside = inside-kept;
        }
      where
        stations-kept : (t : Three ℕ) → In t us → OnStations s t
        stations-kept =
            every (OnStations s) m.stations (record { on_a = on_stations.on_a; on_b = back_stations.on_c; on_c = on_stations.on_c })
            (record { on_a = back_stations.on_c; on_b = on_stations.on_b; on_c = on_stations.on_c })

        positive-kept : (t : Three ℕ) → In t us → pos 0 <ℤ twice_of s t
        positive-kept = every (λ t. pos 0 <ℤ twice_of s t) m.positive irl rjl

        count_kept : length us + hull_count s + 2 ≡ 2 * count s
        count_kept = omega (arith, length-map ts (exchange i j l r), m.triangle-count)

    -- The slack falls by the circle number.
    pub slack-falls : slack s us + nat_abs (circle (g i) (g j) (g l) (g r)) ≡ slack s ts
    unfolding slack
    slack-falls =
        omega (
          arith,
          exchanged.sums s ts m.positive i j l r on back (m.once i j) (m.once j i) (load s) (load-next s),
          ap gain (before ∙ load-falls (g i) (g j) (g l) (g r) ∙ sym after),
        )
      where
        before : pos (load s (tri i j l)) +ℤ pos (load s (tri j i r)) ≡
            turn (g i) (g j) (g l) *ℤ (square (g i) +ℤ square (g j) +ℤ square (g l)) +ℤ turn (g j) (g i) (g r) *ℤ (square (g j) +ℤ square (g i) +ℤ square (g r))
        before = λ n. load_is s (tri i j l) old-left n +ℤ load_is s (tri j i r) old-right n

        after : pos (load s (tri i r l)) +ℤ pos (load s (tri r j l)) +ℤ pos (nat_abs (circle (g i) (g j) (g l) (g r))) ≡
            turn (g i) (g r) (g l) *ℤ (square (g i) +ℤ square (g r) +ℤ square (g l)) +ℤ turn (g r) (g j) (g l) *ℤ (square (g r) +ℤ square (g j) +ℤ square (g l))
            +ℤ circle (g i) (g j) (g l) (g r)
        after = λ n. load_is s (tri i r l) irl n +ℤ load_is s (tri r j l) rjl n +ℤ abs_positive far n
