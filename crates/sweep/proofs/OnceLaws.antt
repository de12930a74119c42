-- Each directed side belongs to one triangle at most: two triangles on a rising side would both count its middle. Assumes nothing.
use mathlib.Core.Path.{◌≡◌, refl, sym, ◌∙◌}
use mathlib.Core.List.{List, [], ◌∷◌}
use mathlib.Core.Logic.{◌⊎◌, inl, inr}
use Prim.Native.Nat.{ℕ, suc, ◌+◌, ◌≤◌}
use native.Mathlib.Omega.{arith}
use lib.IntN.{ℤ, pos, ◌-ℤ◌, ◌*ℤ◌}
use lib.Signed.{◌≤ℤ◌, ◌<ℤ◌}
use Rattle.whole.proofs.Bridge.{int, minus, mul}
use Rattle.whole.proofs.Polynomial.{Formula, var, lit, ◌:+◌, ◌:-◌, ◌:*◌}
use Rattle.whole.proofs.Solver.{identity}
use Rattle.whole.specs.Place.{Place, place, Before, rightward, upward}
use Rattle.whole.specs.Turn.{turn}
use Rattle.whole.proofs.TurnLaws.{turn-swap}
use Rattle.whole.proofs.OrderLaws.{Compared, compared, before-trans, before-irrefl, same, earlier, later}
use Rattle.sweep.specs.Sweep.{Triangle, tri, State, pairs}
use Rattle.sweep.proofs.Slopes.{Slopes, lower, upper, low-cyc, zero_to}
use Rattle.sweep.proofs.Stack.{Side, Chain, bottom, more}
use Rattle.sweep.specs.Members.{total, In, here, there}
use Rattle.sweep.specs.Boundary.{around, back, along}
use Rattle.sweep.proofs.Invariants.{Good}
use Rattle.sweep.proofs.Spans.{before?, counts, spans, above_one, above_zero}
use Rattle.sweep.specs.Cover.{scale}
use Rattle.sweep.proofs.CoverLaws.{weight, ind, once}

-- ---- 1 at the side a, b, else 0
pub eq? : (p v : Place) → Dec (p ≡ v)
eq? p v = go (compared p v)
  where
    go : Compared p v → Dec (p ≡ v)
    go (same e) = yes e
    go (earlier l) = no (λ e. before-irrefl (rw e at l))
    go (later l) = no (λ e. before-irrefl (rw e at l))

abbrev pub both : {A B : Type 0} → Dec A → Dec B → ℕ
both (yes _) (yes _) = 1
both (yes _) (no _) = 0
both (no _) d = 0

unfoldable pub side : Place → Place → Place → Place → ℕ
side a b c d = both (eq? c a) (eq? d b)

-- What `side` says.
pub data Hits (a b c d : Place) (n : ℕ) : Type 0 where
  it_is : c ≡ a → d ≡ b → n ≡ 1 → Hits a b c d n
  not_it : (c ≡ a → d ≡ b → ⊥) → n ≡ 0 → Hits a b c d n

-- `side` is 1 exactly at its side.
pub hits : (a b c d : Place) → Hits a b c d (side a b c d)
unfolding side
hits a b c d = go (eq? c a) (eq? d b)
  where
    go : (x : Dec (c ≡ a)) (y : Dec (d ≡ b)) → Hits a b c d (both x y)
    go (yes e) (yes f) = it_is e f refl
    go (yes e) (no f) = not_it (λ p q. f q) refl
    go (no e) y = not_it (λ p q. e p) refl

pub side_self : (a b : Place) → side a b a b ≡ 1
side_self a b = go (hits a b a b)
  where
    go : Hits a b a b (side a b a b) → side a b a b ≡ 1
    go (it_is p q g) = g
    go (not_it n g) = absurd (n refl refl)

pub no_from : (a b c d : Place) → (c ≡ a → ⊥) → side a b c d ≡ 0
no_from a b c d r = go (hits a b c d)
  where
    go : Hits a b c d (side a b c d) → side a b c d ≡ 0
    go (it_is e f g) = absurd (r e)
    go (not_it n g) = g

pub no_to : (a b c d : Place) → (d ≡ b → ⊥) → side a b c d ≡ 0
no_to a b c d r = go (hits a b c d)
  where
    go : Hits a b c d (side a b c d) → side a b c d ≡ 0
    go (it_is e f g) = absurd (r f)
    go (not_it n g) = g

pub side-most : (a b c d : Place) → side a b c d ≤ 1
side-most a b c d = go (hits a b c d)
  where
    go : Hits a b c d (side a b c d) → side a b c d ≤ 1
    go (it_is e f g) = omega arith
    go (not_it n g) = omega arith

-- ---- the middle of a side, in halves
abbrev mid : Place → Place → Place
mid a b = place (a.x + b.x) (a.y + b.y)

mid-after : (a b : Place) → Before a b → Before (scale 2 a) (mid a b)
mid-after a b (rightward h) = rightward (omega arith)
mid-after a b (upward e h) = upward (omega arith) (omega arith)

mid-before : (a b : Place) → Before a b → Before (mid a b) (scale 2 b)
mid-before a b (rightward h) = rightward (omega arith)
mid-before a b (upward e h) = upward (omega arith) (omega arith)

module _ (a b c : Place) where
  ρ : List ℤ
  ρ = pos a.x ∷ pos a.y ∷ pos b.x ∷ pos b.y ∷ pos c.x ∷ pos c.y ∷ []

  D : ℕ → Formula
  D v = lit (pos 2) :* var v

  -- Areas at the middle of a, b.
  mid_on : turn (scale 2 a) (scale 2 b) (mid a b) ≡ pos 0
  unfolding turn ρ D
  mid_on = identity ρ ((D 2 :- D 0) :* (var 1 :+ var 3 :- D 1) :- (D 3 :- D 1) :* (var 0 :+ var 2 :- D 0)) (lit (pos 0)) refl

  mid-ac : turn (scale 2 a) (scale 2 c) (mid a b) ≡ pos 0 -ℤ pos 2 *ℤ turn a b c
  unfolding turn ρ D
  mid-ac =
      identity ρ ((D 4 :- D 0) :* (var 1 :+ var 3 :- D 1) :- (D 5 :- D 1) :* (var 0 :+ var 2 :- D 0))
      (lit (pos 0) :- lit (pos 2) :* ((var 2 :- var 0) :* (var 5 :- var 1) :- (var 3 :- var 1) :* (var 4 :- var 0))) refl

  mid-cb : turn (scale 2 c) (scale 2 b) (mid a b) ≡ pos 0 -ℤ pos 2 *ℤ turn a b c
  unfolding turn ρ D
  mid-cb =
      identity ρ ((D 2 :- D 4) :* (var 1 :+ var 3 :- D 5) :- (D 3 :- D 5) :* (var 0 :+ var 2 :- D 4))
      (lit (pos 0) :- lit (pos 2) :* ((var 2 :- var 0) :* (var 5 :- var 1) :- (var 3 :- var 1) :* (var 4 :- var 0))) refl

  less_zero : (z : ℤ) → z ≡ pos 0 -ℤ pos 2 *ℤ turn a b c → pos 0 <ℤ turn a b c → z <ℤ pos 0
  less_zero z e l = omega (arith, int, minus (pos 0) (pos 2 *ℤ turn a b c), mul (pos 2) (turn a b c))

  -- A triangle on a rising side a, b counts the side's middle.
  mid-counts : Before a b → pos 0 <ℤ turn a b c → around (weight 2 (mid a b)) (tri a b c) ≡ suc (around (back (weight 2 (mid a b))) (tri a b c))
  unfolding weight spans
  mid-counts ab l = go (before? (mid a b) (scale 2 a)) (before? (mid a b) (scale 2 b)) (before? (mid a b) (scale 2 c))
    where
      p : Place
      p = mid a b

      -- The third corner is after the middle, or not.
      go : (da : Dec (Before p (scale 2 a))) (db : Dec (Before p (scale 2 b))) (dc : Dec (Before p (scale 2 c))) →
          counts da db (turn (scale 2 a) (scale 2 b) p) + counts db dc (turn (scale 2 b) (scale 2 c) p) + counts dc da (turn (scale 2 c) (scale 2 a) p) ≡
          suc (counts db da (turn (scale 2 b) (scale 2 a) p) + counts dc db (turn (scale 2 c) (scale 2 b) p) + counts da dc (turn (scale 2 a) (scale 2 c) p))
      go (yes x) db dc = absurd (before-irrefl (before-trans x (mid-after a b ab)))
      go (no x) (no y) dc = absurd (y (mid-before a b ab))
      go (no x) (yes y) (yes z) = omega (arith, above_one {z = turn (scale 2 a) (scale 2 b) p} (omega (arith, int, mid_on)), above_zero (less_zero (turn (scale 2 a) (scale 2 c) p) mid-ac l))
      go (no x) (yes y) (no z) = omega (arith, above_one {z = turn (scale 2 a) (scale 2 b) p} (omega (arith, int, mid_on)), above_zero (less_zero (turn (scale 2 c) (scale 2 b) p) mid-cb l))

-- ---- a rising side
pub total-zero : {A : Type 0} (l : List A) → total (λ (x : A). 0) l ≡ 0
unfolding total
total-zero [] = refl
total-zero (x ∷ l) = omega (arith, total-zero l)

-- Sums keep an order of their parts.
pub total_mono : {A : Type 0} (f g : A → ℕ) (l : List A) → ((x : A) → In x l → f x ≤ g x) → total f l ≤ total g l
unfolding total
total_mono f g [] h = omega arith
total_mono f g (x ∷ l) h = omega (arith, h x (here refl), total_mono f g l (λ y i. h y (there i)))

module _ (a b : Place) (ab : Before a b) where
  differ : a ≡ b → ⊥
  differ e = before-irrefl (rw e at ab)

  -- Where c, d is the side, the next two sides are not it.
  hit : (c d e : Place) → pos 0 <ℤ turn c d e → c ≡ a → d ≡ b → side a b c d + side a b d e + side a b e c ≤ ind 2 (mid a b) (tri c d e)
  unfolding ind
  hit c d e l p q =
      let m : around (weight 2 (mid a b)) (tri c d e) ≡ suc (around (back (weight 2 (mid a b))) (tri c d e)) = rw (← p, ← q) (mid-counts c d e (rw (p, q) ab) l) in
      omega (
        arith,
        side-most a b c d,
        no_from a b d e (λ r. differ (sym r ∙ q)),
        no_to a b e c (λ r. differ (sym p ∙ r)),
        m,
      )

  ind-round : (c d e : Place) → ind 2 (mid a b) (tri d e c) ≡ ind 2 (mid a b) (tri c d e)
  unfolding ind
  ind-round c d e = omega arith

  -- Each triangle on the side a, b counts the middle, and has the side once.
  side-ind : (t : Triangle) → pos 0 <ℤ turn t.a t.b t.c → around (side a b) t ≤ ind 2 (mid a b) t
  side-ind t l = go (hits a b t.a t.b) (hits a b t.b t.c) (hits a b t.c t.a)
    where
      go : Hits a b t.a t.b (side a b t.a t.b) → Hits a b t.b t.c (side a b t.b t.c) → Hits a b t.c t.a (side a b t.c t.a) → around (side a b) t ≤ ind 2 (mid a b) t
      go (it_is p q g) y z = hit t.a t.b t.c l p q
      go (not_it n g) (it_is p q f) z = omega (arith, hit t.b t.c t.a (rw (low-cyc t.b t.c t.a) l) p q, ind-round t.a t.b t.c)
      go (not_it n g) (not_it m f) (it_is p q e) = omega (arith, hit t.c t.a t.b (rw low-cyc at l) p q, ind-round t.c t.a t.b)
      go (not_it n g) (not_it m f) (not_it k e) = omega arith

  -- A rising side.
  pub rising_once : (z : Place) (done : List Place) (s : State) → Good z done s → total (around (side a b)) s.tris ≤ 1
  rising_once z done s gd =
      omega (arith, once 2 (omega arith) (mid a b) z done s gd, total_mono (around (side a b)) (ind 2 (mid a b)) s.tris (λ t i. side-ind t (gd.fine t i).left))

-- ---- a falling side
-- the count of a side backwards
pub side_back : (a b c d : Place) → side a b d c ≤ side b a c d
side_back a b c d = go (hits a b d c) (hits b a c d)
  where
    go : Hits a b d c (side a b d c) → Hits b a c d (side b a c d) → side a b d c ≤ side b a c d
    go (it_is p q g) (it_is r t h) = omega arith
    go (it_is p q g) (not_it n h) = absurd (n q p)
    go (not_it n g) k = omega arith

module _ (o : Slopes) (S : Place → Type 0) (z : Place) (a b : Place) where
  -- Below a the chain has no side that ends in a.
  under_none : {t : Place} {l : List Place} → Before t a → Chain o S z t l → along (back (side a b)) t l ≡ 0
  unfolding pairs total
  under_none ta (bottom i) = refl
  under_none ta (more {t = t} {s = s} sd ch) = omega (arith, no_from a b t s (λ e. before-irrefl (rw e at ta)), under_none (before-trans sd.lex ta) ch)

  -- A chain has the side from b up to a at most once, and where it has it, it is a side of the hull.
  pub pair_once : {t : Place} {l : List Place} → Chain o S z t l → (along (back (side a b)) t l ≡ 0) ⊎ ((along (back (side a b)) t l ≡ 1) × Side o S b a)
  unfolding pairs total
  pair_once (bottom i) = inl refl
  pair_once (more {t = t} {s = s} {l = l} sd ch) = go (hits a b t s) (pair_once ch)
    where
      N : ℕ
      N = along (back (side a b)) s l

      go : Hits a b t s (side a b t s) → (N ≡ 0) ⊎ ((N ≡ 1) × Side o S b a) → (side a b t s + N ≡ 0) ⊎ ((side a b t s + N ≡ 1) × Side o S b a)
      go (it_is p q g) r = inr (omega (arith, under_none (rw (← p) sd.lex) ch), rw (← p, ← q) sd)
      go (not_it n g) (inl e) = inl (omega arith)
      go (not_it n g) (inr r) = inr (omega (arith, r.0), r.1)

  -- A chain has no falling side.
  pub rise_none : (Before a b → ⊥) → {t : Place} {l : List Place} → Chain o S z t l → along (side a b) t l ≡ 0
  unfolding pairs total
  rise_none n (bottom i) = refl
  rise_none n (more {t = t} {s = s} sd ch) = omega (arith, go (hits a b s t), rise_none n ch)
    where
      go : Hits a b s t (side a b s t) → side a b s t ≡ 0
      go (it_is p q g) = absurd (n (rw (← p, ← q) sd.lex))
      go (not_it k g) = g

module _ (z : Place) (done : List Place) (s : State) (gd : Good z done s) (a b : Place) where
  -- No triangle has a hull side backwards: its third corner would be on the wrong side.
  hull_none : ((w : Place) → In w done → pos 0 ≤ℤ turn a b w) → (c d e : Place) → In e done → pos 0 <ℤ turn c d e → side b a c d ≡ 0
  hull_none h c d e i l = go (hits b a c d)
    where
      go : Hits b a c d (side b a c d) → side b a c d ≡ 0
      go (it_is p q g) = absurd (omega (arith, int, h e i, turn-swap a b e, minus (pos 0) (turn b a e), rw (p, q) at l))
      go (not_it n g) = g

  -- So of its three sides none.
  pub none_back : ((w : Place) → In w done → pos 0 ≤ℤ turn a b w) → (t : Triangle) → In t s.tris → around (side b a) t ≤ 0
  none_back h t i =
      let f = gd.fine t i in
      omega (
        arith,
        hull_none h t.a t.b t.c f.in_c f.left,
        hull_none h t.b t.c t.a f.in_a (rw (low-cyc t.b t.c t.a) f.left),
        hull_none h t.c t.a t.b f.in_b (rw low-cyc at f.left),
      )

  -- A falling side: the boundary identity takes it to the rising one, or to the hull.
  pub falling_once : Before b a → total (around (side a b)) s.tris ≤ 1
  falling_once ba = go (pair_once upper _ z a b gd.high)
    where
      N : ℕ
      N = along (back (side a b)) s.top s.up

      turned : total (around (back (side a b))) s.tris ≤ total (around (side b a)) s.tris
      turned = total_mono (around (back (side a b))) (around (side b a)) s.tris (λ t i. omega (arith, side_back a b t.a t.b, side_back a b t.b t.c, side_back a b t.c t.a))

      go : (N ≡ 0) ⊎ ((N ≡ 1) × Side upper (λ w. In w done) b a) → total (around (side a b)) s.tris ≤ 1
      go (inl e) = omega (arith, gd.sums (side a b), turned, rising_once b a ba z done s gd, rise_none lower _ z a b (λ ab. before-irrefl (before-trans ab ba)) gd.low)
      go (inr r) =
          omega (
            arith,
            gd.sums (side a b),
            turned,
            r.0,
            rise_none lower _ z a b (λ ab. before-irrefl (before-trans ab ba)) gd.low,
            total_mono (around (side b a)) (λ _. 0) s.tris (none_back r.1.left),
            total-zero s.tris,
          )

  -- A triangle has no side from a station to itself.
  self_none : (c d e : Place) → pos 0 <ℤ turn c d e → side a a c d ≡ 0
  self_none c d e l = go (hits a a c d)
    where
      go : Hits a a c d (side a a c d) → side a a c d ≡ 0
      go (it_is p q g) = absurd (omega (arith, int, l, cyc c d e, on_to e c d (q ∙ sym p)))
        where
          cyc : (c d e : Place) → turn c d e ≡ turn e c d
          cyc = low-cyc

          on_to : (e c d : Place) → d ≡ c → turn e c d ≡ pos 0
          on_to e c d r = rw r (zero_to lower e c)
      go (not_it n g) = g

  -- Every directed side, at most once.
  pub sides_once : total (around (side a b)) s.tris ≤ 1
  sides_once = go (compared a b)
    where
      none : (t : Triangle) → In t s.tris → around (side a a) t ≤ 0
      none t i =
          let f = gd.fine t i in
          omega (
            arith,
            self_none t.a t.b t.c f.left,
            self_none t.b t.c t.a (rw (low-cyc t.b t.c t.a) f.left),
            self_none t.c t.a t.b (rw low-cyc at f.left),
          )

      go : Compared a b → total (around (side a b)) s.tris ≤ 1
      go (same e) = rw (← e) (omega (arith, total_mono (around (side a a)) (λ _. 0) s.tris none, total-zero s.tris))
      go (earlier l) = rising_once a b l z done s gd
      go (later l) = falling_once l
