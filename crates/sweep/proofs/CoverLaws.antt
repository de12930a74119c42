-- Covering: over all triangles a place is counted at most once, so it lies strictly inside at most one of them. Assumes nothing.
use mathlib.Core.Path.{◌≡◌, refl, ap}
use mathlib.Core.List.{List, [], ◌∷◌}
use Prim.Native.Nat.{ℕ, ◌+◌, ◌*◌, ◌-◌, ◌≤◌, ◌<◌}
use native.Mathlib.Nat.{one-mul, mul-lt-mul_of_pos_left}
use native.Mathlib.Omega.{arith}
use lib.IntN.{pos, ◌*ℤ◌}
use lib.Signed.{◌<ℤ◌}
use Rattle.whole.proofs.Bridge.{int}
use Rattle.whole.proofs.Polynomial.{Formula, var, ◌:-◌, ◌:*◌}
use Rattle.whole.proofs.Solver.{identity}
use Rattle.whole.specs.Place.{Place, Before, rightward, upward}
use Rattle.whole.specs.Turn.{turn}
use Rattle.whole.proofs.SignLaws.{positive-mul}
use Rattle.whole.proofs.OrderLaws.{before-trans}
use Rattle.sweep.specs.Sweep.{Triangle, State, pairs}
use Rattle.sweep.proofs.Slopes.{Slopes}
use Rattle.sweep.proofs.Stack.{Chain, bottom, more}
use Rattle.sweep.specs.Members.{total, In, here, there}
use Rattle.sweep.specs.Boundary.{around, back, along}
use Rattle.sweep.proofs.Invariants.{Good}
use Rattle.sweep.specs.Cover.{Holds, Inside, scale, big}
use Rattle.sweep.proofs.Spans.{before?, counts, above_most, spans, Counted, counted}

-- ---- a side that does not span p
pub spans-early : (p a b : Place) → Before p a → spans p a b ≡ 0
unfolding spans
spans-early p a b l = go (before? p a) (before? p b)
  where
    go : (d : Dec (Before p a)) (e : Dec (Before p b)) → counts d e (turn a b p) ≡ 0
    go (yes x) e = refl
    go (no x) (yes y) = absurd (x l)
    go (no x) (no y) = refl

-- A side that ends at p or before it does not span p.
pub spans-late : (p a b : Place) → (Before p b → ⊥) → spans p a b ≡ 0
unfolding spans
spans-late p a b n = go (before? p a) (before? p b)
  where
    go : (d : Dec (Before p a)) (e : Dec (Before p b)) → counts d e (turn a b p) ≡ 0
    go (yes x) e = refl
    go (no x) (yes y) = absurd (n y)
    go (no x) (no y) = refl

-- A side spans p once at most.
spans-most : (p a b : Place) → spans p a b ≤ 1
unfolding spans
spans-most p a b = go (before? p a) (before? p b)
  where
    go : (d : Dec (Before p a)) (e : Dec (Before p b)) → counts d e (turn a b p) ≤ 1
    go (yes x) e = omega arith
    go (no x) (yes y) = above_most (turn a b p)
    go (no x) (no y) = omega arith

-- A plane that is stretched once is the plane.
pub scale_one : (a : Place) → scale 1 a ≡ a
scale_one a = λ i. record { x = one-mul a.x i; y = one-mul a.y i }

pub big_one : (t : Triangle) → big 1 t ≡ t
big_one t = λ i. record { a = scale_one t.a i; b = scale_one t.b i; c = scale_one t.c i }

-- Scaling keeps the order.
pub scale-lex : (k : ℕ) → 0 < k → {a b : Place} → Before a b → Before (scale k a) (scale k b)
scale-lex k h {a} {b} (rightward l) = rightward (mul-lt-mul_of_pos_left l h)
scale-lex k h {a} {b} (upward e l) = upward (ap (λ x. k * x) e) (mul-lt-mul_of_pos_left l h)

-- Scaling by k multiplies an area by k².
pub scale-area : (k : ℕ) (a b c : Place) → turn (scale k a) (scale k b) (scale k c) ≡ pos k *ℤ pos k *ℤ turn a b c
unfolding turn
scale-area k a b c =
    identity (pos k ∷ pos a.x ∷ pos a.y ∷ pos b.x ∷ pos b.y ∷ pos c.x ∷ pos c.y ∷ [])
    ((K 3 :- K 1) :* (K 6 :- K 2) :- (K 4 :- K 2) :* (K 5 :- K 1))
    (var 0 :* var 0 :* ((var 3 :- var 1) :* (var 6 :- var 2) :- (var 4 :- var 2) :* (var 5 :- var 1))) refl
  where
    K : ℕ → Formula
    K v = var 0 :* var v

-- So a scaled triangle keeps its sense.
pub big-left : (k : ℕ) → 0 < k → (t : Triangle) → pos 0 <ℤ turn t.a t.b t.c → pos 0 <ℤ turn (big k t).a (big k t).b (big k t).c
big-left k h t l = rw (scale-area k t.a t.b t.c) (positive-mul (positive-mul k-pos k-pos) l)
  where
    k-pos : pos 0 <ℤ pos k
    k-pos = omega (arith, int)

-- The weight of a side for the place p in k-ths.
unfoldable pub weight : ℕ → Place → Place → Place → ℕ
weight k p a b = spans p (scale k a) (scale k b)

-- 1 where the triangle counts p, else 0.
unfoldable pub ind : ℕ → Place → Triangle → ℕ
ind k p t = around (weight k p) t - around (back (weight k p)) t

module _ (k : ℕ) (h : 0 < k) (p : Place) where
  -- ---- one chain
  module _ (o : Slopes) (S : Place → Type 0) (z : Place) where
    -- No side of a chain spans p downwards, none spans a p that is not before its top, and one at most spans p.
    down_none : {t : Place} {l : List Place} → Chain o S z t l → along (back (weight k p)) t l ≡ 0
    unfolding pairs total weight
    down_none (bottom i) = refl
    down_none (more {t = t} {s = s} sd ch) = omega (arith, down_none ch, go (before? p (scale k t)))
      where
        go : Dec (Before p (scale k t)) → spans p (scale k t) (scale k s) ≡ 0
        go (yes x) = spans-early p (scale k t) (scale k s) x
        go (no x) = spans-late p (scale k t) (scale k s) (λ y. x (before-trans y (scale-lex k h sd.lex)))

    -- None spans a p that is not before the top.
    pub past_none : {t : Place} {l : List Place} → (Before p (scale k t) → ⊥) → Chain o S z t l → along (weight k p) t l ≡ 0
    unfolding pairs total weight
    past_none n (bottom i) = refl
    past_none n (more {t = t} {s = s} sd ch) = omega (arith, spans-late p (scale k s) (scale k t) n, past_none (λ y. n (before-trans y (scale-lex k h sd.lex))) ch)

    -- One at most spans p: where one does, those below it end before p.
    up_once : {t : Place} {l : List Place} → Chain o S z t l → along (weight k p) t l ≤ 1
    unfolding pairs total weight
    up_once (bottom i) = omega arith
    up_once (more {t = t} {s = s} {l = l} sd ch) = go (before? p (scale k s)) (up_once ch)
      where
        go : Dec (Before p (scale k s)) → along (weight k p) s l ≤ 1 → spans p (scale k s) (scale k t) + along (weight k p) s l ≤ 1
        go (yes x) r = omega (arith, spans-early p (scale k s) (scale k t) x)
        go (no x) r = omega (arith, spans-most p (scale k s) (scale k t), past_none x ch)

  -- ---- the triangles
  pub ind-says : (t : Triangle) → pos 0 <ℤ turn t.a t.b t.c → Counted (big k t) p (around (weight k p) t) (around (back (weight k p)) t)
  unfolding weight
  ind-says t l = counted (big k t) p (big-left k h t l)

  -- Summed over the triangles, the counts with them are the counts against them and the triangles that count p.
  total-ind : (ts : List Triangle) → ((t : Triangle) → In t ts → pos 0 <ℤ turn t.a t.b t.c) → total (ind k p) ts + total (around (back (weight k p))) ts ≡ total (around (weight k p)) ts
  unfolding total ind
  total-ind [] f = refl
  total-ind (t ∷ ts) f = omega (arith, total-ind ts (λ u i. f u (there i)), (ind-says t (f t (here refl))).least)

  -- The triangles that count p, and the upper chain's sides under p, are as many as the lower chain's sides under p: one at most.
  pub cover : (z : Place) (done : List Place) (s : State) → Good z done s → total (ind k p) s.tris + along (weight k p) s.top s.up ≡ along (weight k p) s.top s.lo
  cover z done s gd =
      omega (
        arith,
        gd.sums (weight k p),
        total-ind s.tris (λ t i. (gd.fine t i).left),
        down_none _ _ z gd.low,
        down_none _ _ z gd.high,
      )

  -- So at most one triangle counts p.
  pub once : (z : Place) (done : List Place) (s : State) → Good z done s → total (ind k p) s.tris ≤ 1
  once z done s gd = omega (arith, cover z done s gd, up_once _ _ z gd.low)

  -- A triangle counts what is strictly inside it.
  pub inside-ind : (t : Triangle) → pos 0 <ℤ turn t.a t.b t.c → Inside (big k t) p → ind k p t ≡ 1
  unfolding ind
  inside-ind t l i = omega (arith, (ind-says t l).inside i, (ind-says t l).most)

  -- What it counts, it holds, edges counted.
  pub ind-holds : (t : Triangle) → pos 0 <ℤ turn t.a t.b t.c → 0 < ind k p t → Holds turn (big k t) p
  unfolding ind
  ind-holds t l i = (ind-says t l).hit (omega arith)
