-- The circle number: what its sign means, that it is the same from either triangle, and what a positive one says of the two new
-- triangles. Assumes nothing.
--
-- Each law is an identity of polynomials in the coordinates. The places i, j, l, r are those of a side from i to j, of the corner l
-- left of it and of the corner r right of it.
use mathlib.Core.Path.{◌≡◌, refl, sym, ◌∙◌}
use mathlib.Core.List.{[], ◌∷◌}
use Prim.Native.Nat.{ℕ, zero, suc, ◌+◌, ◌*◌}
use native.Mathlib.Omega.{arith}
use lib.IntN.{ℤ, pos, negsuc, nat_abs, ◌+ℤ◌, ◌-ℤ◌, ◌*ℤ◌}
use lib.Signed.{◌≤ℤ◌, ◌<ℤ◌}
use Rattle.whole.specs.Place.{Place}
use Rattle.whole.specs.Turn.{turn, across, climb}
use Rattle.whole.proofs.Bridge.{int, minus, add, mul}
use Rattle.whole.proofs.Polynomial.{Formula, var, lit, ◌:+◌, ◌:-◌, ◌:*◌}
use Rattle.whole.proofs.Solver.{identity}
use Rattle.whole.proofs.SignLaws.{positive-mul, nonneg-mul, mul-zero}
use Rattle.whole.proofs.TurnLaws.{coordinates, Across, Climb, Turn, turn-split}
use Rattle.circle.specs.Circle.{apart, circle, away, InCircle}

-- Formulas in the coordinates of numbered places.
abbrev Apart : ℕ → ℕ → Formula
Apart a b = Across a b :* Across a b :+ Climb a b :* Climb a b

abbrev Circle : ℕ → ℕ → ℕ → ℕ → Formula
Circle a b c d = Apart a d :* Turn 1 2 3 :+ Apart b d :* Turn 2 0 3 :+ Apart c d :* Turn 0 1 3

abbrev Square : ℕ → Formula
Square a = var (a * 2) :* var (a * 2) :+ var (a * 2 + 1) :* var (a * 2 + 1)

abbrev pub square : Place → ℤ
square p = pos p.x *ℤ pos p.x +ℤ pos p.y *ℤ pos p.y

-- A square is not negative.
own_square : (z : ℤ) → pos 0 ≤ℤ (z *ℤ z)
own_square (pos n) = omega (arith, int)
own_square (negsuc n) = omega (arith, int)

apart-nonneg : (a b : Place) → pos 0 ≤ℤ apart a b
unfolding apart
apart-nonneg a b =
    omega (
      arith,
      int,
      own_square (across a b),
      own_square (climb a b),
      add (across a b *ℤ across a b) (climb a b *ℤ climb a b),
    )

-- The sign of a new triangle's area x, from a circle number seen from an end of the side.
seen : {p q x u v w h : ℤ} → pos 0 <ℤ p → pos 0 <ℤ q → pos 0 <ℤ h → h ≡ x *ℤ u -ℤ p *ℤ v -ℤ q *ℤ w
    → pos 0 ≤ℤ u → pos 0 ≤ℤ v → pos 0 ≤ℤ w → pos 0 <ℤ x
seen {p} {q} {x = pos zero} {u} {v} {w} lp lq lh e hu hv hw =
    absurd
    (omega (
      arith,
      int,
      minus (pos 0 *ℤ u -ℤ p *ℤ v) (q *ℤ w),
      minus (pos 0 *ℤ u) (p *ℤ v),
      mul (pos 0) u,
      nonneg-mul {a = p} {b = v} (omega (arith, int)) hv,
      nonneg-mul {a = q} {b = w} (omega (arith, int)) hw,
    ))
seen {x = pos (suc n)} lp lq lh e hu hv hw = omega (arith, int)
seen {p} {q} {x = negsuc n} {u} {v} {w} lp lq lh e hu hv hw =
    absurd
    (omega (
      arith,
      int,
      minus (negsuc n *ℤ u -ℤ p *ℤ v) (q *ℤ w),
      minus (negsuc n *ℤ u) (p *ℤ v),
      mul (negsuc n) u,
      nonneg-mul {a = p} {b = v} (omega (arith, int)) hv,
      nonneg-mul {a = q} {b = w} (omega (arith, int)) hw,
      nonneg-mul {a = pos (suc n)} {b = u} (omega (arith, int)) hu,
      mul (pos (suc n)) u,
    ))

module _ (i j l r : Place) where
  -- The far corner of either triangle is inside the other's circle.
  pub circle-either : circle i j l r ≡ circle j i r l
  unfolding circle apart across climb turn
  circle-either =
      identity (coordinates (i ∷ j ∷ l ∷ r ∷ [])) (Circle 0 1 2 3)
      (Apart 1 2 :* Turn 0 3 2 :+ Apart 0 2 :* Turn 3 1 2 :+ Apart 3 2 :* Turn 1 0 2) refl

  -- Seen from either end of the side.
  from_j : circle i j l r ≡ turn r j l *ℤ apart i j -ℤ turn i j l *ℤ apart r j -ℤ turn j i r *ℤ apart l j
  unfolding circle apart across climb turn
  from_j =
      identity (coordinates (i ∷ j ∷ l ∷ r ∷ [])) (Circle 0 1 2 3)
      (Turn 3 1 2 :* Apart 0 1 :- Turn 0 1 2 :* Apart 3 1 :- Turn 1 0 3 :* Apart 2 1) refl

  from_i : circle i j l r ≡ turn i r l *ℤ apart j i -ℤ turn i j l *ℤ apart r i -ℤ turn j i r *ℤ apart l i
  unfolding circle apart across climb turn
  from_i =
      identity (coordinates (i ∷ j ∷ l ∷ r ∷ [])) (Circle 0 1 2 3)
      (Turn 0 3 2 :* Apart 1 0 :- Turn 0 1 2 :* Apart 3 0 :- Turn 1 0 3 :* Apart 2 0) refl

  -- The two new triangles have the area of the two old ones.
  pub same_area : turn i j l +ℤ turn j i r ≡ turn i r l +ℤ turn r j l
  unfolding turn
  same_area = identity (coordinates (i ∷ j ∷ l ∷ r ∷ [])) (Turn 0 1 2 :+ Turn 1 0 3) (Turn 0 3 2 :+ Turn 3 1 2) refl

  -- Where the far corner is strictly inside, the two new triangles are counterclockwise: a triangle that is not would make the number
  -- negative, whatever the other corners.
  pub new-left : pos 0 <ℤ turn i j l → pos 0 <ℤ turn j i r → pos 0 <ℤ circle i j l r → pos 0 <ℤ turn i r l
  new-left p q h = seen p q h from_i (apart-nonneg j i) (apart-nonneg r i) (apart-nonneg l i)

  pub new-right : pos 0 <ℤ turn i j l → pos 0 <ℤ turn j i r → pos 0 <ℤ circle i j l r → pos 0 <ℤ turn r j l
  new-right p q h = seen p q h from_j (apart-nonneg i j) (apart-nonneg r j) (apart-nonneg l j)

  -- The loads of the four triangles: a swap takes away exactly the circle number.
  pub load-falls :
      turn i j l *ℤ (square i +ℤ square j +ℤ square l) +ℤ turn j i r *ℤ (square j +ℤ square i +ℤ square r)
      ≡ turn i r l *ℤ (square i +ℤ square r +ℤ square l) +ℤ turn r j l *ℤ (square r +ℤ square j +ℤ square l) +ℤ circle i j l r
  unfolding circle apart across climb turn
  load-falls =
      identity (coordinates (i ∷ j ∷ l ∷ r ∷ []))
      (Turn 0 1 2 :* (Square 0 :+ Square 1 :+ Square 2) :+ Turn 1 0 3 :* (Square 1 :+ Square 0 :+ Square 3))
      (Turn 0 3 2 :* (Square 0 :+ Square 3 :+ Square 2) :+ Turn 3 1 2 :* (Square 3 :+ Square 1 :+ Square 2) :+ Circle 0 1 2 3) refl

-- ---- what the circle number means
abbrev Off : ℕ → ℕ → Formula
Off x u = var 8 :* var x :- var u

abbrev Away : ℕ → Formula
Away a = Off (a * 2) 9 :* Off (a * 2) 9 :+ Off (a * 2 + 1) 10 :* Off (a * 2 + 1) 10

-- Of any place as a centre, (u, v) / k.
about : (k : ℕ) (u v : ℤ) (a b c d : Place) → pos k *ℤ pos k *ℤ circle a b c d ≡
    turn b c d *ℤ away k u v a +ℤ turn c a d *ℤ away k u v b +ℤ turn a b d *ℤ away k u v c -ℤ turn a b c *ℤ away k u v d
unfolding circle apart across climb turn away
about k u v a b c d =
    identity (pos a.x ∷ pos a.y ∷ pos b.x ∷ pos b.y ∷ pos c.x ∷ pos c.y ∷ pos d.x ∷ pos d.y ∷ pos k ∷ u ∷ v ∷ [])
    (var 8 :* var 8 :* Circle 0 1 2 3) (Turn 1 2 3 :* Away 0 :+ Turn 2 0 3 :* Away 1 :+ Turn 0 1 3 :* Away 2 :- Turn 0 1 2 :* Away 3) refl

-- A product with a positive factor is positive only where the other is.
pub positive_of_mul : {a b : ℤ} → pos 0 <ℤ a → pos 0 <ℤ (a *ℤ b) → pos 0 <ℤ b
positive_of_mul {a} {b = pos zero} h k = absurd (omega (arith, int, mul a (pos 0)))
positive_of_mul {b = pos (suc b)} h k = omega (arith, int)
positive_of_mul {a = pos a} {b = negsuc b} h k = absurd (omega (arith, int, mul (pos a) (negsuc b)))
positive_of_mul {a = negsuc a} {b = negsuc b} h k = absurd h.lt

gather : (x y z t p q r d : ℤ) → p ≡ q → q ≡ r → t ≡ z +ℤ x +ℤ y → x *ℤ p +ℤ y *ℤ q +ℤ z *ℤ r -ℤ t *ℤ d ≡ t *ℤ (p -ℤ d)
gather x y z t p q r d e f g =
    rw (g, ← f, ← e)
    (identity (x ∷ y ∷ z ∷ p ∷ d ∷ []) (var 0 :* var 3 :+ var 1 :* var 3 :+ var 2 :* var 3 :- (var 2 :+ var 0 :+ var 1) :* var 4)
    ((var 2 :+ var 0 :+ var 1) :* (var 3 :- var 4)) refl)

-- About a centre: the circle number, times k², is twice the triangle's area times how much nearer d is than a.
centred : (k : ℕ) (u v : ℤ) (a b c d : Place) → away k u v a ≡ away k u v b → away k u v b ≡ away k u v c
    → pos k *ℤ pos k *ℤ circle a b c d ≡ turn a b c *ℤ (away k u v a -ℤ away k u v d)
centred k u v a b c d e f =
    about k u v a b c d
    ∙ gather (turn b c d) (turn c a d) (turn a b d) (turn a b c) (away k u v a) (away k u v b) (away k u v c) (away k u v d) e f (turn-split a b c d)

-- A place strictly inside a circle through a, b, c has a positive circle number, and the other way round.
pub inside-circle : (a b c d : Place) → pos 0 <ℤ turn a b c → InCircle a b c d → pos 0 <ℤ circle a b c d
inside-circle a b c d left h =
    positive_of_mul (positive-mul some some)
    (rw (centred h.k h.u h.v a b c d h.ab h.bc)
    (positive-mul left (omega (arith, int, h.within, minus (away h.k h.u h.v a) (away h.k h.u h.v d)))))
  where
    some : pos 0 <ℤ pos h.k
    some = omega (arith, int, h.some)

-- ---- the centre of the circle through a, b, c
-- How far p is from the place (u, v) / k beyond a, less how far a is.
spread : (k : ℕ) (u v : ℤ) (a p : Place) → away k (pos k *ℤ pos a.x +ℤ u) (pos k *ℤ pos a.y +ℤ v) p ≡
    away k (pos k *ℤ pos a.x +ℤ u) (pos k *ℤ pos a.y +ℤ v) a
    +ℤ pos k *ℤ (pos k *ℤ apart a p -ℤ pos 2 *ℤ (across a p *ℤ u +ℤ climb a p *ℤ v))
unfolding away apart across climb
spread k u v a p =
    identity (pos a.x ∷ pos a.y ∷ pos p.x ∷ pos p.y ∷ pos k ∷ u ∷ v ∷ []) (At 1)
    (At 0 :+ var 4 :* (var 4 :* Apart 0 1 :- lit (pos 2) :* (Across 0 1 :* var 5 :+ Climb 0 1 :* var 6))) refl
  where
    Far : ℕ → ℕ → ℕ → Formula
    Far x o u = var 4 :* var x :- (var 4 :* var o :+ var u)

    At : ℕ → Formula
    At p = Far (p * 2) 0 5 :* Far (p * 2) 0 5 :+ Far (p * 2 + 1) 1 6 :* Far (p * 2 + 1) 1 6

-- The centre lies beyond a by (u, v) / k, where k is twice turn a b c.
beyond-x : Place → Place → Place → ℤ
beyond-x a b c = apart a b *ℤ climb a c -ℤ apart a c *ℤ climb a b

beyond-y : Place → Place → Place → ℤ
beyond-y a b c = apart a c *ℤ across a b -ℤ apart a b *ℤ across a c

module _ (a b c : Place) where
  level-b : pos 2 *ℤ turn a b c *ℤ apart a b -ℤ pos 2 *ℤ (across a b *ℤ beyond-x a b c +ℤ climb a b *ℤ beyond-y a b c) ≡ pos 0
  unfolding turn apart across climb beyond-x beyond-y
  level-b =
      identity (coordinates (a ∷ b ∷ c ∷ []))
      (lit (pos 2) :* Turn 0 1 2 :* Apart 0 1
      :- lit (pos 2) :* (Across 0 1 :* (Apart 0 1 :* Climb 0 2 :- Apart 0 2 :* Climb 0 1) :+ Climb 0 1 :* (Apart 0 2 :* Across 0 1 :- Apart 0 1 :* Across 0 2)))
      (lit (pos 0)) refl

  level-c : pos 2 *ℤ turn a b c *ℤ apart a c -ℤ pos 2 *ℤ (across a c *ℤ beyond-x a b c +ℤ climb a c *ℤ beyond-y a b c) ≡ pos 0
  unfolding turn apart across climb beyond-x beyond-y
  level-c =
      identity (coordinates (a ∷ b ∷ c ∷ []))
      (lit (pos 2) :* Turn 0 1 2 :* Apart 0 2
      :- lit (pos 2) :* (Across 0 2 :* (Apart 0 1 :* Climb 0 2 :- Apart 0 2 :* Climb 0 1) :+ Climb 0 2 :* (Apart 0 2 :* Across 0 1 :- Apart 0 1 :* Across 0 2)))
      (lit (pos 0)) refl

-- A positive whole number is its size.
pub abs_positive : {z : ℤ} → pos 0 <ℤ z → pos (nat_abs z) ≡ z
abs_positive {z = pos n} h = refl
abs_positive {z = negsuc n} h = absurd h.lt

pub circle-inside : (a b c d : Place) → pos 0 <ℤ turn a b c → pos 0 <ℤ circle a b c d → InCircle a b c d
circle-inside a b c d left h =
    record {
      k = k;
      u = u;
      v = v;
      some = omega (arith, int, is_k, double);
      ab = sym ab;
      bc = ab ∙ sym ac;
      within =
          let nearer = positive_of_mul left (rw (centred k u v a b c d (sym ab) (ab ∙ sym ac)) at (positive-mul (positive-mul k-pos k-pos) h)) in
          omega (arith, int, nearer, minus (away k u v a) (away k u v d));
    }
  where
    double : pos 0 <ℤ (pos 2 *ℤ turn a b c)
    double = positive-mul {a = pos 2} (omega (arith, int)) left

    k : ℕ
    k = nat_abs (pos 2 *ℤ turn a b c)

    is_k : pos k ≡ pos 2 *ℤ turn a b c
    is_k = abs_positive double

    k-pos : pos 0 <ℤ pos k
    k-pos = omega (arith, int, is_k, double)

    u : ℤ
    u = pos k *ℤ pos a.x +ℤ beyond-x a b c

    v : ℤ
    v = pos k *ℤ pos a.y +ℤ beyond-y a b c

    none : (z y : ℤ) → y ≡ pos 0 → z +ℤ pos k *ℤ y ≡ z
    none z y e = omega (arith, int, mul-zero (pos k) e, add z (pos k *ℤ y))

    level : (p : Place) → ℤ
    level p = pos k *ℤ apart a p -ℤ pos 2 *ℤ (across a p *ℤ beyond-x a b c +ℤ climb a p *ℤ beyond-y a b c)

    ab : away k u v b ≡ away k u v a
    ab = spread k (beyond-x a b c) (beyond-y a b c) a b ∙ none (away k u v a) (level b) (rw is_k (level-b a b c))

    ac : away k u v c ≡ away k u v a
    ac = spread k (beyond-x a b c) (beyond-y a b c) a c ∙ none (away k u v a) (level c) (rw is_k (level-c a b c))
