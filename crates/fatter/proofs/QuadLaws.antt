-- A convex quadrilateral is cut into two triangles by either of its diagonals: a place that is in one of the two triangles of one
-- diagonal is in one of the two of the other, and strictly so off the diagonals. Assumes nothing.
use mathlib.Core.Path.{◌≡◌, refl}
use mathlib.Core.List.{[], ◌∷◌}
use mathlib.Core.Logic.{◌⊎◌, inl, inr}
use Prim.Native.Nat.{ℕ, zero, suc, ◌+◌, ◌*◌, ◌<◌}
use native.Mathlib.Omega.{arith}
use lib.IntN.{ℤ, pos, negsuc, ◌+ℤ◌, ◌*ℤ◌}
use lib.Signed.{◌≤ℤ◌, ◌<ℤ◌}
use Rattle.whole.specs.Place.{Place, place}
use Rattle.whole.specs.Turn.{turn}
use Rattle.whole.proofs.Bridge.{int, minus, add, mul, loss}
use Rattle.whole.proofs.Polynomial.{Formula, var, lit, ◌:+◌, ◌:-◌, ◌:*◌}
use Rattle.whole.proofs.Solver.{identity}
use Rattle.whole.proofs.SignLaws.{positive-mul, nonneg-mul, nonneg_of_mul, mul-zero}
use Rattle.whole.proofs.TurnLaws.{coordinates, Turn, turn-cycle, turn-swap, turn_end, turn-start}
use Rattle.sweep.specs.Cover.{Holds, Inside, scale, big}
use Rattle.sweep.specs.Sweep.{Triangle, tri}
use Rattle.sweep.proofs.CoverLaws.{big-left}
use Rattle.circle.proofs.CircleLaws.{positive_of_mul}

-- The corners of a quadrilateral, counterclockwise, each a true left turn.
pub record Convex (a b c d : Place) : Type 0 where
  pub abc : pos 0 <ℤ turn a b c
  pub bcd : pos 0 <ℤ turn b c d
  pub cda : pos 0 <ℤ turn c d a
  pub dab : pos 0 <ℤ turn d a b

pub convex-next : {a b c d : Place} → Convex a b c d → Convex b c d a
convex-next h = record { abc = h.bcd; bcd = h.cda; cda = h.dab; dab = h.abc }

-- A triangle from its next corner.
pub holds-next : {a b c p : Place} → Holds turn (tri a b c) p → Holds turn (tri b c a) p
holds-next h = record { ab = h.bc; bc = h.ca; ca = h.ab }

pub inside-next : {a b c p : Place} → Inside (tri a b c) p → Inside (tri b c a) p
inside-next h = record { ab = h.bc; bc = h.ca; ca = h.ab }

-- The place p as a weighted middle of the corners of a triangle.
middle : (a b c s t p : Place) → turn a b c *ℤ turn s t p ≡ turn b c p *ℤ turn s t a +ℤ turn c a p *ℤ turn s t b +ℤ turn a b p *ℤ turn s t c
unfolding turn
middle a b c s t p =
    identity (coordinates (a ∷ b ∷ c ∷ s ∷ t ∷ p ∷ [])) (Turn 0 1 2 :* Turn 3 4 5)
    (Turn 1 2 5 :* Turn 3 4 0 :+ Turn 2 0 5 :* Turn 3 4 1 :+ Turn 0 1 5 :* Turn 3 4 2) refl

-- Of a triangle a, b, d with a corner b on a line s, t, or a corner d: a place in it is left of the line where the other two are.
module _ (s t p : Place) {a b d : Place} where
  all_left : pos 0 <ℤ turn a b d → Holds turn (tri a b d) p → pos 0 ≤ℤ turn s t a → pos 0 ≤ℤ turn s t b → pos 0 ≤ℤ turn s t d → pos 0 ≤ℤ turn s t p
  all_left l h x y z =
      nonneg_of_mul l
      (omega (
        arith,
        int,
        middle a b d s t p,
        add (turn b d p *ℤ turn s t a +ℤ turn d a p *ℤ turn s t b) (turn a b p *ℤ turn s t d),
        add (turn b d p *ℤ turn s t a) (turn d a p *ℤ turn s t b),
        nonneg-mul h.bc x,
        nonneg-mul h.ca y,
        nonneg-mul h.ab z,
      ))

  -- Strictly, where the place is strictly inside and one corner is strictly left.
  one_left : pos 0 <ℤ turn a b d → Inside (tri a b d) p → pos 0 <ℤ turn s t a → pos 0 ≤ℤ turn s t b → pos 0 ≤ℤ turn s t d → pos 0 <ℤ turn s t p
  one_left l h x y z =
      positive_of_mul l
      (omega (
        arith,
        int,
        middle a b d s t p,
        add (turn b d p *ℤ turn s t a +ℤ turn d a p *ℤ turn s t b) (turn a b p *ℤ turn s t d),
        add (turn b d p *ℤ turn s t a) (turn d a p *ℤ turn s t b),
        positive-mul h.bc x,
        nonneg-mul {a = turn d a p} (omega (arith, int, h.ca)) y,
        nonneg-mul {a = turn a b p} (omega (arith, int, h.ab)) z,
      ))

-- The sign of a whole number.
pub data Sign (z : ℤ) : Type 0 where
  left : pos 0 <ℤ z → Sign z
  flat : z ≡ pos 0 → Sign z
  right : z <ℤ pos 0 → Sign z

pub sign_of : (z : ℤ) → Sign z
sign_of (pos zero) = flat refl
sign_of (pos (suc n)) = left (omega (arith, int))
sign_of (negsuc n) = right (omega (arith, int))

-- The other side of a line.
over : (a c p : Place) → turn a c p ≤ℤ pos 0 → pos 0 ≤ℤ turn c a p
over a c p h = omega (arith, int, turn-swap c a p, minus (pos 0) (turn a c p))

over-strict : (a c p : Place) → turn a c p <ℤ pos 0 → pos 0 <ℤ turn c a p
over-strict a c p h = omega (arith, int, turn-swap c a p, minus (pos 0) (turn a c p))

module _ (a b c d p : Place) (h : Convex a b c d) where
  bca : pos 0 <ℤ turn b c a
  bca = rw (← turn-cycle a b c) h.abc

  abd : pos 0 <ℤ turn a b d
  abd = rw (turn-cycle d a b) at h.dab

  cdb : pos 0 <ℤ turn c d b
  cdb = rw (turn-cycle b c d) at h.bcd

  at_end : (s t : Place) → pos 0 ≤ℤ turn s t t
  at_end s t = omega (arith, int, turn_end s t)

  at_start : (s t : Place) → pos 0 ≤ℤ turn s t s
  at_start s t = omega (arith, int, turn-start s t)

  weak : {z : ℤ} → pos 0 <ℤ z → pos 0 ≤ℤ z
  weak l = omega (arith, int)

  -- A place of the triangle a, b, d is in a, b, c or in a, c, d.
  pub cut : Holds turn (tri a b d) p → Holds turn (tri a b c) p ⊎ Holds turn (tri a c d) p
  cut k = go (sign_of (turn a c p))
    where
      first : turn a c p ≤ℤ pos 0 → Holds turn (tri a b c) p
      first l = record { ab = k.ab; bc = all_left b c p abd k (weak bca) (at_start b c) (weak h.bcd); ca = over a c p l }

      second : pos 0 ≤ℤ turn a c p → Holds turn (tri a c d) p
      second l = record { ab = l; bc = all_left c d p abd k (weak h.cda) (weak cdb) (at_end c d); ca = k.ca }

      go : Sign (turn a c p) → Holds turn (tri a b c) p ⊎ Holds turn (tri a c d) p
      go (left l) = inr (second (weak l))
      go (flat e) = inr (second (omega (arith, int)))
      go (right l) = inl (first (omega (arith, int)))

  -- Strictly inside, on either side of the diagonal.
  pub cut_left : Inside (tri a b d) p → pos 0 <ℤ turn a c p → Inside (tri a c d) p
  cut_left k l = record { ab = l; bc = one_left c d p abd k h.cda (weak cdb) (at_end c d); ca = k.ca }

  pub cut_right : Inside (tri a b d) p → turn a c p <ℤ pos 0 → Inside (tri a b c) p
  cut_right k l = record { ab = k.ab; bc = one_left b c p abd k bca (at_start b c) (weak h.bcd); ca = over-strict a c p l }

-- ---- a place moved a little
-- From the place p, in k-ths, a little towards w: M parts of p and one of w.
abbrev pub push : ℕ → ℕ → Place → Place → Place
push M k p w = place (M * p.x + k * w.x) (M * p.y + k * w.y)

abbrev pub finer : ℕ → ℕ → ℕ
finer M k = (M + 1) * k

push-turn : (M k : ℕ) (a b p w : Place) → turn (scale (finer M k) a) (scale (finer M k) b) (push M k p w) ≡
    pos (M + 1) *ℤ (pos M *ℤ turn (scale k a) (scale k b) p +ℤ turn (scale k a) (scale k b) (scale k w))
unfolding turn
push-turn M k a b p w =
    identity (pos M ∷ pos k ∷ coordinates (a ∷ b ∷ p ∷ w ∷ []))
    (Three (S 2) (S 3) (S 4) (S 5) (var 0 :* var 6 :+ var 1 :* var 8) (var 0 :* var 7 :+ var 1 :* var 9))
    ((var 0 :+ lit (pos 1)) :* (var 0 :* Three (R 2) (R 3) (R 4) (R 5) (var 6) (var 7) :+ Three (R 2) (R 3) (R 4) (R 5) (R 8) (R 9))) refl
  where
    S : ℕ → Formula
    S v = (var 0 :+ lit (pos 1)) :* var 1 :* var v

    R : ℕ → Formula
    R v = var 1 :* var v

    Three : Formula → Formula → Formula → Formula → Formula → Formula → Formula
    Three ax ay bx by cx cy = (bx :- ax) :* (cy :- ay) :- (by :- ay) :* (cx :- ax)

module _ (M k : ℕ) (a b p w : Place) where
  times : {z : ℤ} → pos 0 <ℤ z → pos 0 <ℤ (pos (M + 1) *ℤ z)
  times h = positive-mul {a = pos (M + 1)} (omega (arith, int)) h

  -- It stays left of a line that p is strictly left of, where M is large.
  pub push-left : pos 0 <ℤ turn (scale k a) (scale k b) p → loss (turn (scale k a) (scale k b) (scale k w)) < M
      → pos 0 <ℤ turn (scale (finer M k) a) (scale (finer M k) b) (push M k p w)
  push-left h n = rw (push-turn M k a b p w) (times (more (turn (scale k a) (scale k b) p) (turn (scale k a) (scale k b) (scale k w)) h n))
    where
      more : (x y : ℤ) → pos 0 <ℤ x → loss y < M → pos 0 <ℤ (pos M *ℤ x +ℤ y)
      more (pos zero) y h n = absurd h.lt
      more (pos (suc x)) y h n = omega (arith, int, add (pos M *ℤ pos (suc x)) y, mul (pos M) (pos (suc x)))
      more (negsuc x) y h n = absurd h.lt

  -- It leaves a line that p is on to the side of w.
  pub push_off : turn (scale k a) (scale k b) p ≡ pos 0 → pos 0 <ℤ turn (scale k a) (scale k b) (scale k w)
      → pos 0 <ℤ turn (scale (finer M k) a) (scale (finer M k) b) (push M k p w)
  push_off e h = rw (push-turn M k a b p w) (times (alone (turn (scale k a) (scale k b) p) (turn (scale k a) (scale k b) (scale k w)) e h))
    where
      alone : (x y : ℤ) → x ≡ pos 0 → pos 0 <ℤ y → pos 0 <ℤ (pos M *ℤ x +ℤ y)
      alone x y e h = omega (arith, int, mul-zero (pos M) e, add (pos M *ℤ x) y)

-- What a triangle asks of M: that it stays strictly inside.
pub reach : ℕ → Triangle → Place → ℕ
reach k t w =
    loss (turn (scale k t.a) (scale k t.b) (scale k w)) + loss (turn (scale k t.b) (scale k t.c) (scale k w))
    + loss (turn (scale k t.c) (scale k t.a) (scale k w))

pub push-inside : (M k : ℕ) (t : Triangle) (p w : Place) → reach k t w < M → Inside (big k t) p → Inside (big (finer M k) t) (push M k p w)
unfolding reach
push-inside M k t p w n h =
    record {
      ab = push-left M k t.a t.b p w h.ab (omega arith);
      bc = push-left M k t.b t.c p w h.bc (omega arith);
      ca = push-left M k t.c t.a p w h.ca (omega arith);
    }

-- ---- the middle of a side, in halves
abbrev pub mid : Place → Place → Place
mid a b = place (a.x + b.x) (a.y + b.y)

module _ (a b c : Place) where
  abbrev D : ℕ → Formula
  D v = lit (pos 2) :* var v

  abbrev At : ℕ → ℕ → Formula
  At u v = (D (v * 2) :- D (u * 2)) :* (var 1 :+ var 3 :- D (u * 2 + 1)) :- (D (v * 2 + 1) :- D (u * 2 + 1)) :* (var 0 :+ var 2 :- D (u * 2))

  pub mid_on : turn (scale 2 a) (scale 2 b) (mid a b) ≡ pos 0
  unfolding turn
  mid_on = identity (coordinates (a ∷ b ∷ c ∷ [])) (At 0 1) (lit (pos 0)) refl

  mid-bc : turn (scale 2 b) (scale 2 c) (mid a b) ≡ pos 2 *ℤ turn a b c
  unfolding turn
  mid-bc = identity (coordinates (a ∷ b ∷ c ∷ [])) (At 1 2) (lit (pos 2) :* Turn 0 1 2) refl

  mid-ca : turn (scale 2 c) (scale 2 a) (mid a b) ≡ pos 2 *ℤ turn a b c
  unfolding turn
  mid-ca = identity (coordinates (a ∷ b ∷ c ∷ [])) (At 2 0) (lit (pos 2) :* Turn 0 1 2) refl

  -- A little from the middle of the side a, b towards a place w left of it: strictly inside the triangle.
  pub mid-inside : (M : ℕ) (w : Place) → reach 2 (tri a b c) w < M → pos 0 <ℤ turn a b c → pos 0 <ℤ turn a b w
      → Inside (big (finer M 2) (tri a b c)) (push M 2 (mid a b) w)
  unfolding reach
  mid-inside M w n h k =
      record {
        ab = push_off M 2 a b (mid a b) w mid_on (big-left 2 (omega arith) (tri a b w) k);
        bc = push-left M 2 b c (mid a b) w (rw mid-bc (positive-mul {a = pos 2} (omega (arith, int)) h)) (omega arith);
        ca = push-left M 2 c a (mid a b) w (rw mid-ca (positive-mul {a = pos 2} (omega (arith, int)) h)) (omega arith);
      }
