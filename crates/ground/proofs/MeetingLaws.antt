-- Two segments cross properly exactly if each has its ends strictly on the two sides of the other's line: `proper-apart`, `apart-proper`.
-- Assumes nothing.
--
-- A place inside the segment from u to v is i parts of u and j of v, and its turn with p and q is that of u and v so mixed: on the line of p
-- and q it is 0, so the two turns have opposite signs, or both are 0 and the segments run along one line. Conversely the turns themselves
-- are the parts in which the segments meet.
use mathlib.Core.Path.{◌≡◌, refl, sym, ◌∙◌}
use mathlib.Core.List.{[], ◌∷◌}
use Prim.Native.Nat.{ℕ, zero, suc, ◌+◌, ◌*◌, ◌<◌}
use native.Mathlib.Omega.{arith}
use lib.IntN.{ℤ, pos, negsuc, ◌+ℤ◌, ◌-ℤ◌, ◌*ℤ◌}
use lib.Signed.{◌<ℤ◌}
use Rattle.whole.specs.Place.{Place}
use Rattle.whole.specs.Turn.{across, climb, turn, bend}
use Rattle.whole.proofs.Bridge.{int, gain, loss, add, mul, minus}
use Rattle.whole.proofs.Polynomial.{var, lit, ◌:-◌, ◌:*◌}
use Rattle.whole.proofs.SignLaws.{zero_of_mul, mul-zero}
use Rattle.whole.proofs.Solver.{identity}
use Rattle.whole.proofs.OrderLaws.{same_place}
use Rattle.whole.proofs.TurnLaws.{coordinates, Turn, Bend, turn-swap, turn-start, turn_end, turn-bend-more}
use Rattle.sweep.specs.Cover.{scale}
use Rattle.ground.specs.Sides.{mixed, Apart, left-right, right-left, Together, left, right}
use Rattle.ground.specs.Meeting.{MeetInside, CrossProperly}
use Rattle.ground.proofs.AlongLaws.{turn-mixed}

-- A place of the segment from p to q is on its line.
pub on_own_line : (p q : Place) (m n : ℕ) → turn (scale (m + n) p) (scale (m + n) q) (mixed m p n q) ≡ pos 0
on_own_line p q m n = turn-mixed p q p q m n ∙ mul-zero (pos (m + n)) {b = pos m *ℤ turn p q p +ℤ pos n *ℤ turn p q q} none
  where
    none : pos m *ℤ turn p q p +ℤ pos n *ℤ turn p q q ≡ pos 0
    none = omega (arith, int, add (pos m *ℤ turn p q p) (pos n *ℤ turn p q q), mul-zero (pos m) (turn-start p q), mul-zero (pos n) (turn_end p q))

-- Two numbers that cancel, each taken some times: both are 0, or they have opposite signs.
pub data Cancel (y z : ℤ) : Type 0 where
  none : y ≡ pos 0 → z ≡ pos 0 → Cancel y z
  more-less : pos 0 <ℤ y → z <ℤ pos 0 → Cancel y z
  less-more : y <ℤ pos 0 → pos 0 <ℤ z → Cancel y z

pub cancel : (i j : ℕ) (y z : ℤ) → 0 < i → 0 < j → pos i *ℤ y +ℤ pos j *ℤ z ≡ pos 0 → Cancel y z
cancel zero j y z k l e = absurd (omega arith)
cancel (suc i) zero y z k l e = absurd (omega arith)
cancel (suc i) (suc j) y z k l e = go y z (omega (arith, int, e, mul (pos (suc i)) y, mul (pos (suc j)) z, add (pos (suc i) *ℤ y) (pos (suc j) *ℤ z)))
  where
    go : (y z : ℤ) → suc i * gain y + suc j * gain z ≡ suc i * loss y + suc j * loss z → Cancel y z
    go (pos zero) (pos zero) e = none refl refl
    go (pos zero) (pos (suc z)) e = absurd (omega arith)
    go (pos (suc y)) (pos z) e = absurd (omega arith)
    go (pos zero) (negsuc z) e = absurd (omega arith)
    go (negsuc y) (pos zero) e = absurd (omega arith)
    go (negsuc y) (negsuc z) e = absurd (omega arith)
    go (pos (suc y)) (negsuc z) e = more-less (omega (arith, int)) (omega (arith, int))
    go (negsuc y) (pos (suc z)) e = less-more (omega (arith, int)) (omega (arith, int))

module _ (p q u v : Place) where
  -- Where a place inside the segment from u to v is on the line of p and q, the turns of u and v cancel.
  pub turns-cancel : (h : MeetInside p q u v) → pos h.i *ℤ turn p q u +ℤ pos h.j *ℤ turn p q v ≡ pos 0
  turns-cancel h =
      zero_of_mul {a = pos (h.i + h.j)} (λ e. omega (arith, int, h.some-i))
      (sym (turn-mixed p q u v h.i h.j) ∙ sym (λ r. turn (scale (h.parts r) p) (scale (h.parts r) q) (h.same r)) ∙ on_own_line p q h.m h.n)

  pub proper-apart : CrossProperly p q u v → Apart p q u v
  proper-apart c = go (cancel c.meet.i c.meet.j (turn p q u) (turn p q v) c.meet.some-i c.meet.some-j (turns-cancel c.meet))
    where
      go : Cancel (turn p q u) (turn p q v) → Apart p q u v
      go (none e f) = absurd (c.across (omega (arith, int, e, f, turn-bend-more p q u v, add (turn p q u) (bend p q u v))))
      go (more-less h k) = left-right h k
      go (less-more h k) = right-left h k

-- Either segment may be named first.
pub meet_back : {p q u v : Place} → MeetInside p q u v → MeetInside u v p q
meet_back h =
    record {
      m = h.i;
      n = h.j;
      i = h.m;
      j = h.n;
      some-m = h.some-i;
      some-n = h.some-j;
      some-i = h.some-m;
      some-j = h.some-n;
      parts = sym h.parts;
      same = sym h.same;
    }

bend_back : (p q u v : Place) → bend u v p q ≡ pos 0 -ℤ bend p q u v
unfolding bend across climb
bend_back p q u v = identity (coordinates (p ∷ q ∷ u ∷ v ∷ [])) (Bend 2 3 0 1) (lit (pos 0) :- Bend 0 1 2 3) refl

pub proper_back : {p q u v : Place} → CrossProperly p q u v → CrossProperly u v p q
proper_back {p} {q} {u} {v} c =
    record { meet = meet_back c.meet; across = λ e. c.across (omega (arith, int, e, bend_back p q u v, minus (pos 0) (bend p q u v))) }

-- ---- the converse
-- Seen from the other segment, the turns of its ends make the same difference.
difference : (p q u v : Place) → turn p q u -ℤ turn p q v ≡ turn u v q -ℤ turn u v p
unfolding turn
difference p q u v = identity (coordinates (p ∷ q ∷ u ∷ v ∷ [])) (Turn 0 1 2 :- Turn 0 1 3) (Turn 2 3 1 :- Turn 2 3 0) refl

-- In as many parts as that, the segments meet.
x-meets : (p q u v : Place) → turn u v q *ℤ pos p.x -ℤ turn u v p *ℤ pos q.x ≡ turn p q u *ℤ pos v.x -ℤ turn p q v *ℤ pos u.x
unfolding turn
x-meets p q u v =
    identity (coordinates (p ∷ q ∷ u ∷ v ∷ [])) (Turn 2 3 1 :* var 0 :- Turn 2 3 0 :* var 2) (Turn 0 1 2 :* var 6 :- Turn 0 1 3 :* var 4) refl

y-meets : (p q u v : Place) → turn u v q *ℤ pos p.y -ℤ turn u v p *ℤ pos q.y ≡ turn p q u *ℤ pos v.y -ℤ turn p q v *ℤ pos u.y
unfolding turn
y-meets p q u v =
    identity (coordinates (p ∷ q ∷ u ∷ v ∷ [])) (Turn 2 3 1 :* var 1 :- Turn 2 3 0 :* var 3) (Turn 0 1 2 :* var 7 :- Turn 0 1 3 :* var 5) refl

-- Where u is left of p, q and v right of it, p is right of u, v and q left of it.
apart-meet : (p q u v : Place) → pos 0 <ℤ turn p q u → turn p q v <ℤ pos 0 → Apart u v p q → MeetInside p q u v
apart-meet p q u v h k other =
    go (turn p q u) (turn p q v) (turn u v p) (turn u v q) refl refl refl refl h k (signs other) (difference p q u v) (x-meets p q u v) (y-meets p q u v)
  where
    signs : Apart u v p q → (turn u v p <ℤ pos 0) × (pos 0 <ℤ turn u v q)
    signs (right-left l m) = (l, m)
    signs (left-right l m) =
        absurd (omega (arith, int, h, k, l, m, difference p q u v, minus (turn p q u) (turn p q v), minus (turn u v q) (turn u v p)))

    go : (a b c d : ℤ) → turn p q u ≡ a → turn p q v ≡ b → turn u v p ≡ c → turn u v q ≡ d → pos 0 <ℤ a → b <ℤ pos 0 → (c <ℤ pos 0) × (pos 0 <ℤ d)
        → a -ℤ b ≡ d -ℤ c → d *ℤ pos p.x -ℤ c *ℤ pos q.x ≡ a *ℤ pos v.x -ℤ b *ℤ pos u.x
        → d *ℤ pos p.y -ℤ c *ℤ pos q.y ≡ a *ℤ pos v.y -ℤ b *ℤ pos u.y → MeetInside p q u v
    go (pos (suc a)) (negsuc b) (negsuc c) (pos (suc d)) _ _ _ _ h k l e x y =
        record {
          m = suc d;
          n = suc c;
          i = suc b;
          j = suc a;
          some-m = omega arith;
          some-n = omega arith;
          some-i = omega arith;
          some-j = omega arith;
          parts = omega (arith, int, e);
          same = same_place (sum p.x q.x u.x v.x x) (sum p.y q.y u.y v.y y);
        }
      where
        sum : (p q u v : ℕ) → pos (suc d) *ℤ pos p -ℤ negsuc c *ℤ pos q ≡ pos (suc a) *ℤ pos v -ℤ negsuc b *ℤ pos u
            → suc d * p + suc c * q ≡ suc b * u + suc a * v
        sum p q u v e =
            omega (
              arith,
              int,
              e,
              minus (pos (suc d) *ℤ pos p) (negsuc c *ℤ pos q),
              minus (pos (suc a) *ℤ pos v) (negsuc b *ℤ pos u),
              mul (negsuc c) (pos q),
              mul (negsuc b) (pos u),
            )
    go (pos zero) b c d _ _ _ _ h k l e x y = absurd (omega (arith, int))
    go (negsuc a) b c d _ _ _ _ h k l e x y = absurd (omega (arith, int))
    go (pos (suc a)) (pos b) c d _ _ _ _ h k l e x y = absurd (omega (arith, int))
    go (pos (suc a)) (negsuc b) (pos c) d _ _ _ _ h k l e x y = absurd (omega (arith, int, l.0))
    go (pos (suc a)) (negsuc b) (negsuc c) (pos zero) _ _ _ _ h k l e x y = absurd (omega (arith, int, l.1))
    go (pos (suc a)) (negsuc b) (negsuc c) (negsuc d) _ _ _ _ h k l e x y = absurd (omega (arith, int, l.1))

-- Either segment may be run from its other end.
pub meet-turned : {p q u v : Place} → MeetInside p q v u → MeetInside p q u v
meet-turned {p} {q} {u} {v} h =
    record {
      m = h.m;
      n = h.n;
      i = h.j;
      j = h.i;
      some-m = h.some-m;
      some-n = h.some-n;
      some-i = h.some-j;
      some-j = h.some-i;
      parts = omega (arith, h.parts);
      same = h.same ∙ same_place (omega arith) (omega arith);
    }

pub apart-turned : {p q u v : Place} → Apart u v p q → Apart v u p q
apart-turned {p} {q} {u} {v} (left-right h k) =
    right-left (omega (arith, int, turn-swap v u p, minus (pos 0) (turn u v p))) (omega (arith, int, turn-swap v u q, minus (pos 0) (turn u v q)))
apart-turned {p} {q} {u} {v} (right-left h k) =
    left-right (omega (arith, int, turn-swap v u p, minus (pos 0) (turn u v p))) (omega (arith, int, turn-swap v u q, minus (pos 0) (turn u v q)))

pub together-turned : {p q u v : Place} → Together u v p q → Together v u p q
together-turned {p} {q} {u} {v} (left h k) =
    right (omega (arith, int, turn-swap v u p, minus (pos 0) (turn u v p))) (omega (arith, int, turn-swap v u q, minus (pos 0) (turn u v q)))
together-turned {p} {q} {u} {v} (right h k) =
    left (omega (arith, int, turn-swap v u p, minus (pos 0) (turn u v p))) (omega (arith, int, turn-swap v u q, minus (pos 0) (turn u v q)))

pub apart-proper : {p q u v : Place} → Apart p q u v → Apart u v p q → CrossProperly p q u v
apart-proper {p} {q} {u} {v} one other = record { meet = go one; across = λ e. bent one e }
  where
    go : Apart p q u v → MeetInside p q u v
    go (left-right h k) = apart-meet p q u v h k other
    go (right-left h k) = meet-turned (apart-meet p q v u k h (apart-turned other))

    bent : Apart p q u v → bend p q u v ≡ pos 0 → ⊥
    bent (left-right h k) e = omega (arith, int, turn-bend-more p q u v, add (turn p q u) (bend p q u v))
    bent (right-left h k) e = omega (arith, int, turn-bend-more p q u v, add (turn p q u) (bend p q u v))
