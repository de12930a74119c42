-- No station lies in a triangle, its edges counted, but the triangle's corners. Assumes nothing.
use mathlib.Core.Path.{◌≡◌}
use native.Mathlib.Omega.{arith}
use lib.IntN.{pos, ◌+ℤ◌}
use lib.Signed.{◌≤ℤ◌, ◌<ℤ◌}
use Rattle.whole.proofs.Bridge.{int, minus, add}
use Rattle.whole.specs.Place.{Place, Before}
use Rattle.whole.specs.Turn.{turn, bend}
use Rattle.whole.proofs.TurnLaws.{turn-split}
use Rattle.whole.proofs.OrderLaws.{Compared, compared, same, earlier, later}
use Rattle.whole.proofs.BendLaws.{half}
use Rattle.sweep.specs.Sweep.{Triangle}
use Rattle.sweep.proofs.Slopes.{Slopes, low₃, turn-anti, flip, lt-le}
use Rattle.sweep.proofs.Fans.{Made}
use Rattle.sweep.specs.Cover.{Corner, at_a, at_c, Holds}

module _ (o : Slopes) where
  open o use {O, T, o₁, o₂, cyc, anti}

  -- A station w in line with a side a, c that q sees is not in the triangle a, q, c where it stands before a or after c.
  off_a : (a c q w : Place) → Before w a → Before a c → Before a q → O a c q <ℤ pos 0 → O a c w ≡ pos 0 → pos 0 ≤ℤ O a q w → ⊥
  off_a a c q w wa ac aq seen flat h =
      omega (
        arith,
        int,
        lt-le o a q a c w a aq ac wa (omega (arith, int, anti a q a c, o₂ a c q, minus (pos 0) (T a c a q))) (omega (arith, int, anti a c w a, cyc a c w, o₁ w a c, minus (pos 0) (T w a a c))),
        cyc a q w,
        o₁ w a q,
        anti w a a q,
        minus (pos 0) (T a q w a),
      )

  -- The same after c.
  off_c : (a c q w : Place) → Before a c → Before c w → Before c q → O a c q <ℤ pos 0 → O a c w ≡ pos 0 → pos 0 ≤ℤ O q c w → ⊥
  off_c a c q w ac cw cq seen flat h =
      omega (
        arith,
        int,
        lt-le o c q a c c w cq ac cw (omega (arith, int, anti c q a c, o₁ a c q, minus (pos 0) (T a c c q))) (omega (arith, int, o₁ a c w)),
        cyc q c w,
        cyc w q c,
        o₂ c w q,
        anti c w c q,
        minus (pos 0) (T c q c w),
      )

  -- An old station in a new triangle.
  pub old-clear : (S : Place → Type 0) (q : Place) (last : (w : Place) → S w → Before w q) (t : Triangle) → Made o S q t → (w : Place) → S w → Holds O t w → Corner w t
  old-clear S q last t d w i h = go (compared w t.a) (compared w t.c)
    where
      flat : O t.a t.c w ≡ pos 0
      flat =
          omega (
            arith,
            int,
            d.side.left w i,
            h.ca,
            cyc t.a t.c w,
            cyc t.c t.a w,
            flip o w t.c t.a,
            minus (pos 0) (O w t.a t.c),
          )

      go : Compared w t.a → Compared w t.c → Corner w t
      go (same e) c = at_a e
      go (earlier l) c = absurd (off_a t.a t.c q w l d.side.lex (last t.a d.side.from) d.seen flat (rw d.apex at h.ab))
      go (later l) (same e) = at_c e
      go (later l) (earlier m) = absurd (omega (arith, int, flat, d.side.apart w i l m))
      go (later l) (later m) = absurd (off_c t.a t.c q w d.side.lex m (last t.c d.side.to) d.seen flat (rw d.apex at h.bc))

-- A station after the three corners is not in the triangle: the slopes to it would go round in a ring.
pub beyond : (t : Triangle) (q : Place) → Before t.a q → Before t.b q → Before t.c q → pos 0 <ℤ turn t.a t.b t.c → Holds turn t q → ⊥
beyond t q aq bq cq pos' h =
    omega (
      arith,
      int,
      turn-split a b c q,
      add (turn a b q +ℤ turn b c q) (turn c a q),
      add (turn a b q) (turn b c q),
      ring a b c aq bq cq h.ab h.bc h.ca,
      ring b c a bq cq aq h.bc h.ca h.ab,
      ring c a b cq aq bq h.ca h.ab h.bc,
    )
  where
    a : Place
    a = t.a

    b : Place
    b = t.b

    c : Place
    c = t.c

    ring : (a b c : Place) → Before a q → Before b q → Before c q → pos 0 ≤ℤ turn a b q → pos 0 ≤ℤ turn b c q → pos 0 ≤ℤ turn c a q → turn a b q ≤ℤ pos 0
    ring a b c aq bq cq h k l =
        omega (arith, int, low₃ a b q, turn-anti a q b q, minus (pos 0) (bend b q a q), half b q c q a q bq cq aq (rw (low₃ b c q) at k) (rw (low₃ c a q) at l))
