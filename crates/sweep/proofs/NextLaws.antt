-- Where not all stations are in line, a station starts one hull side at most: `next_same`. Assumes nothing.
--
-- Two hull sides from a have no station to their right, so their ends b and c are in line with a. Were one of them between a and the
-- other, its side would not be one. So a is between b and c, and every station, being left of or on both, is on their line.
use mathlib.Core.Path.{◌≡◌, ◌∙◌}
use mathlib.Core.Logic.{◌⊎◌, inl, inr}
use native.Mathlib.Omega.{arith}
use lib.IntN.{pos}
use lib.Signed.{◌≤ℤ◌}
use Rattle.whole.specs.Place.{Place, Before}
use Rattle.whole.specs.Turn.{turn, bend}
use Rattle.whole.proofs.Bridge.{int, minus}
use Rattle.whole.proofs.OrderLaws.{Compared, compared, same, earlier, later}
use Rattle.whole.proofs.TurnLaws.{turn-flip, turn-swap, turn-start, line-turn}
use Rattle.sweep.specs.Hull.{HullSide}
use Rattle.sweep.proofs.Slopes.{lower, low₁, low₂, low₃, low-cyc, turn-anti}

-- From a, the step to x goes back and the step to y, in line with it, goes on: what is right of neither is on their line.
middle : (x a y w : Place) → Before x a → Before a y → turn x a y ≡ pos 0 → pos 0 ≤ℤ turn a x w → pos 0 ≤ℤ turn a y w → turn a x w ≡ pos 0
middle x a y w xa ay flat hx hy = go (compared a w)
  where
    zero_of : pos 0 ≤ℤ turn x a w → turn a x w ≡ pos 0
    zero_of h = omega (arith, int, turn-swap x a w, minus (pos 0) (turn a x w))

    go : Compared a w → turn a x w ≡ pos 0
    go (same e) = rw (← e) (turn-start a x)
    go (earlier aw) =
        zero_of
        (rw (low₁ x a w)
        (lower.half x a a y a w xa ay aw (omega (arith, int, low₁ x a y)) (omega (arith, int, low₂ a y w))))
    go (later wa) =
        zero_of
        (omega (
          arith,
          int,
          low-cyc w x a,
          low-cyc a w x,
          low₃ w x a,
          lower.half w a a y x a wa ay xa (omega (arith, int, low-cyc a y w, low₁ w a y))
              (omega (arith, int, turn-anti a y x a, low₁ x a y, minus (pos 0) (bend x a a y))),
        ))

module _ (S : Place → Type 0) where
  pub next_same : (a b c : Place) → HullSide S a b → HullSide S a c → (b ≡ c) ⊎ ((w : Place) → S w → turn a c w ≡ pos 0)
  next_same a b c h k = go (compared b c) (ways b h.differ (compared a b)) (ways c k.differ (compared a c))
    where
      flat : turn a b c ≡ pos 0
      flat = omega (arith, int, h.left c k.to, k.left b h.to, turn-flip a b c, minus (pos 0) (turn a c b))

      flat' : turn a c b ≡ pos 0
      flat' = omega (arith, int, h.left c k.to, k.left b h.to, turn-flip a b c, minus (pos 0) (turn a c b))

      in_line : (x y : Place) → turn x a y ≡ turn a y x
      in_line x y = low-cyc x a y ∙ low-cyc y x a

      ways : (u : Place) → (a ≡ u → ⊥) → Compared a u → Before a u ⊎ Before u a
      ways u d (same e) = absurd (d e)
      ways u d (earlier l) = inl l
      ways u d (later l) = inr l

      other : (w : Place) → turn a b w ≡ pos 0 → turn a c w ≡ pos 0
      other w e = line-turn a b a c w h.differ (turn-start a b) flat e

      go : Compared b c → Before a b ⊎ Before b a → Before a c ⊎ Before c a → (b ≡ c) ⊎ ((w : Place) → S w → turn a c w ≡ pos 0)
      go (same e) x y = inl e
      go (earlier bc) (inl ab) y = absurd (k.none b h.to (record { flat = flat'; amid = inl (ab, bc) }))
      go (earlier bc) (inr ba) (inl ac) = inr (λ w i. other w (middle b a c w ba ac (in_line b c ∙ flat') (h.left w i) (k.left w i)))
      go (earlier bc) (inr ba) (inr ca) = absurd (h.none c k.to (record { flat = flat; amid = inr (bc, ca) }))
      go (later cb) (inl ab) (inl ac) = absurd (h.none c k.to (record { flat = flat; amid = inl (ac, cb) }))
      go (later cb) (inl ab) (inr ca) = inr (λ w i. middle c a b w ca ab (in_line c b ∙ flat) (k.left w i) (h.left w i))
      go (later cb) (inr ba) y = absurd (k.none b h.to (record { flat = flat'; amid = inr (cb, ba) }))
