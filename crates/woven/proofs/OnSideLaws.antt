-- A place w on the line of a side of a triangle: it is an end of the side, or on the line of no other (`not_end`, `not_start`); and where
-- it lies in the triangle, it lies in the one that runs the side back (`left-ao`, `left-ob`). Assumes nothing.
use mathlib.Core.Path.{◌≡◌, refl, sym, ◌∙◌, subst}
use Prim.Native.Nat.{zero, suc}
use native.Mathlib.Omega.{arith}
use lib.IntN.{ℤ, pos, negsuc, ◌+ℤ◌, ◌*ℤ◌}
use lib.Signed.{◌≤ℤ◌, ◌<ℤ◌}
use Rattle.whole.specs.Place.{Place}
use Rattle.whole.specs.Turn.{turn}
use Rattle.whole.proofs.Bridge.{int, add, mul, minus}
use Rattle.whole.proofs.SignLaws.{positive-mul, nonneg_of_mul, mul-zero}
use Rattle.whole.proofs.TurnLaws.{turn-cycle, turn-flip, turn-start, turn_end, line-turn}
use Rattle.sweep.proofs.Within.{middle}

-- A number that is neither negative nor 0 is positive; so is one of which a positive multiple is.
pub strict : (z : ℤ) → pos 0 ≤ℤ z → (z ≡ pos 0 → ⊥) → pos 0 <ℤ z
strict (pos zero) l d = absurd (d refl)
strict (pos (suc n)) l d = omega (arith, int)
strict (negsuc n) l d = absurd (omega (arith, int))

positive_of : (x y : ℤ) → pos 0 <ℤ x → pos 0 <ℤ (x *ℤ y) → pos 0 <ℤ y
positive_of x y h k = strict y (nonneg_of_mul h (omega (arith, int, k))) (λ e. omega (arith, int, k, mul-zero x e))

-- The side from a to b of a triangle a, b, c.
module _ (a b c w : Place) (left : pos 0 <ℤ turn a b c) (flat : turn a b w ≡ pos 0) where
  -- It is on the line of another side only at an end.
  pub not_end : (w ≡ b → ⊥) → turn b c w ≡ pos 0 → ⊥
  not_end d e =
      omega (
        arith,
        int,
        left,
        line-turn b w a b c (λ r. d (sym r)) (sym (turn-cycle a b w) ∙ flat) (turn-start b w)
            (omega (arith, int, e, turn-flip b w c, minus (pos 0) (turn b c w))),
      )

  pub not_start : (w ≡ a → ⊥) → turn c a w ≡ pos 0 → ⊥
  not_start d e =
      omega (
        arith,
        int,
        left,
        line-turn a w a b c (λ r. d (sym r)) (turn-start a w) (omega (arith, int, flat, turn-flip a w b, minus (pos 0) (turn a b w)))
            (sym (turn-cycle c a w) ∙ e),
      )

  -- Where it is left of both other sides, it is left of the other two of a triangle a, o, b that runs the side back.
  module _ (o : Place) (back : pos 0 <ℤ turn b a o) (bc : pos 0 <ℤ turn b c w) (ca : pos 0 <ℤ turn c a w) where
    zero-mul : (z : ℤ) → turn a b w *ℤ z ≡ pos 0
    zero-mul z = rw flat (omega (arith, int, mul (pos 0) z))

    pub left-ao : pos 0 <ℤ turn a o w
    left-ao =
        positive_of (turn a b c) (turn a o w) left
        (omega (
          arith,
          int,
          middle a b c a o w,
          add (turn b c w *ℤ turn a o a +ℤ turn c a w *ℤ turn a o b) (turn a b w *ℤ turn a o c),
          add (turn b c w *ℤ turn a o a) (turn c a w *ℤ turn a o b),
          mul-zero (turn b c w) (turn-start a o),
          zero-mul (turn a o c),
          positive-mul ca (subst (λ z. pos 0 <ℤ z) (turn-cycle b a o) back),
        ))

    pub left-ob : pos 0 <ℤ turn o b w
    left-ob =
        positive_of (turn a b c) (turn o b w) left
        (omega (
          arith,
          int,
          middle a b c o b w,
          add (turn b c w *ℤ turn o b a +ℤ turn c a w *ℤ turn o b b) (turn a b w *ℤ turn o b c),
          add (turn b c w *ℤ turn o b a) (turn c a w *ℤ turn o b b),
          mul-zero (turn c a w) (turn_end o b),
          zero-mul (turn o b c),
          positive-mul bc (subst (λ z. pos 0 <ℤ z) (sym (turn-cycle o b a)) back),
        ))
