-- A place near w in the triangle w, d, e is strictly inside it (`near_own`), and strictly inside each triangle that has w strictly left of
-- its sides, or on the line of a side that the step from w to there leaves to the left (`near-inside`). Assumes nothing.
--
-- The place is n parts of w, one of d and k of e. Its area with a side, in as many parts, is n times that of w and what the step turns left
-- of the side (`near-turn`): where w is off the side, n is made large enough for the first to outweigh the second (`enough`).
use mathlib.Core.Path.{◌≡◌, refl}
use mathlib.Core.List.{[], ◌∷◌}
use mathlib.Core.Logic.{◌⊎◌, inl, inr}
use Prim.Native.Nat.{ℕ, zero, suc, ◌+◌, ◌*◌, ◌<◌}
use native.Mathlib.Omega.{arith}
use lib.IntN.{ℤ, pos, negsuc, ◌+ℤ◌, ◌-ℤ◌, ◌*ℤ◌}
use lib.Signed.{◌≤ℤ◌, ◌<ℤ◌}
use Rattle.whole.specs.Place.{Place, place}
use Rattle.whole.specs.Turn.{turn}
use Rattle.whole.proofs.Bridge.{int, loss, add}
use Rattle.whole.proofs.Polynomial.{Formula, var, lit, ◌:+◌, ◌:-◌, ◌:*◌}
use Rattle.whole.proofs.SignLaws.{positive-mul, mul-zero}
use Rattle.whole.proofs.Solver.{identity}
use Rattle.whole.proofs.TurnLaws.{coordinates, Turn, turn-cycle, turn-start, turn_end}
use Rattle.sweep.specs.Cover.{Inside, scale, big}
use Rattle.sweep.specs.Sweep.{tri}

-- A multiple by a positive number is no less.
multiple : (n : ℕ) (z : ℤ) → pos 0 <ℤ z → pos n ≤ℤ (pos n *ℤ z)
multiple n (pos zero) h = absurd (omega (arith, int))
multiple n (pos (suc m)) h = omega (arith, int)
multiple n (negsuc m) h = absurd (omega (arith, int))

module _ (w d e : Place) (k : ℕ) where
  -- The place, and in how many parts it is one.
  abbrev pub parts : ℕ → ℕ
  parts n = n + (1 + k)

  pub near : ℕ → Place
  near n = place (n * w.x + (d.x + k * e.x)) (n * w.y + (d.y + k * e.y))

  -- How far the step from w toward d, and k times toward e, turns left of the side from a to b.
  unfoldable pub lean : Place → Place → ℤ
  lean a b = turn a b d +ℤ pos k *ℤ turn a b e

  near-turn : (n : ℕ) (a b : Place) → turn (scale (parts n) a) (scale (parts n) b) (near n) ≡ pos (parts n) *ℤ (pos n *ℤ turn a b w +ℤ lean a b)
  unfolding turn near lean
  near-turn n a b =
      identity (coordinates (a ∷ b ∷ w ∷ d ∷ e ∷ place n k ∷ []))
      ((whole (var 2) :- whole (var 0)) :* (mixed 5 7 9 :- whole (var 1)) :- (whole (var 3) :- whole (var 1)) :* (mixed 4 6 8 :- whole (var 0)))
      ((var 10 :+ (lit (pos 1) :+ var 11)) :* (var 10 :* Turn 0 1 2 :+ (Turn 0 1 3 :+ var 11 :* Turn 0 1 4))) refl
    where
      whole : Formula → Formula
      whole v = (var 10 :+ (lit (pos 1) :+ var 11)) :* v

      mixed : ℕ → ℕ → ℕ → Formula
      mixed p q r = var 10 :* var p :+ (var q :+ var 11 :* var r)

  -- w is on the line of the side, which the step leaves to the left; or left of it, further than the step may turn right of it.
  pub Leaves : ℕ → Place → Place → Type 0
  Leaves n a b = ((turn a b w ≡ pos 0) × (pos 0 <ℤ lean a b)) ⊎ ((pos 0 <ℤ turn a b w) × (pos 0 <ℤ (pos n +ℤ lean a b)))

  left-of : (n : ℕ) (a b : Place) → Leaves n a b → pos 0 <ℤ turn (scale (parts n) a) (scale (parts n) b) (near n)
  unfolding Leaves
  left-of n a b h = rw (near-turn n a b) (positive-mul {a = pos (parts n)} (omega (arith, int)) (both h))
    where
      both : ((turn a b w ≡ pos 0) × (pos 0 <ℤ lean a b)) ⊎ ((pos 0 <ℤ turn a b w) × (pos 0 <ℤ (pos n +ℤ lean a b)))
          → pos 0 <ℤ (pos n *ℤ turn a b w +ℤ lean a b)
      both (inl r) = omega (arith, int, r.1, mul-zero (pos n) r.0, add (pos n *ℤ turn a b w) (lean a b))
      both (inr r) = omega (arith, int, r.1, multiple n (turn a b w) r.0, add (pos n) (lean a b), add (pos n *ℤ turn a b w) (lean a b))

  pub near-inside : (n : ℕ) (a b c : Place) → Leaves n a b → Leaves n b c → Leaves n c a → Inside (big (parts n) (tri a b c)) (near n)
  near-inside n a b c ab bc ca = record { ab = left-of n a b ab; bc = left-of n b c bc; ca = left-of n c a ca }

  -- Parts enough for the sides of a triangle.
  abbrev pub enough : Place → Place → Place → ℕ
  enough a b c = suc (loss (lean a b) + loss (lean b c) + loss (lean c a))

  pub on_line : (n : ℕ) (a b : Place) → turn a b w ≡ pos 0 → pos 0 <ℤ lean a b → Leaves n a b
  unfolding Leaves
  on_line n a b e h = inl (e, h)

  pub off_line : (n : ℕ) (a b : Place) → pos 0 <ℤ turn a b w → loss (lean a b) < n → Leaves n a b
  unfolding Leaves
  off_line n a b h l = inr (h, omega (arith, int, l, add (pos n) (lean a b)))

  -- The triangle w, d, e itself.
  pub near_own : (n : ℕ) → 0 < n → 0 < k → pos 0 <ℤ turn w d e → Inside (big (parts n) (tri w d e)) (near n)
  unfolding Leaves lean
  near_own n l h left = near-inside n w d e (inl (turn-start w d, wd)) (inr (de, far)) (inl (turn_end e w, ew))
    where
      de : pos 0 <ℤ turn d e w
      de = rw (← turn-cycle w d e) left

      wd : pos 0 <ℤ (turn w d d +ℤ pos k *ℤ turn w d e)
      wd = omega (arith, int, add (turn w d d) (pos k *ℤ turn w d e), turn_end w d, positive-mul {a = pos k} (omega (arith, int)) left)

      far : pos 0 <ℤ (pos n +ℤ (turn d e d +ℤ pos k *ℤ turn d e e))
      far =
          omega (
            arith,
            int,
            add (pos n) (turn d e d +ℤ pos k *ℤ turn d e e),
            add (turn d e d) (pos k *ℤ turn d e e),
            turn-start d e,
            mul-zero (pos k) (turn_end d e),
          )

      ew : pos 0 <ℤ (turn e w d +ℤ pos k *ℤ turn e w e)
      ew = omega (arith, int, add (turn e w d) (pos k *ℤ turn e w e), mul-zero (pos k) (turn-start e w), turn-cycle d e w, de)

  -- The step seen from the side's other end.
  pub lean_back : (a b : Place) → lean b a ≡ pos 0 -ℤ lean a b
  unfolding lean turn
  lean_back a b =
      identity (coordinates (a ∷ b ∷ d ∷ e ∷ place 0 k ∷ [])) (Turn 1 0 2 :+ var 9 :* Turn 1 0 3) (lit (pos 0) :- (Turn 0 1 2 :+ var 9 :* Turn 0 1 3)) refl
