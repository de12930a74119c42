-- Steps that rise in the order of places bend to the left transitively: the one law behind the sweep of the mesh. Assumes nothing.
--
-- For rising steps ab, cd, ef the identity `half-id` weighs the bend from ab to ef by the width of the middle step; where that step
-- is upright, the step after it is upright too or the second bend is to the right. Three consequences, one line each: stations before
-- the top of a chain, stations after it, and sides below one that is not seen.
use mathlib.Core.Path.{◌≡◌, refl}
use mathlib.Core.List.{[], ◌∷◌}
use Prim.Native.Nat.{◌<◌}
use native.Mathlib.Omega.{arith}
use lib.IntN.{ℤ, pos, ◌+ℤ◌, ◌-ℤ◌, ◌*ℤ◌}
use lib.Signed.{◌≤ℤ◌, ◌<ℤ◌}
use Rattle.whole.specs.Place.{Place, Before, rightward, upward}
use Rattle.whole.specs.Turn.{across, climb, turn, bend}
use Rattle.whole.proofs.Bridge.{int, add, minus}
use Rattle.whole.proofs.Polynomial.{var, lit, ◌:+◌, ◌:-◌, ◌:*◌}
use Rattle.whole.proofs.Solver.{identity}
use Rattle.whole.proofs.SignLaws.{positive-mul, nonneg-mul, nonneg_of_mul}
use Rattle.whole.proofs.TurnLaws.{coordinates, Across, Bend, turn-bend, turn-bend-start, turn-bend-end, turn-bend-over, turn-bend_last, turn-bend-more}

-- How far a rising step goes.
pub across-nonneg : (a b : Place) → Before a b → pos 0 ≤ℤ across a b
unfolding across
across-nonneg a b (rightward h) = omega (arith, int, minus (pos b.x) (pos a.x))
across-nonneg a b (upward e h) = omega (arith, int, minus (pos b.x) (pos a.x))

pub across-positive : (a b : Place) → a.x < b.x → pos 0 <ℤ across a b
unfolding across
across-positive a b h = omega (arith, int, minus (pos b.x) (pos a.x))

across-upright : (a b : Place) → a.x ≡ b.x → across a b ≡ pos 0
unfolding across
across-upright a b e = omega (arith, int, minus (pos b.x) (pos a.x))

climb-positive : (a b : Place) → a.y < b.y → pos 0 <ℤ climb a b
unfolding climb
climb-positive a b e = omega (arith, int, minus (pos b.y) (pos a.y))

half-id : (a b c d e f : Place) → across c d *ℤ bend a b e f ≡ across a b *ℤ bend c d e f +ℤ across e f *ℤ bend a b c d
unfolding bend across climb
half-id a b c d e f =
    identity (coordinates (a ∷ b ∷ c ∷ d ∷ e ∷ f ∷ [])) (Across 2 3 :* Bend 0 1 4 5) (Across 0 1 :* Bend 2 3 4 5 :+ Across 4 5 :* Bend 0 1 2 3) refl

-- The bend to, and from, an upright step.
bend_to_upright : (a b e f : Place) → across e f ≡ pos 0 → bend a b e f ≡ across a b *ℤ climb e f
unfolding bend
bend_to_upright a b e f h = rw h (identity (across a b ∷ climb e f ∷ climb a b ∷ []) (var 0 :* var 1 :- var 2 :* lit (pos 0)) (var 0 :* var 1) refl)

bend_from_upright : (c d e f : Place) → across c d ≡ pos 0 → bend c d e f ≡ pos 0 -ℤ climb c d *ℤ across e f
unfolding bend
bend_from_upright c d e f h = rw h (identity (climb e f ∷ climb c d ∷ across e f ∷ []) (lit (pos 0) :* var 0 :- var 1 :* var 2) (lit (pos 0) :- var 1 :* var 2) refl)

nonneg : {z : ℤ} → pos 0 <ℤ z → pos 0 ≤ℤ z
nonneg {z} h = omega (arith, int)

-- Bending left, or not at all, twice is bending left or not at all.
pub half : (a b c d e f : Place) → Before a b → Before c d → Before e f → pos 0 ≤ℤ bend a b c d → pos 0 ≤ℤ bend c d e f → pos 0 ≤ℤ bend a b e f
half a b c d e f ab (rightward h) ef t₁ t₂ =
    nonneg_of_mul (across-positive c d h)
    (omega (
      arith,
      int,
      half-id a b c d e f,
      add (across a b *ℤ bend c d e f) (across e f *ℤ bend a b c d),
      nonneg-mul (across-nonneg a b ab) t₂,
      nonneg-mul (across-nonneg e f ef) t₁,
    ))
half a b c d e f ab (upward g h) (rightward l) t₁ t₂ =
    absurd
    (omega (
      arith,
      int,
      bend_from_upright c d e f (across-upright c d g),
      minus (pos 0) (climb c d *ℤ across e f),
      positive-mul (climb-positive c d h) (across-positive e f l),
    ))
half a b c d e f ab (upward g h) (upward k l) t₁ t₂ =
    omega (arith, int, bend_to_upright a b e f (across-upright e f k), nonneg-mul (across-nonneg a b ab) (nonneg (climb-positive e f l)))

-- A station s before v is left of the new side from v to q, where q does not see the side from u to v.
pub turn-older : (s u v q : Place) → Before s v → Before u v → Before v q → pos 0 ≤ℤ turn u v s → pos 0 ≤ℤ turn u v q → pos 0 ≤ℤ turn v q s
turn-older s u v q sv uv vq h k = rw (turn-bend_last v q s) (half s v u v v q sv uv vq (rw turn-bend-end at h) (rw turn-bend at k))

-- A station s after v is left of the new side from v to q, where q sees the side from v to w.
pub turn-newer : (s v w q : Place) → Before v s → Before v w → Before v q → pos 0 ≤ℤ turn v w s → turn v w q <ℤ pos 0 → pos 0 ≤ℤ turn v q s
turn-newer s v w q vs vw vq h k =
    rw (turn-bend-start v q s)
    (half v q v w v s vq vw vs (omega (arith, int, turn-bend-over v w q, minus (pos 0) (turn v w q))) (rw turn-bend-start at h))

-- q does not see the side from a to b, where it does not see the next one, from b to c.
pub turn-earlier : (a b c q : Place) → Before a b → Before b c → Before c q → pos 0 ≤ℤ turn a b c → pos 0 ≤ℤ turn b c q → pos 0 ≤ℤ turn a b q
turn-earlier a b c q ab bc cq h k =
    omega (
      arith,
      int,
      turn-bend-more a b c q,
      add (turn a b c) (bend a b c q),
      half a b b c c q ab bc cq (rw turn-bend at h) (rw turn-bend at k),
    )
