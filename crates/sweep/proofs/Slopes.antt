-- Steps that rise in the order (x, then y) are ordered by how steep they are. All that the sweep needs of areas follows from that order, once for the lower
-- chain and once, with the order turned round, for the upper one. Assumes nothing.
use mathlib.Core.Path.{◌≡◌, refl}
use mathlib.Core.List.{[], ◌∷◌}
use mathlib.Core.Logic.{◌⊎◌, inl, inr}
use Prim.Native.Nat.{zero, suc}
use native.Mathlib.Omega.{arith}
use lib.IntN.{ℤ, pos, negsuc, ◌-ℤ◌}
use lib.Signed.{◌≤ℤ◌, ◌<ℤ◌}
use Rattle.whole.proofs.Bridge.{int, minus}
use Rattle.whole.proofs.Polynomial.{lit, ◌:-◌}
use Rattle.whole.proofs.Solver.{identity}
use Rattle.whole.specs.Place.{Place, Before}
use Rattle.whole.specs.Turn.{turn, across, climb, bend}
use Rattle.whole.proofs.TurnLaws.{Turn, coordinates, Bend}
use Rattle.whole.proofs.BendLaws as chain
use Rattle.sweep.specs.Sweep.{high}

-- `O a b c`: on which side of a, b a chain sees c; `T a b c d`: how far the step c, d is steeper than the step a, b.
pub record Slopes : Type 0 where
  pub O : Place → Place → Place → ℤ
  pub T : Place → Place → Place → Place → ℤ
  pub o₁ : (a b c : Place) → O a b c ≡ T a b b c
  pub o₂ : (a b c : Place) → O a b c ≡ T a b a c
  pub o₃ : (a b c : Place) → O a b c ≡ T a c b c
  pub cyc : (a b c : Place) → O a b c ≡ O c a b
  pub anti : (a b c d : Place) → T a b c d ≡ pos 0 -ℤ T c d a b
  pub half : (a b c d e f : Place) → Before a b → Before c d → Before e f → pos 0 ≤ℤ T a b c d → pos 0 ≤ℤ T c d e f → pos 0 ≤ℤ T a b e f

module _ (a b c : Place) where
  -- The area as a turn between two of the three steps.
  pub low₁ : turn a b c ≡ bend a b b c
  unfolding turn bend across climb
  low₁ = identity (coordinates (a ∷ b ∷ c ∷ [])) (Turn 0 1 2) (Bend 0 1 1 2) refl

  pub low₂ : turn a b c ≡ bend a b a c
  unfolding turn bend across climb
  low₂ = refl

  pub low₃ : turn a b c ≡ bend a c b c
  unfolding turn bend across climb
  low₃ = identity (coordinates (a ∷ b ∷ c ∷ [])) (Turn 0 1 2) (Bend 0 2 1 2) refl

  pub low-cyc : turn a b c ≡ turn c a b
  unfolding turn
  low-cyc = identity (coordinates (a ∷ b ∷ c ∷ [])) (Turn 0 1 2) (Turn 2 0 1) refl

  pub high₁ : turn b a c ≡ bend b c a b
  unfolding turn bend across climb
  high₁ = identity (coordinates (a ∷ b ∷ c ∷ [])) (Turn 1 0 2) (Bend 1 2 0 1) refl

  pub high₂ : turn b a c ≡ bend a c a b
  unfolding turn bend across climb
  high₂ = identity (coordinates (a ∷ b ∷ c ∷ [])) (Turn 1 0 2) (Bend 0 2 0 1) refl

  pub high₃ : turn b a c ≡ bend b c a c
  unfolding turn bend across climb
  high₃ = identity (coordinates (a ∷ b ∷ c ∷ [])) (Turn 1 0 2) (Bend 1 2 0 2) refl

  pub high-cyc : turn b a c ≡ turn a c b
  unfolding turn
  high-cyc = identity (coordinates (a ∷ b ∷ c ∷ [])) (Turn 1 0 2) (Turn 0 2 1) refl

-- Turning back is turning the other way.
pub turn-anti : (a b c d : Place) → bend a b c d ≡ pos 0 -ℤ bend c d a b
unfolding bend across climb
turn-anti a b c d = identity (coordinates (a ∷ b ∷ c ∷ d ∷ [])) (Bend 0 1 2 3) (lit (pos 0) :- Bend 2 3 0 1) refl

-- The lower chain sees areas; the upper chain sees them mirrored, and its steep is the lower one's flat.
abbrev pub lower : Slopes
lower = record { O = turn; T = bend; o₁ = low₁; o₂ = low₂; o₃ = low₃; cyc = low-cyc; anti = turn-anti; half = chain.half }

abbrev pub upper : Slopes
upper =
    record {
      O = high;
      T = λ a b c d. bend c d a b;
      o₁ = high₁;
      o₂ = high₂;
      o₃ = high₃;
      cyc = high-cyc;
      anti = λ a b c d. turn-anti c d a b;
      half = λ a b c d e f ab cd ef h k. chain.half e f c d a b ef cd ab k h;
    }

pub sign : (z : ℤ) → (pos 0 <ℤ z) ⊎ (z ≤ℤ pos 0)
sign (pos zero) = inr (omega (arith, int))
sign (pos (suc n)) = inl (omega (arith, int))
sign (negsuc n) = inr (omega (arith, int))

module _ (o : Slopes) where
  open o use {O, T, o₁, o₂, o₃, cyc, anti, half}

  -- Strictly less steep, then no steeper: strictly less steep, or else `half` closes a ring.
  pub lt-le : (a b c d e f : Place) → Before a b → Before c d → Before e f → pos 0 <ℤ T a b c d → pos 0 ≤ℤ T c d e f → pos 0 <ℤ T a b e f
  lt-le a b c d e f ab cd ef h k = go (sign (T a b e f))
    where
      go : (pos 0 <ℤ T a b e f) ⊎ (T a b e f ≤ℤ pos 0) → pos 0 <ℤ T a b e f
      go (inl l) = l
      go (inr l) =
          let m : pos 0 ≤ℤ T e f a b = omega (arith, int, anti e f a b, minus (pos 0) (T a b e f)) in
          absurd (omega (arith, int, half c d e f a b cd ef ab k m, anti c d a b, minus (pos 0) (T a b c d)))

  -- The other order of the two ends turns the sign.
  pub flip : (a b c : Place) → O a b c ≡ pos 0 -ℤ O a c b
  flip a b c = rw (o₂ a b c, o₂ a c b) (anti a b a c)

  pub zero_from : (a b : Place) → O a b a ≡ pos 0
  zero_from a b = omega (arith, int, cyc a b a, flip a a b, minus (pos 0) (O a b a))

  pub zero_to : (a b : Place) → O a b b ≡ pos 0
  zero_to a b = omega (arith, int, flip a b b, minus (pos 0) (O a b b))

  -- A station w before t, where the side s, t has w on its left and is not seen by q: the new side t, q has w on its left.
  pub older : (w s t q : Place) → Before w t → Before s t → Before t q → pos 0 ≤ℤ O s t w → pos 0 ≤ℤ O s t q → pos 0 ≤ℤ O t q w
  older w s t q wt st tq h k =
      rw (cyc t q w, o₁ w t q) (half w t s t t q wt st tq (rw (cyc s t w, o₃ w s t) at h) (rw (o₁ s t q) at k))

  -- A station w after t, where the side t, r has w on its left and is seen by q: the new side t, q has w strictly on its left.
  pub newer : (w t r q : Place) → Before t w → Before t r → Before t q → pos 0 ≤ℤ O t r w → O t r q <ℤ pos 0 → pos 0 <ℤ O t q w
  newer w t r q tw tr tq h k =
      rw (o₂ t q w) (lt-le t q t r t w tq tr tw (omega (arith, int, o₂ t r q, anti t q t r, minus (pos 0) (T t r t q))) (rw (o₂ t r w) at h))

  -- A side a, b below a side b, c that q does not see: q does not see it either.
  pub below : (a b c q : Place) → Before a b → Before b c → Before b q → pos 0 ≤ℤ O a b c → pos 0 ≤ℤ O b c q → pos 0 ≤ℤ O a b q
  below a b c q ab bc bq h k = rw (o₁ a b q) (half a b b c b q ab bc bq (rw (o₁ a b c) at h) (rw (o₂ b c q) at k))

  -- A side b, c in line with a side a, b that q does not see: q does not see it either.
  pub level : (a b c q : Place) → Before a b → Before b c → Before b q → O a b c ≡ pos 0 → pos 0 ≤ℤ O a b q → pos 0 ≤ℤ O b c q
  level a b c q ab bc bq h k =
      rw (o₂ b c q) (half b c a b b q bc ab bq (omega (arith, int, h, o₁ a b c, anti b c a b, minus (pos 0) (T a b b c))) (rw (o₁ a b q) at k))

  -- No side starts from a station a that lies strictly inside a side l, m.
  pub inside : (l m a b : Place) → Before l a → Before a m → Before a b → pos 0 <ℤ O l m a → pos 0 ≤ℤ O a b l → pos 0 ≤ℤ O a b m → ⊥
  inside l m a b la am ab h k r =
      omega (arith, int, half l a a b a m la ab am (rw (cyc a b l, o₁ l a b) at k) (rw (o₂ a b m) at r), o₁ l a m, flip l m a, minus (pos 0) (O l a m))
