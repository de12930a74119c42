-- The algebra of turns: all that the geometry of the mesh needs of coordinates. Assumes nothing.
--
-- Each law is an identity of polynomials in the coordinates, or follows from one by the signs of products. After this file `turn`
-- stays shut, and an area is one unknown for omega.
use mathlib.Core.Path.{◌≡◌, refl, ◌∙◌}
use mathlib.Core.List.{List, [], ◌∷◌}
use Prim.Native.Nat.{ℕ, ◌+◌, ◌*◌}
use native.Mathlib.Omega.{arith}
use lib.IntN.{ℤ, pos, ◌+ℤ◌, ◌-ℤ◌, ◌*ℤ◌, ℤ_discrete}
use Rattle.whole.specs.Place.{Place}
use Rattle.whole.specs.Turn.{across, climb, turn, bend}
use Rattle.whole.proofs.Bridge.{int, minus}
use Rattle.whole.proofs.Polynomial.{Formula, var, lit, ◌:+◌, ◌:-◌, ◌:*◌}
use Rattle.whole.proofs.Solver.{identity}
use Rattle.whole.proofs.SignLaws.{zero_of_mul, mul-zero}
use Rattle.whole.proofs.OrderLaws.{same_place}

-- Formulas in the coordinates of places: place k of a list has the variables 2 * k and 2 * k + 1.
abbrev pub coordinates : List Place → List ℤ
coordinates [] = []
coordinates (p ∷ ps) = pos p.x ∷ pos p.y ∷ coordinates ps

abbrev pub Across : ℕ → ℕ → Formula
Across a b = var (b * 2) :- var (a * 2)

abbrev pub Climb : ℕ → ℕ → Formula
Climb a b = var (b * 2 + 1) :- var (a * 2 + 1)

abbrev pub Turn : ℕ → ℕ → ℕ → Formula
Turn a b c = Across a b :* Climb a c :- Climb a b :* Across a c

abbrev pub Bend : ℕ → ℕ → ℕ → ℕ → Formula
Bend a b c d = Across a b :* Climb c d :- Climb a b :* Across c d

-- Running round the triangle, and turning it over.
pub turn-cycle : (a b c : Place) → turn a b c ≡ turn b c a
unfolding turn
turn-cycle a b c = identity (coordinates (a ∷ b ∷ c ∷ [])) (Turn 0 1 2) (Turn 1 2 0) refl

pub turn-swap : (a b c : Place) → turn a b c ≡ pos 0 -ℤ turn b a c
unfolding turn
turn-swap a b c = identity (coordinates (a ∷ b ∷ c ∷ [])) (Turn 0 1 2) (lit (pos 0) :- Turn 1 0 2) refl

pub turn-flip : (a b c : Place) → turn a b c ≡ pos 0 -ℤ turn a c b
unfolding turn
turn-flip a b c = identity (coordinates (a ∷ b ∷ c ∷ [])) (Turn 0 1 2) (lit (pos 0) :- Turn 0 2 1) refl

-- A place of the side is in line with it.
pub turn-start : (a b : Place) → turn a b a ≡ pos 0
unfolding turn
turn-start a b = identity (coordinates (a ∷ b ∷ [])) (Turn 0 1 0) (lit (pos 0)) refl

pub turn_end : (a b : Place) → turn a b b ≡ pos 0
unfolding turn
turn_end a b = identity (coordinates (a ∷ b ∷ [])) (Turn 0 1 1) (lit (pos 0)) refl

-- A triangle is the sum of those that a fourth place makes with its sides.
pub turn-split : (a b c d : Place) → turn a b c ≡ turn a b d +ℤ turn b c d +ℤ turn c a d
unfolding turn
turn-split a b c d = identity (coordinates (a ∷ b ∷ c ∷ d ∷ [])) (Turn 0 1 2) (Turn 0 1 3 :+ Turn 1 2 3 :+ Turn 2 0 3) refl

-- A turn as a bend of two steps.
pub turn-bend : (a b c : Place) → turn a b c ≡ bend a b b c
unfolding turn bend across climb
turn-bend a b c = identity (coordinates (a ∷ b ∷ c ∷ [])) (Turn 0 1 2) (Bend 0 1 1 2) refl

pub turn-bend-start : (a b c : Place) → turn a b c ≡ bend a b a c
unfolding turn bend across climb
turn-bend-start a b c = refl

pub turn-bend-end : (a b c : Place) → turn a b c ≡ bend c b a b
unfolding turn bend across climb
turn-bend-end a b c = identity (coordinates (a ∷ b ∷ c ∷ [])) (Turn 0 1 2) (Bend 2 1 0 1) refl

pub turn-bend-over : (a b c : Place) → pos 0 -ℤ turn a b c ≡ bend a c a b
unfolding turn bend across climb
turn-bend-over a b c = identity (coordinates (a ∷ b ∷ c ∷ [])) (lit (pos 0) :- Turn 0 1 2) (Bend 0 2 0 1) refl

pub turn-bend_last : (a b c : Place) → turn a b c ≡ bend c a a b
unfolding turn bend across climb
turn-bend_last a b c = identity (coordinates (a ∷ b ∷ c ∷ [])) (Turn 0 1 2) (Bend 2 0 0 1) refl

pub turn-bend-more : (a b c d : Place) → turn a b d ≡ turn a b c +ℤ bend a b c d
unfolding turn bend across climb
turn-bend-more a b c d = identity (coordinates (a ∷ b ∷ c ∷ d ∷ [])) (Turn 0 1 3) (Turn 0 1 2 :+ Bend 0 1 2 3) refl

-- Three places c, d, e by how they stand to the line of a, b.
across-turn : (a b c d e : Place) → across a b *ℤ turn c d e ≡ across c d *ℤ (turn a b e -ℤ turn a b c) -ℤ across c e *ℤ (turn a b d -ℤ turn a b c)
unfolding turn across
across-turn a b c d e =
    identity (coordinates (a ∷ b ∷ c ∷ d ∷ e ∷ [])) (Across 0 1 :* Turn 2 3 4)
    (Across 2 3 :* (Turn 0 1 4 :- Turn 0 1 2) :- Across 2 4 :* (Turn 0 1 3 :- Turn 0 1 2)) refl

climb-turn : (a b c d e : Place) → climb a b *ℤ turn c d e ≡ climb c d *ℤ (turn a b e -ℤ turn a b c) -ℤ climb c e *ℤ (turn a b d -ℤ turn a b c)
unfolding turn climb
climb-turn a b c d e =
    identity (coordinates (a ∷ b ∷ c ∷ d ∷ e ∷ [])) (Climb 0 1 :* Turn 2 3 4)
    (Climb 2 3 :* (Turn 0 1 4 :- Turn 0 1 2) :- Climb 2 4 :* (Turn 0 1 3 :- Turn 0 1 2)) refl

across-zero : (a b : Place) → across a b ≡ pos 0 → a.x ≡ b.x
unfolding across
across-zero a b h = omega (arith, int, minus (pos b.x) (pos a.x))

climb-zero : (a b : Place) → climb a b ≡ pos 0 → a.y ≡ b.y
unfolding climb
climb-zero a b h = omega (arith, int, minus (pos b.y) (pos a.y))

nothing : (u v : ℤ) {s t : ℤ} → s ≡ pos 0 → t ≡ pos 0 → u *ℤ s -ℤ v *ℤ t ≡ pos 0
nothing u v {s} {t} e f = omega (arith, int, mul-zero u e, mul-zero v f, minus (u *ℤ s) (v *ℤ t))

difference : {s t : ℤ} → s ≡ pos 0 → t ≡ pos 0 → s -ℤ t ≡ pos 0
difference {s} {t} e f = omega (arith, int, minus s t)

-- Places in line with two different places are in line with each other.
pub line-turn : (a b c d e : Place) → (a ≡ b → ⊥) → turn a b c ≡ pos 0 → turn a b d ≡ pos 0 → turn a b e ≡ pos 0 → turn c d e ≡ pos 0
line-turn a b c d e apart hc hd he = go (ℤ_discrete (across a b) (pos 0)) (ℤ_discrete (climb a b) (pos 0))
  where
    go : Dec (across a b ≡ pos 0) → Dec (climb a b ≡ pos 0) → turn c d e ≡ pos 0
    go (yes h) (yes k) = absurd (apart (same_place (across-zero a b h) (climb-zero a b k)))
    go (no h) _ = zero_of_mul h (across-turn a b c d e ∙ nothing (across c d) (across c e) (difference he hc) (difference hd hc))
    go (yes _) (no k) = zero_of_mul k (climb-turn a b c d e ∙ nothing (climb c d) (climb c e) (difference he hc) (difference hd hc))
