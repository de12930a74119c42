-- Twice the area within an outline of three or four corners as the difference of two sums of products, as the code has it.
-- Assumes nothing.
use mathlib.Core.Path.{◌≡◌}
use mathlib.Core.List.{[], ◌∷◌}
use Prim.Native.Nat.{ℕ, ◌+◌, ◌*◌, ◌-◌, ◌≤◌}
use native.Mathlib.Omega.{arith}
use lib.IntN.{ℤ, pos}
use lib.Signed.{◌≤ℤ◌}
use Rattle.whole.specs.Place.{Place}
use Rattle.whole.proofs.Bridge.{Is, is_add, int}
use Rattle.sweep.proofs.AreaLaws.{cross_is}
use Rattle.parcels.specs.Area.{onward, twice_within}

-- The difference of two naturals that is not negative.
least : {z : ℤ} {m n : ℕ} → Is z m n → pos 0 ≤ℤ z → n ≤ m
least {z} {m} {n} i h = omega (arith, int, i.is)

exact : {z : ℤ} {m n : ℕ} → Is z m n → pos 0 ≤ℤ z → pos (m - n) ≡ z
exact {z} {m} {n} i h = omega (arith, int, i.is)

-- With the six products of three corners, and the eight of four.
module _ (p q r : Place) {a b c d e f : ℕ} (ha : a ≡ p.x * q.y) (hb : b ≡ q.x * r.y) (hc : c ≡ r.x * p.y)
    (hd : d ≡ p.y * q.x) (he : e ≡ q.y * r.x) (hf : f ≡ r.y * p.x) (h : pos 0 ≤ℤ twice_within (p ∷ q ∷ r ∷ [])) where
  three_is : Is (twice_within (p ∷ q ∷ r ∷ [])) (a + b + c) (d + e + f)
  unfolding twice_within onward
  three_is = record { is = omega (arith, (is_add (cross_is p q) (is_add (cross_is q r) (cross_is r p))).is) }

  pub three-least : d + e + f ≤ a + b + c
  three-least = least three_is h

  pub three-exact : pos (a + b + c - (d + e + f)) ≡ twice_within (p ∷ q ∷ r ∷ [])
  three-exact = exact three_is h

module _ (p q r o : Place) {a b c d e f g k : ℕ} (ha : a ≡ p.x * q.y) (hb : b ≡ q.x * r.y) (hc : c ≡ r.x * o.y) (hd : d ≡ o.x * p.y)
    (he : e ≡ p.y * q.x) (hf : f ≡ q.y * r.x) (hg : g ≡ r.y * o.x) (hk : k ≡ o.y * p.x) (h : pos 0 ≤ℤ twice_within (p ∷ q ∷ r ∷ o ∷ [])) where
  four_is : Is (twice_within (p ∷ q ∷ r ∷ o ∷ [])) (a + b + c + d) (e + f + g + k)
  unfolding twice_within onward
  four_is = record { is = omega (arith, (is_add (cross_is p q) (is_add (cross_is q r) (is_add (cross_is r o) (cross_is o p)))).is) }

  pub four-least : e + f + g + k ≤ a + b + c + d
  four-least = least four_is h

  pub four-exact : pos (a + b + c + d - (e + f + g + k)) ≡ twice_within (p ∷ q ∷ r ∷ o ∷ [])
  four-exact = exact four_is h
