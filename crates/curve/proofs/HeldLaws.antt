-- A signed number that a call passes on goes through its bits: one within a bound that fits is the same after. Assumes nothing.
use mathlib.Core.Path.{◌≡◌, sym, subst}
use Prim.Native.Nat.{ℕ, ◌^◌}
use lib.Dec.{T, ltb}
use lib.IntN.{ℤ}
use mir.Syntax.{Width}
use mir.Val.{to_z, of_z, hbits}
use mir.Facts.{to_z-of_z}
use Rattle.whole.specs.Range.{Within}
use Rattle.whole.proofs.RangeLaws.{within-fits}

module _ (w : Width) {n : ℕ} {z : ℤ} (h : Within n z) (t : T (ltb n (2 ^ hbits w))) where
  pub held_is : to_z w (of_z w z) ≡ z
  held_is = to_z-of_z (within-fits h t)

  pub held : Within n (to_z w (of_z w z))
  held = subst (Within n) (sym held_is) h
