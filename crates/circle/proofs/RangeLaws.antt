-- How large the numbers of the circle test are, for coordinates up to 8,191: all fit 64 bits with a sign. Assumes nothing.
use Prim.Native.Nat.{◌≤◌}
use lib.IntN.{◌*ℤ◌}
use mir.Syntax.{w64}
use mir.Val.{SFits}
use Rattle.whole.specs.Place.{Place}
use Rattle.whole.specs.Range.{Within}
use Rattle.whole.specs.Turn.{turn, across, climb}
use Rattle.whole.proofs.RangeLaws.{within-add, within-sub, within-mul, within-diff, within-fits}
use Rattle.circle.specs.Circle.{apart, circle}

-- A place in range.
pub record InRange (p : Place) : Type 0 where
  pub x-most : p.x ≤ 8191
  pub y-most : p.y ≤ 8191

module _ (a b c d : Place) (ha : InRange a) (hb : InRange b) (hc : InRange c) (hd : InRange d) where
  pub across-within : Within 8191 (across a b)
  unfolding across
  across-within = within-diff b.x a.x hb.x-most ha.x-most

  pub climb-within : Within 8191 (climb a b)
  unfolding climb
  climb-within = within-diff b.y a.y hb.y-most ha.y-most

  -- A squared distance, and twice an area: below 2 ^ 27.
  pub apart-within : Within 134184962 (apart a b)
  unfolding apart
  apart-within = within-add (within-mul across-within across-within) (within-mul climb-within climb-within)

  pub turn-within : Within 134184962 (turn a b c)
  unfolding turn
  turn-within =
      within-sub (within-mul (within-diff b.x a.x hb.x-most ha.x-most) (within-diff c.y a.y hc.y-most ha.y-most))
      (within-mul (within-diff b.y a.y hb.y-most ha.y-most) (within-diff c.x a.x hc.x-most ha.x-most))

-- Each product of the circle number, and their sums: below 2 ^ 56.
module _ (a b c d : Place) (ha : InRange a) (hb : InRange b) (hc : InRange c) (hd : InRange d) where
  pub product-within : Within 18005604026941444 (apart a d *ℤ turn b c d)
  product-within = within-mul (apart-within a d a a ha hd ha ha) (turn-within b c d d hb hc hd hd)

module _ (a b c d : Place) (ha : InRange a) (hb : InRange b) (hc : InRange c) (hd : InRange d) where
  pub circle-within : Within 54016812080824332 (circle a b c d)
  unfolding circle
  circle-within =
      within-add (within-add (product-within a b c d ha hb hc hd) (product-within b c a d hb hc ha hd)) (product-within c a b d hc ha hb hd)

  pub circle-fits : SFits w64 (circle a b c d)
  circle-fits = within-fits circle-within tt
