-- f64 as the steps of "Height at a place" use it: 'each operation rounded once, equal rank from left to right'. Assumes nothing.
use Rattle.std.specs.Prelude.{ℤ, Float}
use Rattle.std.specs.Float.Ieee as Ieee
use Rattle.std.specs.Float.{binary64}

infixl 20 ◌⊞◌ ◌⊟◌
infixl 21 ◌⊠◌ ◌⊘◌
abbrev pub ◌⊞◌ : Float → Float → Float
x ⊞ y = Ieee.add binary64 x y

abbrev pub ◌⊟◌ : Float → Float → Float
x ⊟ y = Ieee.sub binary64 x y

abbrev pub ◌⊠◌ : Float → Float → Float
x ⊠ y = Ieee.mul binary64 x y

abbrev pub ◌⊘◌ : Float → Float → Float
x ⊘ y = Ieee.div binary64 x y

-- 'formed exactly, then converted': a whole number as an f64.
abbrev pub whole : ℤ → Float
whole n = Ieee.of_int binary64 n

-- The factors of the steps, by their bits; `factors` in `ExactLaws` says which number each one is.
abbrev pub half : Float
half = Ieee.of_bits binary64 0x3fe0000000000000

abbrev pub two : Float
two = Ieee.of_bits binary64 0x4000000000000000

abbrev pub three : Float
three = Ieee.of_bits binary64 0x4008000000000000

abbrev pub four : Float
four = Ieee.of_bits binary64 0x4010000000000000

abbrev pub six : Float
six = Ieee.of_bits binary64 0x4018000000000000

abbrev pub seven : Float
seven = Ieee.of_bits binary64 0x401c000000000000

abbrev pub ten : Float
ten = Ieee.of_bits binary64 0x4024000000000000

abbrev pub fifteen : Float
fifteen = Ieee.of_bits binary64 0x402e000000000000

-- 65,536
abbrev pub unit : Float
unit = Ieee.of_bits binary64 0x40f0000000000000

-- A factor with a minus sign.
abbrev pub minus : Float → Float
minus x = Ieee.neg x
