-- `product` meets its contract: a product of two coordinates in 128ths is below 2 ^ 41. Assumes nothing.
use mathlib.Core.Path.{refl}
use native.Mathlib.Nat.{mul-le-mul}
use native.Mathlib.Omega.{arith}
use Rattle.served.proofs.outline.product.Goals as goal

pub overflow_mul-result : goal.overflow_mul-result
overflow_mul-result c = record { fits = omega (arith, mul-le-mul c.requires.0 c.requires.1) }

pub returns : goal.returns
returns c = (refl, mul-le-mul c.requires.0 c.requires.1)
