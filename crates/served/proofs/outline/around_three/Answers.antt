-- `around_three` meets its contract: the sums of products are those of the outline's area, which is not negative. Assumes nothing.
use native.Mathlib.Omega.{arith}
use Rattle.ground.specs.Segments.{standing}
use Rattle.served.proofs.OutlineLaws.{three-least, three-exact}
use Rattle.served.proofs.outline.around_three.Goals as goal

pub overflow_sub-result : goal.overflow_sub-result
overflow_sub-result c =
    let a = c.args in
    three-least (standing a.p) (standing a.q) (standing a.r)
    c.product.ensures.0
    c.product-2.ensures.0
    c.product-3.ensures.0
    c.product-4.ensures.0
    c.product-5.ensures.0
    c.product-6.ensures.0
    c.requires.3

pub returns : goal.returns
returns c =
    let a = c.args in (
      three-exact (standing a.p) (standing a.q) (standing a.r)
          c.product.ensures.0
          c.product-2.ensures.0
          c.product-3.ensures.0
          c.product-4.ensures.0
          c.product-5.ensures.0
          c.product-6.ensures.0
          c.requires.3,
      omega (
        arith,
        c.product.ensures.1,
        c.product-2.ensures.1,
        c.product-3.ensures.1,
      ),
    )
