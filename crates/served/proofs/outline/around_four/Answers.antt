-- `around_four` meets its contract: the sums of products are those of the outline's area, which is not negative. Assumes nothing.
use native.Mathlib.Omega.{arith}
use Rattle.ground.specs.Segments.{standing}
use Rattle.served.proofs.OutlineLaws.{four-least, four-exact}
use Rattle.served.proofs.outline.around_four.Goals as goal

pub overflow_sub-result : goal.overflow_sub-result
overflow_sub-result c =
    let a = c.args in
    four-least (standing a.p) (standing a.q) (standing a.r) (standing a.o)
    c.product.ensures.0
    c.product-2.ensures.0
    c.product-3.ensures.0
    c.product-4.ensures.0
    c.product-5.ensures.0
    c.product-6.ensures.0
    c.product-7.ensures.0
    c.product-8.ensures.0
    c.requires.4

pub returns : goal.returns
returns c =
    let a = c.args in (
      four-exact (standing a.p) (standing a.q) (standing a.r) (standing a.o)
          c.product.ensures.0
          c.product-2.ensures.0
          c.product-3.ensures.0
          c.product-4.ensures.0
          c.product-5.ensures.0
          c.product-6.ensures.0
          c.product-7.ensures.0
          c.product-8.ensures.0
          c.requires.4,
      omega (
        arith,
        c.product.ensures.1,
        c.product-2.ensures.1,
        c.product-3.ensures.1,
        c.product-4.ensures.1,
      ),
    )
