-- `write_heading` meets its contract: it is two lines. Assumes nothing.
use mathlib.Core.Path.{refl}
use borrow.Author.Tests.{lt-leb, le-leb}
use Rattle.contour.proofs.write_heading.Goals as goal

pub returns-then-style-gt1 : goal.returns-then-style-gt1
returns-then-style-gt1 c =
    record {
      value = rw (lt-leb _ _ c.if-style-gt1.true);
      room_after = refl;
    }

pub returns : goal.returns
returns c =
    let two = rw c.from.ensures at c.write_two.ensures in
    record {
      value = rw (le-leb _ _ c.if-style-gt1.false) two.0;
      room_after = two.1;
    }
