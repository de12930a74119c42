-- `heading` meets its contract: it is two lines. Assumes nothing.
use Rattle.contour.specs.Writer.{heading_answer}
use Rattle.contour.proofs.WrittenLaws.{heading-written}
use Rattle.contour.proofs.heading.Goals as goal

pub returns : goal.returns
unfolding heading_answer
returns c =
    record {
      value = rw heading-written c.write_heading.ensures.value;
      room_after = rw heading-written c.write_heading.ensures.room_after;
    }
