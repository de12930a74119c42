-- `heading` meets its contract: it is two lines. Assumes nothing.
use Rattle.report.specs.Writer.{heading_answer}
use Rattle.report.proofs.WrittenLaws.{heading-written}
use Rattle.report.proofs.heading.Goals as goal

pub returns : goal.returns
unfolding heading_answer
returns c =
    record {
      value = rw heading-written c.write_heading.ensures.value;
      room_after = rw heading-written c.write_heading.ensures.room_after;
    }
