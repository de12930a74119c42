-- `refusal` meets its contract: it is two lines. Assumes nothing.
use Rattle.contour.specs.Writer.{refusal_answer}
use Rattle.contour.proofs.WrittenLaws.{refusal-written}
use Rattle.contour.proofs.refusal.Goals as goal

pub returns : goal.returns
unfolding refusal_answer
returns c =
    let two = rw (c.from.ensures, c.from-2.ensures) at c.write_two.ensures in
    record {
      value = rw refusal-written two.0;
      room_after = rw refusal-written two.1;
    }
