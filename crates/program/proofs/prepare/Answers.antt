-- `prepare` meets its contract: records, slopes and heading, each in its room. Assumes nothing.
use lib.ListN.{length}
use Rattle.program.proofs.prepare.Goals as goal

pub returns : goal.returns
returns c =
    let a = c.args in
    let k = c.put_records-recorded in
    let w = c.put_heading-bytes in record {
      value = (λ i. record {
        bytes = w.ensures.value i;
        style = a.style;
        stations = length a.x.now;
        triangles = k.ensures.0 i;
        sides = k.ensures.1 i;
        levels = a.levels;
      });
      worked = k.ensures.2;
      slopes_after = c.put_slopes.ensures;
      room_after = w.ensures.room_after;
    }
