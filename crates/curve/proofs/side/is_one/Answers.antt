-- `is_one` meets its contract: one of two holds where they differ. Assumes nothing.
use Rattle.curve.proofs.CrossLaws.{differ-xor}
use Rattle.curve.proofs.side.is_one.Goals as goal

pub returns : goal.returns
returns c = differ-xor c.args.a c.args.b
