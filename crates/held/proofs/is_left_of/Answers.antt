-- `is_left_of` meets its contract: it asks `is_left` of the two stations' places. Assumes nothing.
use Rattle.held.proofs.is_left_of.Goals as goal

pub is_left-requires : goal.is_left-requires
is_left-requires c =
    let a = c.args.a in
    let b = c.args.b in
    (c.requires.3 a, c.requires.4 a, c.requires.3 b, c.requires.4 b, c.requires.5, c.requires.6)

pub returns : goal.returns
returns c = c.is_left.ensures
