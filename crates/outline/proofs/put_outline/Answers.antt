-- `put_outline` meets its contract: both chains of the stations in order put their sides into a list that names none. Assumes nothing.
use native.Mathlib.Omega.{arith}
use Rattle.survey.specs.Survey.{survey}
use Rattle.outline.proofs.OutlinedLaws.{asked, outlined}
use Rattle.outline.proofs.put_outline.Goals as goal

pub put_chain-requires : goal.put_chain-requires
put_chain-requires c = asked (survey c.args.x.now c.args.y.now c.args.z.now) c.requires.0 c.args.order.now c.requires.1 c.requires.2 (omega (arith, c.requires.3))

pub put_chain-requires-2 : goal.put_chain-requires-2
put_chain-requires-2 c = asked (survey c.args.x.now c.args.y.now c.args.z.now) c.requires.0 c.args.order.now c.requires.1 c.requires.2 (omega (arith, c.requires.3))

pub returns : goal.returns
returns c =
    let a = c.args in
    outlined (survey a.x.now a.y.now a.z.now) c.requires.0 _ c.requires.2 (omega (arith, c.requires.3)) c.clear.ensures c.put_chain.ensures
    c.put_chain-2.ensures
