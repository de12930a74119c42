-- `are_named` meets its contract: every station is marked, and what is marked is among the numbers. Assumes nothing.
use native.Mathlib.Omega.{arith}
use Rattle.supplied.proofs.QuickLaws.{no_mark}
use Rattle.supplied.proofs.quick.are_named.Goals as goal

pub mark-requires : goal.mark-requires
mark-requires c = let p = c.requires in (p.0, λ h l. omega (arith, p.2 h l, p.1), no_mark 1024)

pub returns : goal.returns
returns c = λ e k l. c.mark.ensures.named k (c.are_marked.ensures e k l)
