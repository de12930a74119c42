-- `draw_lines` meets its contract: each turn is a turn of `Drawing`. Assumes nothing.
use Rattle.tracing.specs.Written.{below_in}
use Rattle.tracing.proofs.ScanLaws.{Drawing}
use Rattle.tracing.proofs.walk.Tracer.draw_lines.Given as goal

abbrev pub invariant-loop-i : goal.invariant-loop-i
invariant-loop-i l =
    Drawing l.closed l.self.m l.count (below_in l.self.z.now l.self.level) l.initial.room l.initial.sides l.initial.records l.fn.drawn.vertices l.fn.drawn.lines l.room l.sides l.records l.all.vertices l.all.lines l.i
