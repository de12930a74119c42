-- `draw_line` meets its contract: a walk and its record. Assumes nothing.
use native.Mathlib.Omega.{arith}
use Prim.Native.Nat.{◌+◌, ◌-◌, ◌*◌}
use mathlib.Core.Path.{◌≡◌, ap, refl, ◌∙◌}
use lib.ListN.{length, set}
use Rattle.trace.specs.Side.{bit}
use Rattle.tracing.specs.Tracing.{record_by, line_at}
use Rattle.tracing.specs.Room.{halves_in}
use Rattle.tracing.specs.Written.{below_in}
use Rattle.tracing.proofs.walk.Tracer.draw_line.Goals as goal

pub overflow_sub-vertices : goal.overflow_sub-vertices
overflow_sub-vertices c = omega (arith, c.walk-vertices.ensures.1.place)

pub record_of-requires : goal.record_of-requires
record_of-requires c = omega (arith, c.walk-vertices.ensures.1.place, c.requires.2, c.requires.3)

pub returns : goal.returns
unfolding record_by
returns c =
    let a = c.args in
    let w = c.walk-vertices in
    let n : w.result - a.drawn.vertices ≡ length (line_at (halves_in a.self.now.m a.room.now) (below_in a.self.now.z.now a.self.now.level) a.s.0) = omega (arith, w.ensures.1.place) in
    (w.ensures.0, w.ensures.1, ap (set a.records.now a.drawn.lines) (c.record_of.ensures ∙ ap (λ k. 2 * k + bit a.closed) n), refl)
