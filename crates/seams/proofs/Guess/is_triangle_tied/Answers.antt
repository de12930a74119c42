-- `is_triangle_tied` meets its contract: each half-side runs to where the next one starts. Assumes nothing.
use mathlib.Core.Path.{sym, ◌∙◌}
use mathlib.Core.Bool.{false≢true}
use Rattle.seams.proofs.TestLaws.{triangle-passes}
use Rattle.seams.proofs.Guess.is_triangle_tied.Goals as goal
use Rattle.seams.proofs.Guess.is_triangle_tied.Goals.{then-is_tied, else-is_tied}

pub returns-then-is_tied-2 : goal.returns-then-is_tied-2
returns-then-is_tied-2 c =
    let s = c.args.self.now in
    elim c.if-is_tied.branch [
      | then-is_tied w ↦ λ e. triangle-passes s.triangles.now s.twin.now s.next.now s.first.now s.m c.args.h.0 c.requires.0
          (sym (rw (c.corner-a.ensures, c.corner-b.ensures) at c.is_tied.ensures) ∙ w.if-is_tied.true)
          (sym (rw (c.corner-b.ensures, c.corner-c.ensures) at w.is_tied-then-is_tied.ensures) ∙ sym w.value-is ∙ c.if-is_tied-2.true)
          (sym (rw (c.corner-c.ensures, c.corner-a.ensures) at c.is_tied-then-is_tied-2.ensures) ∙ e)
      | else-is_tied w ↦ absurd (false≢true (sym w.if-is_tied.false ∙ sym w.value-is ∙ c.if-is_tied-2.true))
    ]
