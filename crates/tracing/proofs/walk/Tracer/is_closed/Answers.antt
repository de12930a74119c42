-- `is_closed` meets its contract: the tests in turn. Assumes nothing.
use native.Mathlib.Omega.{arith}
use mathlib.Core.Path.{sym, ap, ap₂, ◌∙◌}
use mathlib.Core.Bool.{true≢false}
use lib.Dec.{ltb, eqb}
use lib.ListN.{get_or}
use Rattle.neighbours.specs.Half.{after}
use Rattle.tracing.specs.Tracing.{lower_of}
use Rattle.tracing.specs.Room.{marks_in, numbered, halves_in}
use Rattle.tracing.specs.Written.{below_in}
use Rattle.tracing.proofs.CodeLaws.{mesh-long, mesh-after, mesh-corner}
use Rattle.tracing.proofs.StartLaws.{start-level, start-marked, start-closed}
use Rattle.tracing.proofs.walk.Tracer.is_closed.Goals as goal
use Rattle.tracing.proofs.walk.Tracer.is_closed.Goals.{then-is_crossed, else-is_crossed}

pub across-requires : goal.across-requires
across-requires c = (c.requires.1, mesh-long c.args.room.now c.requires.0)

pub lower_of-requires : goal.lower_of-requires
lower_of-requires c = omega (arith, c.requires.1, c.requires.0.small)

pub is_free-requires : goal.is_free-requires
is_free-requires c = (omega (arith, c.lower_of.ensures.1, c.requires.1), mesh-long c.args.room.now c.requires.0)

pub is_rising-requires : goal.is_rising-requires
is_rising-requires c =
    let l = c.args.room.now in
    let w = mesh-long l c.requires.0 in
    (omega (arith, c.requires.1, c.requires.0.small), omega (arith, c.requires.1, w), omega (arith, mesh-after l c.requires.0 c.args.h.0 c.requires.1, w))

pub returns-then-is_free : goal.returns-then-is_free
returns-then-is_free c =
    let a = c.args in
    let l = a.room.now in
    let e = c.is_crossed.ensures in
    elim c.if-is_crossed.branch [
      | then-is_crossed w ↦
          let f = w.is_free.ensures
          ∙ ap (λ k. eqb (get_or (marks_in a.self.now.m l) k 0) 0) (w.lower_of.ensures.0 ∙ ap (λ k. lower_of a.h.0 (numbered k)) w.across.ensures.0) in
          c.is_rising.ensures
          ∙ ap₂ ltb (mesh-corner l c.requires.0 a.h.0 c.requires.1) (mesh-corner l c.requires.0 (after a.h.0) (mesh-after l c.requires.0 a.h.0 c.requires.1))
          ∙ start-closed (halves_in a.self.now.m l) (below_in a.self.now.z.now a.self.now.level) (marks_in a.self.now.m l) a.h.0 (sym e ∙ w.if-is_crossed.true) (sym f ∙ sym w.value-is ∙ c.if-is_free.true)
      | else-is_crossed w ↦ absurd (true≢false (sym c.if-is_free.true ∙ w.value-is ∙ w.if-is_crossed.false))
    ]

pub returns-else-is_free : goal.returns-else-is_free
returns-else-is_free c =
    let a = c.args in
    let l = a.room.now in
    let e = c.is_crossed.ensures in
    c.if-is_free.false
    ∙ elim c.if-is_crossed.branch [
      | then-is_crossed w ↦
          let f = w.is_free.ensures
          ∙ ap (λ k. eqb (get_or (marks_in a.self.now.m l) k 0) 0) (w.lower_of.ensures.0 ∙ ap (λ k. lower_of a.h.0 (numbered k)) w.across.ensures.0) in
          start-marked (halves_in a.self.now.m l) (below_in a.self.now.z.now a.self.now.level) (marks_in a.self.now.m l) a.h.0 (sym f ∙ sym w.value-is ∙ c.if-is_free.false)
      | else-is_crossed w ↦ start-level (halves_in a.self.now.m l) (below_in a.self.now.z.now a.self.now.level) (marks_in a.self.now.m l) a.h.0 (sym e ∙ w.if-is_crossed.false)
    ]
