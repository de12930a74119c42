-- `trace` meets its contract: the open lines, then the closed ones, then the marks are taken off. Assumes nothing.
use native.Mathlib.Omega.{arith}
use mir.Facts.{to_z-of_z}
use mir.Syntax.{w32}
use mir.Val.{to_z, of_z}
use Prim.Native.Nat.{◌*◌, ◌≤◌}
use mathlib.Core.Path.{◌≡◌, ap, ◌∙◌}
use mathlib.Core.List.{◌++◌}
use lib.ListN.{length, drop}
use Rattle.trace.specs.Lines.{passed, records}
use Rattle.neighbours.specs.Room.{threes}
use Rattle.tracing.specs.Written.{below_in, sides_of}
use Rattle.tracing.specs.Room.{lines_in}
use Rattle.tracing.proofs.HeldLaws.{held-long, held-clear}
use Rattle.neighbours.proofs.RoomLaws.{length-threes}
use Rattle.tracing.proofs.RoomLaws.{cleared_same_length}
use Rattle.tracing.proofs.WrittenLaws.{write-length}
use Rattle.tracing.proofs.TraceLaws.{trace-ready, trace-open, trace-open-lines, trace-again, trace-closed, trace-closed-lines, trace-lines, trace-vertices, trace-sides, trace-records}
use Rattle.tracing.proofs.scan.trace.Goals as goal

pub draw_lines-open-requires : goal.draw_lines-open-requires
draw_lines-open-requires c =
    let a = c.args in
    let ts = threes a.t a.room.now in
    let e = length-threes a.t a.room.now in
    let few : 3 * length ts ≤ 32766 = omega (arith, e, c.requires.3) in
    let whole : 3 * a.t ≡ 3 * length ts = omega (arith, e) in
    let tv = ap (λ x. length (passed (lines_in a.z.now x a.t a.room.now))) (to_z-of_z c.ranges.level) in
    let tl = ap (λ x. length (lines_in a.z.now x a.t a.room.now)) (to_z-of_z c.ranges.level) in (
      trace-ready ts (length a.z.now) c.requires.0 few a.room.now c.requires.1 (3 * a.t) whole a.count c.requires.2 (below_in a.z.now (to_z w32 (of_z w32 a.level))),
      c.requires.5,
      trace-open ts (length a.z.now) c.requires.0 few a.room.now c.requires.1 (3 * a.t) whole a.count c.requires.2 (below_in a.z.now (to_z w32 (of_z w32 a.level))) (length a.sides.now) (omega (arith, tv, c.requires.6)),
      trace-open-lines ts (length a.z.now) c.requires.0 few a.room.now c.requires.1 (3 * a.t) whole a.count c.requires.2 (below_in a.z.now (to_z w32 (of_z w32 a.level))) (length a.records.now) (omega (arith, tl, c.requires.7)),
    )

pub draw_lines-all-requires : goal.draw_lines-all-requires
draw_lines-all-requires c =
    let a = c.args in
    let ts = threes a.t a.room.now in
    let e = length-threes a.t a.room.now in
    let few : 3 * length ts ≤ 32766 = omega (arith, e, c.requires.3) in
    let whole : 3 * a.t ≡ 3 * length ts = omega (arith, e) in
    let tv = ap (λ x. length (passed (lines_in a.z.now x a.t a.room.now))) (to_z-of_z c.ranges.level) in
    let tl = ap (λ x. length (lines_in a.z.now x a.t a.room.now)) (to_z-of_z c.ranges.level) in
    let d = c.draw_lines-open in
    let r = d.new.room in
    let o = d.ensures in
    let es = ap length o.1.left.written ∙ write-length 0 _ a.sides.now in
    let er = ap length o.1.records-are ∙ write-length 0 _ a.records.now in (
      trace-again ts (length a.z.now) c.requires.0 few a.room.now c.requires.1 (3 * a.t) whole a.count c.requires.2 (below_in a.z.now (to_z w32 (of_z w32 a.level))) r o.0 o.1,
      omega (arith, es, c.requires.5),
      trace-closed ts (length a.z.now) c.requires.0 few a.room.now c.requires.1 (3 * a.t) whole a.count c.requires.2 (below_in a.z.now (to_z w32 (of_z w32 a.level))) r o.0 o.1 _ (omega (arith, es, tv, c.requires.6)),
      trace-closed-lines ts (length a.z.now) c.requires.0 few a.room.now c.requires.1 (3 * a.t) whole a.count c.requires.2 (below_in a.z.now (to_z w32 (of_z w32 a.level))) r o.0 o.1 _ (omega (arith, er, tl, c.requires.7)),
    )

pub clear-requires : goal.clear-requires
clear-requires c =
    let a = c.args in
    let ts = threes a.t a.room.now in
    let e = length-threes a.t a.room.now in
    let few : 3 * length ts ≤ 32766 = omega (arith, e, c.requires.3) in
    let whole : 3 * a.t ≡ 3 * length ts = omega (arith, e) in
    let tv = ap (λ x. length (passed (lines_in a.z.now x a.t a.room.now))) (to_z-of_z c.ranges.level) in
    let tl = ap (λ x. length (lines_in a.z.now x a.t a.room.now)) (to_z-of_z c.ranges.level) in
    let d = c.draw_lines-open in
    let f = c.draw_lines-all in
    let n = cleared_same_length (3 * a.t) a.room.now f.new.room (f.ensures.0 ∙ d.ensures.0) in
    omega (arith, n, held-long ts (length a.z.now) c.requires.0 few a.room.now c.requires.1 (3 * a.t) whole)

pub returns : goal.returns
returns c =
    let a = c.args in
    let ts = threes a.t a.room.now in
    let e = length-threes a.t a.room.now in
    let few : 3 * length ts ≤ 32766 = omega (arith, e, c.requires.3) in
    let whole : 3 * a.t ≡ 3 * length ts = omega (arith, e) in
    let tv = ap (λ x. length (passed (lines_in a.z.now x a.t a.room.now))) (to_z-of_z c.ranges.level) in
    let tl = ap (λ x. length (lines_in a.z.now x a.t a.room.now)) (to_z-of_z c.ranges.level) in
    let d = c.draw_lines-open in
    let f = c.draw_lines-all in
    let r = d.new.room in
    let o = d.ensures in
    let g = f.ensures in
    let te = to_z-of_z c.ranges.level in (
      trace-lines ts (length a.z.now) c.requires.0 few a.room.now c.requires.1 (3 * a.t) whole a.count c.requires.2 (below_in a.z.now (to_z w32 (of_z w32 a.level))) r o.0 o.1 g.1 ∙ tl,
      trace-vertices ts (length a.z.now) c.requires.0 few a.room.now c.requires.1 (3 * a.t) whole a.count c.requires.2 (below_in a.z.now (to_z w32 (of_z w32 a.level))) r o.0 o.1 g.1 ∙ tv,
      trace-sides ts (length a.z.now) c.requires.0 few a.room.now c.requires.1 (3 * a.t) whole a.count c.requires.2 (below_in a.z.now (to_z w32 (of_z w32 a.level))) r o.0 o.1 g.1 (omega (arith, tv, c.requires.6))
          ∙ ap (λ x. sides_of (passed (lines_in a.z.now x a.t a.room.now)) ++ drop f.result.vertices a.sides.now) te,
      trace-records ts (length a.z.now) c.requires.0 few a.room.now c.requires.1 (3 * a.t) whole a.count c.requires.2 (below_in a.z.now (to_z w32 (of_z w32 a.level))) r o.0 o.1 g.1 (omega (arith, tl, c.requires.7))
          ∙ ap (λ x. records (lines_in a.z.now x a.t a.room.now) ++ drop f.result.lines a.records.now) te,
      c.clear.ensures ∙ g.0 ∙ o.0 ∙ held-clear ts (length a.z.now) c.requires.0 few a.room.now c.requires.1 (3 * a.t) whole,
    )
