-- `level_text` meets its contract: the rooms hold the lines of the level at their front, and the block is written of that. Assumes nothing.
use mathlib.Core.Path.{◌≡◌, sym, ap, ◌∙◌}
use mathlib.Core.List.{List, ◌++◌}
use Prim.Native.Nat.{ℕ}
use native.Mathlib.Omega.{arith}
use lib.IntN.{ℤ}
use lib.ListN.{length, drop, replicate}
use mir.Syntax.{w32}
use mir.Val.{to_z, of_z}
use Rattle.survey.specs.Survey.{survey}
use Rattle.trace.specs.Lines.{records as records_of}
use Rattle.slopes.specs.Job.{slopes_of}
use Rattle.neighbours.specs.Room.{threes}
use Rattle.curve.proofs.HeldLaws.{held_is}
use Rattle.curve.specs.declared.spot.Spot.{Spot}
use Rattle.spots.specs.Lines.{lines_of, spots_of, xs_of, ys_of}
use Rattle.contour.specs.Contour.{block_of}
use Rattle.contour.specs.Writer.{block_answer, room_after}
use Rattle.program.proofs.LevelLaws.{front, front-count, records-count, lines-few, xs-count, ys-count}
use Rattle.program.proofs.level_text.Goals as goal

pub slice_bounds-records-end : goal.slice_bounds-records-end
slice_bounds-records-end c =
    let a = c.args in
    let d = c.draw-traced in
    let s = survey a.x.now a.y.now a.z.now in
    let ts = threes a.recorded.triangles a.work.now in
    let p = c.requires.0 in
    let same : to_z w32 (of_z w32 a.level) ≡ a.level = held_is w32 c.requires.2 tt in
    let lines_are : d.result.lines ≡ length (lines_of s ts a.level) = d.ensures.counts.0 ∙ ap (λ (z : ℤ). length (lines_of s ts z)) same in
    let few = lines-few s p.fit ts p.mesh a.style a.level in
    omega (arith, lines_are, few, d.auto.records)

pub slice_bounds-block-end : goal.slice_bounds-block-end
slice_bounds-block-end c =
    let a = c.args in
    let d = c.draw-traced in
    let s = survey a.x.now a.y.now a.z.now in
    let ts = threes a.recorded.triangles a.work.now in
    let p = c.requires.0 in
    let same : to_z w32 (of_z w32 a.level) ≡ a.level = held_is w32 c.requires.2 tt in
    let lines_are : d.result.lines ≡ length (lines_of s ts a.level) = d.ensures.counts.0 ∙ ap (λ (z : ℤ). length (lines_of s ts z)) same in
    let few = lines-few s p.fit ts p.mesh a.style a.level in
    front-count _ d.result.lines (omega (arith, lines_are, few, d.auto.records))

pub returns-clause-value : goal.returns-clause-value
returns-clause-value c =
    let a = c.args in
    let d = c.draw-traced in
    let s = survey a.x.now a.y.now a.z.now in
    let ts = threes a.recorded.triangles a.work.now in
    let p = c.requires.0 in
    let same : to_z w32 (of_z w32 a.level) ≡ a.level = held_is w32 c.requires.2 tt in
    let lines_are : d.result.lines ≡ length (lines_of s ts a.level) = d.ensures.counts.0 ∙ ap (λ (z : ℤ). length (lines_of s ts z)) same in
    let spots : ℤ → List Spot = spots_of s ts (slopes_of s) a.style in
    let spots-are : d.result.vertices ≡ length (spots a.level) = d.ensures.counts.1 ∙ ap (λ (z : ℤ). length (spots z)) same in
    let zeros : List ℕ = replicate 3072 0 in
    let r-put = d.ensures.of_records ∙ ap (λ (z : ℤ). records_of (lines_of s ts z) ++ drop d.result.lines zeros) same in
    let x-put = d.ensures.of_x ∙ ap (λ (z : ℤ). xs_of (spots z) ++ drop d.result.vertices zeros) same in
    let y-put = d.ensures.of_y ∙ ap (λ (z : ℤ). ys_of (spots z) ++ drop d.result.vertices zeros) same in
    let r-is = front (records_of (lines_of s ts a.level)) (drop d.result.lines zeros) r-put (lines_are ∙ sym (records-count s p.fit ts p.mesh a.style a.level)) in
    let x-is = front (xs_of (spots a.level)) (drop d.result.vertices zeros) x-put (spots-are ∙ sym (xs-count s p.fit ts p.mesh a.style a.level)) in
    let y-is = front (ys_of (spots a.level)) (drop d.result.vertices zeros) y-put (spots-are ∙ sym (ys-count s p.fit ts p.mesh a.style a.level)) in
    let room = a.room.now in
    c.block.ensures.value ∙ (λ i. block_answer (same i) (r-is i) (x-is i) (y-is i) (length room))

pub returns-clause-room_after : goal.returns-clause-room_after
returns-clause-room_after c =
    let a = c.args in
    let d = c.draw-traced in
    let s = survey a.x.now a.y.now a.z.now in
    let ts = threes a.recorded.triangles a.work.now in
    let p = c.requires.0 in
    let same : to_z w32 (of_z w32 a.level) ≡ a.level = held_is w32 c.requires.2 tt in
    let lines_are : d.result.lines ≡ length (lines_of s ts a.level) = d.ensures.counts.0 ∙ ap (λ (z : ℤ). length (lines_of s ts z)) same in
    let spots : ℤ → List Spot = spots_of s ts (slopes_of s) a.style in
    let spots-are : d.result.vertices ≡ length (spots a.level) = d.ensures.counts.1 ∙ ap (λ (z : ℤ). length (spots z)) same in
    let zeros : List ℕ = replicate 3072 0 in
    let r-put = d.ensures.of_records ∙ ap (λ (z : ℤ). records_of (lines_of s ts z) ++ drop d.result.lines zeros) same in
    let x-put = d.ensures.of_x ∙ ap (λ (z : ℤ). xs_of (spots z) ++ drop d.result.vertices zeros) same in
    let y-put = d.ensures.of_y ∙ ap (λ (z : ℤ). ys_of (spots z) ++ drop d.result.vertices zeros) same in
    let r-is = front (records_of (lines_of s ts a.level)) (drop d.result.lines zeros) r-put (lines_are ∙ sym (records-count s p.fit ts p.mesh a.style a.level)) in
    let x-is = front (xs_of (spots a.level)) (drop d.result.vertices zeros) x-put (spots-are ∙ sym (xs-count s p.fit ts p.mesh a.style a.level)) in
    let y-is = front (ys_of (spots a.level)) (drop d.result.vertices zeros) y-put (spots-are ∙ sym (ys-count s p.fit ts p.mesh a.style a.level)) in
    let room = a.room.now in
    c.block.ensures.room_after ∙ (λ i. room_after (block_of (same i) (r-is i) (x-is i) (y-is i)) c.block.result room)
