-- `block` meets its contract: ready rooms are prepared for every level, and its block is done in the room. Assumes nothing.
use mathlib.Core.Path.{ap, ◌∙◌}
use mathlib.Core.List.{List, ◌++◌}
use Prim.Native.Nat.{ℕ}
use native.Mathlib.Omega.{arith}
use lib.IntN.{ℤ, pos}
use lib.ListN.{length, get_or, take, drop}
use mir.Syntax.{w32}
use Rattle.survey.specs.Survey.{survey}
use Rattle.curve.proofs.HeldLaws.{held, held_is}
use Rattle.neighbours.specs.Room.{threes}
use Rattle.contour.specs.Writer.{room_after}
use Rattle.program.specs.Program.{level_text, level_answer}
use Rattle.program.proofs.DoneLaws.{level-done, written}
use Rattle.program.proofs.ReadyLaws.{xs-taken, ys-taken, zs-taken, prepared, sides-are, few-levels, level_in, of_level}
use Rattle.program.proofs.block.Goals as goal

pub slice_bounds-level_text-end : goal.slice_bounds-level_text-end
slice_bounds-level_text-end c = xs-taken c.requires.0

pub slice_bounds-level_text-end-2 : goal.slice_bounds-level_text-end-2
slice_bounds-level_text-end-2 c = ys-taken c.requires.0

pub slice_bounds-level_text-end-3 : goal.slice_bounds-level_text-end-3
slice_bounds-level_text-end-3 c = zs-taken c.requires.0

pub offset_bounds-levels-k : goal.offset_bounds-levels-k
offset_bounds-levels-k c = omega (arith, few-levels c.requires.0 c.args.k c.requires.1)

pub bounds-levels-k : goal.bounds-levels-k
bounds-levels-k c = few-levels c.requires.0 c.args.k c.requires.1

pub level_text-w-requires : goal.level_text-w-requires
level_text-w-requires c =
    let a = c.args in (
      prepared c.requires.0,
      sides-are c.requires.0,
      held w32 (level_in c.requires.0 a.k c.requires.1) tt,
    )

pub returns : goal.returns
returns c =
    let a = c.args in
    let o = a.opened in
    let room = a.room.now in
    let s = survey (take o.stations a.x.now) (take o.stations a.y.now) (take o.stations a.z.now) in
    let ts = threes o.triangles a.work.now in
    let level = get_or a.levels.now a.k (pos 0) in
    let w = c.level_text-w in
    let r = c.requires.0 in
    let within = level_in r a.k c.requires.1 in
    let same = held_is w32 within tt in
    let p = prepared r in
    let done =
    w.ensures.value
    ∙ ap (λ (z : ℤ). level_answer s ts o.style z (length room)) same
    ∙ level-done s p.fit ts p.mesh o.style level within (length room) (omega arith) in
    let put = w.ensures.room_after ∙ ap (λ (z : ℤ). room_after (level_text s ts o.style z) w.result room) same in
    let out = written (level_text s ts o.style level) room done c.bytes_of.ensures put in
    let text = of_level r a.k c.requires.1 level_text in
    record {
      value = out.0 ∙ ap length text;
      room_after = out.1 ∙ ap (λ (l : List ℕ). l ++ drop c.bytes_of.result room) text;
      work_unchanged = w.ensures.work_unchanged;
    }
