-- `thawpebble_read` meets its contract: a text has few stations and levels. Assumes nothing.
use mathlib.Core.Path.{sym, ap, ◌∙◌}
use Prim.Native.Nat.{ℕ}
use native.Mathlib.Omega.{arith}
use lib.ListN.{length}
use Rattle.survey.specs.Answers.{reading_gives}
use Rattle.survey.specs.Answer.{Answer}
use Rattle.survey.specs.declared.answers.Read.{Read}
use Rattle.text.specs.Reader.{x_room, y_room, z_room, tags_room, levels_room}
use Rattle.text.proofs.ReaderLaws.{read-counts}
use Rattle.thawpebble.specs.Door.{number, carried, stations_after, levels_after}
use Rattle.thawpebble.proofs.thawpebble_read.Goals as goal

pub overflow_cast-n : goal.overflow_cast-n
overflow_cast-n c =
    let a = c.args in
    let e = sym c.in-Ok.is ∙ c.read.ensures.value in
    omega (arith, read-counts a.text.now (length a.x.now) (length a.y.now) (length a.z.now) (length a.tags.now) (length a.levels.now) _ _ _ (sym e))

pub overflow_cast-m : goal.overflow_cast-m
overflow_cast-m c =
    let a = c.args in
    let e = sym c.in-Ok.is ∙ c.read.ensures.value in
    omega (arith, read-counts a.text.now (length a.x.now) (length a.y.now) (length a.z.now) (length a.tags.now) (length a.levels.now) _ _ _ (sym e))
