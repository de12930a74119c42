-- `parts_cut` meets its contract: in range `cut_to` answers, out of it nothing does. Assumes nothing.
use borrow.Author.Tests.{le-leb, lt-leb}
use mathlib.Core.Path.{ap, ◌∙◌}
use mir.Syntax.{w64}
use mir.Facts.{to_z-of_z}
use Rattle.whole.specs.Cut.{cut}
use Rattle.parts.proofs.Doors.{asked, not_asked}
use Rattle.parts.proofs.parts_cut.Goals as goal

pub returns-then-bound-le4611686018427387904 : goal.returns-then-bound-le4611686018427387904
returns-then-bound-le4611686018427387904 c =
    let t = c.cut_to in
    asked c.args.r.now (le-leb _ _ c.if-bound-le4611686018427387904.true) (to_z-of_z {w = w64} {z = t.result} (record { sfits = t.type_inv }) ∙ t.ensures ∙ ap (cut c.args.bound) (to_z-of_z c.ranges.v))

pub returns : goal.returns
returns c = not_asked (cut c.args.bound c.args.v) c.args.r.now (lt-leb _ _ c.if-bound-le4611686018427387904.false)
