-- `open` meets its contract: what `open_any` leaves where no report is asked for. Assumes nothing.
use mathlib.Core.Path.{ap, ◌∙◌}
use mathlib.Core.List.{List, ◌++◌}
use Prim.Native.Nat.{ℕ}
use lib.ListN.{drop}
use Rattle.program.proofs.OpeningLaws.{contour_opening, contour_opened}
use Rattle.program.proofs.open.Goals as goal

pub returns-clause-opened : goal.returns-clause-opened
returns-clause-opened c = c.open_any.ensures.opened ∙ contour_opened c.args.kind c.args.text.now

pub returns-clause-of_room : goal.returns-clause-of_room
returns-clause-of_room c =
    c.open_any.ensures.of_room ∙ ap (λ (o : List ℕ). o ++ drop c.open_any.result.bytes c.args.room.now) (contour_opening c.args.text.now)
