-- `write_two` meets its contract: its lines are put one behind the other. Assumes nothing.
use mathlib.Core.List.{◌++◌}
use Rattle.shapes.specs.Bytes.{line_bytes}
use borrow.Author.Rules.{rules}
use Rattle.contour.proofs.write_two.Goals as goal

pub returns : goal.returns
returns c =
    let a = c.args in
    c.write_fitted.ensures (line_bytes a.first a.v ++ line_bytes a.second a.w) (λ old new r h. search rules)
