-- `put_station` meets its contract: four lines, one behind the other. Assumes nothing.
use native.Mathlib.Omega.{arith}
use mathlib.Core.Path.{◌≡◌}
use lib.ListN.{get_or}
use lib.IntN.{pos}
use mir.Syntax.{w32}
use mir.Val.{to_z, of_z}
use borrow.Author.Rules.{rules}
use Rattle.shapes.specs.Bytes.{line_bytes}
use Rattle.survey.specs.Limits.{most_coordinate}
use Rattle.formats.specs.Lines.{tag_line, x_line, y_line, z_line}
use Rattle.rendering.specs.Lines.{station_text}
use Rattle.composing.proofs.LineLaws.{four-put}
use Rattle.composing.proofs.put_station.Goals as goal

pub told_as-requires : goal.told_as-requires
told_as-requires c =
    let z = c.args.z.now in
    let e : to_z w32 (of_z w32 (get_or z c.args.i (pos 0))) ≡ get_or z c.args.i (pos 0) = search rules in
    rw e c.requires.5

pub returns : goal.returns
unfolding station_text
returns c =
    let a = c.args in
    let t = c.tag_number in
    let e : to_z w32 (of_z w32 (get_or a.z.now a.i (pos 0))) ≡ get_or a.z.now a.i (pos 0) = search rules in
    let z = rw e at c.told_as.ensures in record {
      value = rw (← t.ensures, ← z)
          (four-put a.text.now a.at (line_bytes tag_line t.result) (line_bytes (x_line most_coordinate) (get_or a.x.now a.i 0))
          (line_bytes (y_line most_coordinate) (get_or a.y.now a.i 0)) (line_bytes z_line c.told_as.result)
          c.put-x_line.ensures.value (rw c.from.ensures at c.put-y_line.ensures.value) (rw c.from-2.ensures at c.put-z_line.ensures.value) c.put.ensures.value);
      upper_bound = omega (arith, c.put-x_line.ensures.upper_bound, c.put-y_line.ensures.upper_bound, c.put-z_line.ensures.upper_bound, c.put.ensures.upper_bound);
    }
