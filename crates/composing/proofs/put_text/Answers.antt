-- `put_text` meets its contract: its parts are put one behind the other. Assumes nothing.
use native.Mathlib.Omega.{arith}
use lib.ListN.{length}
use Rattle.shapes.specs.Bytes.{line_bytes}
use Rattle.formats.specs.Lines.{survey_line, style_line, points_line, levels_line}
use Rattle.rendering.specs.Filed.{filed, count}
use Rattle.rendering.proofs.FormLaws.{rising, level-within}
use Rattle.rendering.proofs.LineLaws.{stations_text, levels_text, rendered-lines}
use Rattle.composing.proofs.LineLaws.{six-put}
use Rattle.composing.proofs.put_text.Goals as goal

pub put_levels-requires : goal.put_levels-requires
put_levels-requires c =
    let r = rising c.args.levels.now c.requires.levels-form in
    (omega (arith, c.put-level.ensures.upper_bound, c.put_stations-m.ensures.upper_bound), omega (arith, r.most), level-within c.args.levels.now r)

pub returns : goal.returns
returns c =
    let a = c.args in
    let s = filed a.style a.tags.now a.x.now a.y.now a.z.now a.levels.now in
    let p = six-put a.text.now 0 (line_bytes (survey_line 1) 1) (line_bytes style_line a.style) (line_bytes points_line (count s)) (stations_text s)
    (line_bytes levels_line (length s.levels)) (levels_text s) c.put-style_line.ensures.value (rw c.from.ensures at c.put-points.ensures.value) c.put-station.ensures.value
    c.put_stations-m.ensures.value c.put-level.ensures.value c.put_levels.ensures in
    rw (rendered-lines s) (omega (arith, p.0), p.1)
