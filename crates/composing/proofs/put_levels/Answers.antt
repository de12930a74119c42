use mathlib.Core.Path.{◌≡◌, sym}
use native.Mathlib.Omega.{arith}
use lib.ListN.{length, get_or}
use lib.IntN.{pos}
use mir.Syntax.{w32}
use mir.Val.{to_z, of_z}
use borrow.Author.Rules.{rules}
use Rattle.pouring.proofs.PouredLaws.{poured_none}
use Rattle.rendering.specs.Lines.{level_text}
use Rattle.printing.proofs.RowLaws.{more-put}
use Rattle.composing.proofs.put_levels.Goals as goal

pub loop-level-init : goal.loop-level-init
loop-level-init c = ((omega arith, sym (poured_none _ _)), omega arith)

pub told_as-requires : goal.told_as-requires
told_as-requires c =
    let levels = c.args.levels.now in
    let k = c.loop-level.level-index in
    let e : to_z w32 (of_z w32 (get_or levels k (pos 0))) ≡ get_or levels k (pos 0) = search rules in
    rw e (c.requires.2 k c.loop-level-test.true)

pub loop-level-preserved : goal.loop-level-preserved
unfolding level_text
loop-level-preserved c =
    let l = c.loop-level in
    let a = c.args in
    let e : to_z w32 (of_z w32 (get_or a.levels.now l.level-index (pos 0))) ≡ get_or a.levels.now l.level-index (pos 0) = search rules in
    let t = rw e at c.told_as.ensures in (
      more-put a.text.now a.at (level_text a.levels.now) l.level-index l.invariant.0 (rw t at c.put-next.ensures.value),
      omega (arith, c.put-next.ensures.upper_bound, l.invariant.1),
    )

pub returns : goal.returns
returns c = let e : c.loop-level.level-index ≡ length c.args.levels.now = omega arith in rw e at c.loop-level.invariant.0
