use mathlib.Core.Path.{◌≡◌, refl, ◌∙◌}
use native.Mathlib.Omega.{arith}
use Rattle.rendering.specs.Values.{tag_in}
use Rattle.filling.proofs.FillLaws.{tags-more}
use Rattle.filling.proofs.fill.fill_tags.Goals as goal

pub loop-i-init : goal.loop-i-init
loop-i-init c = refl

pub loop-i-preserved : goal.loop-i-preserved
loop-i-preserved c =
    let a = c.args in
    c.put_tag.ensures ∙ tags-more (tag_in a.values.now) a.room.now c.loop-i.i c.loop-i.invariant (omega arith)

pub returns : goal.returns
returns c = let e : c.loop-i.i ≡ c.args.n = omega arith in rw e at c.loop-i.invariant
