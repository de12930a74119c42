use mathlib.Core.Path.{refl, sym, ap, ◌∙◌}
use mathlib.Core.Bool.{Bool, ◌||◌}
use native.Mathlib.Omega.{arith}
use lib.Dec.{eqb}
use lib.ListN.{get_or, take}
use Rattle.shapes.specs.Line.{is_used}
use Rattle.feeding.proofs.TagLaws.{used-next}
use Rattle.feeding.proofs.tags.is_used.Goals as goal

pub loop-word-init : goal.loop-word-init
unfolding is_used
loop-word-init c = refl

pub loop-word-preserved : goal.loop-word-preserved
loop-word-preserved c =
    let l = c.loop-word in
    let seen = take c.args.n c.args.seen.now in
    ap (λ (b : Bool). b || eqb (get_or seen l.word-index 0) c.args.tag) l.invariant ∙ sym (used-next seen l.word-index c.args.tag (omega arith))
