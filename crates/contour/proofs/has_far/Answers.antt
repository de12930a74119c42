use mathlib.Core.Path.{◌≡◌, refl, sym, ap, ◌∙◌}
use mathlib.Core.Bool.{Bool, ◌||◌}
use Prim.Native.Nat.{ℕ}
use native.Mathlib.Omega.{arith}
use lib.ListN.{length, get_or}
use Rattle.lists.proofs.LowestLaws.{some_more}
use lib.Dec.{ltb}
use Rattle.formats.specs.Contours.{most_spot}
use Rattle.contour.proofs.has_far.Goals as goal

pub loop-v-init : goal.loop-v-init
loop-v-init c = refl

pub loop-v-preserved : goal.loop-v-preserved
loop-v-preserved c =
    let l = c.loop-v in
    let i = l.v-index in
    let v = c.args.list.now in
    let test : ℕ → Bool = λ j. ltb most_spot (get_or v j 0) in
    ap (λ (b : Bool). b || test i) l.invariant ∙ sym (some_more test i)

pub returns : goal.returns
returns c =
    let e : c.loop-v.v-index ≡ length c.args.list.now = omega arith in
    rw e at c.loop-v.invariant
