use mathlib.Core.Path.{◌≡◌, refl, sym, ap, ◌∙◌}
use mathlib.Core.Bool.{Bool, ◌||◌}
use Prim.Native.Nat.{ℕ}
use native.Mathlib.Omega.{arith}
use lib.ListN.{length, get_or}
use Rattle.lists.proofs.LowestLaws.{some_more}
use Rattle.contour.specs.Writer.{is_short}
use Rattle.contour.proofs.has_short.Goals as goal

pub loop-r-init : goal.loop-r-init
loop-r-init c = refl

pub loop-r-preserved : goal.loop-r-preserved
loop-r-preserved c =
    let l = c.loop-r in
    let i = l.r-index in
    let v = c.args.records.now in
    let test : ℕ → Bool = λ j. is_short (get_or v j 0) in
    ap (λ (b : Bool). b || test i) l.invariant ∙ sym (some_more test i)

pub returns : goal.returns
returns c =
    let e : c.loop-r.r-index ≡ length c.args.records.now = omega arith in
    rw e at c.loop-r.invariant
