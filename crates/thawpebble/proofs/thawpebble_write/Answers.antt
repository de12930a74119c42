-- `thawpebble_write` meets its contract: a text is short. Assumes nothing.
use mathlib.Core.Path.{sym, ◌∙◌}
use Prim.Native.Nat.{ℕ, ◌<◌}
use native.Mathlib.Omega.{arith}
use lib.ListN.{length}
use Rattle.rendering.specs.Filed.{filed}
use Rattle.rendering.proofs.TextLaws.{done-short}
use Rattle.thawpebble.proofs.AnswerLaws.{if_ok}
use Rattle.thawpebble.proofs.thawpebble_write.Goals as goal

pub tell_count-requires : goal.tell_count-requires
tell_count-requires c =
    let a = c.args in
    if_ok (λ (n : ℕ). n < 4294967296) c.write.result
    (λ n e.
    omega (arith, done-short (filed a.style a.tags.now a.x.now a.y.now a.z.now a.levels.now) (length a.text.now) n (sym c.write.ensures.value ∙ e)))
