-- `key_at` meets its contract: the two stations as one number, or no key. Assumes nothing.
use borrow.Author.Rules.{rules}
use mathlib.Core.Path.{◌≡◌, sym, ◌∙◌}
use Prim.Native.Nat.{◌+◌, ◌*◌}
use Rattle.triangles.specs.Chain.{places_of}
use Rattle.swapping.proofs.RoomLaws.{key-told, key_none}
use Rattle.swapping.proofs.keys.key_at.Goals as goal

pub returns-then-may_swap : goal.returns-then-may_swap
returns-then-may_swap c =
    let low : c.from.result ≡ c.corner-i.result.0 = search rules in
    let high : c.from-then-may_swap.result ≡ c.corner-j.result.0 = search rules in
    (λ n. low n * 65536 + high n)
    ∙ key-told (places_of c.args.x.now c.args.y.now) c.args.corners.now c.args.twins.now c.args.h.0 c.corner-i.ensures.0 c.after.ensures.0
    c.corner-j.ensures.0 (sym c.may_swap.ensures ∙ c.if-may_swap.true)

pub returns-else-may_swap : goal.returns-else-may_swap
returns-else-may_swap c =
    key_none (places_of c.args.x.now c.args.y.now) c.args.corners.now c.args.twins.now c.args.h.0 (sym c.may_swap.ensures ∙ c.if-may_swap.false)
