-- `clear` meets its contract: each of the first entries names no station. Assumes nothing.
use mathlib.Core.Path.{◌≡◌, ap, ◌∙◌}
use lib.ListN.{length, take, drop, replicate}
use lib.Seq.{length-take-le}
use Rattle.outline.proofs.WrittenLaws.{filled_at}
use Rattle.outline.proofs.clear.Goals as goal

pub returns : goal.returns
returns c =
    let a = c.args in
    let e : c.fill.new.self ≡ replicate (length (take a.n a.next.now)) 65535 = c.fill.ensures.after (λ y k. k) in
    record { none = filled_at a.n 65535 c.fill.new.self (drop a.n a.next.now) (e ∙ ap (λ n. replicate n 65535) (length-take-le a.n a.next.now c.requires)) }
