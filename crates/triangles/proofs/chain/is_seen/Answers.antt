-- `is_seen` meets its contract: the turn of the side and q, either way round. Assumes nothing.
use mathlib.Core.Path.{sym, ap, ◌∙◌}
use mathlib.Core.Bool.{cond}
use lib.IntN.{pos}
use lib.Signed.{lt_z}
use mir.Syntax.{w64}
use mir.Facts.{to_z-of_z}
use Rattle.whole.specs.Turn.{turn}
use Rattle.sweep.specs.Sweep.{high}
use Rattle.triangles.specs.Chain.{places_of, is_seen}
use Rattle.triangles.proofs.chain.is_seen.Goals as goal

pub returns-then-upper : goal.returns-then-upper
unfolding is_seen
returns-then-upper c =
    let t = c.turn_of in
    let a = c.args in
    let f = places_of a.x.now a.y.now in
    ap (λ z. lt_z z (pos 0)) (to_z-of_z {w = w64} {z = t.result} (record { sfits = t.type_inv }) ∙ t.ensures)
    ∙ ap (λ u. lt_z (cond u (high (f a.a) (f a.b) (f a.q)) (turn (f a.a) (f a.b) (f a.q))) (pos 0)) (sym c.if-upper.true)

pub returns-else-upper : goal.returns-else-upper
unfolding is_seen
returns-else-upper c =
    let t = c.turn_of-else-upper in
    let a = c.args in
    let f = places_of a.x.now a.y.now in
    ap (λ z. lt_z z (pos 0)) (to_z-of_z {w = w64} {z = t.result} (record { sfits = t.type_inv }) ∙ t.ensures)
    ∙ ap (λ u. lt_z (cond u (high (f a.a) (f a.b) (f a.q)) (turn (f a.a) (f a.b) (f a.q))) (pos 0)) (sym c.if-upper.false)
