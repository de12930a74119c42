-- `turn_of` meets its contract: the coordinates are those of the stations. Assumes nothing.
use mathlib.Core.Path.{◌≡◌, ◌∙◌}
use Prim.Native.Nat.{ℕ, ◌≤◌}
use native.Mathlib.Omega.{arith}
use mir.Syntax.{w64}
use mir.Facts.{to_z-of_z}
use Rattle.whole.specs.Place.{place}
use Rattle.whole.specs.Turn.{turn}
use Rattle.triangles.proofs.chain.turn_of.Goals as goal

-- a coordinate is far within the range of `turn_at`
near : {r x : ℕ} → r ≡ x → x ≤ 8191 → r ≤ 1073741823
near e h = omega (arith, e)

pub turn_at-requires : goal.turn_at-requires
turn_at-requires c = (
  near c.at_or.ensures (c.requires.0 c.args.a),
  near c.at_or-2.ensures (c.requires.1 c.args.a),
  near c.at_or-3.ensures (c.requires.0 c.args.b),
  near c.at_or-4.ensures (c.requires.1 c.args.b),
  near c.at_or-5.ensures (c.requires.0 c.args.c),
  near c.at_or-6.ensures (c.requires.1 c.args.c),
)

pub returns : goal.returns
returns c =
    let t = c.turn_at in
    to_z-of_z {w = w64} {z = t.result} (record { sfits = t.type_inv })
    ∙ t.ensures
    ∙ (λ i.
    turn (place (c.at_or.ensures i) (c.at_or-2.ensures i)) (place (c.at_or-3.ensures i) (c.at_or-4.ensures i))
    (place (c.at_or-5.ensures i) (c.at_or-6.ensures i)))
