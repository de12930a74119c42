-- `far_inside` meets its contract: the circle number of the four places, held against 0. Assumes nothing.
use mathlib.Core.Path.{ap, ◌∙◌}
use lib.IntN.{pos}
use lib.Signed.{lt_z}
use mir.Syntax.{w64}
use mir.Facts.{to_z-of_z}
use Rattle.whole.specs.Place.{place}
use Rattle.circle.specs.Circle.{circle}
use Rattle.swapping.proofs.RoomLaws.{same_bound}
use Rattle.swapping.proofs.keys.far_inside.Goals as goal

pub circle_at-requires : goal.circle_at-requires
circle_at-requires c = (
  same_bound c.coordinate.ensures (c.requires.0 c.args.i.0),
  same_bound c.coordinate-2.ensures (c.requires.1 c.args.i.0),
  same_bound c.coordinate-3.ensures (c.requires.0 c.args.j.0),
  same_bound c.coordinate-4.ensures (c.requires.1 c.args.j.0),
  same_bound c.coordinate-5.ensures (c.requires.0 c.args.l.0),
  same_bound c.coordinate-6.ensures (c.requires.1 c.args.l.0),
  same_bound c.coordinate-7.ensures (c.requires.0 c.args.r.0),
  same_bound c.coordinate-8.ensures (c.requires.1 c.args.r.0),
)

pub returns : goal.returns
returns c =
    let t = c.circle_at in
    ap (lt_z (pos 0))
    (to_z-of_z {w = w64} {z = t.result} (record { sfits = t.type_inv })
    ∙ t.ensures
    ∙ (λ n. circle
    (place (c.coordinate.ensures n) (c.coordinate-2.ensures n)) (place (c.coordinate-3.ensures n) (c.coordinate-4.ensures n))
    (place (c.coordinate-5.ensures n) (c.coordinate-6.ensures n)) (place (c.coordinate-7.ensures n) (c.coordinate-8.ensures n))))
