-- `write_fitted` meets its contract: what is put over no room is what is put in the room, and only what has room is. Assumes nothing.
use mathlib.Core.Path.{refl}
use mathlib.Core.List.{[]}
use native.Mathlib.Omega.{arith}
use Rattle.contour.proofs.AnswerLaws.{too_short, is_put}
use Rattle.contour.proofs.write_fitted.Goals as goal

pub returns-then-room-bytes : goal.returns-then-room-bytes
returns-then-room-bytes g c =
    λ text p.
    let none = p [] c.put-bytes.new.arg2 c.put-bytes.result (record { shown = _; shows = refl; left = _; met = c.put-bytes.ensures; leaves = refl }) in
    too_short text c.args.room.now (omega (arith, none.0))

pub returns : goal.returns
returns g c =
    λ text p.
    let none = p [] c.put-bytes.new.arg2 c.put-bytes.result (record { shown = _; shows = refl; left = _; met = c.put-bytes.ensures; leaves = refl }) in
    let one = p c.args.room.now c.put.new.arg2 c.put.result (record { shown = _; shows = refl; left = _; met = c.put.ensures; leaves = refl }) in
    is_put text c.args.room.now c.put-bytes.result c.put.new.arg2 (omega (arith, none.0)) none.0 one.1
