use Prim.Native.Nat.{ℕ, ◌-◌, ◌*◌, ◌%◌}
use native.Mathlib.Omega.{arith}
use borrow.Author.Tests.{lt-ltb}
use mathlib.Core.Bool.{cond}
use mathlib.Core.List.{List}
use mathlib.Core.Path.{◌≡◌, ap, ◌∙◌}
use lib.ListN.{length, get_or, take, drop, length-drop}
use lib.Seq.{length-take-le, get_or-take, get_or-drop}
use Rattle.tracing.proofs.RoomLaws.{cleared-mid}
use Rattle.tracing.proofs.scan.clear.Goals as goal

pub returns : goal.returns
returns c =
    let l = c.loop-neighbour in
    let m = c.args.m in
    let room = c.args.room.now in
    let part : List ℕ = take (2 * m - m) (drop m room) in
    let long : length part ≡ m = length-take-le (2 * m - m) (drop m room) (omega (arith, length-drop m room, c.requires)) ∙ omega arith in
    cleared-mid m room l.neighbour-items c.requires (l.auto.neighbour-items ∙ long)
    (λ k h.
    l.invariant k ∙ ap (λ t. cond t (get_or part k 0 % 32768) (get_or part k 0)) (lt-ltb k l.neighbour-index (omega (arith, c.loop-neighbour-test.false, long)))
    ∙ ap (λ x. x % 32768) (get_or-take (2 * m - m) (drop m room) k 0 (omega arith) ∙ get_or-drop m room k 0))
