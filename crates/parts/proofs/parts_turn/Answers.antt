-- `parts_turn` meets its contract: in range `turn_at` answers, out of it nothing does. Assumes nothing.
use borrow.Author.Tests.{leb-true}
use mathlib.Core.Path.{◌≡◌, sym, ◌∙◌}
use mathlib.Core.Bool.{Bool, true, ◌&&◌}
use Prim.Native.Nat.{ℕ, ◌≤◌}
use mir.Syntax.{w64}
use mir.Facts.{to_z-of_z}
use Rattle.lists.proofs.TestLaws.{and_left, and_right}
use Rattle.whole.specs.Place.{place}
use Rattle.whole.specs.Turn.{turn}
use Rattle.parts.specs.Parts.{is_near}
use Rattle.parts.proofs.Doors.{asked, not_asked}
use Rattle.parts.proofs.parts_turn.Goals as goal

near : (x : ℕ) (rest : Bool) → (is_near x && rest) ≡ true → x ≤ 1073741823
near x rest h = leb-true x 1073741823 (and_left (is_near x) rest h)

rest : (x : ℕ) (b : Bool) → (is_near x && b) ≡ true → b ≡ true
rest x b h = and_right (is_near x) b h

pub turn_at-requires : goal.turn_at-requires
turn_at-requires c =
    let a = c.args in
    let h = sym c.can_turn.ensures ∙ c.if-can_turn.true in
    let i = rest a.ax _ h in
    let j = rest a.ay _ i in
    let k = rest a.bx _ j in
    let l = rest a.by _ k in
    (near a.ax _ h, near a.ay _ i, near a.bx _ j, near a.by _ k, near a.cx _ l, leb-true a.cy 1073741823 (rest a.cx _ l))

pub returns-then-can_turn : goal.returns-then-can_turn
returns-then-can_turn c =
    let t = c.turn_at in
    asked c.args.r.now (sym c.can_turn.ensures ∙ c.if-can_turn.true)
    (to_z-of_z {w = w64} {z = t.result} (record { sfits = t.type_inv }) ∙ t.ensures)

pub returns : goal.returns
returns c =
    let a = c.args in
    not_asked (turn (place a.ax a.ay) (place a.bx a.by) (place a.cx a.cy)) a.r.now (sym c.can_turn.ensures ∙ c.if-can_turn.false)
