-- `parts_bracket` meets its contract: in range `bracket` and `spot_of` answer, out of it nothing does. Assumes nothing.
use mathlib.Core.Path.{◌≡◌, sym, ap, ◌∙◌, subst}
use Prim.Native.Nat.{ℕ, ◌<◌}
use lib.IntN.{ℤ}
use mir.Syntax.{w32}
use mir.Val.{SFits, to_z, of_z}
use mir.Facts.{to_z-of_z}
use Rattle.curve.specs.declared.side.End.{End}
use Rattle.curve.specs.declared.spot.Spot.{Spot}
use Rattle.curve.specs.Spot.{spot_at}
use Rattle.curve.proofs.SpotLaws.{side-bracket}
use Rattle.parts.specs.Sides.{end_of, can_draw, bracket_at}
use Rattle.parts.proofs.SideDoors.{drawable, asked-three, not_asked-three}
use Rattle.parts.proofs.bracket.parts_bracket.Goals as goal

-- a station as the calls see it
abbrev held : ℤ → ℤ
held z = to_z w32 (of_z w32 z)

abbrev held_end : ℕ → ℕ → ℤ → ℤ → ℤ → ℤ → ℤ → ℤ → End
held_end x y z p q r s t = end_of x y (held z) (held p) (held q) (held r) (held s) (held t)

end_is :
    (x y : ℕ) {z p q r s t : ℤ} → SFits w32 z → SFits w32 p → SFits w32 q → SFits w32 r → SFits w32 s → SFits w32 t
    → held_end x y z p q r s t ≡ end_of x y z p q r s t
end_is x y hz hp hq hr hs ht = λ i. end_of x y (to_z-of_z hz i) (to_z-of_z hp i) (to_z-of_z hq i) (to_z-of_z hr i) (to_z-of_z hs i) (to_z-of_z ht i)

pub bracket-found-requires : goal.bracket-found-requires
bracket-found-requires c =
    let a = c.args in
    let d =
    drawable (held_end a.x1 a.y1 a.z1 a.p1 a.q1 a.r1 a.s1 a.t1) (held_end a.x2 a.y2 a.z2 a.p2 a.q2 a.r2 a.s2 a.t2) (held a.level)
    (sym c.can_draw.ensures ∙ c.if-can_draw.true) in
    (d.low_in, d.high_in, d.level_in, d.crossed)

pub spot_of-spot-requires : goal.spot_of-spot-requires
spot_of-spot-requires c =
    let a = c.args in
    let low = held_end a.x1 a.y1 a.z1 a.p1 a.q1 a.r1 a.s1 a.t1 in
    let high = held_end a.x2 a.y2 a.z2 a.p2 a.q2 a.r2 a.s2 a.t2 in
    let d = drawable low high (held a.level) (sym c.can_draw.ensures ∙ c.if-can_draw.true) in
    (d.low_in, d.high_in, subst (λ (k : ℕ). k < 64) (sym c.bracket-found.ensures) (side-bracket a.style low high (held a.level) d.crossed).within)

pub returns-then-can_draw : goal.returns-then-can_draw
returns-then-can_draw c =
    let a = c.args in
    let s = c.ranges in
    let low = end_is a.x1 a.y1 s.z1 s.p1 s.q1 s.r1 s.s1 s.t1 in
    let high = end_is a.x2 a.y2 s.z2 s.p2 s.q2 s.r2 s.s2 s.t2 in
    let level = to_z-of_z {w = w32} s.level in
    let found = c.bracket-found.ensures ∙ (λ i. bracket_at a.style (low i) (high i) (level i)) in
    let spot = c.spot_of-spot.ensures in
    asked-three a.k.now a.x.now a.y.now
    (sym (c.can_draw.ensures ∙ (λ i. can_draw (low i) (high i) (level i))) ∙ c.if-can_draw.true)
    found
    (ap (λ (p : Spot). p.x) spot ∙ ap (spot_at a.x1 a.x2) found)
    (ap (λ (p : Spot). p.y) spot ∙ ap (spot_at a.y1 a.y2) found)

pub returns : goal.returns
returns c =
    let a = c.args in
    let s = c.ranges in
    let low = end_is a.x1 a.y1 s.z1 s.p1 s.q1 s.r1 s.s1 s.t1 in
    let high = end_is a.x2 a.y2 s.z2 s.p2 s.q2 s.r2 s.s2 s.t2 in
    let level = to_z-of_z {w = w32} s.level in
    let k = bracket_at a.style (end_of a.x1 a.y1 a.z1 a.p1 a.q1 a.r1 a.s1 a.t1) (end_of a.x2 a.y2 a.z2 a.p2 a.q2 a.r2 a.s2 a.t2) a.level in
    not_asked-three k (spot_at a.x1 a.x2 k) (spot_at a.y1 a.y2 k) a.k.now a.x.now a.y.now
    (sym (c.can_draw.ensures ∙ (λ i. can_draw (low i) (high i) (level i))) ∙ c.if-can_draw.false)
