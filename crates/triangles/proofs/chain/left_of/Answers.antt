use mathlib.Core.Path.{◌≡◌, sym, ◌∙◌}
use mathlib.Core.Bool.{true, false}
use Prim.Native.Nat.{◌+◌, ◌-◌}
use native.Mathlib.Omega.{arith}
use Rattle.triangles.specs.Chain.{places_of, is_seen_at}
use Rattle.triangles.proofs.ChainLaws.{down_on, down-stop, down-end}
use Rattle.triangles.proofs.chain.left_of.Goals as goal

pub returns-then-not-is_seen : goal.returns-then-not-is_seen
returns-then-not-is_seen c =
    let a = c.args in
    let l = c.loop-j in
    let p = is_seen_at (places_of a.x.now a.y.now) a.upper a.chain.now a.q in
    let e : l.j - 1 + 1 ≡ l.j = omega arith in
    let no : p (l.j - 1) ≡ false = cc in
    (e ∙ sym (down-stop p l.j (omega arith) no) ∙ l.invariant.1, omega arith)

pub loop-j-preserved : goal.loop-j-preserved
loop-j-preserved c =
    let a = c.args in
    let l = c.loop-j in
    let p = is_seen_at (places_of a.x.now a.y.now) a.upper a.chain.now a.q in
    let yes : p (l.j - 1) ≡ true = cc in
    (omega arith, sym (down_on p l.j (omega arith) yes) ∙ l.invariant.1)

pub returns : goal.returns
returns c =
    let a = c.args in
    let l = c.loop-j in
    let p = is_seen_at (places_of a.x.now a.y.now) a.upper a.chain.now a.q in
    let e : 0 ≡ l.j = omega arith in
    (e ∙ sym (down-end p l.j (omega arith)) ∙ l.invariant.1, omega arith)
