use mathlib.Core.Path.{◌≡◌, ap, ◌∙◌}
use Prim.Native.Nat.{◌+◌, ◌-◌}
use native.Mathlib.Omega.{arith}
use Rattle.triangles.specs.Chain.{triangle_at, put}
use Rattle.triangles.specs.Mesh.{lowest_first, fan_at}
use Rattle.triangles.proofs.PutLaws.{put_next, put_none}
use Rattle.triangles.proofs.ChainLaws.{side-within}
use Rattle.triangles.proofs.chain.put_fan.Goals as goal

pub loop-i-init : goal.loop-i-init
loop-i-init c =
    let a = c.args in
    let e : a.k + 0 ≡ a.k = omega arith in
    let z : a.a - a.j - 0 ≡ a.a - a.j = omega arith in
    rw (e, z)

pub side_at-requires : goal.side_at-requires
side_at-requires c = omega arith

pub put_side-requires : goal.put_side-requires
put_side-requires c =
    let l = c.loop-i in
    let within = side-within c.args.falling c.args.j c.args.a l.i (omega arith) in
    (omega (arith, c.side_at.ensures, within), omega (arith, l.auto.triangles))

pub loop-i-preserved : goal.loop-i-preserved
loop-i-preserved c =
    let a = c.args in
    let l = c.loop-i in
    let g = fan_at a.upper a.falling a.chain.now a.j a.a a.q in
    let stored = c.put_side.ensures ∙ ap (λ i. put (a.k + l.i) (lowest_first (triangle_at a.upper a.chain.now a.q i)) l.triangles) c.side_at.ensures in
    put_next g a.k l.i (a.a - a.j) _ l.triangles (omega arith) stored ∙ l.invariant

pub returns : goal.returns
returns c =
    let a = c.args in
    let l = c.loop-i in
    put_none (fan_at a.upper a.falling a.chain.now a.j a.a a.q) (a.k + l.i) l.i (a.a - a.j) l.triangles (omega arith) ∙ l.invariant
