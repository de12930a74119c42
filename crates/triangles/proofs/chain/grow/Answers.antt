-- `grow` meets its contract: the two searches, the two fans, and q on both chains. Assumes nothing.
use mathlib.Core.Path.{ap, ◌∙◌}
use mathlib.Core.Bool.{true, false}
use Prim.Native.Nat.{◌+◌, ◌-◌}
use native.Mathlib.Omega.{arith}
use lib.Dec.{ltb}
use lib.ListN.{length, set}
use Rattle.triangles.specs.Chain.{values, put_all}
use Rattle.triangles.specs.Mesh.{fan_at}
use Rattle.triangles.proofs.PutLaws.{put_all_length}
use Rattle.triangles.proofs.chain.grow.Goals as goal

pub put_fan-requires : goal.put_fan-requires
put_fan-requires c =
    let a = c.args in
    let low = c.left_of-j.ensures in
    let up = c.left_of-i.ensures in
    (omega (arith, low), omega arith, omega (arith, low, up, c.requires.2))

pub overflow_add-m : goal.overflow_add-m
overflow_add-m c =
    let a = c.args in
    let low = c.left_of-j.ensures in
    let up = c.left_of-i.ensures in
    omega (arith, low, c.requires.2)

pub put_fan-requires-2 : goal.put_fan-requires-2
put_fan-requires-2 c =
    let a = c.args in
    let low = c.left_of-j.ensures in
    let up = c.left_of-i.ensures in
    let same = ap length c.put_fan.ensures ∙ put_all_length a.grown.k _ a.triangles.now in
    (omega (arith, up), omega arith, omega (arith, low, up, c.requires.2, same))

pub overflow_add-lo : goal.overflow_add-lo
overflow_add-lo c = omega (arith, c.left_of-j.ensures.1)

pub offset_bounds-lo-j : goal.offset_bounds-lo-j
offset_bounds-lo-j c = omega (arith, c.left_of-j.ensures.1)

pub overflow_add-up : goal.overflow_add-up
overflow_add-up c = omega (arith, c.left_of-i.ensures.1)

pub offset_bounds-up-i : goal.offset_bounds-up-i
offset_bounds-up-i c = omega (arith, c.left_of-i.ensures.1)

pub overflow_add-result : goal.overflow_add-result
overflow_add-result c = omega (arith, c.left_of-j.ensures.1)

pub overflow_add-result-2 : goal.overflow_add-result-2
overflow_add-result-2 c = omega (arith, c.left_of-i.ensures.1)

pub overflow_add-result-3 : goal.overflow_add-result-3
overflow_add-result-3 c =
    let a = c.args in
    let low = c.left_of-j.ensures in
    let up = c.left_of-i.ensures in
    omega (arith, low, up, c.requires.2)

pub returns : goal.returns
returns c =
    let a = c.args in
    let low = c.left_of-j.ensures in
    let up = c.left_of-i.ensures in
    record {
      low-top = ap (λ n. n + 1) low.0;
      low_is = ap (λ n. set a.lo.now (n + 1) a.q) low.0;
      up_top = ap (λ n. n + 1) up.0;
      up_is = ap (λ n. set a.up.now (n + 1) a.q) up.0;
      count = λ e. a.grown.k + (a.grown.a - low.0 e) + (a.grown.b - up.0 e);
      room_is =
          c.put_fan-2.ensures
          ∙ ap (put_all _ _) c.put_fan.ensures
          ∙ (λ e.
          put_all (a.grown.k + (a.grown.a - low.0 e)) (values (fan_at true (ltb 0 a.grown.k) a.up.now (up.0 e) a.grown.b a.q) 0 (a.grown.b - up.0 e))
          (put_all a.grown.k (values (fan_at false false a.lo.now (low.0 e) a.grown.a a.q) 0 (a.grown.a - low.0 e)) a.triangles.now));
    }
