-- `swap_with` meets its contract: with the records behind it the mesh is what the swaps ask for. Assumes nothing.
use mathlib.Core.Path.{sym, ap, ◌∙◌}
use native.Mathlib.Omega.{arith}
use Rattle.survey.specs.Survey.{survey}
use mathlib.Core.List.{map}
use Prim.Native.Nat.{◌+◌, ◌*◌, ◌/◌}
use lib.Seq.{length-take-le}
use Rattle.triangles.specs.Mesh.{lowest_first}
use Rattle.fatter.specs.Swap.{swaps}
use Rattle.mesh.proofs.SwapLaws.{triangles-few, lay-asks, laid-ready, laid-long, laid-threes}
use Rattle.mesh.proofs.swap.swap_with.Goals as goal

pub lay-b-requires : goal.lay-b-requires
lay-b-requires c =
    let v = survey c.args.x.now c.args.y.now c.args.z.now in
    lay-asks v c.requires.0 c.args.t c.args.room.now c.requires.1 c.requires.2

pub overflow_mul-m : goal.overflow_mul-m
overflow_mul-m c =
    let v = survey c.args.x.now c.args.y.now c.args.z.now in
    let few = triangles-few v c.requires.0 c.args.t c.args.room.now c.requires.1 in
    omega (arith, few.1)

pub overflow_add-b : goal.overflow_add-b
overflow_add-b c =
    let v = survey c.args.x.now c.args.y.now c.args.z.now in
    let few = triangles-few v c.requires.0 c.args.t c.args.room.now c.requires.1 in
    omega (arith, few.1)

pub slice_bounds-swap_all-end : goal.slice_bounds-swap_all-end
slice_bounds-swap_all-end c =
    let v = survey c.args.x.now c.args.y.now c.args.z.now in
    let few = triangles-few v c.requires.0 c.args.t c.args.room.now c.requires.1 in
    omega (arith, few.1, c.requires.3)

pub slice_bounds-swap_all-end-2 : goal.slice_bounds-swap_all-end-2
slice_bounds-swap_all-end-2 c =
    let v = survey c.args.x.now c.args.y.now c.args.z.now in
    let few = triangles-few v c.requires.0 c.args.t c.args.room.now c.requires.1 in
    sym (length-take-le _ _ (omega (arith, few.1, c.requires.3)))

pub slice_bounds-swap_all-end-3 : goal.slice_bounds-swap_all-end-3
slice_bounds-swap_all-end-3 c =
    let v = survey c.args.x.now c.args.y.now c.args.z.now in
    let few = triangles-few v c.requires.0 c.args.t c.args.room.now c.requires.1 in
    omega (arith, few.1, c.requires.4)

pub slice_bounds-swap_all-end-4 : goal.slice_bounds-swap_all-end-4
slice_bounds-swap_all-end-4 c =
    let v = survey c.args.x.now c.args.y.now c.args.z.now in
    let few = triangles-few v c.requires.0 c.args.t c.args.room.now c.requires.1 in
    sym (length-take-le _ _ (omega (arith, few.1, c.requires.4)))

pub swap_all-requires : goal.swap_all-requires
swap_all-requires c =
    let v = survey c.args.x.now c.args.y.now c.args.z.now in
    let few = triangles-few v c.requires.0 c.args.t c.args.room.now c.requires.1 in
    let h = c.lay-b.ensures.1 in
    let keys = length-take-le (3 * c.args.t) c.args.keys.now (omega (arith, few.1, c.requires.3)) in
    let tops = length-take-le ((3 * c.args.t + 63) / 64) c.args.tops.now (omega (arith, few.1, c.requires.4)) in
    record {
      some = few.0;
      long = laid-long v c.requires.0 c.args.t c.args.room.now c.requires.1 _ h;
      ready = laid-ready v c.requires.0 c.args.t c.args.room.now c.requires.1 _ h;
      keys-count = keys;
      enough = omega (arith, keys, tops);
      no_more = omega (arith, keys, tops);
    }

pub returns : goal.returns
returns c =
    let v = survey c.args.x.now c.args.y.now c.args.z.now in
    c.swap_all.ensures
    ∙ ap (λ us. map lowest_first (swaps v us)) (laid-threes v c.requires.0 c.args.t c.args.room.now c.requires.1 _ c.lay-b.ensures.1)
