-- `fill_rooms` meets its contract: each room is as its own call leaves it. Assumes nothing.
use mathlib.Core.Path.{◌≡◌}
use native.Mathlib.Omega.{arith}
use borrow.Author.Rules.{rules}
use Rattle.std.proofs.iter.Serving.{serving}
use Prim.Native.Nat.{◌+◌, ◌*◌}
use lib.ListN.{get_or}
use Rattle.rendering.specs.Values.{untold, x_in, y_in, z_in}
use Rattle.filling.proofs.FillLaws.{filled, apart_one}
use Rattle.filling.proofs.fill.fill_rooms.Goals as goal

pub fill_by-requires-4-clause-callable : goal.fill_by-requires-4-clause-callable
fill_by-requires-4-clause-callable c = let h = apart_one c.args.values.now (4 + 4 * c.args.n) c.args.m c.requires.laid.level in grind serving

pub returns : goal.returns
returns c =
    let a = c.args in
    let v = a.values.now in
    let r = c.requires.rooms in
    record {
      x_after = filled (x_in v) a.x.now c.fill_by.new.room a.n r.x c.fill_by.auto.room (λ i h. let p = c.fill_by.ensures.front i h (x_in v 0) in search rules) c.fill_by.ensures.rest;
      y_after = filled (y_in v) a.y.now c.fill_by-2.new.room a.n r.y c.fill_by-2.auto.room (λ i h. let p = c.fill_by-2.ensures.front i h (y_in v 0) in search rules) c.fill_by-2.ensures.rest;
      z_after = filled (z_in v) a.z.now c.fill_by-3.new.room a.n r.z c.fill_by-3.auto.room (λ i h. let p = c.fill_by-3.ensures.front i h (z_in v 0) in search rules) c.fill_by-3.ensures.rest;
      tags_after = c.fill_tags.ensures;
      levels_after = filled (λ k. untold (get_or v (4 + 4 * a.n + 1 * k) 0)) a.levels.now c.fill_by-4.new.room a.m r.level c.fill_by-4.auto.room (λ i h. let p = c.fill_by-4.ensures.front i h (untold (get_or v (4 + 4 * a.n + 1 * 0) 0)) in let e : 4 + 4 * a.n + 1 * i ≡ 4 + 4 * a.n + i = omega arith in rw e (search rules)) c.fill_by-4.ensures.rest;
    }
