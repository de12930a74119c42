use borrow.Author.Rules.{rules}
use mathlib.Core.Path.{refl, sym, ap, ◌∙◌}
use mathlib.Core.List.{map}
use native.Mathlib.Omega.{arith}
use lib.ListN.{length}
use Rattle.survey.specs.Survey.{survey}
use Rattle.triangles.specs.Mesh.{lowest_first}
use Rattle.triangles.proofs.FitLaws.{fit-x, fit-y}
use Rattle.fatter.specs.Swap.{swaps}
use Rattle.swapping.proofs.AlongLaws.{start, turn_below, turn-twin, turn_along, turn-falls, along-done}
use Rattle.swapping.proofs.RoomLaws.{threes-front}
use Rattle.swapping.proofs.swap.swap_all.Goals as goal

pub keys_in-requires : goal.keys_in-requires
keys_in-requires c =
    let v = survey c.args.x.now c.args.y.now c.args.z.now in
    let p = c.requires in
    let r = p.ready in
    (omega (arith, p.keys-count, r.few), r.few, p.long, (fit-x v r.fit, fit-y v r.fit))

pub lowest_key-e-requires : goal.lowest_key-e-requires
lowest_key-e-requires c = (search rules, search rules, c.fill_tops.ensures)

pub loop-keys-init : goal.loop-keys-init
loop-keys-init c = (
  start (survey c.args.x.now c.args.y.now c.args.z.now) c.args.t _ _ _ (length c.args.keys.now) c.requires.ready c.requires.keys-count
      c.keys_in.ensures,
  c.lowest_key-e.ensures,
  c.fill_tops.ensures,
  refl,
  refl,
  refl,
)

pub overflow_cast-e : goal.overflow_cast-e
overflow_cast-e c =
    let l = c.loop-keys in
    let r = c.requires.ready in
    omega (arith, (turn_below _ r.fit c.args.t _ _ _ _ l.invariant.0 l.e l.invariant.1).0, r.few)

pub swap_side-requires : goal.swap_side-requires
swap_side-requires c =
    let v = survey c.args.x.now c.args.y.now c.args.z.now in
    let l = c.loop-keys in
    let r = c.requires.ready in
    let b = turn_below v r.fit c.args.t _ _ _ _ l.invariant.0 l.e l.invariant.1 in
    let w = turn-twin v r.fit c.args.t _ _ _ _ l.invariant.0 l.e l.invariant.1 c.loop-keys-test.true in (
      omega (arith, b.0, r.few),
      omega (arith, w, r.few),
      omega (arith, b.1, r.few),
      r.few,
      omega (arith, l.invariant.3, c.requires.long),
      (fit-x v r.fit, fit-y v r.fit),
      l.invariant.2,
    )

pub lowest_key-e-requires-in-loop-keys : goal.lowest_key-e-requires-in-loop-keys
lowest_key-e-requires-in-loop-keys c =
    let l = c.loop-keys in
    let r = c.requires.ready in
    let b = turn_below _ r.fit c.args.t _ _ _ _ l.invariant.0 l.e l.invariant.1 in
    let k = c.swap_side.auto.keys in
    (omega (arith, k, b.0, b.1), omega (arith, k, b.1, r.few), c.swap_side.ensures.1)

pub loop-keys-smaller : goal.loop-keys-smaller
loop-keys-smaller c =
    let l = c.loop-keys in
    let r = c.requires.ready in
    turn-falls _ _ c.args.z.now r.fit c.args.t _ _ _ _ l.invariant.0 l.e l.invariant.1 c.loop-keys-test.true _ _ _ c.swap_side.ensures.0

pub loop-keys-preserved : goal.loop-keys-preserved
loop-keys-preserved c =
    let l = c.loop-keys in
    let r = c.requires.ready in (
      turn_along _ r.fit c.args.t _ _ _ _ l.invariant.0 l.e l.invariant.1 c.loop-keys-test.true _ _ _ c.swap_side.ensures.0,
      c.lowest_key-e-in-loop-keys.ensures,
      c.swap_side.ensures.1,
      search rules,
      search rules,
      search rules,
    )

pub returns : goal.returns
returns c =
    let l = c.loop-keys in
    let v = survey c.args.x.now c.args.y.now c.args.z.now in
    let t = c.args.t in
    ap (map lowest_first) (sym (threes-front t l.room))
    ∙ along-done v t _ _ _ _ _ c.requires.ready l.invariant.0 l.e l.invariant.1 c.loop-keys-test.false
    ∙ ap (λ ts. map lowest_first (swaps v ts)) (threes-front t c.args.room.now)
