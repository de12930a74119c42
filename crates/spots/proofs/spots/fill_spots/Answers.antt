use Rattle.spots.specs.Prepared.{Crossing}
use Rattle.spots.specs.Lines.{spot_between, spot_at}
use Rattle.curve.proofs.HeldLaws.{held, held_is}
use Rattle.curve.specs.declared.spot.Spot.{Spot}
use Rattle.survey.specs.Survey.{survey}
use Rattle.lists.proofs.TableLaws.{table-length, table_more}
use Rattle.lists.specs.Table.{table}
use mir.Val.{to_z, of_z}
use mir.Syntax.{w32}
use lib.ListN.{length, get_or, set, drop}
use lib.Seq.{get_or-append-add, get_or-drop}
use native.Mathlib.Omega.{arith}
use Prim.Native.Nat.{ℕ, ◌+◌, ◌/◌, ◌%◌, ◌<◌}
use mathlib.Core.List.{List, ◌++◌}
use mathlib.Core.Path.{◌≡◌, sym, ap, ◌∙◌, subst}
use Rattle.spots.proofs.spots.fill_spots.Invariants.{Filled}
use Rattle.spots.proofs.spots.fill_spots.Goals as goal

filled : (f : ℕ → ℕ) (k : ℕ) (old : List ℕ) {now : List ℕ} {v : ℕ} → k < length old → v ≡ f k → Filled f k old now → Filled f (k + 1) old (set now k v)
filled f k old h e g = (λ t. set (g t) k (e t)) ∙ table_more f k old h

-- Entry k is still that of the old list.
left : (f : ℕ → ℕ) (k : ℕ) (old : List ℕ) {now : List ℕ} → Filled f k old now → get_or now k 0 ≡ get_or old k 0
left f k old {now} g =
    let i : k ≡ length (table f k) + 0 = omega (arith, table-length f k) in
    let j : k + 0 ≡ k = omega arith in
    ap (λ l. get_or l k 0) g ∙ ap (λ n. get_or (table f k ++ drop k old) n 0) i ∙ get_or-append-add (table f k) (drop k old) 0 0 ∙ get_or-drop k old 0 0 ∙ ap (λ n. get_or old n 0) j

pub spot_between-spot-requires : goal.spot_between-spot-requires
spot_between-spot-requires c =
    let a = c.args in
    let l = c.loop-k in
    let v = survey a.x.now a.y.now a.z.now in
    let w = c.requires.2 l.k c.loop-k-test.true in
    let e = sym (left _ l.k a.vx.now l.invariant.0) in (
      c.requires.0,
      held w32 c.requires.1 tt,
      subst (λ j. Crossing v a.slopes.now (to_z w32 (of_z w32 a.level)) c.low_of.result j) (ap (λ m. m % 65536) e ∙ sym c.high_of.ensures)
          (subst (λ i. Crossing v a.slopes.now (to_z w32 (of_z w32 a.level)) i (get_or a.vx.now l.k 0 % 65536)) (ap (λ m. m / 65536) e ∙ sym c.low_of.ensures)
          (subst (λ t. Crossing v a.slopes.now t (get_or a.vx.now l.k 0 / 65536) (get_or a.vx.now l.k 0 % 65536)) (sym (held_is w32 c.requires.1 tt)) w)),
    )

pub loop-k-preserved : goal.loop-k-preserved
loop-k-preserved c =
    let a = c.args in
    let l = c.loop-k in
    let v = survey a.x.now a.y.now a.z.now in
    let w = left _ l.k a.vx.now l.invariant.0 in
    let e =
    c.spot_between-spot.ensures
    ∙ (λ i. spot_between v a.slopes.now a.style (to_z w32 (of_z w32 a.level)) ((c.low_of.ensures ∙ ap (λ m. m / 65536) w) i) ((c.high_of.ensures ∙ ap (λ m. m % 65536) w) i)) in (
      filled _ l.k a.vx.now (omega (arith, c.requires.3)) (ap (λ (p : Spot). p.x) e) l.invariant.0,
      filled _ l.k a.vy.now (omega (arith, c.requires.4)) (ap (λ (p : Spot). p.y) e) l.invariant.1,
    )

pub returns : goal.returns
returns c =
    let a = c.args in
    let l = c.loop-k in
    let n : l.k ≡ a.v = omega arith in
    let h = held_is w32 c.requires.1 tt in
    let v = survey a.x.now a.y.now a.z.now in record {
      of_x = l.invariant.0 ∙ (λ i. table (λ k. (spot_at v a.slopes.now a.style (h i) (get_or a.vx.now k 0)).x) (n i) ++ drop (n i) a.vx.now);
      of_y = l.invariant.1 ∙ (λ i. table (λ k. (spot_at v a.slopes.now a.style (h i) (get_or a.vx.now k 0)).y) (n i) ++ drop (n i) a.vy.now);
    }
