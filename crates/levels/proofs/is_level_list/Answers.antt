use mathlib.Core.Path.{◌≡◌, refl, sym, ap, ◌∙◌}
use mathlib.Core.Bool.{not}
use mathlib.Core.List.{List}
use Prim.Native.Nat.{◌≤◌}
use native.Mathlib.Omega.{arith}
use native.Mathlib.Numerals.{add-one}
use borrow.Author.Tests.{le-leb}
use lib.ListN.{length, get_or}
use lib.IntN.{ℤ, pos}
use mir.Syntax.{w32}
use mir.Val.{to_z, of_z}
use Rattle.std.proofs.Common.{tests}
use Rattle.lists.specs.Lowest.{some}
use Rattle.rendering.specs.Writer.{level_before, is_wrong_level, is_level_list}
use Rattle.lists.proofs.SearchLaws.{sought_none, sought-more, sought-some, sought_no}
use borrow.Author.Rules.{rules}
use Rattle.levels.proofs.is_level_list.Goals as goal

-- Their count is right, so that the list is wrong if a level is.
by_level : (levels : List ℤ) → 1 ≤ length levels → length levels ≤ 64 → not (some (is_wrong_level levels) (length levels)) ≡ is_level_list levels
by_level levels l m = rw (le-leb 1 (length levels) l, le-leb (length levels) 64 m)

pub loop-level-init : goal.loop-level-init
loop-level-init c = (sought_none, refl)

pub returns-then-is_wrong_level : goal.returns-then-is_wrong_level
returns-then-is_wrong_level c =
    let levels = c.args.levels.now in
    let k = c.loop-level.level-index in
    let e : to_z w32 (of_z w32 (get_or levels k (pos 0))) ≡ get_or levels k (pos 0) = search rules in
    let low : 1 ≤ length levels = search (rules, tests) in
    let high : length levels ≤ 64 = search (rules, tests) in
    ap not (sought-some c.loop-level.invariant.0 (omega arith) (cc e)) ∙ by_level levels low high

pub loop-level-preserved : goal.loop-level-preserved
loop-level-preserved c =
    let levels = c.args.levels.now in
    let k = c.loop-level.level-index in
    let e : to_z w32 (of_z w32 (get_or levels k (pos 0))) ≡ get_or levels k (pos 0) = search rules in
    (sought-more c.loop-level.invariant.0 (omega arith) (cc e), e ∙ ap (level_before levels) (sym (add-one k)))

pub returns : goal.returns
returns c =
    let levels = c.args.levels.now in
    let low : 1 ≤ length levels = search (rules, tests) in
    let high : length levels ≤ 64 = search (rules, tests) in
    ap not (sought_no c.loop-level.invariant.0 (omega arith)) ∙ by_level c.args.levels.now low high
