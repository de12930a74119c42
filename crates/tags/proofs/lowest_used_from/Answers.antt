use borrow.Author.Rules.{rules}
use mathlib.Core.Path.{◌≡◌, refl, sym, ap, ◌∙◌}
use native.Mathlib.Omega.{arith}
use native.Mathlib.Numerals.{add-one}
use Rattle.feeding.proofs.MarkLaws.{marked_none}
use Rattle.rendering.specs.Filed.{tag_number}
use Rattle.rendering.specs.Writer.{is_used_tag}
use Rattle.rendering.proofs.TagLaws.{used-some}
use Rattle.std.specs.Prelude.{Some}
use Rattle.lists.proofs.BelowLaws.{found_some, found_none}
use Rattle.lists.proofs.SearchLaws.{sought_none, sought-more, sought-hit, sought-end}
use Rattle.tags.proofs.lowest_used_from.Goals as goal

pub loop-i-init : goal.loop-i-init
loop-i-init c = let a = c.args in (sought_none, refl, marked_none a.seen.now a.marks.now)

pub returns-then-is_known : goal.returns-then-is_known
returns-then-is_known c =
    let l = c.loop-i in
    let number = tag_number c.args.tags.now in
    -- the tag is known if an earlier station has it
    let used : is_used_tag c.args.tags.now l.i ≡ c.is_known.result = sym (used-some number l.i (number l.i)) ∙ rw (← l.invariant.1, ← c.tag_number-tag.ensures) (sym c.is_known.ensures) in
    let e = sought-hit l.invariant.0 (omega arith) (used ∙ c.if-is_known.true) in
    ap Some e ∙ sym (found_some (is_used_tag c.args.tags.now) c.args.n (omega (arith, e)))

pub keep-requires : goal.keep-requires
keep-requires c = (search rules, search rules, c.loop-i.invariant.2)

pub loop-i-preserved : goal.loop-i-preserved
loop-i-preserved c =
    let k = c.keep in
    let l = c.loop-i in
    let number = tag_number c.args.tags.now in
    let used : is_used_tag c.args.tags.now l.i ≡ c.is_known.result = sym (used-some number l.i (number l.i)) ∙ rw (← l.invariant.1, ← c.tag_number-tag.ensures) (sym c.is_known.ensures) in (
      sought-more l.invariant.0 (omega arith) (used ∙ c.if-is_known.false),
      k.ensures.seen_after ∙ rw (l.invariant.1, c.tag_number-tag.ensures, add-one l.i),
      k.ensures.marked,
    )

pub returns : goal.returns
returns c =
    let l = c.loop-i in
    let e = sought-end l.invariant.0 (omega arith) in
    sym (found_none (is_used_tag c.args.tags.now) c.args.n (omega (arith, e)))
