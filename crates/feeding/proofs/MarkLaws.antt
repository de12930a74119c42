-- What a mark tells of a tag, and how the marks go on from tag to tag. Assumes nothing.
use mathlib.Core.Path.{◌≡◌, sym, ap, ◌∙◌}
use mathlib.Core.Bool.{or-false, false≢true}
use mathlib.Core.List.{List}
use Prim.Native.Nat.{ℕ, ◌+◌, ◌<◌}
use native.Mathlib.Nat.{mod-lt}
use native.Mathlib.Omega.{arith}
use borrow.Author.Tests.{eqb-true, eqb-false}
use lib.Dec.{eqb}
use lib.ListN.{length, take, set}
use lib.Seq.{get_or-set_same, get_or-set_other}
use Rattle.shapes.specs.Line.{is_used}
use Rattle.lists.proofs.TestLaws.{by_test}
use Rattle.feeding.specs.Marks.{mark_count, mark_of, Marked}
use Rattle.feeding.proofs.TagLaws.{used-more, take_put}

-- A tag more leaves its mark, and another tag that has a mark is used before it.
pub marked-put : (seen marks : List ℕ) (n v : ℕ) → n < length seen → length marks ≡ mark_count → Marked (take n seen) marks
    → Marked (take (n + 1) (set seen n v)) (set marks (mark_of v) 1)
marked-put seen marks n v h room m w i =
    let below : mark_of v < mark_count = mod-lt v (omega arith) in
    by_test (eqb (mark_of w) (mark_of v))
    (λ e. rw (eqb-true (mark_of w) (mark_of v) e) (get_or-set_same marks (mark_of v) 1 0 (omega (arith, room))))
    (λ e. get_or-set_other marks (mark_of v) (mark_of w) 1 0 (eqb-false (mark_of w) (mark_of v) e) ∙ m w (by_test (eqb v w)
    (λ q. absurd (eqb-false (mark_of w) (mark_of v) e (ap mark_of (sym (eqb-true v w q)))))
    (λ q. sym (or-false _) ∙ rw (take_put seen n v h, used-more (take n seen) v w, q) at i)))

-- No tag is used before the first line.
pub marked_none : (seen marks : List ℕ) → Marked (take 0 seen) marks
unfolding is_used
marked_none seen marks w i = absurd (false≢true i)
