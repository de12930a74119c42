-- `first_wrong` meets its contract: the search's test is that a triangle is not faultless. Assumes nothing.
use borrow.Author.Rules.{rules}
use borrow.Author.Tests.{tests}
use mathlib.Core.Path.{◌≡◌, sym, ap, ◌∙◌}
use mathlib.Core.Bool.{Bool, not}
use mathlib.Core.List.{List}
use Prim.Native.Nat.{ℕ}
use lib.ListN.{get_or}
use Rattle.lists.specs.Lowest.{lowest, if_below}
use Rattle.lists.proofs.BelowLaws.{found_lowest}
use Rattle.lists.proofs.FoundLaws.{find-below}
use Rattle.lists.proofs.LowestLaws.{lowest-agree}
use Rattle.survey.specs.Survey.{Survey, survey}
use Rattle.sweep.specs.Sweep.{tri, triangle_in}
use Rattle.neighbours.specs.Room.{threes}
use Rattle.neighbours.proofs.RoomLaws.{length-threes, threes_at}
use Rattle.woven.specs.Accepted.{is_faultless, first_wrong}
use Rattle.woven.proofs.FaultlessLaws.{first_wrong_is}
use Rattle.faults.proofs.first_wrong.Goals as goal

-- Triangle k of t triangles is not faultless, and the first that is not.
abbrev is_wrong_in : Survey → ℕ → List ℕ → ℕ → Bool
is_wrong_in s t l k = not (is_faultless s (threes t l) (triangle_in l k))

first : (s : Survey) (t : ℕ) (l : List ℕ) → lowest (is_wrong_in s t l) t ≡ first_wrong s (threes t l) (threes t l)
first s t l =
    let p : ℕ → Bool = λ k. not (is_faultless s (threes t l) (get_or (threes t l) k (tri 0 0 0))) in
    lowest-agree (is_wrong_in s t l) p t (λ k h. ap (λ u. not (is_faultless s (threes t l) u)) (sym (threes_at t k l h)))
    ∙ ap (lowest p) (sym (length-threes t l))
    ∙ sym (first_wrong_is s (threes t l) (threes t l))

pub returns : goal.returns
returns c =
    let a = c.args in
    let s = survey a.x.now a.y.now a.z.now in
    let p : ℕ → Bool = is_wrong_in s a.t a.triangles.now in
    found_lowest p a.t _ (find-below _ p a.t _ c.find.ensures.ran (λ k b q m. search (rules, tests)))
    ∙ ap (λ (m : ℕ). if_below m a.t) (first s a.t a.triangles.now)
