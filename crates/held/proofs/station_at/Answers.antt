-- `station_at` meets its contract: the search's test is that of `is_at` at each station. Assumes nothing.
use borrow.Author.Rules.{rules}
use borrow.Author.Tests.{tests, lt-ltb}
use mathlib.Core.Path.{sym, ap, ◌∙◌}
use mathlib.Core.Bool.{Bool, ◌&&◌}
use Prim.Native.Nat.{ℕ}
use lib.Dec.{eqb}
use lib.ListN.{length, get_or}
use Rattle.lists.specs.Lowest.{if_below}
use Rattle.lists.proofs.BelowLaws.{found_lowest}
use Rattle.lists.proofs.FoundLaws.{find-below}
use Rattle.lists.proofs.LowestLaws.{lowest-agree}
use Rattle.whole.specs.Place.{place}
use Rattle.survey.specs.Survey.{survey}
use Rattle.held.specs.Held.{is_at}
use Rattle.held.proofs.station_at.Goals as goal

pub returns : goal.returns
returns c =
    λ zs.
    let a = c.args in
    let n = length a.x.now in
    let same : ℕ → Bool = λ k. eqb (get_or a.x.now k 0) a.px && eqb (get_or a.y.now k 0) a.py in
    found_lowest same n _ (find-below _ same n _ c.find.ensures.ran (λ k b q m. search (rules, tests)))
    ∙ ap (λ (m : ℕ). if_below m n)
    (lowest-agree same (is_at (survey a.x.now a.y.now zs) (place a.px a.py)) n (λ j l. ap (λ t. t && same j) (sym (lt-ltb j n l))))
