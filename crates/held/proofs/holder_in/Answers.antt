-- `holder_in` meets its contract: the search's test is `is_held` at each triangle. Assumes nothing.
use borrow.Author.Rules.{rules}
use borrow.Author.Tests.{tests}
use mathlib.Core.Bool.{Bool}
use Prim.Native.Nat.{ℕ}
use Rattle.lists.proofs.BelowLaws.{found_lowest}
use Rattle.lists.proofs.FoundLaws.{find-below}
use Rattle.whole.specs.Place.{place}
use Rattle.triangles.specs.Chain.{places_of}
use Rattle.sweep.specs.Sweep.{triangle_in}
use Rattle.held.specs.Held.{is_held}
use Rattle.held.proofs.holder_in.Goals as goal

pub returns : goal.returns
returns c =
    let a = c.args in
    let held : ℕ → Bool = λ k. is_held (places_of a.x.now a.y.now) (place a.px a.py) (triangle_in a.triangles.now k) in
    found_lowest held a.n _ (find-below _ held a.n _ c.find.ensures.ran (λ k b q m. search (rules, tests)))
