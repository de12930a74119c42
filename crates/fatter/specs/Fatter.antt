-- Fatter triangles, the second kind of mesh: document 02, L1. Assumes nothing.
use Rattle.std.specs.Prelude.{List, map, ℕ}
use Rattle.survey.specs.Survey.{Survey}
use Rattle.sweep.specs.Sweep.{Three}
use Rattle.triangles.specs.Mesh.{lowest_first}
use Rattle.listing.specs.Listed.{listed}
use Rattle.fatter.specs.Swap.{swaps}

-- The mesh ts with its sides swapped, each triangle counterclockwise, lowest station first: 'Triangles are then listed by their three
-- numbers, lowest first.'
unfoldable pub fatter : Survey → List (Three ℕ) → List (Three ℕ)
fatter s ts = listed (map lowest_first (swaps s ts))
