-- The two kinds of mesh: document 02, L1. Assumes nothing.
use Rattle.std.specs.Prelude.{Bool, cond, List, ℕ, eqb, ltb}
use Rattle.survey.specs.Survey.{Survey}
use Rattle.sweep.specs.Sweep.{Three}
use Rattle.triangles.specs.Mesh.{triangles}
use Rattle.fatter.specs.Fatter.{fatter}

-- 'Kind 0 is the old mesh, 1 this one; another number is refusal 5.'
abbrev pub is_no_kind : ℕ → Bool
is_no_kind kind = ltb 1 kind

-- The triangles of a kind: those of the sweep, or those with their sides swapped.
unfoldable pub triangles_of : ℕ → Survey → List (Three ℕ)
triangles_of kind s = cond (eqb kind 0) (triangles s) (fatter s (triangles s))
