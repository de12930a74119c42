-- The triangles of a survey: document 01, "Mesh". Assumes nothing.
use Rattle.std.specs.Prelude.{Bool, cond, ◌&&◌, List, map, ℕ, leb}
use Rattle.survey.specs.Survey.{Survey, place_of}
use Rattle.sweep.specs.Sweep.{Three, tri}
use Rattle.sweep.specs.Page.{page}
use Rattle.triangles.specs.Chain.{triangle_at, side_at}
use Rattle.triangles.specs.Order.{in_order}

-- 'lowest station first': the triangle turned, not turned over.
unfoldable pub lowest_first : Three ℕ → Three ℕ
lowest_first t =
    cond (leb t.a t.b && leb t.a t.c) t (cond (leb t.b t.a && leb t.b t.c) (tri t.b t.c t.a) (tri t.c t.a t.b))

-- 'Triangles are written counterclockwise, lowest station first, in the order made.'
unfoldable pub triangles : Survey → List (Three ℕ)
triangles s = map lowest_first (page (place_of s) (in_order s))

-- The i-th triangle of q with the sides above entries j to a - 1 of a chain, lowest station first.
abbrev pub fan_at : Bool → Bool → List ℕ → ℕ → ℕ → ℕ → ℕ → Three ℕ
fan_at upper falling chain j a q i = lowest_first (triangle_at upper chain q (side_at falling j a i))
