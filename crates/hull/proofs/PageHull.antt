-- The hull that the steps go along and the hull of the areas are one: the sides that the page's `hull_of` lists of a survey's stations are
-- exactly the pairs that pass `is_hull_side`. Assumes nothing.
use mathlib.Core.Path.{◌≡◌, sym, subst}
use mathlib.Core.Bool.{true}
use mathlib.Core.List.{List, map}
use mathlib.Core.Logic.{◌↔◌}
use Prim.Native.Nat.{ℕ}
use Rattle.survey.specs.Fit.{Fit}
use Rattle.survey.specs.Survey.{Survey, place_of}
use Rattle.sweep.specs.Hull.{HullSide}
use Rattle.sweep.specs.Members.{In}
use Rattle.sweep.specs.Page.{hull_of}
use Rattle.sweep.specs.Sweep.{edge}
use Rattle.sweep.proofs.PageHull.{page-hull}
use Rattle.triangles.specs.Order.{in_order}
use Rattle.triangles.proofs.OrderLaws.{order_in, in_order_lem}
use Rattle.triangles.proofs.SurveyLaws.{SurveyMesh, survey-mesh}
use Rattle.hull.specs.Hull.{is_hull_side}
use Rattle.hull.proofs.OutlineLaws.{side-hull, hull-side}

pub page-sides : (s : Survey) → Fit s → (i j : ℕ) → In (edge i j) (hull_of (place_of s) (in_order s)) ↔ (is_hull_side s i j ≡ true)
page-sides s fit i j = (
  λ h.
      let p = (page-hull (place_of s) (in_order s) i j).0 h in
      hull-side s fit m i j (order_in s fit {x = i} p.0) (order_in s fit {x = j} p.1) (subst Of m.order p.2),
  λ e.
      let h = side-hull s fit m i j e in
      (page-hull (place_of s) (in_order s) i j).1 (in_order_lem s fit i h.0, in_order_lem s fit j h.1, subst Of (sym m.order) h.2),
)
  where
    m : SurveyMesh s
    m = survey-mesh s fit

    -- A side of the convex outline of the stations of a list.
    Of : List ℕ → Type 0
    Of l = HullSide (λ w. In w (map (place_of s) l)) (place_of s i) (place_of s j)
