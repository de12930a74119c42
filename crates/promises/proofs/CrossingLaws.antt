-- Demand 3, by the laws of the curve along a side and of the map. Assumes nothing.
--
-- A drawn spot is that of its bracket, so what holds of the middle of a bracket's piece holds of it.
use mathlib.Core.Bool.{true}
use mathlib.Core.List.{List}
use mathlib.Core.Path.{◌≡◌, sym, subst}
use Prim.Native.Nat.{ℕ, ◌<◌}
use lib.IntN.{ℤ}
use Rattle.sweep.specs.Sweep.{Three}
use Rattle.survey.specs.Survey.{Survey, count}
use Rattle.curve.specs.declared.side.End.{End}
use Rattle.curve.specs.declared.spot.Spot.{Spot}
use Rattle.curve.specs.Curve.{curve_of, scaled}
use Rattle.curve.specs.Spot.{Drawn}
use Rattle.curve.proofs.BracketLaws.{bracket-change, bracket_first, bracket-rising, bracket-falling}
use Rattle.curve.proofs.SpotLaws.{spot-middle, drawn-unique, drawn_none, spots-ordered}
use Rattle.trace.specs.Side.{◌⟶◌, left_corner, is_side}
use Rattle.slopes.specs.Job.{slopes_of}
use Rattle.hull.specs.MeshOf.{MeshOf}
use Rattle.spots.specs.Lines.{end_at}
use Rattle.lines.proofs.MapLaws.{one_spot, no_spot}
use Rattle.promises.specs.Crossing.{Carried, Middle, Crossing}

carried :
    (s : Survey) (ts : List (Three ℕ)) → MeshOf s ts → (level : ℤ) (style i j : ℕ) → i < count s → j < count s → is_side (left_corner ts) (i ⟶ j) ≡ true
    → Carried s ts level style i j
carried s ts mesh level style i j i-in j-in joined =
    let low = end_at s (slopes_of s) i in
    let high = end_at s (slopes_of s) j in
    record {
      one = one_spot s ts mesh level i j i-in j-in joined style;
      only = λ a b d e. drawn-unique style low high d e;
      none = λ h. (no_spot s ts mesh level i j i-in j-in joined h, λ a d. drawn_none style low high h d);
    }

middle : (style : ℕ) (low high : End) (level : ℤ) (spot : Spot) (d : Drawn style low high level spot) → Middle style low high level spot d.k
middle style low high level spot d =
    subst (λ (p : Spot). Middle style low high level p d.k) (sym d.at)
    (record {
      change = bracket-change (curve_of style low high) (scaled style level) d.bracket;
      first = bracket_first (curve_of style low high) (scaled style level) d.bracket;
      x = spot-middle low.x high.x d.k d.bracket.within;
      y = spot-middle low.y high.y d.k d.bracket.within;
    })

pub crossing : Crossing
crossing =
    record {
      carried = carried;
      middle = middle;
      ordered = λ a b order.
          record {
            spots = λ style low high p q at_a at_b. spots-ordered style low high order at_a at_b;
            rising = λ curve j k at_a at_b h. bracket-rising curve order at_a at_b h;
            falling = λ curve j k at_a at_b h. bracket-falling curve order at_a at_b h;
          };
    }
