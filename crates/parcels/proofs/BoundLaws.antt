-- How large the figures get: twice the hull's area is at most 2 · 8,191 · 8,191, and the ground 16,384 times that, 2,198,486,417,408. Assumes
-- nothing.
--
-- The hull lies between two chains from the first station to the last. Under each side of a chain stands a trapezoid on the x axis, of
-- twice the area (x_t - x_s)·(y_s + y_t). The hull has those of the upper chain less those of the lower: at most twice 8,191 by the
-- width of the chain.
use mathlib.Core.Path.{◌≡◌, ap}
use mathlib.Core.Bool.{Bool, true, false}
use mathlib.Core.List.{List, map}
use Prim.Native.Nat.{ℕ, ◌+◌, ◌*◌, ◌-◌, ◌≤◌}
use native.Mathlib.Nat.{mul-le-mul_left, mul-le-mul_right}
use native.Mathlib.Omega.{arith}
use lib.IntN.{ℤ, pos}
use lib.Signed.{◌≤ℤ◌}
use Rattle.whole.specs.Place.{Place, Before, rightward, upward}
use Rattle.whole.proofs.Bridge.{int, add, mul}
use Rattle.sweep.specs.Boundary.{back, on, along}
use Rattle.sweep.specs.Hull.{cross}
use Rattle.sweep.specs.Members.{total}
use Rattle.sweep.specs.Rising.{Rises}
use Rattle.sweep.specs.Sweep.{Three, mesh, pairs}
use Rattle.sweep.proofs.AreaLaws.{sum_is, xy, cross_is, total-outline}
use Rattle.sweep.proofs.Invariants.{mesh-inv}
use Rattle.sweep.proofs.Slopes.{Slopes}
use Rattle.sweep.proofs.Stack.{Chain, bottom, more, top_in}
use Rattle.survey.specs.Fit.{Fit}
use Rattle.survey.specs.Limits.{most_ground}
use Rattle.survey.specs.Survey.{Survey, place_of}
use Rattle.triangles.proofs.OrderLaws.{order-sorted, sorted_rises}
use Rattle.triangles.proofs.SurveyLaws.{SurveyMesh, survey-mesh}
use Rattle.hull.specs.Hull.{twice_hull}
use Rattle.hull.specs.MeshOf.{MeshOf}
use Rattle.hull.proofs.OutlineLaws.{Station, rim, station_of, rim-area}
use Rattle.parcels.specs.Served.{ground_of}
use Rattle.parcels.proofs.GroundLaws.{ground-natural, ground-together}

not_left : {a b : Place} → Before a b → a.x ≤ b.x
not_left (rightward h) = omega arith
not_left (upward e h) = omega arith

-- A side's trapezoid is at most 16,382 by its width, and not negative.
trapezoid-most : (a b c d : ℕ) → a ≤ c → b ≤ 8191 → d ≤ 8191 → c * b + c * d + 16382 * a ≤ a * d + a * b + 16382 * c
trapezoid-most a b c d h k l =
    let wide : a + (c - a) ≡ c = omega arith in
    let tall : b + d ≤ 16382 = omega arith in
    omega (arith, mul-le-mul_left (c - a) tall, ap (λ (n : ℕ). n * b) wide, ap (λ (n : ℕ). n * d) wide)

trapezoid-least : (a b c d : ℕ) → a ≤ c → a * d + a * b ≤ c * b + c * d
trapezoid-least a b c d h = omega (arith, mul-le-mul_right b h, mul-le-mul_right d h)

module _ {o : Slopes} {S : Place → Type 0} {z : Place} where
  chain-most : ((w : Place) → S w → w.y ≤ 8191) → {t : Place} {l : List Place} → Chain o S z t l
      → along (back xy) t l + t.x * t.y + 16382 * z.x ≤ along xy t l + z.x * z.y + 16382 * t.x
  unfolding pairs total
  chain-most low (bottom i) = omega arith
  chain-most low (more {t} {s} side chain) =
      omega (arith, chain-most low chain, trapezoid-most s.x s.y t.x t.y (not_left side.lex) (low s side.from) (low t side.to))

  chain-least : {t : Place} {l : List Place} → Chain o S z t l → along xy t l + z.x * z.y ≤ along (back xy) t l + t.x * t.y
  unfolding pairs total
  chain-least (bottom i) = omega arith
  chain-least (more {t} {s} side chain) = omega (arith, chain-least chain, trapezoid-least s.x s.y t.x t.y (not_left side.lex))

module _ (s : Survey) (fit : Fit s) where
  -- The hull lies in the square of the coordinates.
  pub hull-most : twice_hull s ≤ℤ pos 134184962
  hull-most = go (survey-mesh s fit)
    where
      go : SurveyMesh s → twice_hull s ≤ℤ pos 134184962
      go m =
          let r : Rises (place_of s m.first) (map (place_of s) m.rest) =
          sorted_rises (place_of s) m.first m.rest (rw m.order at (order-sorted s fit)) in
          let inv = mesh-inv (place_of s m.first) (map (place_of s) m.rest) r in
          let swept = mesh (place_of s m.first) (map (place_of s) m.rest) in
          omega (
            arith,
            int,
            rim-area s fit m,
            (sum_is (λ e. cross e.from e.to) (on xy) (on (back xy)) (λ e. cross_is e.from e.to) (rim s fit m)).is,
            total-outline xy swept,
            total-outline (back xy) swept,
            chain-most y-most inv.high,
            chain-least inv.low,
            x-most swept.top (top_in inv.low),
          )
        where
          y-most : (w : Place) → Station s fit m w → w.y ≤ 8191
          y-most w i = let k = station_of s fit m w i in rw k.2 (fit.y-range k.0 k.1)

          x-most : (w : Place) → Station s fit m w → w.x ≤ 8191
          x-most w i = let k = station_of s fit m w i in rw k.2 (fit.x-range k.0 k.1)

  -- No figure is more than 16,384 times that, whatever the mesh, the slopes, the style and the level.
  pub ground-most : (ts : List (Three ℕ)) → MeshOf s ts → (slopes : List ℤ) (style : ℕ) (level : ℤ) (side : Bool)
      → ground_of s ts slopes style level side ≤ℤ pos most_ground
  ground-most ts mesh slopes style level side = go side
    where
      ground : Bool → ℤ
      ground = ground_of s ts slopes style level

      both : (ground false ≤ℤ pos most_ground) × (ground true ≤ℤ pos most_ground)
      both =
          let natural = ground-natural s ts mesh slopes style level in
          let together = ground-together s ts mesh slopes style level in (
            omega (arith, int, natural true, hull-most, together, add (ground false) (ground true), mul (pos 16384) (twice_hull s)),
            omega (arith, int, natural false, hull-most, together, add (ground false) (ground true), mul (pos 16384) (twice_hull s)),
          )

      go : (side : Bool) → ground side ≤ℤ pos most_ground
      go true = both.1
      go false = both.0
