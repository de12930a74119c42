-- A level above all readings serves nothing, and one that is not above any serves all: `none_served`, `none_unserved`. Assumes nothing.
--
-- No triangle has a corner on the other side of the level, or a spot.
use mathlib.Core.Path.{◌≡◌, refl, ap, ◌∙◌}
use mathlib.Core.Bool.{Bool, true, false, not}
use mathlib.Core.List.{List, [], ◌∷◌}
use Prim.Native.Nat.{ℕ, ◌<◌}
use native.Mathlib.Omega.{arith}
use lib.IntN.{ℤ, pos}
use lib.Signed.{◌≤ℤ◌, ◌<ℤ◌}
use Rattle.whole.proofs.Bridge.{int, add, true-test, false-test}
use Rattle.sweep.specs.Members.{In, here, there, sum}
use Rattle.sweep.specs.Sweep.{Three}
use Rattle.survey.specs.Survey.{Survey, count, height_of}
use Rattle.hull.specs.MeshOf.{MeshOf}
use Rattle.spots.specs.Lines.{is_below}
use Rattle.ground.proofs.ShareLaws.{below_is}
use Rattle.parcels.specs.Area.{twice_within}
use Rattle.parcels.specs.Parts.{part_of}
use Rattle.parcels.specs.Served.{ground_of}
use Rattle.parcels.proofs.OutlineLaws.{part_none}

sum-zero : {A : Type 0} (f : A → ℤ) (l : List A) → ((x : A) → In x l → f x ≡ pos 0) → sum f l ≡ pos 0
unfolding sum
sum-zero f [] h = refl
sum-zero f (x ∷ l) h = omega (arith, int, h x (here refl), sum-zero f l (λ y i. h y (there i)), add (f x) (sum f l))

module _ (s : Survey) (ts : List (Three ℕ)) (mesh : MeshOf s ts) (slopes : List ℤ) (style : ℕ) (level : ℤ) where
  -- No station is on that side of the level.
  none_on : (side : Bool) → ((k : ℕ) → k < count s → is_below s level k ≡ not side) → ground_of s ts slopes style level side ≡ pos 0
  unfolding ground_of twice_within
  none_on side h = sum-zero (λ t. twice_within (part_of s slopes style level side t)) ts each
    where
      each : (t : Three ℕ) → In t ts → twice_within (part_of s slopes style level side t) ≡ pos 0
      each t i =
          let on = mesh.stations t i in
          ap twice_within (part_none s slopes style level side t.a t.b t.c (h t.a on.on_a) (h t.b on.on_b) (h t.c on.on_c))

  pub none_served : ((k : ℕ) → k < count s → height_of s k <ℤ level) → ground_of s ts slopes style level false ≡ pos 0
  none_served h = none_on false (λ k l. below_is s level l ∙ true-test (h k l))

  pub none_unserved : ((k : ℕ) → k < count s → level ≤ℤ height_of s k) → ground_of s ts slopes style level true ≡ pos 0
  none_unserved h = none_on true (λ k l. below_is s level l ∙ false-test (h k l))
