-- The served and the unserved ground 'together .. equal 16,384 times twice the hull area', neither is negative, and 'Raising the level mustn't
-- raise the served figure': document 02, L12, over any mesh of the survey and with any slopes. Assumes nothing.
--
-- Each triangle's parts are n and 16,384 - n of its 16,384 parts, and n does not fall as the level rises; the rest is sums.
use mathlib.Core.Path.{◌≡◌, refl, ap, ◌∙◌}
use mathlib.Core.Bool.{Bool, true, false}
use mathlib.Core.List.{List, [], ◌∷◌}
use Prim.Native.Nat.{ℕ, ◌+◌, ◌*◌, ◌-◌, ◌≤◌}
use native.Mathlib.Nat.{mul-le-mul_right}
use native.Mathlib.Omega.{arith}
use lib.IntN.{ℤ, pos, negsuc, ◌+ℤ◌, ◌*ℤ◌}
use lib.Signed.{◌≤ℤ◌, ◌<ℤ◌}
use Rattle.whole.proofs.Bridge.{gain, loss, is_int, is_nat, is_add, is_mul, is_eq, is_le, int, add, mul}
use Rattle.whole.proofs.SignLaws.{nonneg-mul}
use Rattle.sweep.specs.Members.{In, here, there, sum}
use Rattle.sweep.specs.Sweep.{Three}
use Rattle.survey.specs.Survey.{Survey}
use Rattle.hull.specs.Hull.{twice_hull}
use Rattle.hull.specs.MeshOf.{MeshOf, twice_of}
use Rattle.parcels.specs.Area.{twice_within}
use Rattle.parcels.specs.Parts.{part_of}
use Rattle.parcels.specs.Served.{ground_of}
use Rattle.parcels.proofs.PartLaws.{portion_of, portion_of_le, below-area, not_below-area}
use Rattle.parcels.proofs.RiseLaws.{portion-rises}

-- ---- sums over a list, member by member
sum_nonneg : {A : Type 0} (f : A → ℤ) (l : List A) → ((x : A) → In x l → pos 0 ≤ℤ f x) → pos 0 ≤ℤ sum f l
unfolding sum
sum_nonneg f [] h = omega (arith, int)
sum_nonneg f (x ∷ l) h = omega (arith, int, h x (here refl), sum_nonneg f l (λ y i. h y (there i)), add (f x) (sum f l))

sum-le : {A : Type 0} (f g : A → ℤ) (l : List A) → ((x : A) → In x l → f x ≤ℤ g x) → sum f l ≤ℤ sum g l
unfolding sum
sum-le f g [] h = omega (arith, int)
sum-le f g (x ∷ l) h = omega (arith, int, h x (here refl), sum-le f g l (λ y i. h y (there i)), add (f x) (sum f l), add (g x) (sum g l))

sum-together : {A : Type 0} (f g e : A → ℤ) (n : ℕ) (l : List A) → ((x : A) → In x l → f x +ℤ g x ≡ pos n *ℤ e x) → sum f l +ℤ sum g l ≡ pos n *ℤ sum e l
unfolding sum
sum-together f g e n [] h = is_eq (is_nat 0) (is_mul (is_nat n) (is_nat 0)) (omega arith)
sum-together f g e n (x ∷ l) h =
    omega (
      arith,
      int,
      h x (here refl),
      sum-together f g e n l (λ y i. h y (there i)),
      add (f x) (g x),
      add (sum f l) (sum g l),
      add (f x) (sum f l),
      add (g x) (sum g l),
      add (f x +ℤ sum f l) (g x +ℤ sum g l),
      mul (pos n) (e x),
      mul (pos n) (sum e l),
      is_mul (is_nat n) (add (e x) (sum e l)),
    )

-- ---- so many parts of a number
all_parts : (n : ℕ) (z : ℤ) → n ≤ 16384 → pos (16384 - n) *ℤ z +ℤ pos n *ℤ z ≡ pos 16384 *ℤ z
all_parts n z h =
    let all : (16384 - n) + n ≡ 16384 = omega arith in
    is_eq (is_add (is_mul (is_nat (16384 - n)) (is_int z)) (is_mul (is_nat n) (is_int z))) (is_mul (is_nat 16384) (is_int z))
    (omega (arith, ap (λ (m : ℕ). m * gain z) all, ap (λ (m : ℕ). m * loss z) all))

fewer-parts : {m n : ℕ} {z : ℤ} → m ≤ n → pos 0 <ℤ z → (pos m *ℤ z) ≤ℤ (pos n *ℤ z)
fewer-parts {m} {n} {z = pos k} h l = is_le (is_mul (is_nat m) (is_nat k)) (is_mul (is_nat n) (is_nat k)) (omega (arith, mul-le-mul_right k h))
fewer-parts {z = negsuc k} h l = absurd l.lt

module _ (s : Survey) (ts : List (Three ℕ)) (mesh : MeshOf s ts) (slopes : List ℤ) (style : ℕ) where
  -- The area of a part of a triangle, on one side of the level.
  abbrev part : ℤ → Bool → Three ℕ → ℤ
  part level side t = twice_within (part_of s slopes style level side t)

  -- No part's area is negative, and neither is their sum.
  pub part-natural : (level : ℤ) (side : Bool) (t : Three ℕ) → In t ts → pos 0 ≤ℤ part level side t
  part-natural level side t i = go side
    where
      positive : (n : ℕ) → pos 0 ≤ℤ (pos n *ℤ twice_of s t)
      positive n = nonneg-mul {a = pos n} {b = twice_of s t} (omega (arith, int)) (omega (arith, int, mesh.positive t i))

      go : (side : Bool) → pos 0 ≤ℤ part level side t
      go true = rw (below-area s slopes style level t (mesh.stations t i)) (positive (portion_of s slopes style level t))
      go false = rw (not_below-area s slopes style level t (mesh.stations t i)) (positive (16384 - portion_of s slopes style level t))

  pub ground-natural : (level : ℤ) (side : Bool) → pos 0 ≤ℤ ground_of s ts slopes style level side
  unfolding ground_of
  ground-natural level side = sum_nonneg (part level side) ts (part-natural level side)

  -- 'together they must equal 16,384 times twice the hull area'
  pub ground-together : (level : ℤ) → ground_of s ts slopes style level false +ℤ ground_of s ts slopes style level true ≡ pos 16384 *ℤ twice_hull s
  unfolding ground_of
  ground-together level =
      sum-together (part level false) (part level true) (twice_of s) 16384 ts each ∙ ap (λ (z : ℤ). pos 16384 *ℤ z) mesh.areas
    where
      each : (t : Three ℕ) → In t ts → part level false t +ℤ part level true t ≡ pos 16384 *ℤ twice_of s t
      each t i =
          let on = mesh.stations t i in
          rw (not_below-area s slopes style level t on, below-area s slopes style level t on)
          (all_parts (portion_of s slopes style level t) (twice_of s t) (portion_of_le s slopes style level t on))

  -- 'Raising the level mustn't raise the served figure', in any triangle and on the whole; so it does not lower the unserved one.
  module _ (lower higher : ℤ) (order : lower ≤ℤ higher) where
    pub part_falls : (t : Three ℕ) → In t ts → part higher false t ≤ℤ part lower false t
    part_falls t i =
        let on = mesh.stations t i in
        let more = portion-rises s slopes style lower higher order t on in
        rw (not_below-area s slopes style higher t on, not_below-area s slopes style lower t on) (fewer-parts (omega (arith, more)) (mesh.positive t i))

    pub ground-falls : ground_of s ts slopes style higher false ≤ℤ ground_of s ts slopes style lower false
    unfolding ground_of
    ground-falls = sum-le (part higher false) (part lower false) ts part_falls

    pub ground-rises : ground_of s ts slopes style lower true ≤ℤ ground_of s ts slopes style higher true
    ground-rises =
        omega (
          arith,
          int,
          ground-falls,
          ground-together lower,
          ground-together higher,
          add (ground_of s ts slopes style lower false) (ground_of s ts slopes style lower true),
          add (ground_of s ts slopes style higher false) (ground_of s ts slopes style higher true),
        )
