-- The outline of a part of a triangle, by which corners are on its side of the level: `part_none`, `part_all`, `part_one`, `part-two`; and that its
-- area is the same from whichever corner the triangle is named (`part-named`). Assumes nothing.
use mathlib.Core.Path.{◌≡◌, refl, sym, ap, ◌∙◌}
use mathlib.Core.Bool.{Bool, true, false, cond, not, beq}
use mathlib.Core.List.{List, [], ◌∷◌, ◌++◌, append_assoc}
use Prim.Native.Nat.{ℕ}
use lib.IntN.{ℤ}
use Rattle.whole.specs.Place.{Place}
use Rattle.sweep.specs.Sweep.{Three, tri}
use Rattle.survey.specs.Survey.{Survey}
use Rattle.trace.specs.Crossed.{is_crossed}
use Rattle.trace.specs.Side.{◌⟶◌}
use Rattle.spots.specs.Lines.{is_below}
use Rattle.ground.specs.Segments.{station_place, spot_place, side_spots}
use Rattle.ground.proofs.CutLaws.{Named, from_a, from_b, from_c}
use Rattle.parcels.specs.Area.{twice_within}
use Rattle.parcels.specs.Parts.{corner_on, part_of}
use Rattle.parcels.proofs.AreaLaws.{rolled}

module _ (s : Survey) (slopes : List ℤ) (style : ℕ) (level : ℤ) where
  abbrev at : ℕ → Bool
  at k = is_below s level k

  abbrev spot : ℕ → ℕ → Place
  spot i j = spot_place s slopes style level (i ⟶ j)

  -- The outline by the tests of the corners.
  abbrev part_by : Bool → Bool → Bool → Bool → Place → Place → Place → Place → Place → Place → List Place
  part_by side fa fb fc a b c ab bc ca =
      cond (beq fa side) (a ∷ []) [] ++ (cond (not (beq fa fb)) (ab ∷ []) []
      ++ (cond (beq fb side) (b ∷ []) [] ++ (cond (not (beq fb fc)) (bc ∷ []) []
      ++ (cond (beq fc side) (c ∷ []) [] ++ cond (not (beq fc fa)) (ca ∷ []) []))))

  module _ (side : Bool) (v w u : ℕ) where
    abbrev outline : Bool → Bool → Bool → List Place
    outline fv fw fu = part_by side fv fw fu (station_place s v) (station_place s w) (station_place s u) (spot v w) (spot w u) (spot u v)

    part_by_lem : part_of s slopes style level side (tri v w u) ≡ outline (at v) (at w) (at u)
    unfolding part_of corner_on side_spots is_crossed
    part_by_lem = refl

    by_tests : {fv fw fu : Bool} → at v ≡ fv → at w ≡ fw → at u ≡ fu → part_of s slopes style level side (tri v w u) ≡ outline fv fw fu
    by_tests e f g = part_by_lem ∙ (λ i. outline (e i) (f i) (g i))

  -- None of the corners are on the part's side of the level, or all; one is, or two.
  module _ (side : Bool) (v w u : ℕ) where
    pub part_none : at v ≡ not side → at w ≡ not side → at u ≡ not side → part_of s slopes style level side (tri v w u) ≡ []
    part_none e f g = by_tests side v w u e f g ∙ go side
      where
        go : (side : Bool) → outline side v w u (not side) (not side) (not side) ≡ []
        go true = refl
        go false = refl

    pub part_all : at v ≡ side → at w ≡ side → at u ≡ side
        → part_of s slopes style level side (tri v w u) ≡ station_place s v ∷ station_place s w ∷ station_place s u ∷ []
    part_all e f g = by_tests side v w u e f g ∙ go side
      where
        go : (side : Bool) → outline side v w u side side side ≡ station_place s v ∷ station_place s w ∷ station_place s u ∷ []
        go true = refl
        go false = refl

    pub part_one : at v ≡ side → at w ≡ not side → at u ≡ not side
        → part_of s slopes style level side (tri v w u) ≡ station_place s v ∷ spot v w ∷ spot u v ∷ []
    part_one e f g = by_tests side v w u e f g ∙ go side
      where
        go : (side : Bool) → outline side v w u side (not side) (not side) ≡ station_place s v ∷ spot v w ∷ spot u v ∷ []
        go true = refl
        go false = refl

    pub part-two : at v ≡ not side → at w ≡ side → at u ≡ side
        → part_of s slopes style level side (tri v w u) ≡ spot v w ∷ station_place s w ∷ station_place s u ∷ spot u v ∷ []
    part-two e f g = by_tests side v w u e f g ∙ go side
      where
        go : (side : Bool) → outline side v w u (not side) side side ≡ spot v w ∷ station_place s w ∷ station_place s u ∷ spot u v ∷ []
        go true = refl
        go false = refl

  -- The area of a part is the same from whichever corner.
  part-next : (side : Bool) (t : Three ℕ)
      → twice_within (part_of s slopes style level side t) ≡ twice_within (part_of s slopes style level side (tri t.b t.c t.a))
  unfolding part_of
  part-next side t =
      let corner = corner_on s level side in
      let spots = side_spots s slopes style level in
      let last = corner t.a ++ spots (t.a ⟶ t.b) in
      let rest = corner t.b ++ (spots (t.b ⟶ t.c) ++ (corner t.c ++ spots (t.c ⟶ t.a))) in
      ap twice_within (sym (append_assoc (corner t.a) (spots (t.a ⟶ t.b)) rest)) ∙ rolled last rest ∙ ap twice_within (simp append_assoc)

  pub part-named : (side : Bool) {t : Three ℕ} {v w u : ℕ} → Named t v w u
      → twice_within (part_of s slopes style level side t) ≡ twice_within (part_of s slopes style level side (tri v w u))
  part-named side from_a = refl
  part-named side {t} from_b = part-next side t
  part-named side {t} from_c = part-next side t ∙ part-next side (tri t.b t.c t.a)
