-- The areas of a triangle's two parts: so many of 16,384 parts of the triangle's own (`below-area`), and the rest of them (`not_below-area`).
-- Assumes nothing.
--
-- A level leaves a triangle whole or cuts off one corner v. The spots are s and t 128ths from v, so that it has s·t of the 128·128 parts of the
-- triangle, and the part with the other two corners has the rest. Each part is its own outline's area.
use mathlib.Core.Path.{◌≡◌, refl, sym, ap, ◌∙◌, subst}
use mathlib.Core.Bool.{Bool, true, false, not}
use mathlib.Core.List.{List, [], ◌∷◌}
use Prim.Native.Nat.{ℕ, ◌*◌, ◌-◌, ◌≤◌}
use native.Mathlib.Nat.{mul-le-mul}
use native.Mathlib.Omega.{arith}
use lib.IntN.{ℤ, pos, ◌*ℤ◌}
use Rattle.whole.specs.Place.{Place}
use Rattle.whole.specs.Turn.{turn}
use Rattle.whole.proofs.Polynomial.{var, lit, ◌:*◌}
use Rattle.whole.proofs.Solver.{identity}
use Rattle.whole.proofs.TurnLaws.{turn-cycle}
use Rattle.sweep.specs.Sweep.{Three}
use Rattle.survey.specs.Survey.{Survey, place_of}
use Rattle.trace.specs.Side.{◌⟶◌}
use Rattle.hull.specs.MeshOf.{OnStations, twice_of}
use Rattle.spots.specs.Lines.{is_below}
use Rattle.ground.specs.Segments.{station_place, spot_place}
use Rattle.ground.proofs.CutLaws.{Named, from_a, from_b, from_c, named_on}
use Rattle.ground.proofs.ShareLaws.{share_of, Shared, not_back, shared}
use Rattle.parcels.specs.Area.{twice_within}
use Rattle.parcels.specs.Parts.{part_of}
use Rattle.parcels.proofs.AreaLaws.{whole-area, corner-area, rest-area}
use Rattle.parcels.proofs.OutlineLaws.{part_none, part_all, part_one, part-two, part-named}

module _ {s : Survey} {slopes : List ℤ} {style : ℕ} {level : ℤ} {i j : ℕ} (h : Shared s slopes style level i j) where
  pub from_le : share_of s slopes style level i j ≤ 128
  from_le = omega (arith, h.all)

  pub to_le : share_of s slopes style level j i ≤ 128
  to_le = omega (arith, h.all)

-- A corner on one side of the level and one on the other.
pub unlike : (side : Bool) {f g : Bool} → f ≡ side → g ≡ not side → g ≡ not f
unlike side e f = f ∙ ap not (sym e)

pub unlike_back : (side : Bool) {f g : Bool} → f ≡ not side → g ≡ side → g ≡ not f
unlike_back side {g = g} e f = not_back g (e ∙ ap not (sym f))

-- Twice the area of a triangle, from whichever corner.
pub turn-named : (s : Survey) {t : Three ℕ} {v w u : ℕ} → Named t v w u → turn (place_of s v) (place_of s w) (place_of s u) ≡ twice_of s t
turn-named s from_a = refl
turn-named s {t} from_b = sym (turn-cycle (place_of s t.a) (place_of s t.b) (place_of s t.c))
turn-named s {t} from_c = turn-cycle (place_of s t.c) (place_of s t.a) (place_of s t.b)

module _ (s : Survey) (slopes : List ℤ) (style : ℕ) (level : ℤ) where
  abbrev at : ℕ → Bool
  at k = is_below s level k

  abbrev spot : ℕ → ℕ → Place
  spot i j = spot_place s slopes style level (i ⟶ j)

  abbrev share : ℕ → ℕ → ℕ
  share = share_of s slopes style level

  -- ---- how many of the 16,384 parts of a triangle a side of the level has
  pub data Portion (t : Three ℕ) (side : Bool) : ℕ → Type 0 where
    none : at t.a ≡ not side → at t.b ≡ not side → at t.c ≡ not side → Portion t side 0
    all : at t.a ≡ side → at t.b ≡ side → at t.c ≡ side → Portion t side 16384
    one : {v w u : ℕ} → Named t v w u → at v ≡ side → at w ≡ not side → at u ≡ not side → Portion t side (share v w * share v u)
    two : {v w u : ℕ} → Named t v w u → at v ≡ not side → at w ≡ side → at u ≡ side → Portion t side (16384 - share v w * share v u)

  pub portion_by : (t : Three ℕ) → (n : ℕ) × Portion t true n
  portion_by t = go (at t.a) (at t.b) (at t.c) refl refl refl
    where
      go : (fa fb fc : Bool) → at t.a ≡ fa → at t.b ≡ fb → at t.c ≡ fc → (n : ℕ) × Portion t true n
      go true true true e f g = (_, all e f g)
      go true true false e f g = (_, two from_c g e f)
      go true false true e f g = (_, two from_b f g e)
      go true false false e f g = (_, one from_a e f g)
      go false true true e f g = (_, two from_a e f g)
      go false true false e f g = (_, one from_b f g e)
      go false false true e f g = (_, one from_c g e f)
      go false false false e f g = (_, none e f g)

  nothing : (z : ℤ) → twice_within [] ≡ pos 0 *ℤ z
  unfolding twice_within
  nothing z = identity (z ∷ []) (lit (pos 0)) (lit (pos 0) :* var 0) refl

  module _ {t : Three ℕ} (on : OnStations s t) where
    -- A corner v that is on another side of the level than w and u: what is cut off, and what is left.
    module _ {v w u : ℕ} (named : Named t v w u) (e : at w ≡ not (at v)) (f : at u ≡ not (at v)) where
      pub on_first : Shared s slopes style level v w
      on_first = let k = named_on s on named in shared s slopes style level k.0 k.1 e

      pub on_last : Shared s slopes style level u v
      on_last = let k = named_on s on named in shared s slopes style level k.2 k.0 (not_back (at v) f)

      pub cut-area : twice_within (station_place s v ∷ spot v w ∷ spot u v ∷ []) ≡ pos (share v w * share v u) *ℤ twice_of s t
      cut-area = corner-area on_first.forth on_last.back ∙ ap (λ (z : ℤ). pos (share v w * share v u) *ℤ z) (turn-named s named)

      pub left-area :
          twice_within (spot v w ∷ station_place s w ∷ station_place s u ∷ spot u v ∷ []) ≡ pos (16384 - share v w * share v u) *ℤ twice_of s t
      left-area =
          rest-area on_first.forth on_last.back (from_le on_first) (to_le on_last)
          ∙ ap (λ (z : ℤ). pos (16384 - share v w * share v u) *ℤ z) (turn-named s named)

      parts-le : share v w * share v u ≤ 16384
      parts-le = mul-le-mul (from_le on_first) (to_le on_last)

    portion-area : (side : Bool) {n : ℕ} → Portion t side n → twice_within (part_of s slopes style level side t) ≡ pos n *ℤ twice_of s t
    portion-area side (none e f g) = ap twice_within (part_none s slopes style level side _ _ _ e f g) ∙ nothing (twice_of s t)
    portion-area side (all e f g) =
        ap twice_within (part_all s slopes style level side _ _ _ e f g) ∙ whole-area (place_of s t.a) (place_of s t.b) (place_of s t.c)
    portion-area side (one k e f g) =
        part-named s slopes style level side k ∙ ap twice_within (part_one s slopes style level side _ _ _ e f g)
        ∙ cut-area k (unlike side e f) (unlike side e g)
    portion-area side (two k e f g) =
        part-named s slopes style level side k ∙ ap twice_within (part-two s slopes style level side _ _ _ e f g)
        ∙ left-area k (unlike_back side e f) (unlike_back side e g)

    -- No side has more parts than the triangle, and the other has the rest.
    pub portion-le : {n : ℕ} → Portion t true n → n ≤ 16384
    portion-le (none e f g) = omega arith
    portion-le (all e f g) = omega arith
    portion-le (one k e f g) = parts-le k (unlike true e f) (unlike true e g)
    portion-le (two k e f g) = omega arith

    portion-over : {n : ℕ} → Portion t true n → Portion t false (16384 - n)
    portion-over (none e f g) = all e f g
    portion-over (all e f g) = none e f g
    portion-over (one k e f g) = two k e f g
    portion-over (two k e f g) =
        let l = parts-le k (unlike_back true e f) (unlike_back true e g) in
        subst (Portion t false) (omega (arith, l)) (one k e f g)

-- How many of the 16,384 parts of a triangle are below the level.
unfoldable pub portion_of : Survey → List ℤ → ℕ → ℤ → Three ℕ → ℕ
portion_of s slopes style level t = (portion_by s slopes style level t).0

module _ (s : Survey) (slopes : List ℤ) (style : ℕ) (level : ℤ) (t : Three ℕ) where
  pub portion_is : Portion s slopes style level t true (portion_of s slopes style level t)
  unfolding portion_of
  portion_is = (portion_by s slopes style level t).1

  module _ (on : OnStations s t) where
    pub portion_of_le : portion_of s slopes style level t ≤ 16384
    portion_of_le = portion-le s slopes style level on portion_is

    pub below-area : twice_within (part_of s slopes style level true t) ≡ pos (portion_of s slopes style level t) *ℤ twice_of s t
    below-area = portion-area s slopes style level on true portion_is

    pub not_below-area : twice_within (part_of s slopes style level false t) ≡ pos (16384 - portion_of s slopes style level t) *ℤ twice_of s t
    not_below-area = portion-area s slopes style level on false (portion-over s slopes style level on portion_is)
