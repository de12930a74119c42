-- A reading counts where it is: the outline of a part passes a corner of its triangle exactly if the corner's reading is on the part's side of the
-- level (`reading-counts`). Assumes nothing.
--
-- An outline passes the corners of its own side, and the spots. No spot is at a corner, for the line of the two spots has no corner on it. And
-- corners on the two sides of the level are on the two sides of that line, so they are not at one place.
use mathlib.Core.Path.{◌≡◌, refl, sym, ap, ◌∙◌, subst}
use mathlib.Core.Bool.{Bool, true, false, cond, not, beq, true≢false}
use mathlib.Core.List.{List, [], ◌∷◌, ◌++◌}
use mathlib.Core.Logic.{◌⊎◌, inl, inr, ⊎_elim, ◌↔◌}
use Prim.Native.Nat.{ℕ}
use native.Mathlib.Omega.{arith}
use lib.IntN.{ℤ, pos}
use lib.Signed.{◌<ℤ◌}
use Rattle.whole.specs.Place.{Place}
use Rattle.whole.specs.Turn.{turn}
use Rattle.whole.proofs.Bridge.{int}
use Rattle.whole.proofs.TurnLaws.{turn-start, turn_end}
use Rattle.sweep.specs.Members.{In, here, there}
use Rattle.sweep.specs.Sweep.{Three}
use Rattle.sweep.proofs.MemberLaws.{any_left, any_right, any_split, any_none}
use Rattle.survey.specs.Survey.{Survey}
use Rattle.trace.specs.Side.{◌⟶◌}
use Rattle.hull.specs.MeshOf.{MeshOf, OnStations, CornerOf, at_a, at_b, at_c, twice_of}
use Rattle.spots.specs.Lines.{is_below}
use Rattle.ground.specs.Segments.{station_place, side_spots, spots_in}
use Rattle.ground.specs.Sides.{Apart, left-right, right-left, Together, left, right, Divides}
use Rattle.ground.proofs.CutLaws.{two-or_none, cut_off, uncut}
use Rattle.ground.proofs.SegmentLaws.{cut-divides}
use Rattle.parcels.specs.Parts.{corner_on, part_of}

-- ---- places on a line are on neither side of it
not_together : {p q x : Place} → turn p q x ≡ pos 0 → Together p q x x → ⊥
not_together e (left h k) = omega (arith, int)
not_together e (right h k) = omega (arith, int)

not_apart : {p q x y : Place} → x ≡ y → Apart p q x y → ⊥
not_apart {p} {q} {x} e (left-right h k) =
    let l : turn p q x <ℤ pos 0 = rw e k in
    omega (arith, int)
not_apart {p} {q} {x} e (right-left h k) =
    let l : pos 0 <ℤ turn p q x = rw e k in
    omega (arith, int)

alike-or_not : (f g : Bool) → (g ≡ f) ⊎ (g ≡ not f)
alike-or_not true true = inl refl
alike-or_not true false = inr refl
alike-or_not false true = inr refl
alike-or_not false false = inl refl

-- A member of six lists in a row is one of the first, third and fifth, or of the second, fourth and last.
by_turns : {A : Type 0} {x : A} (a b c d e f : List A) → In x (a ++ (b ++ (c ++ (d ++ (e ++ f)))))
    → (In x a ⊎ (In x c ⊎ In x e)) ⊎ In x (b ++ (d ++ f))
by_turns a b c d e f i =
    ⊎_elim (λ m. inl (inl m)) (λ i. ⊎_elim (λ m. inr (any_left (d ++ f) m)) (λ i. ⊎_elim (λ m. inl (inr (inl m))) (λ i.
    ⊎_elim (λ m. inr (any_right b (any_left f m))) (λ i. ⊎_elim (λ m. inl (inr (inr m))) (λ m. inr (any_right b (any_right d m)))
    (any_split e i)) (any_split d i)) (any_split c i)) (any_split b i)) (any_split a i)

module _ (s : Survey) (slopes : List ℤ) (style : ℕ) (level : ℤ) (side : Bool) (t : Three ℕ) where
  -- A corner of the outline is on its side of the level.
  in_corner : {p : Place} (k : ℕ) → In p (corner_on s level side k) → (is_below s level k ≡ side) × (p ≡ station_place s k)
  unfolding corner_on
  in_corner {p} k i = go (is_below s level k) side i
    where
      sole : {q : Place} → In p (q ∷ []) → p ≡ q
      sole (here e) = e
      sole (there j) = absurd (any_none j)

      go : (f g : Bool) → In p (cond (beq f g) (station_place s k ∷ []) []) → (f ≡ g) × (p ≡ station_place s k)
      go true true j = (refl, sole j)
      go true false j = absurd (any_none j)
      go false true j = absurd (any_none j)
      go false false j = (refl, sole j)

  corner-in : {k j : ℕ} → k ≡ j → is_below s level k ≡ side → In (station_place s k) (corner_on s level side j)
  unfolding corner_on
  corner-in {k} f e =
      subst (λ (i : ℕ). In (station_place s k) (cond (beq (is_below s level i) side) (station_place s i ∷ []) [])) f (go (is_below s level k) side e)
    where
      go : (f g : Bool) → f ≡ g → In (station_place s k) (cond (beq f g) (station_place s k ∷ []) [])
      go true true e = here refl
      go true false e = absurd (true≢false e)
      go false true e = absurd (true≢false (sym e))
      go false false e = here refl

  -- An outline passes the corners of its own side,
  passes_own : {k : ℕ} → CornerOf k t → is_below s level k ≡ side → In (station_place s k) (part_of s slopes style level side t)
  unfolding part_of
  passes_own (at_a f) e = any_left _ (corner-in f e)
  passes_own (at_b f) e =
      any_right (corner_on s level side t.a) (any_right (side_spots s slopes style level (t.a ⟶ t.b)) (any_left _ (corner-in f e)))
  passes_own (at_c f) e =
      let corner = corner_on s level side in
      let spots = side_spots s slopes style level in
      any_right (corner t.a) (any_right (spots (t.a ⟶ t.b)) (any_right (corner t.b) (any_right (spots (t.b ⟶ t.c)) (any_left _ (corner-in f e)))))

  -- and no others.
  module _ (on : OnStations s t) (positive : pos 0 <ℤ twice_of s t) where
    divided : {p q : Place} → spots_in s slopes style level t ≡ p ∷ q ∷ [] → Divides s level t p q
    divided e = cut-divides s slopes style level t on positive (cut_off s slopes style level t e)

    at_no_spot : {k : ℕ} → CornerOf k t → In (station_place s k) (spots_in s slopes style level t) → ⊥
    at_no_spot {k} c i =
        ⊎_elim (λ e. any_none (subst (In (station_place s k)) e i)) (λ (p, q, e). go ((divided e).alike k k c c refl) (subst (In (station_place s k)) e i))
        (two-or_none s slopes style level t)
      where
        go : {p q : Place} → Together p q (station_place s k) (station_place s k) → In (station_place s k) (p ∷ q ∷ []) → ⊥
        go {p} {q} h (here e) = not_together (ap (turn p q) e ∙ turn-start p q) h
        go {p} {q} h (there (here e)) = not_together (ap (turn p q) e ∙ turn_end p q) h
        go h (there (there j)) = any_none j

    at_one_place : {j k : ℕ} → CornerOf j t → CornerOf k t → station_place s j ≡ station_place s k → is_below s level k ≡ is_below s level j
    at_one_place {j} {k} c d f =
        ⊎_elim (λ e. uncut s slopes style level t e d c)
        (λ (p, q, e). ⊎_elim (λ g. g) (λ g. absurd (not_apart f ((divided e).unlike j k c d g))) (alike-or_not (is_below s level j) (is_below s level k)))
        (two-or_none s slopes style level t)

    passes_no_other : {k : ℕ} → CornerOf k t → In (station_place s k) (part_of s slopes style level side t) → is_below s level k ≡ side
    unfolding part_of spots_in
    passes_no_other {k} c i =
        let corner = corner_on s level side in
        let spots = side_spots s slopes style level in
        ⊎_elim (⊎_elim (own (at_a refl)) (⊎_elim (own (at_b refl)) (own (at_c refl)))) (λ m. absurd (at_no_spot c m))
        (by_turns (corner t.a) (spots (t.a ⟶ t.b)) (corner t.b) (spots (t.b ⟶ t.c)) (corner t.c) (spots (t.c ⟶ t.a)) i)
      where
        own : {j : ℕ} → CornerOf j t → In (station_place s k) (corner_on s level side j) → is_below s level k ≡ side
        own {j} d m = let r = in_corner j m in at_one_place d c (sym r.1) ∙ r.0

-- In every triangle of any mesh, at every corner, on either side of every level.
pub reading-counts : (s : Survey) (ts : List (Three ℕ)) → MeshOf s ts → (slopes : List ℤ) (style : ℕ) (level : ℤ) (side : Bool)
    → (t : Three ℕ) → In t ts → (k : ℕ) → CornerOf k t → In (station_place s k) (part_of s slopes style level side t) ↔ (is_below s level k ≡ side)
reading-counts s ts mesh slopes style level side t i k c =
    (passes_no_other s slopes style level side t (mesh.stations t i) (mesh.positive t i) c, passes_own s slopes style level side t c)
