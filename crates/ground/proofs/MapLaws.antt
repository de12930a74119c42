-- What is drawn on the whole map, over any mesh: two segments of any two levels in one style that meet in a place inside both are one
-- (`map_one_segment`), so none cross properly (`map-never-crosses`); a segment is that of one triangle only (`own_triangle`); and no station is
-- on one (`station_off`). Assumes nothing.
--
-- All of a segment but its ends is strictly inside its triangle, and no place is strictly inside two. So segments that meet inside both are
-- of one triangle; there they are one, and one segment does not cross itself. A station that is on a segment lies in its triangle, so it is
-- a corner; but no corner is on the line of the segment.
use mathlib.Core.Path.{◌≡◌, refl, sym, ap, ◌∙◌, subst, subst₂}
use mathlib.Core.List.{List}
use mathlib.Core.Logic.{◌⊎◌, inl, inr}
use Prim.Native.Nat.{ℕ, ◌+◌, ◌*◌, ◌<◌}
use native.Mathlib.Omega.{arith}
use lib.IntN.{ℤ, pos, ◌*ℤ◌}
use lib.Signed.{◌≤ℤ◌, ◌<ℤ◌}
use Rattle.whole.specs.Place.{Place}
use Rattle.whole.specs.Turn.{turn}
use Rattle.whole.proofs.Bridge.{int}
use Rattle.whole.proofs.OrderLaws.{same_place}
use Rattle.whole.proofs.SignLaws.{positive-mul, nonneg_of_mul, zero_of_mul}
use Rattle.sweep.specs.Cover.{Holds, Inside, scale, big}
use Rattle.sweep.specs.Members.{In}
use Rattle.sweep.specs.Sweep.{Three, EdgeOf}
use Rattle.sweep.proofs.CoverLaws.{scale-area}
use Rattle.survey.specs.Survey.{Survey, count, place_of}
use Rattle.hull.specs.MeshOf.{placed, MeshOf}
use Rattle.ground.specs.Meeting.{MeetInside, CrossProperly}
use Rattle.ground.specs.Segments.{station_place, segments}
use Rattle.ground.specs.Sides.{mixed, Together, left, right}
use Rattle.ground.proofs.AlongLaws.{scale-scale}
use Rattle.ground.proofs.CutLaws.{Ends, CutOff}
use Rattle.ground.proofs.LevelLaws.{cuts-meet, one_not_proper}
use Rattle.ground.proofs.MeetingLaws.{on_own_line}
use Rattle.ground.proofs.SegmentLaws.{cut-divides, cut_inside, cut_holds}
use Rattle.ground.proofs.StepLaws.{SegmentOf, segment-cut}

module _ (s : Survey) (ts : List (Three ℕ)) (mesh : MeshOf s ts) (slopes : List ℤ) (style : ℕ) where
  -- Inside a segment is strictly inside its triangle.
  inside_own : (level : ℤ) {p q : Place} (g : SegmentOf s ts mesh level slopes style p q) (m n : ℕ) → 0 < m → 0 < n
      → Inside (big ((m + n) * 128) (placed s g.t)) (mixed m p n q)
  inside_own level g = cut_inside s slopes style level g.t (mesh.stations g.t g.in_mesh) (mesh.positive g.t g.in_mesh) g.cut

  -- Segments that meet in a place inside both are of one triangle.
  meet_in_one : (a b : ℤ) {p q x y : Place} (g : SegmentOf s ts mesh a slopes style p q) (h : SegmentOf s ts mesh b slopes style x y) → MeetInside p q x y
      → g.t ≡ h.t
  meet_in_one a b {p} {q} {x} {y} g h m =
      mesh.inside ((m.m + m.n) * 128) (omega (arith, m.some-m)) (mixed m.m p m.n q) g.t h.t g.in_mesh h.in_mesh
      (inside_own a g m.m m.n m.some-m m.some-n)
      (subst₂ (λ k r. Inside (big (k * 128) (placed s h.t)) r) (sym m.parts) (sym m.same)
      (inside_own b h m.i m.j m.some-i m.some-j))

  -- A segment is that of one triangle only.
  pub own_triangle : (level : ℤ) (t u : Three ℕ) → In t ts → In u ts → {p q : Place} → CutOff s slopes style level t p q
      → CutOff s slopes style level u p q ⊎ CutOff s slopes style level u q p → t ≡ u
  own_triangle level t u i j {p} {q} c d = go d
    where
      some : 0 < 1
      some = omega arith

      halfway : {x y : Place} → mixed 1 p 1 q ≡ mixed 1 x 1 y → MeetInside p q x y
      halfway e = record { m = 1; n = 1; i = 1; j = 1; some-m = some; some-n = some; some-i = some; some-j = some; parts = refl; same = e }

      go : CutOff s slopes style level u p q ⊎ CutOff s slopes style level u q p → t ≡ u
      go (inl d) = meet_in_one level level (record { t = t; in_mesh = i; cut = c }) (record { t = u; in_mesh = j; cut = d }) (halfway refl)
      go (inr d) =
          meet_in_one level level (record { t = t; in_mesh = i; cut = c }) (record { t = u; in_mesh = j; cut = d })
          (halfway (same_place (omega arith) (omega arith)))

  -- So segments that meet in a place inside both are one.
  pub map_one_segment : (a b : ℤ) {e f : EdgeOf Place} → In e (segments s ts slopes style a) → In f (segments s ts slopes style b)
      → MeetInside e.from e.to f.from f.to → Ends e.from e.to f.from f.to
  map_one_segment a b {e} {f} i j m =
      let g = segment-cut s ts mesh a slopes style i in
      let h = segment-cut s ts mesh b slopes style j in
      cuts-meet s slopes style g.t (mesh.stations g.t g.in_mesh) (mesh.positive g.t g.in_mesh) a b g.cut
      (subst (λ t. CutOff s slopes style b t f.from f.to) (sym (meet_in_one a b g h m)) h.cut) m

  pub map-never-crosses : (a b : ℤ) {e f : EdgeOf Place} → In e (segments s ts slopes style a) → In f (segments s ts slopes style b)
      → CrossProperly e.from e.to f.from f.to → ⊥
  map-never-crosses a b i j c = one_not_proper (map_one_segment a b i j c.meet) c

  -- ---- stations
  module _ (level : ℤ) (k : ℕ) (k-in : k < count s) (m n : ℕ) (some : 0 < m + n) where
    more : pos 0 <ℤ pos ((m + n) * 128)
    more = omega (arith, int)

    unscaled : (a b : Place) → pos 0 ≤ℤ turn (scale ((m + n) * 128) a) (scale ((m + n) * 128) b) (scale (m + n) (station_place s k))
        → pos 0 ≤ℤ turn a b (place_of s k)
    unscaled a b h =
        nonneg_of_mul (positive-mul more more)
        (rw (scale-scale (m + n) 128 (place_of s k), scale-area ((m + n) * 128) a b (place_of s k)) at h)

    off_line : {p q : Place} → Together p q (station_place s k) (station_place s k) → turn p q (station_place s k) ≡ pos 0 → ⊥
    off_line (left h l) e = omega (arith, int)
    off_line (right h l) e = omega (arith, int)

    on_line : (p q : Place) → mixed m p n q ≡ scale (m + n) (station_place s k) → turn p q (station_place s k) ≡ pos 0
    on_line p q e =
        let many : pos 0 <ℤ pos (m + n) = omega (arith, int) in
        let square : pos 0 <ℤ (pos (m + n) *ℤ pos (m + n)) = positive-mul many many in
        zero_of_mul {a = pos (m + n) *ℤ pos (m + n)} (λ z. omega (arith, int, z))
        (sym (scale-area (m + n) p q (station_place s k)) ∙ ap (turn (scale (m + n) p) (scale (m + n) q)) (sym e) ∙ on_own_line p q m n)

    -- No place of a segment, its ends counted, is a station's.
    pub station_off : {e : EdgeOf Place} → In e (segments s ts slopes style level) → mixed m e.from n e.to ≡ scale (m + n) (station_place s k) → ⊥
    station_off {e} i f =
        let g = segment-cut s ts mesh level slopes style i in
        let on = mesh.stations g.t g.in_mesh in
        let positive = mesh.positive g.t g.in_mesh in
        let h = subst (Holds turn (big ((m + n) * 128) (placed s g.t))) f (cut_holds s slopes style level g.t on positive g.cut m n) in
        let held : Holds turn (placed s g.t) (place_of s k) =
        record {
          ab = unscaled (placed s g.t).a (placed s g.t).b h.ab;
          bc = unscaled (placed s g.t).b (placed s g.t).c h.bc;
          ca = unscaled (placed s g.t).c (placed s g.t).a h.ca;
        } in
        let corner = mesh.clear g.t g.in_mesh k k-in held in
        off_line ((cut-divides s slopes style level g.t on positive g.cut).alike k k corner corner refl) (on_line e.from e.to f)
