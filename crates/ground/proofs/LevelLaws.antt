-- Two levels over one triangle: in one style their drawn segments do not cross properly (`never-cross`), and meet inside both only where they are
-- one (`cuts-meet`); the lower level's keeps to the side of the corners below the higher one, or to its line (`never-beyond`,
-- `all_below`). Assumes nothing.
--
-- A place s and one t 128ths from v along its sides are given. A place α 128ths toward w and β toward u is on v's side of their line, or on
-- it, where t·α + s·β ≤ s·t, and beyond it or on it where s·t ≤ t·α + s·β. Where both levels cut off the corner v, the higher one's spots
-- are farther from it on both sides, or nearer on both. Where the lower level cuts off v and the higher another corner, v is below both
-- levels, that corner below neither and the third between; then the lower one's spots are beyond the higher one's line. So the lower
-- segment is on one side of the higher one's line, that of the corners below the higher level (`sided`). If a place inside it is on the line
-- its ends are, and then they are the higher one's ends (`ends_one`).
use mathlib.Core.Path.{◌≡◌, refl, sym, ap, ◌∙◌, subst₂}
use mathlib.Core.Bool.{Bool, true, false, not, true≢false}
use mathlib.Core.List.{List, [], ◌∷◌}
use mathlib.Core.Logic.{inl, inr}
use Prim.Native.Nat.{ℕ, zero, suc, ◌+◌, ◌*◌, ◌≤◌, ◌<◌}
use native.Mathlib.Nat.{mul-le-mul_left, mul-le-mul_right, mul-lt-mul_of_pos_left}
use native.Mathlib.Omega.{arith}
use native.Mathlib.Decide.{dec_le, dec_lt}
use lib.IntN.{ℤ, pos, negsuc, ◌+ℤ◌, ◌-ℤ◌, ◌*ℤ◌}
use lib.Signed.{lt_z, ◌≤ℤ◌, ◌<ℤ◌}
use Rattle.whole.specs.Place.{Place}
use Rattle.whole.specs.Turn.{across, climb, turn, bend}
use Rattle.whole.proofs.Bridge.{gain, int, mul, minus, test-true, test-false}
use Rattle.whole.proofs.OrderLaws.{same_place}
use Rattle.whole.proofs.Polynomial.{lit}
use Rattle.whole.proofs.SignLaws.{nonneg-mul, zero_of_mul}
use Rattle.whole.proofs.Solver.{identity}
use Rattle.whole.proofs.TurnLaws.{coordinates, Bend}
use Rattle.sweep.specs.Sweep.{Three}
use Rattle.survey.specs.Survey.{Survey, count}
use Rattle.trace.specs.Side.{◌⟶◌}
use Rattle.hull.specs.MeshOf.{CornerOf, OnStations, twice_of}
use Rattle.spots.specs.Lines.{is_below}
use Rattle.ground.specs.Meeting.{MeetInside, CrossProperly}
use Rattle.ground.specs.Segments.{station_place, spot_place, spots_in}
use Rattle.ground.specs.Sides.{Apart, left-right, right-left, Together, left, right}
use Rattle.ground.proofs.AlongLaws.{Along, At, turn_along, at_first, at_second, at_across}
use Rattle.ground.proofs.ShareLaws.{share_of, Shared, below-rises, share-rises}
use Rattle.ground.proofs.CutLaws.{Named, next-named, named-corner, named_on, named-left, Turned, same, next, before, named-twice, Ends, unlike_back, CutOff, cut_off, uncut}
use Rattle.ground.proofs.MeetingLaws.{Cancel, none, more-less, less-more, cancel, turns-cancel, meet_back, meet-turned, together-turned}
use Rattle.ground.proofs.SegmentLaws.{on_first, on_second, Hand, own, other, hand}

-- ---- one side of a line
-- u and v lie left of the line from p to q, or on it, where the test f is true, and right of it, or on it, where it is false.
data OneSide (f : Bool) (p q u v : Place) : Type 0 where
  on_left : f ≡ true → pos 0 ≤ℤ turn p q u → pos 0 ≤ℤ turn p q v → OneSide f p q u v
  on_right : f ≡ false → turn p q u ≤ℤ pos 0 → turn p q v ≤ℤ pos 0 → OneSide f p q u v

one_side : {f : Bool} {p q u v : Place} → OneSide f p q u v → Apart p q u v → ⊥
one_side (on_left e h k) (left-right l m) = omega (arith, int)
one_side (on_left e h k) (right-left l m) = omega (arith, int)
one_side (on_right e h k) (left-right l m) = omega (arith, int)
one_side (on_right e h k) (right-left l m) = omega (arith, int)

apart-flipped : {p q u v : Place} → Apart p q u v → Apart p q v u
apart-flipped (left-right h k) = right-left k h
apart-flipped (right-left h k) = left-right k h

not_more-mul : {a b : ℤ} → pos 0 ≤ℤ a → b ≤ℤ pos 0 → (a *ℤ b) ≤ℤ pos 0
not_more-mul {a = pos a} {b = pos zero} h k = omega (arith, int, mul (pos a) (pos 0))
not_more-mul {a = pos a} {b = pos (suc b)} h k = absurd (omega (arith, int))
not_more-mul {a = pos a} {b = negsuc b} h k = omega (arith, int, mul (pos a) (negsuc b))
not_more-mul {a = negsuc a} h k = absurd (omega (arith, int))

module _ {v w u p q r o : Place} {s t α β γ δ : ℕ} (area : pos 0 <ℤ turn v w u) (at_p : Along v w s p) (at-q : Along v u t q)
    (at-r : At v w u α β r) (at-o : At v w u γ δ o) where
  near-side : {f : Bool} → f ≡ true → t * α + s * β ≤ s * t → t * γ + s * δ ≤ s * t → OneSide f p q r o
  near-side e h k =
      on_left e
      (rw (turn_along at_p at-q at-r) (nonneg-mul {a = turn v w u} (omega (arith, int)) (omega (arith, int, minus (pos (s * t)) (pos (t * α + s * β))))))
      (rw (turn_along at_p at-q at-o) (nonneg-mul {a = turn v w u} (omega (arith, int)) (omega (arith, int, minus (pos (s * t)) (pos (t * γ + s * δ))))))

  far-side : {f : Bool} → f ≡ false → s * t ≤ t * α + s * β → s * t ≤ t * γ + s * δ → OneSide f p q r o
  far-side e h k =
      on_right e
      (rw (turn_along at_p at-q at-r) (not_more-mul {a = turn v w u} (omega (arith, int)) (omega (arith, int, minus (pos (s * t)) (pos (t * α + s * β))))))
      (rw (turn_along at_p at-q at-o) (not_more-mul {a = turn v w u} (omega (arith, int)) (omega (arith, int, minus (pos (s * t)) (pos (t * γ + s * δ))))))

-- A place of the side across is beyond every line that cuts off the corner.
beyond : {s t : ℕ} (x y : ℕ) → 0 < s → 0 < t → s < 128 → t < 128 → x + y ≡ 128 → s * t < t * x + s * y
beyond {s} {t} x y a b h k e = go (dec_le s t)
  where
    go : Dec (s ≤ t) → s * t < t * x + s * y
    go (yes l) = omega (arith, mul-le-mul_right x l, mul-lt-mul_of_pos_left k a, ap (λ (n : ℕ). s * n) e)
    go (no l) =
        let m : t ≤ s = omega arith in
        omega (arith, mul-le-mul_right y m, mul-lt-mul_of_pos_left h b, ap (λ (n : ℕ). t * n) e)

-- A place on the line of two others, by their 128ths; and places as far along one side are one.
on_line : {v w u p q r : Place} {s t α β : ℕ} → pos 0 <ℤ turn v w u → Along v w s p → Along v u t q → At v w u α β r → turn p q r ≡ pos 0
    → s * t ≡ t * α + s * β
on_line {v} {w} {u} {s = s} {t = t} {α = α} {β = β} area at_p at-q at-r e =
    let z : pos (s * t) -ℤ pos (t * α + s * β) ≡ pos 0 =
    zero_of_mul {a = turn v w u} (λ f. omega (arith, int, area, f)) (sym (turn_along at_p at-q at-r) ∙ e) in
    omega (arith, int, z, minus (pos (s * t)) (pos (t * α + s * β)))

same_along : {v w p q : Place} {m n : ℕ} → Along v w m p → Along v w n q → m ≡ n → p ≡ q
same_along {v} {w} h k e =
    same_place
    (ap gain (h.x-along ∙ ap (λ i. pos 128 *ℤ pos v.x +ℤ pos i *ℤ (pos w.x -ℤ pos v.x)) e ∙ sym k.x-along))
    (ap gain (h.y-along ∙ ap (λ i. pos 128 *ℤ pos v.y +ℤ pos i *ℤ (pos w.y -ℤ pos v.y)) e ∙ sym k.y-along))

same_factor : (n : ℕ) {a b : ℕ} → 0 < n → n * a ≡ n * b → a ≡ b
same_factor n {a} {b} h e = go (dec_lt a b) (dec_lt b a)
  where
    go : Dec (a < b) → Dec (b < a) → a ≡ b
    go (yes l) _ = absurd (omega (arith, mul-lt-mul_of_pos_left l h))
    go (no _) (yes l) = absurd (omega (arith, mul-lt-mul_of_pos_left l h))
    go (no l) (no m) = omega arith

-- ---- two levels
module _ (s : Survey) (slopes : List ℤ) (style : ℕ) (lower higher : ℤ) (order : lower ≤ℤ higher) (t : Three ℕ) (on : OnStations s t)
    (positive : pos 0 <ℤ twice_of s t) where
  abbrev low : ℕ → ℕ → ℕ
  low = share_of s slopes style lower

  abbrev high : ℕ → ℕ → ℕ
  high = share_of s slopes style higher

  abbrev spot : ℤ → ℕ → ℕ → Place
  spot level i j = spot_place s slopes style level (i ⟶ j)

  abbrev L : ℕ → Bool
  L k = is_below s lower k

  abbrev H : ℕ → Bool
  H k = is_below s higher k

  -- What is below the lower level is below the higher; and from a station that is below the lower level to one that is not below the
  -- higher, the higher level's spot is as far, or farther.
  rises : {k : ℕ} → k < count s → L k ≡ true → H k ≡ true
  rises {k} = below-rises s slopes style order k

  farther : {i j : ℕ} → i < count s → j < count s → L i ≡ true → H j ≡ false → low i j ≤ high i j
  farther = share-rises s slopes style order

  -- A level cuts off the corner v, with its spots on the sides to w and u.
  record Off (level : ℤ) (v w u : ℕ) : Type 0 where
    first : is_below s level w ≡ not (is_below s level v)
    second : is_below s level u ≡ not (is_below s level v)
    on_w : Shared s slopes style level v w
    on_u : Shared s slopes style level v u

  off : (level : ℤ) {p q : Place} (c : CutOff s slopes style level t p q) → Off level c.v c.w c.u
  off level c =
      record {
        first = c.w-unlike;
        second = c.u-unlike;
        on_w = on_first s slopes style level t on positive c;
        on_u = on_second s slopes style level t on positive c;
      }

  -- A place of the side across from the corner that is cut off is beyond the segment.
  across-far : {level : ℤ} {x y z : ℕ} (h : Off level x y z) (m n : ℕ) → m + n ≡ 128
      → share_of s slopes style level x y * share_of s slopes style level x z < share_of s slopes style level x z * m + share_of s slopes style level x y * n
  across-far h m n e =
      beyond m n h.on_w.some_from h.on_u.some_from (omega (arith, h.on_w.all, h.on_w.some_to)) (omega (arith, h.on_u.all, h.on_u.some_to)) e

  -- The lower level cuts off v.
  module _ {v w u : ℕ} (named : Named t v w u) (l : Off lower v w u) where
    v_in : v < count s
    v_in = (named_on s on named).0

    w_in : w < count s
    w_in = (named_on s on named).1

    u_in : u < count s
    u_in = (named_on s on named).2

    -- If v is not below, the other two are below both levels, and only v can be cut off by the higher.
    both_below : L v ≡ false → (H w ≡ true) × (H u ≡ true)
    both_below e = (rises w_in (l.first ∙ ap not e), rises u_in (l.second ∙ ap not e))

    -- The higher one cuts off x.
    sided : {x y z : ℕ} → (f : Bool) → L v ≡ f → Turned v w u x y z → Off higher x y z
        → OneSide (H x) (spot higher x y) (spot higher x z) (spot lower v w) (spot lower v u)
    sided true e same h =
        let w-over : H w ≡ false = h.first ∙ ap not (rises v_in e) in
        let u-over : H u ≡ false = h.second ∙ ap not (rises v_in e) in
        near-side (named-left s positive named) h.on_w.forth h.on_u.forth (at_first _ _ _ l.on_w.forth) (at_second _ _ _ l.on_u.forth)
        (rises v_in e) (omega (arith, mul-le-mul_left (high v u) (farther v_in w_in e w-over)))
        (omega (arith, mul-le-mul_left (high v w) (farther v_in u_in e u-over)))
    sided false e same h =
        let v-over : H v ≡ false = unlike_back s slopes style higher v w h.first ∙ ap not (both_below e).0 in
        let nearer-w : high v w ≤ low v w = omega (arith, farther w_in v_in (l.first ∙ ap not e) v-over, l.on_w.all, h.on_w.all) in
        let nearer-u : high v u ≤ low v u = omega (arith, farther u_in v_in (l.second ∙ ap not e) v-over, l.on_u.all, h.on_u.all) in
        far-side (named-left s positive named) h.on_w.forth h.on_u.forth (at_first _ _ _ l.on_w.forth) (at_second _ _ _ l.on_u.forth)
        v-over (omega (arith, mul-le-mul_left (high v u) nearer-w)) (omega (arith, mul-le-mul_left (high v w) nearer-u))
    sided true e next h =
        let w-over : H w ≡ false = unlike_back s slopes style higher w v h.second ∙ ap not (rises v_in e) in
        let nearer : high w v ≤ low w v = omega (arith, farther v_in w_in e w-over, l.on_w.all, h.on_u.all) in
        far-side (named-left s positive (next-named named)) h.on_w.forth h.on_u.forth
        (at_second _ _ _ l.on_w.back) (at_across _ _ _ l.on_u.all l.on_u.back)
        w-over (omega (arith, mul-le-mul_left (high w u) nearer))
        (omega (arith, across-far h (low v u) (low u v) l.on_u.all))
    sided true e before h =
        let u-over : H u ≡ false = unlike_back s slopes style higher u v h.first ∙ ap not (rises v_in e) in
        let nearer : high u v ≤ low u v = omega (arith, farther v_in u_in e u-over, l.on_u.all, h.on_w.all) in
        let all : low w v + low v w ≡ 128 = omega (arith, l.on_w.all) in
        far-side (named-left s positive (next-named (next-named named))) h.on_w.forth h.on_u.forth
        (at_across _ _ _ all l.on_w.forth) (at_first _ _ _ l.on_u.back)
        u-over (omega (arith, across-far h (low w v) (low v w) all))
        (omega (arith, mul-le-mul_left (high u w) nearer))
    sided false e next h = absurd (true≢false (sym (both_below e).1 ∙ h.first ∙ ap not (both_below e).0))
    sided false e before h = absurd (true≢false (sym (both_below e).0 ∙ h.second ∙ ap not (both_below e).1))

    -- Where the lower one's ends are on the line of the higher, they are the higher one's.
    ends_one : {x y z : ℕ} → Turned v w u x y z → Off higher x y z → turn (spot higher x y) (spot higher x z) (spot lower v w) ≡ pos 0
        → turn (spot higher x y) (spot higher x z) (spot lower v u) ≡ pos 0 → (spot lower v w ≡ spot higher x y) × (spot lower v u ≡ spot higher x z)
    ends_one same h e f =
        let first = on_line (named-left s positive named) h.on_w.forth h.on_u.forth (at_first _ _ _ l.on_w.forth) e in
        let second = on_line (named-left s positive named) h.on_w.forth h.on_u.forth (at_second _ _ _ l.on_u.forth) f in (
          same_along l.on_w.forth h.on_w.forth (same_factor (high v u) h.on_u.some_from (omega (arith, first))),
          same_along l.on_u.forth h.on_u.forth (same_factor (high v w) h.on_w.some_from (omega (arith, second))),
        )
    ends_one next h e f =
        let second = on_line (named-left s positive (next-named named)) h.on_w.forth h.on_u.forth (at_across _ _ _ l.on_u.all l.on_u.back) f in
        absurd (omega (arith, second, across-far h (low v u) (low u v) l.on_u.all))
    ends_one before h e f =
        let all : low w v + low v w ≡ 128 = omega (arith, l.on_w.all) in
        let turned = next-named (next-named named) in
        let first = on_line (named-left s positive turned) h.on_w.forth h.on_u.forth (at_across _ _ _ all l.on_w.forth) e in
        absurd (omega (arith, first, across-far h (low w v) (low v w) all))

  side : {p q x y : Place} (c : CutOff s slopes style lower t p q) (d : CutOff s slopes style higher t x y)
      → OneSide (H d.v) (spot higher d.v d.w) (spot higher d.v d.u) (spot lower c.v c.w) (spot lower c.v c.u)
  side c d = sided c.named (off lower c) (L c.v) refl (named-twice c.named d.named) (off higher d)

  -- If they meet in a place inside both, they are one.
  cuts_one : {p q x y : Place} → CutOff s slopes style lower t p q → CutOff s slopes style higher t x y → MeetInside x y p q → Ends p q x y
  cuts_one {p} {q} {x} {y} c d h = places c.ends (line d.ends (flat (side c d) (meet c.ends d.ends h)))
    where
      X : Place
      X = spot higher d.v d.w

      Y : Place
      Y = spot higher d.v d.u

      P : Place
      P = spot lower c.v c.w

      Q : Place
      Q = spot lower c.v c.u

      meet : Ends p q P Q → Ends x y X Y → MeetInside x y p q → MeetInside X Y P Q
      meet (inl (e, f)) (inl (g, i)) h = rw (← e, ← f, ← g, ← i) h
      meet (inl (e, f)) (inr (g, i)) h = rw (← e, ← f, ← g, ← i) (meet_back (meet-turned (meet_back h)))
      meet (inr (e, f)) (inl (g, i)) h = rw (← e, ← f, ← g, ← i) (meet-turned h)
      meet (inr (e, f)) (inr (g, i)) h = rw (← e, ← f, ← g, ← i) (meet_back (meet-turned (meet_back (meet-turned h))))

      -- The ends of the lower are on one side of the line of the higher, and what is between them is on it: so they are on it themselves.
      flat : OneSide (H d.v) X Y P Q → MeetInside X Y P Q → (P ≡ X) × (Q ≡ Y)
      flat o m = both (cancel m.i m.j (turn X Y P) (turn X Y Q) m.some-i m.some-j (turns-cancel X Y P Q m)) o
        where
          both : Cancel (turn X Y P) (turn X Y Q) → OneSide (H d.v) X Y P Q → (P ≡ X) × (Q ≡ Y)
          both (none e f) o = ends_one c.named (off lower c) (named-twice c.named d.named) (off higher d) e f
          both (more-less h k) (on_left e l n) = absurd (omega (arith, int))
          both (more-less h k) (on_right e l n) = absurd (omega (arith, int))
          both (less-more h k) (on_left e l n) = absurd (omega (arith, int))
          both (less-more h k) (on_right e l n) = absurd (omega (arith, int))

      line : Ends x y X Y → (P ≡ X) × (Q ≡ Y) → Ends P Q x y
      line (inl (e, f)) (g, i) = inl (g ∙ sym e, i ∙ sym f)
      line (inr (e, f)) (g, i) = inr (g ∙ sym f, i ∙ sym e)

      places : Ends p q P Q → Ends P Q x y → Ends p q x y
      places (inl (e, f)) n = rw (e, f) n
      places (inr (e, f)) (inl (g, i)) = inr (e ∙ i, f ∙ g)
      places (inr (e, f)) (inr (g, i)) = inl (e ∙ i, f ∙ g)

  -- A corner that is not below the higher level has neither end of the lower one's segment strictly on its side of the higher one's.
  cuts-kept : {p q x y : Place} → CutOff s slopes style lower t p q → CutOff s slopes style higher t x y → {k : ℕ} → CornerOf k t → H k ≡ false
      → (Together x y (station_place s k) p → ⊥) × (Together x y (station_place s k) q → ⊥)
  cuts-kept {p} {q} {x} {y} c d {k} corner over =
      places c.ends (line d.ends (strict (side c d) (hand s slopes style higher t on positive d corner)))
    where
      X : Place
      X = spot higher d.v d.w

      Y : Place
      Y = spot higher d.v d.u

      P : Place
      P = spot lower c.v c.w

      Q : Place
      Q = spot lower c.v c.u

      strict : OneSide (H d.v) X Y P Q → Hand s slopes style higher t on positive d k
          → (Together X Y (station_place s k) P → ⊥) × (Together X Y (station_place s k) Q → ⊥)
      strict (on_left e h l) (own f g) = absurd (true≢false (sym e ∙ sym f ∙ over))
      strict (on_right e h l) (other f g) = absurd (true≢false (ap not (sym e) ∙ sym f ∙ over))
      strict (on_left e h l) (other f g) = (right_not h, right_not l)
        where
          right_not : {r : Place} → pos 0 ≤ℤ turn X Y r → Together X Y (station_place s k) r → ⊥
          right_not h (left m n) = omega (arith, int)
          right_not h (right m n) = omega (arith, int)
      strict (on_right e h l) (own f g) = (left_not h, left_not l)
        where
          left_not : {r : Place} → turn X Y r ≤ℤ pos 0 → Together X Y (station_place s k) r → ⊥
          left_not h (left m n) = omega (arith, int)
          left_not h (right m n) = omega (arith, int)

      line : Ends x y X Y → {r o : Place} → (Together X Y (station_place s k) r → ⊥) × (Together X Y (station_place s k) o → ⊥)
          → (Together x y (station_place s k) r → ⊥) × (Together x y (station_place s k) o → ⊥)
      line (inl (e, f)) n = rw (e, f) n
      line (inr (e, f)) n = rw (e, f) (λ m. n.0 (together-turned m), λ m. n.1 (together-turned m))

      places : Ends p q P Q → (Together x y (station_place s k) P → ⊥) × (Together x y (station_place s k) Q → ⊥)
          → (Together x y (station_place s k) p → ⊥) × (Together x y (station_place s k) q → ⊥)
      places (inl (e, f)) n = rw (e, f) n
      places (inr (e, f)) n = rw (e, f) (n.1, n.0)

  -- Where only the lower level has a segment, all of the triangle is below the higher.
  cut_below : {p q : Place} → CutOff s slopes style lower t p q → spots_in s slopes style higher t ≡ [] → {k : ℕ} → CornerOf k t → H k ≡ true
  cut_below c e {k} corner = go (L c.v) refl
    where
      alike : {j : ℕ} → CornerOf j t → H j ≡ true → H k ≡ true
      alike h g = uncut s slopes style higher t e corner h ∙ g

      go : (f : Bool) → L c.v ≡ f → H k ≡ true
      go true f = alike (named-corner c.named) (rises (named_on s on c.named).0 f)
      go false f = alike (named-corner (next-named c.named)) (rises (named_on s on c.named).1 (c.w-unlike ∙ ap not f))

-- One segment does not cross itself properly.
bend_own : (p q : Place) → bend p q p q ≡ pos 0
unfolding bend across climb
bend_own p q = identity (coordinates (p ∷ q ∷ [])) (Bend 0 1 0 1) (lit (pos 0)) refl

bend-over : (p q : Place) → bend p q q p ≡ pos 0
unfolding bend across climb
bend-over p q = identity (coordinates (p ∷ q ∷ [])) (Bend 0 1 1 0) (lit (pos 0)) refl

pub one_not_proper : {p q x y : Place} → Ends p q x y → CrossProperly p q x y → ⊥
one_not_proper {p} {q} (inl (e, f)) c = c.across (subst₂ (λ x y. bend p q x y ≡ pos 0) e f (bend_own p q))
one_not_proper {p} {q} (inr (e, f)) c = c.across (subst₂ (λ x y. bend p q x y ≡ pos 0) f e (bend-over p q))

-- 'in one style, the drawn segments of two different levels never cross properly in any triangle; they may touch'. Those of one level, which
-- are one segment, do not either.
module _ (s : Survey) (slopes : List ℤ) (style : ℕ) (t : Three ℕ) (on : OnStations s t) (positive : pos 0 <ℤ twice_of s t) where
  pub cuts-meet : (a b : ℤ) {p q x y : Place} → CutOff s slopes style a t p q → CutOff s slopes style b t x y → MeetInside p q x y → Ends p q x y
  cuts-meet a b {p} {q} {x} {y} c d h = go (lt_z b a) refl
    where
      back : Ends x y p q → Ends p q x y
      back (inl (e, f)) = inl (sym e, sym f)
      back (inr (e, f)) = inr (sym f, sym e)

      go : (f : Bool) → lt_z b a ≡ f → Ends p q x y
      go true e =
          let l : b <ℤ a = test-true e in
          back (cuts_one s slopes style b a (omega (arith, int)) t on positive d c h)
      go false e = cuts_one s slopes style a b (test-false e) t on positive c d (meet_back h)

  pub never-cross : (a b : ℤ) {p q x y : Place} → spots_in s slopes style a t ≡ p ∷ q ∷ [] → spots_in s slopes style b t ≡ x ∷ y ∷ [] → CrossProperly p q x y → ⊥
  never-cross a b e f c = one_not_proper (cuts-meet a b (cut_off s slopes style a t e) (cut_off s slopes style b t f) c.meet) c

  -- And the line of the lower level keeps to the ground below the higher one, or to its line.
  pub never-beyond : (a b : ℤ) → a ≤ℤ b → {p q x y : Place} → spots_in s slopes style a t ≡ p ∷ q ∷ [] → spots_in s slopes style b t ≡ x ∷ y ∷ []
      → {k : ℕ} → CornerOf k t → is_below s b k ≡ false → (Together x y (station_place s k) p → ⊥) × (Together x y (station_place s k) q → ⊥)
  never-beyond a b order e f = cuts-kept s slopes style a b order t on positive (cut_off s slopes style a t e) (cut_off s slopes style b t f)

  pub all_below : (a b : ℤ) → a ≤ℤ b → {p q : Place} → spots_in s slopes style a t ≡ p ∷ q ∷ [] → spots_in s slopes style b t ≡ []
      → {k : ℕ} → CornerOf k t → is_below s b k ≡ true
  all_below a b order e f = cut_below s slopes style a b order t on positive (cut_off s slopes style a t e) f
