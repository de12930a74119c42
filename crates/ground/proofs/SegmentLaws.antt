-- How a drawn segment lies in its triangle: it divides the corners by the level (`cut-divides`), and all of it but its ends is strictly
-- inside (`cut_inside`). Assumes nothing.
--
-- Of the corner that is cut off the ends are s and t 128ths along its sides, neither 0 nor 128. So the corner is left of the line from the
-- one to the other by s·t parts of the triangle, and the other two are right of it; and each side of the triangle has one end of the
-- segment strictly on its left, and the other not on its right.
use mathlib.Core.Path.{◌≡◌, refl, sym, ap, ◌∙◌}
use mathlib.Core.Bool.{Bool, not}
use mathlib.Core.List.{List}
use mathlib.Core.Logic.{◌⊎◌, inl, inr}
use Prim.Native.Nat.{ℕ, zero, suc, ◌+◌, ◌*◌, ◌<◌}
use native.Mathlib.Nat.{mul-lt-mul_of_pos_left}
use native.Mathlib.Omega.{arith}
use lib.IntN.{ℤ, pos, negsuc, ◌+ℤ◌, ◌*ℤ◌}
use lib.Signed.{◌≤ℤ◌, ◌<ℤ◌}
use Rattle.whole.specs.Place.{Place}
use Rattle.whole.specs.Turn.{turn}
use Rattle.whole.proofs.Bridge.{int, add, mul, minus}
use Rattle.whole.proofs.SignLaws.{positive-mul, nonneg-mul}
use Rattle.sweep.specs.Cover.{Holds, Inside, scale, big}
use Rattle.sweep.specs.Sweep.{Three}
use Rattle.survey.specs.Survey.{Survey, place_of}
use Rattle.trace.specs.Side.{◌⟶◌}
use Rattle.trace.proofs.StepLaws.{not_self}
use Rattle.hull.specs.MeshOf.{CornerOf, OnStations, placed, twice_of}
use Rattle.spots.specs.Lines.{is_below}
use Rattle.ground.specs.Segments.{station_place, spot_place}
use Rattle.ground.specs.Sides.{mixed, Apart, left-right, right-left, Together, left, right, Divides}
use Rattle.ground.proofs.AlongLaws.{At, turn_along, beside_first, beside-second, beside-third, at_corner, at_first, at_second, along-end, turn-mixed, scale-scale}
use Rattle.ground.proofs.ShareLaws.{share_of, Shared, shared, not_back}
use Rattle.ground.proofs.MeetingLaws.{apart-turned, together-turned}
use Rattle.ground.proofs.CutLaws.{Named, from_a, from_b, from_c, corner-named, named_on, named-left, Ends, CutOff}

-- ---- signs of products
pub less-mul : {a b : ℤ} → pos 0 <ℤ a → b <ℤ pos 0 → (a *ℤ b) <ℤ pos 0
less-mul {a = pos zero} h k = absurd (omega (arith, int))
less-mul {a = pos (suc a)} {b = pos b} h k = absurd (omega (arith, int))
less-mul {a = pos (suc a)} {b = negsuc b} h k = omega (arith, int, mul (pos (suc a)) (negsuc b))
less-mul {a = negsuc a} h k = absurd (omega (arith, int))

less : {z : ℤ} → pos 0 <ℤ z → pos 0 ≤ℤ z
less h = omega (arith, int)

above : {y z : ℤ} → y ≡ z → pos 0 <ℤ z → pos 0 <ℤ y
above e h = rw e h

at_least : {y z : ℤ} → y ≡ z → pos 0 ≤ℤ z → pos 0 ≤ℤ y
at_least e h = rw e h

-- ---- a place of a segment, and a line that has the segment on its left
-- One end is strictly left of the line from a to b, and the other is not right of it.
data Beside (a b p q : Place) : Type 0 where
  by_start : pos 0 <ℤ turn a b p → pos 0 ≤ℤ turn a b q → Beside a b p q
  by_end : pos 0 ≤ℤ turn a b p → pos 0 <ℤ turn a b q → Beside a b p q

beside-turned : {a b p q : Place} → Beside a b p q → Beside a b q p
beside-turned (by_start h k) = by_end k h
beside-turned (by_end h k) = by_start k h

module _ (a b p q : Place) (m n : ℕ) where
  -- Places inside the segment are strictly left of it.
  mixed-left : 0 < m → 0 < n → Beside a b p q → pos 0 <ℤ turn (scale (m + n) a) (scale (m + n) b) (mixed m p n q)
  mixed-left h k l = rw (turn-mixed a b p q m n) (positive-mul {a = pos (m + n)} (omega (arith, int)) (go l))
    where
      go : Beside a b p q → pos 0 <ℤ (pos m *ℤ turn a b p +ℤ pos n *ℤ turn a b q)
      go (by_start e f) =
          omega (
            arith,
            int,
            add (pos m *ℤ turn a b p) (pos n *ℤ turn a b q),
            positive-mul {a = pos m} (omega (arith, int)) e,
            nonneg-mul {a = pos n} (omega (arith, int)) f,
          )
      go (by_end e f) =
          omega (
            arith,
            int,
            add (pos m *ℤ turn a b p) (pos n *ℤ turn a b q),
            nonneg-mul {a = pos m} (omega (arith, int)) e,
            positive-mul {a = pos n} (omega (arith, int)) f,
          )

  -- And no place of it is right of it.
  mixed_not_right : Beside a b p q → pos 0 ≤ℤ turn (scale (m + n) a) (scale (m + n) b) (mixed m p n q)
  mixed_not_right l = rw (turn-mixed a b p q m n) (nonneg-mul {a = pos (m + n)} (omega (arith, int)) (go l))
    where
      sum : pos 0 ≤ℤ turn a b p → pos 0 ≤ℤ turn a b q → pos 0 ≤ℤ (pos m *ℤ turn a b p +ℤ pos n *ℤ turn a b q)
      sum e f =
          omega (
            arith,
            int,
            add (pos m *ℤ turn a b p) (pos n *ℤ turn a b q),
            nonneg-mul {a = pos m} (omega (arith, int)) e,
            nonneg-mul {a = pos n} (omega (arith, int)) f,
          )

      go : Beside a b p q → pos 0 ≤ℤ (pos m *ℤ turn a b p +ℤ pos n *ℤ turn a b q)
      go (by_start e f) = sum (less e) f
      go (by_end e f) = sum e (less f)

-- ---- which hand a corner is on, seen along the segment
-- A line that is run from its other end has the other hand.
divides-turned : {s : Survey} {level : ℤ} {t : Three ℕ} {p q : Place} → Divides s level t p q → Divides s level t q p
divides-turned d =
    record { alike = λ j k cj ck e. together-turned (d.alike j k cj ck e); unlike = λ j k cj ck e. apart-turned (d.unlike j k cj ck e) }

module _ (s : Survey) (slopes : List ℤ) (style : ℕ) (level : ℤ) (t : Three ℕ) (on : OnStations s t) (positive : pos 0 <ℤ twice_of s t) where
  abbrev at : ℕ → Bool
  at k = is_below s level k

  module _ {p q : Place} (c : CutOff s slopes style level t p q) where
    abbrev pv : Place
    pv = place_of s c.v

    abbrev pw : Place
    pw = place_of s c.w

    abbrev pu : Place
    pu = place_of s c.u

    area : pos 0 <ℤ turn pv pw pu
    area = named-left s positive c.named

    -- The spots of the sides from the corner, by their 128ths.
    pub on_first : Shared s slopes style level c.v c.w
    on_first = let h = named_on s on c.named in shared s slopes style level h.0 h.1 c.w-unlike

    pub on_second : Shared s slopes style level c.v c.u
    on_second = let h = named_on s on c.named in shared s slopes style level h.0 h.2 c.u-unlike

    abbrev m : ℕ
    m = share_of s slopes style level c.v c.w

    abbrev n : ℕ
    n = share_of s slopes style level c.v c.u

    abbrev x : Place
    x = spot_place s slopes style level (c.v ⟶ c.w)

    abbrev y : Place
    y = spot_place s slopes style level (c.v ⟶ c.u)

    -- A place α 128ths toward w and β toward u is left of the line from x to y, or right of it.
    left-of : {α β : ℕ} {r : Place} → At pv pw pu α β r → n * α + m * β < m * n → pos 0 <ℤ turn x y r
    left-of {α} {β} h l =
        rw (turn_along on_first.forth on_second.forth h)
        (positive-mul area (omega (arith, int, minus (pos (m * n)) (pos (n * α + m * β)))))

    right_of : {α β : ℕ} {r : Place} → At pv pw pu α β r → m * n < n * α + m * β → turn x y r <ℤ pos 0
    right_of {α} {β} h l =
        rw (turn_along on_first.forth on_second.forth h)
        (less-mul area (omega (arith, int, minus (pos (m * n)) (pos (n * α + m * β)))))

    -- The corner that is cut off is on the left, the other two are on the right.
    both_some : 0 < m * n
    both_some = omega (arith, mul-lt-mul_of_pos_left on_second.some_from on_first.some_from)

    own_hand : pos 0 <ℤ turn x y (station_place s c.v)
    own_hand = left-of (at_corner pv pw pu) (omega (arith, both_some))

    first_hand : turn x y (station_place s c.w) <ℤ pos 0
    first_hand =
        let l : m < 128 = omega (arith, on_first.all, on_first.some_to) in
        right_of (at_first pv pw pu (along-end pv pw)) (omega (arith, mul-lt-mul_of_pos_left l on_second.some_from))

    second-hand : turn x y (station_place s c.u) <ℤ pos 0
    second-hand =
        let l : n < 128 = omega (arith, on_second.all, on_second.some_to) in
        right_of (at_second pv pw pu (along-end pv pu)) (omega (arith, mul-lt-mul_of_pos_left l on_first.some_from))

    -- So a corner is on the left exactly if it is on the cut-off corner's side of the level.
    pub data Hand (k : ℕ) : Type 0 where
      own : at k ≡ at c.v → pos 0 <ℤ turn x y (station_place s k) → Hand k
      other : at k ≡ not (at c.v) → turn x y (station_place s k) <ℤ pos 0 → Hand k

    pub hand : {k : ℕ} → CornerOf k t → Hand k
    hand {k} h = go (corner-named c.named h)
      where
        go : (k ≡ c.v) ⊎ ((k ≡ c.w) ⊎ (k ≡ c.u)) → Hand k
        go (inl e) = rw e (own refl own_hand)
        go (inr (inl e)) = rw e (other c.w-unlike first_hand)
        go (inr (inr e)) = rw e (other c.u-unlike second-hand)

    divides_from : Divides s level t x y
    divides_from = record { alike = λ j k cj ck e. one (hand cj) (hand ck) e; unlike = λ j k cj ck e. two (hand cj) (hand ck) e }
      where
        one : {j k : ℕ} → Hand j → Hand k → at k ≡ at j → Together x y (station_place s j) (station_place s k)
        one (own e h) (own f l) g = left h l
        one (other e h) (other f l) g = right h l
        one (own e h) (other f l) g = absurd (not_self (at c.v) (sym e ∙ sym g ∙ f))
        one (other e h) (own f l) g = absurd (not_self (at c.v) (sym f ∙ g ∙ e))

        two : {j k : ℕ} → Hand j → Hand k → at k ≡ not (at j) → Apart x y (station_place s j) (station_place s k)
        two (own e h) (other f l) g = left-right h l
        two (other e h) (own f l) g = right-left h l
        two (own e h) (own f l) g = absurd (not_self (at c.v) (sym f ∙ g ∙ ap not e))
        two (other e h) (other f l) g = absurd (not_self (at c.v) (not_back (at c.v) e ∙ sym g ∙ f))

    pub cut-divides : Divides s level t p q
    cut-divides = go c.ends
      where
        go : Ends p q x y → Divides s level t p q
        go (inl (e, f)) = rw (e, f) divides_from
        go (inr (e, f)) = rw (e, f) (divides-turned divides_from)

    -- ---- inside the triangle
    -- Of a side of the triangle one end of the segment is strictly on its left and the other not on its right.
    side_first : Beside (scale 128 pv) (scale 128 pw) x y
    side_first =
        by_end
        (at_least (beside_first (at_first pv pw pu on_first.forth)) (nonneg-mul (less area) (omega (arith, int))))
        (above (beside_first (at_second pv pw pu on_second.forth)) (positive-mul area (omega (arith, int, on_second.some_from))))

    side-third : Beside (scale 128 pu) (scale 128 pv) x y
    side-third =
        by_start
        (above (beside-third (at_first pv pw pu on_first.forth)) (positive-mul area (omega (arith, int, on_first.some_from))))
        (at_least (beside-third (at_second pv pw pu on_second.forth)) (nonneg-mul (less area) (omega (arith, int))))

    side-second : Beside (scale 128 pw) (scale 128 pu) x y
    side-second =
        let first : pos 0 <ℤ turn (scale 128 pw) (scale 128 pu) x =
        above (beside-second (at_first pv pw pu on_first.forth) (share_of s slopes style level c.w c.v) (omega (arith, on_first.all)))
        (positive-mul area (omega (arith, int, on_first.some_to))) in
        let second : pos 0 <ℤ turn (scale 128 pw) (scale 128 pu) y =
        above (beside-second (at_second pv pw pu on_second.forth) (share_of s slopes style level c.u c.v) (omega (arith, on_second.all)))
        (positive-mul area (omega (arith, int, on_second.some_to))) in
        by_start first (less second)

    -- By the corners as the triangle is written.
    sides-beside : {a b d : ℕ} → Named t a b d → (P : ℕ → ℕ → Type 0) → P a b → P b d → P d a → P t.a t.b × P t.b t.c × P t.c t.a
    sides-beside from_a P h k l = (h, k, l)
    sides-beside from_b P h k l = (l, h, k)
    sides-beside from_c P h k l = (k, l, h)

    abbrev SideOf : ℕ → ℕ → Type 0
    SideOf i j = Beside (station_place s i) (station_place s j) p q

    beside : SideOf t.a t.b × SideOf t.b t.c × SideOf t.c t.a
    beside = sides-beside c.named SideOf (go c.ends side_first) (go c.ends side-second) (go c.ends side-third)
      where
        go : {a b : Place} → Ends p q x y → Beside a b x y → Beside a b p q
        go (inl (e, f)) h = rw (e, f) h
        go (inr (e, f)) h = rw (e, f) (beside-turned h)

    module _ (i j : ℕ) where
      pub cut_inside : 0 < i → 0 < j → Inside (big ((i + j) * 128) (placed s t)) (mixed i p j q)
      cut_inside h k =
          let side : (a b : ℕ) → SideOf a b → pos 0 <ℤ turn (scale ((i + j) * 128) (place_of s a)) (scale ((i + j) * 128) (place_of s b)) (mixed i p j q) =
          λ a b l. rw (← scale-scale (i + j) 128 (place_of s a), ← scale-scale (i + j) 128 (place_of s b))
          (mixed-left (station_place s a) (station_place s b) p q i j h k l) in
          record { ab = side t.a t.b beside.0; bc = side t.b t.c beside.1; ca = side t.c t.a beside.2 }

      pub cut_holds : Holds turn (big ((i + j) * 128) (placed s t)) (mixed i p j q)
      cut_holds =
          let side : (a b : ℕ) → SideOf a b → pos 0 ≤ℤ turn (scale ((i + j) * 128) (place_of s a)) (scale ((i + j) * 128) (place_of s b)) (mixed i p j q) =
          λ a b l. rw (← scale-scale (i + j) 128 (place_of s a), ← scale-scale (i + j) 128 (place_of s b))
          (mixed_not_right (station_place s a) (station_place s b) p q i j l) in
          record { ab = side t.a t.b beside.0; bc = side t.b t.c beside.1; ca = side t.c t.a beside.2 }
