-- Places along the sides of a triangle, counted in 128ths of the side, and on which side of lines they lie. Assumes nothing.
--
-- All follows from three identities in the coordinates. For places s and t 128ths from v along the sides to w and u, and a third place α
-- 128ths toward w and β toward u, the turn is that of v, w, u by s·t - (t·α + s·β) (`turn_along`). The turn of the third place with the
-- sides of the triangle is that of v, w, u by its 128ths (`beside_first` and its like). And the turn of a mixed place is the mixed turn
-- (`turn-mixed`).
use mathlib.Core.Path.{◌≡◌, refl, ap, ◌∙◌}
use mathlib.Core.List.{[], ◌∷◌}
use Prim.Native.Nat.{ℕ, ◌+◌, ◌*◌}
use native.Mathlib.Omega.{arith}
use lib.IntN.{ℤ, pos, ◌+ℤ◌, ◌-ℤ◌, ◌*ℤ◌}
use Rattle.whole.specs.Place.{Place, place}
use Rattle.whole.specs.Turn.{turn}
use Rattle.whole.proofs.Bridge.{gain}
use Rattle.whole.proofs.OrderLaws.{same_place}
use Rattle.whole.proofs.Polynomial.{Formula, var, lit, ◌:+◌, ◌:-◌, ◌:*◌}
use Rattle.whole.proofs.Solver.{identity}
use Rattle.whole.proofs.TurnLaws.{coordinates, Turn}
use Rattle.sweep.specs.Cover.{scale}
use Rattle.ground.specs.Sides.{mixed}

-- p stands n 128ths of the way from v to w.
pub record Along (v w : Place) (n : ℕ) (p : Place) : Type 0 where
  pub x-along : pos p.x ≡ pos 128 *ℤ pos v.x +ℤ pos n *ℤ (pos w.x -ℤ pos v.x)
  pub y-along : pos p.y ≡ pos 128 *ℤ pos v.y +ℤ pos n *ℤ (pos w.y -ℤ pos v.y)

-- r stands α 128ths toward w and β toward u from v.
pub record At (v w u : Place) (α β : ℕ) (r : Place) : Type 0 where
  pub x_at : pos r.x ≡ pos 128 *ℤ pos v.x +ℤ pos α *ℤ (pos w.x -ℤ pos v.x) +ℤ pos β *ℤ (pos u.x -ℤ pos v.x)
  pub y_at : pos r.y ≡ pos 128 *ℤ pos v.y +ℤ pos α *ℤ (pos w.y -ℤ pos v.y) +ℤ pos β *ℤ (pos u.y -ℤ pos v.y)

-- Formulas: a coordinate along a side, one toward two corners, and a turn.
abbrev Far : Formula → Formula → Formula → Formula
Far v w n = lit (pos 128) :* v :+ n :* (w :- v)

abbrev Toward : Formula → Formula → Formula → Formula → Formula → Formula
Toward v w u a b = Far v w a :+ b :* (u :- v)

abbrev Near : Formula → Formula → Formula → Formula → Formula → Formula → Formula
Near ax ay bx by cx cy = (bx :- ax) :* (cy :- ay) :- (by :- ay) :* (cx :- ax)

abbrev turn_of : ℤ → ℤ → ℤ → ℤ → ℤ → ℤ → ℤ
turn_of ax ay bx by cx cy = (bx -ℤ ax) *ℤ (cy -ℤ ay) -ℤ (by -ℤ ay) *ℤ (cx -ℤ ax)

-- ---- the turn of three such places
turn_of_three :
    (vx vy wx wy ux uy s t α β : ℤ) {px py qx qy rx ry : ℤ} → px ≡ pos 128 *ℤ vx +ℤ s *ℤ (wx -ℤ vx) → py ≡ pos 128 *ℤ vy +ℤ s *ℤ (wy -ℤ vy)
    → qx ≡ pos 128 *ℤ vx +ℤ t *ℤ (ux -ℤ vx) → qy ≡ pos 128 *ℤ vy +ℤ t *ℤ (uy -ℤ vy)
    → rx ≡ pos 128 *ℤ vx +ℤ α *ℤ (wx -ℤ vx) +ℤ β *ℤ (ux -ℤ vx) → ry ≡ pos 128 *ℤ vy +ℤ α *ℤ (wy -ℤ vy) +ℤ β *ℤ (uy -ℤ vy)
    → turn_of px py qx qy rx ry ≡ turn_of vx vy wx wy ux uy *ℤ (s *ℤ t -ℤ (t *ℤ α +ℤ s *ℤ β))
turn_of_three vx vy wx wy ux uy s t α β a b c d e f =
    rw (a, b, c, d, e, f)
    (identity (vx ∷ vy ∷ wx ∷ wy ∷ ux ∷ uy ∷ s ∷ t ∷ α ∷ β ∷ [])
    (Near (Far (var 0) (var 2) (var 6)) (Far (var 1) (var 3) (var 6)) (Far (var 0) (var 4) (var 7)) (Far (var 1) (var 5) (var 7))
    (Toward (var 0) (var 2) (var 4) (var 8) (var 9)) (Toward (var 1) (var 3) (var 5) (var 8) (var 9)))
    (Near (var 0) (var 1) (var 2) (var 3) (var 4) (var 5) :* (var 6 :* var 7 :- (var 7 :* var 8 :+ var 6 :* var 9))) refl)

module _ {v w u p q r : Place} {s t α β : ℕ} where
  pub turn_along : Along v w s p → Along v u t q → At v w u α β r → turn p q r ≡ turn v w u *ℤ (pos (s * t) -ℤ pos (t * α + s * β))
  unfolding turn
  turn_along h k l =
      turn_of_three (pos v.x) (pos v.y) (pos w.x) (pos w.y) (pos u.x) (pos u.y) (pos s) (pos t) (pos α) (pos β)
      h.x-along h.y-along k.x-along k.y-along l.x_at l.y_at

-- ---- its turn with the sides of the triangle
first_of :
    (vx vy wx wy ux uy α β : ℤ) {rx ry : ℤ}
    → rx ≡ pos 128 *ℤ vx +ℤ α *ℤ (wx -ℤ vx) +ℤ β *ℤ (ux -ℤ vx) → ry ≡ pos 128 *ℤ vy +ℤ α *ℤ (wy -ℤ vy) +ℤ β *ℤ (uy -ℤ vy)
    → turn_of (pos 128 *ℤ vx) (pos 128 *ℤ vy) (pos 128 *ℤ wx) (pos 128 *ℤ wy) rx ry ≡ turn_of vx vy wx wy ux uy *ℤ (pos 128 *ℤ β)
first_of vx vy wx wy ux uy α β e f =
    let k = lit (pos 128) in
    rw (e, f)
    (identity (vx ∷ vy ∷ wx ∷ wy ∷ ux ∷ uy ∷ α ∷ β ∷ [])
    (Near (k :* var 0) (k :* var 1) (k :* var 2) (k :* var 3) (Toward (var 0) (var 2) (var 4) (var 6) (var 7)) (Toward (var 1) (var 3) (var 5) (var 6) (var 7)))
    (Near (var 0) (var 1) (var 2) (var 3) (var 4) (var 5) :* (k :* var 7)) refl)

third_of :
    (vx vy wx wy ux uy α β : ℤ) {rx ry : ℤ}
    → rx ≡ pos 128 *ℤ vx +ℤ α *ℤ (wx -ℤ vx) +ℤ β *ℤ (ux -ℤ vx) → ry ≡ pos 128 *ℤ vy +ℤ α *ℤ (wy -ℤ vy) +ℤ β *ℤ (uy -ℤ vy)
    → turn_of (pos 128 *ℤ ux) (pos 128 *ℤ uy) (pos 128 *ℤ vx) (pos 128 *ℤ vy) rx ry ≡ turn_of vx vy wx wy ux uy *ℤ (pos 128 *ℤ α)
third_of vx vy wx wy ux uy α β e f =
    let k = lit (pos 128) in
    rw (e, f)
    (identity (vx ∷ vy ∷ wx ∷ wy ∷ ux ∷ uy ∷ α ∷ β ∷ [])
    (Near (k :* var 4) (k :* var 5) (k :* var 0) (k :* var 1) (Toward (var 0) (var 2) (var 4) (var 6) (var 7)) (Toward (var 1) (var 3) (var 5) (var 6) (var 7)))
    (Near (var 0) (var 1) (var 2) (var 3) (var 4) (var 5) :* (k :* var 6)) refl)

second_of :
    (vx vy wx wy ux uy α β γ : ℤ) {rx ry : ℤ} → γ +ℤ α +ℤ β ≡ pos 128
    → rx ≡ pos 128 *ℤ vx +ℤ α *ℤ (wx -ℤ vx) +ℤ β *ℤ (ux -ℤ vx) → ry ≡ pos 128 *ℤ vy +ℤ α *ℤ (wy -ℤ vy) +ℤ β *ℤ (uy -ℤ vy)
    → turn_of (pos 128 *ℤ wx) (pos 128 *ℤ wy) (pos 128 *ℤ ux) (pos 128 *ℤ uy) rx ry ≡ turn_of vx vy wx wy ux uy *ℤ (pos 128 *ℤ γ)
second_of vx vy wx wy ux uy α β γ all e f =
    let k = var 8 :+ var 6 :+ var 7 in
    rw (e, f, ← all)
    (identity (vx ∷ vy ∷ wx ∷ wy ∷ ux ∷ uy ∷ α ∷ β ∷ γ ∷ [])
    (Near (k :* var 2) (k :* var 3) (k :* var 4) (k :* var 5) (k :* var 0 :+ var 6 :* (var 2 :- var 0) :+ var 7 :* (var 4 :- var 0))
    (k :* var 1 :+ var 6 :* (var 3 :- var 1) :+ var 7 :* (var 5 :- var 1)))
    (Near (var 0) (var 1) (var 2) (var 3) (var 4) (var 5) :* (k :* var 8)) refl)

module _ {v w u r : Place} {α β : ℕ} (h : At v w u α β r) where
  pub beside_first : turn (scale 128 v) (scale 128 w) r ≡ turn v w u *ℤ pos (128 * β)
  unfolding turn
  beside_first = first_of (pos v.x) (pos v.y) (pos w.x) (pos w.y) (pos u.x) (pos u.y) (pos α) (pos β) h.x_at h.y_at

  pub beside-third : turn (scale 128 u) (scale 128 v) r ≡ turn v w u *ℤ pos (128 * α)
  unfolding turn
  beside-third = third_of (pos v.x) (pos v.y) (pos w.x) (pos w.y) (pos u.x) (pos u.y) (pos α) (pos β) h.x_at h.y_at

  pub beside-second : (γ : ℕ) → γ + α + β ≡ 128 → turn (scale 128 w) (scale 128 u) r ≡ turn v w u *ℤ pos (128 * γ)
  unfolding turn
  beside-second γ e =
      second_of (pos v.x) (pos v.y) (pos w.x) (pos w.y) (pos u.x) (pos u.y) (pos α) (pos β) (pos γ) (ap pos e) h.x_at h.y_at

-- ---- places that stand so: a corner, places of the sides from v, and a place of the side across
along-zero : (v w u : ℤ) → pos 128 *ℤ v ≡ pos 128 *ℤ v +ℤ pos 0 *ℤ (w -ℤ v) +ℤ pos 0 *ℤ (u -ℤ v)
along-zero v w u = identity (v ∷ w ∷ u ∷ []) (lit (pos 128) :* var 0) (Toward (var 0) (var 1) (var 2) (lit (pos 0)) (lit (pos 0))) refl

first_zero : (v w u n : ℤ) → pos 128 *ℤ v +ℤ n *ℤ (w -ℤ v) ≡ pos 128 *ℤ v +ℤ n *ℤ (w -ℤ v) +ℤ pos 0 *ℤ (u -ℤ v)
first_zero v w u n = identity (v ∷ w ∷ u ∷ n ∷ []) (Far (var 0) (var 1) (var 3)) (Toward (var 0) (var 1) (var 2) (var 3) (lit (pos 0))) refl

second-zero : (v w u n : ℤ) → pos 128 *ℤ v +ℤ n *ℤ (u -ℤ v) ≡ pos 128 *ℤ v +ℤ pos 0 *ℤ (w -ℤ v) +ℤ n *ℤ (u -ℤ v)
second-zero v w u n = identity (v ∷ w ∷ u ∷ n ∷ []) (Far (var 0) (var 2) (var 3)) (Toward (var 0) (var 1) (var 2) (lit (pos 0)) (var 3)) refl

across_from : (v w u m n : ℤ) → m +ℤ n ≡ pos 128 → pos 128 *ℤ w +ℤ n *ℤ (u -ℤ w) ≡ pos 128 *ℤ v +ℤ m *ℤ (w -ℤ v) +ℤ n *ℤ (u -ℤ v)
across_from v w u m n e =
    rw (← e) (identity (v ∷ w ∷ u ∷ m ∷ n ∷ []) ((var 3 :+ var 4) :* var 1 :+ var 4 :* (var 2 :- var 1))
    ((var 3 :+ var 4) :* var 0 :+ var 3 :* (var 1 :- var 0) :+ var 4 :* (var 2 :- var 0)) refl)

back_from : (v w m n : ℤ) → m +ℤ n ≡ pos 128 → pos 128 *ℤ v +ℤ m *ℤ (w -ℤ v) ≡ pos 128 *ℤ w +ℤ n *ℤ (v -ℤ w)
back_from v w m n e =
    rw (← e)
    (identity (v ∷ w ∷ m ∷ n ∷ []) ((var 2 :+ var 3) :* var 0 :+ var 2 :* (var 1 :- var 0)) ((var 2 :+ var 3) :* var 1 :+ var 3 :* (var 0 :- var 1)) refl)

module _ (v w u : Place) where
  pub at_corner : At v w u 0 0 (scale 128 v)
  at_corner = record { x_at = along-zero (pos v.x) (pos w.x) (pos u.x); y_at = along-zero (pos v.y) (pos w.y) (pos u.y) }

  pub at_first : {n : ℕ} {p : Place} → Along v w n p → At v w u n 0 p
  at_first {n} h =
      record {
        x_at = h.x-along ∙ first_zero (pos v.x) (pos w.x) (pos u.x) (pos n);
        y_at = h.y-along ∙ first_zero (pos v.y) (pos w.y) (pos u.y) (pos n);
      }

  pub at_second : {n : ℕ} {p : Place} → Along v u n p → At v w u 0 n p
  at_second {n} h =
      record {
        x_at = h.x-along ∙ second-zero (pos v.x) (pos w.x) (pos u.x) (pos n);
        y_at = h.y-along ∙ second-zero (pos v.y) (pos w.y) (pos u.y) (pos n);
      }

  pub at_across : {m n : ℕ} {p : Place} → m + n ≡ 128 → Along w u n p → At v w u m n p
  at_across {m} {n} e h =
      record {
        x_at = h.x-along ∙ across_from (pos v.x) (pos w.x) (pos u.x) (pos m) (pos n) (ap pos e);
        y_at = h.y-along ∙ across_from (pos v.y) (pos w.y) (pos u.y) (pos m) (pos n) (ap pos e);
      }

-- The far end itself.
far-end : (v w : ℤ) → pos 128 *ℤ w ≡ pos 128 *ℤ v +ℤ pos 128 *ℤ (w -ℤ v)
far-end v w = identity (v ∷ w ∷ []) (lit (pos 128) :* var 1) (Far (var 0) (var 1) (lit (pos 128))) refl

pub along-end : (v w : Place) → Along v w 128 (scale 128 w)
along-end v w = record { x-along = far-end (pos v.x) (pos w.x); y-along = far-end (pos v.y) (pos w.y) }

-- Counted from the other end.
pub along_back : (v w : Place) {m n : ℕ} {p : Place} → m + n ≡ 128 → Along v w m p → Along w v n p
along_back v w {m} {n} e h =
    record {
      x-along = h.x-along ∙ back_from (pos v.x) (pos w.x) (pos m) (pos n) (ap pos e);
      y-along = h.y-along ∙ back_from (pos v.y) (pos w.y) (pos m) (pos n) (ap pos e);
    }

-- ---- mixed places
pub turn-mixed : (a b p q : Place) (m n : ℕ)
    → turn (scale (m + n) a) (scale (m + n) b) (mixed m p n q) ≡ pos (m + n) *ℤ (pos m *ℤ turn a b p +ℤ pos n *ℤ turn a b q)
unfolding turn
turn-mixed a b p q m n =
    identity (coordinates (a ∷ b ∷ p ∷ q ∷ place m n ∷ []))
    (Near (K (var 0)) (K (var 1)) (K (var 2)) (K (var 3)) (var 8 :* var 4 :+ var 9 :* var 6) (var 8 :* var 5 :+ var 9 :* var 7))
    ((var 8 :+ var 9) :* (var 8 :* Turn 0 1 2 :+ var 9 :* Turn 0 1 3)) refl
  where
    K : Formula → Formula
    K v = (var 8 :+ var 9) :* v

-- So many 128ths of the way are so many parts of either end.
parts_of : (v w m n : ℤ) → m +ℤ n ≡ pos 128 → pos 128 *ℤ v +ℤ n *ℤ (w -ℤ v) ≡ m *ℤ v +ℤ n *ℤ w
parts_of v w m n e = rw (← e) (identity (v ∷ w ∷ m ∷ n ∷ []) ((var 2 :+ var 3) :* var 0 :+ var 3 :* (var 1 :- var 0)) (var 2 :* var 0 :+ var 3 :* var 1) refl)

pub along-mixed : (v w : Place) (m n : ℕ) {p : Place} → m + n ≡ 128 → Along v w n p → p ≡ mixed m v n w
along-mixed v w m n e h =
    same_place (ap gain (h.x-along ∙ parts_of (pos v.x) (pos w.x) (pos m) (pos n) (ap pos e)))
    (ap gain (h.y-along ∙ parts_of (pos v.y) (pos w.y) (pos m) (pos n) (ap pos e)))

-- A plane that is stretched twice.
pub scale-scale : (k l : ℕ) (a : Place) → scale k (scale l a) ≡ scale (k * l) a
scale-scale k l a = same_place (omega arith) (omega arith)
