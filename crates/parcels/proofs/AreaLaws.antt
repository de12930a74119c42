-- The areas into which two places cut a triangle, one on each of two of its sides. Assumes nothing.
--
-- An outline may start at any of its places. Places s and t 128ths from v along the sides to w and u cut off s·t of the triangle's 128·128 parts:
-- the turn of the three is that of v, w, u by s·t. A place of a side cuts the side's cross product in two, so that the outlines of what is
-- cut off and of what is left have the sum of the triangle's own; what is left has the rest of the parts.
use mathlib.Core.Path.{◌≡◌, refl, sym, ap, ◌∙◌}
use mathlib.Core.List.{List, [], ◌∷◌, ◌++◌, append_assoc, append-nil}
use Prim.Native.Nat.{ℕ, ◌+◌, ◌*◌, ◌-◌, ◌≤◌}
use native.Mathlib.Nat.{mul-le-mul}
use native.Mathlib.Omega.{arith}
use lib.IntN.{ℤ, pos, ◌+ℤ◌, ◌-ℤ◌, ◌*ℤ◌}
use Rattle.whole.specs.Place.{Place}
use Rattle.whole.specs.Turn.{turn}
use Rattle.whole.proofs.Bridge.{gain, loss, is_int, is_nat, is_add, is_mul, is_eq, eq_is, int, add, minus}
use Rattle.whole.proofs.Polynomial.{Formula, var, lit, ◌:+◌, ◌:-◌, ◌:*◌}
use Rattle.whole.proofs.Solver.{identity, is_formula}
use Rattle.whole.proofs.TurnLaws.{coordinates, Turn, turn-cycle}
use Rattle.sweep.specs.Cover.{scale}
use Rattle.sweep.specs.Hull.{cross}
use Rattle.sweep.proofs.CoverLaws.{scale-area}
use Rattle.ground.proofs.AlongLaws.{Along, turn_along, at_corner}
use Rattle.parcels.specs.Area.{onward, twice_within}

abbrev Cross : ℕ → ℕ → Formula
Cross a b = var (a * 2) :* var (b * 2 + 1) :- var (a * 2 + 1) :* var (b * 2)

-- ---- an outline may start anywhere
onward_last : (start p q : Place) (l : List Place) → onward start p (l ++ (q ∷ [])) ≡ onward q p l +ℤ cross q start
unfolding onward
onward_last start p q [] = refl
onward_last start p q (r ∷ l) =
    ap (λ (z : ℤ). cross p r +ℤ z) (onward_last start r q l)
    ∙ identity (cross p r ∷ onward q r l ∷ cross q start ∷ []) (var 0 :+ (var 1 :+ var 2)) (var 0 :+ var 1 :+ var 2) refl

one_rolled : (p : Place) (l : List Place) → twice_within (p ∷ l) ≡ twice_within (l ++ (p ∷ []))
unfolding twice_within onward
one_rolled p [] = refl
one_rolled p (q ∷ l) = identity (cross p q ∷ onward p q l ∷ []) (var 0 :+ var 1) (var 1 :+ var 0) refl ∙ sym (onward_last q q p l)

pub rolled : (l m : List Place) → twice_within (l ++ m) ≡ twice_within (m ++ l)
rolled [] m = ap twice_within (sym (append-nil m))
rolled (p ∷ l) m =
    one_rolled p (l ++ m) ∙ ap twice_within (append_assoc l m (p ∷ [])) ∙ rolled l (m ++ (p ∷ [])) ∙ ap twice_within (append_assoc m (p ∷ []) l)

-- ---- the whole triangle
three-turn : (a b c : Place) → twice_within (a ∷ b ∷ c ∷ []) ≡ turn a b c
unfolding twice_within onward cross turn
three-turn a b c = identity (coordinates (a ∷ b ∷ c ∷ [])) (Cross 0 1 :+ (Cross 1 2 :+ Cross 2 0)) (Turn 0 1 2) refl

pub whole-area : (v w u : Place) → twice_within (scale 128 v ∷ scale 128 w ∷ scale 128 u ∷ []) ≡ pos 16384 *ℤ turn v w u
whole-area v w u = three-turn (scale 128 v) (scale 128 w) (scale 128 u) ∙ scale-area 128 v w u

-- ---- what is cut off, and what is left
cross-over : (a b : Place) → cross a b ≡ pos 0 -ℤ cross b a
unfolding cross
cross-over a b = identity (coordinates (a ∷ b ∷ [])) (Cross 0 1) (lit (pos 0) :- Cross 1 0) refl

-- A place of a side cuts its cross product in two.
cross_of : (vx vy wx wy n : ℤ) {px py : ℤ} → px ≡ pos 128 *ℤ vx +ℤ n *ℤ (wx -ℤ vx) → py ≡ pos 128 *ℤ vy +ℤ n *ℤ (wy -ℤ vy)
    → (pos 128 *ℤ vx *ℤ py -ℤ pos 128 *ℤ vy *ℤ px) +ℤ (px *ℤ (pos 128 *ℤ wy) -ℤ py *ℤ (pos 128 *ℤ wx))
    ≡ pos 128 *ℤ vx *ℤ (pos 128 *ℤ wy) -ℤ pos 128 *ℤ vy *ℤ (pos 128 *ℤ wx)
cross_of vx vy wx wy n e f =
    let k = lit (pos 128) in
    let px = k :* var 0 :+ var 4 :* (var 2 :- var 0) in
    let py = k :* var 1 :+ var 4 :* (var 3 :- var 1) in
    rw (e, f)
    (identity (vx ∷ vy ∷ wx ∷ wy ∷ n ∷ [])
    ((k :* var 0 :* py :- k :* var 1 :* px) :+ (px :* (k :* var 3) :- py :* (k :* var 2)))
    (k :* var 0 :* (k :* var 3) :- k :* var 1 :* (k :* var 2)) refl)

along-cross : {v w p : Place} {n : ℕ} → Along v w n p → cross (scale 128 v) p +ℤ cross p (scale 128 w) ≡ cross (scale 128 v) (scale 128 w)
unfolding cross
along-cross {v} {w} {p} {n} h = cross_of (pos v.x) (pos v.y) (pos w.x) (pos w.y) (pos n) h.x-along h.y-along

-- What is left of 16,384 parts of z.
remaining : (z : ℤ) {n : ℕ} {r : ℤ} → n ≤ 16384 → r +ℤ pos n *ℤ z ≡ pos 16384 *ℤ z → r ≡ pos (16384 - n) *ℤ z
remaining z {n} {r} h e =
    let all : (16384 - n) + n ≡ 16384 = omega arith in
    is_eq (is_int r) (is_mul (is_nat (16384 - n)) (is_int z))
    (omega (
      arith,
      eq_is (is_add (is_int r) (is_mul (is_nat n) (is_int z))) (is_mul (is_nat 16384) (is_int z)) e,
      ap (λ (m : ℕ). m * gain z) all,
      ap (λ (m : ℕ). m * loss z) all,
    ))

module _ {v w u p q : Place} {s t : ℕ} (h : Along v w s p) (k : Along v u t q) where
  -- The triangle of the corner v.
  pub corner-area : twice_within (scale 128 v ∷ p ∷ q ∷ []) ≡ pos (s * t) *ℤ turn v w u
  corner-area =
      three-turn (scale 128 v) p q ∙ turn-cycle (scale 128 v) p q ∙ turn_along h k (at_corner v w u)
      ∙ identity (turn v w u ∷ pos s ∷ pos t ∷ []) (var 0 :* (var 1 :* var 2 :- (var 2 :* lit (pos 0) :+ var 1 :* lit (pos 0)))) (var 1 :* var 2 :* var 0) refl

  -- The part with the corners w and u.
  pub rest-area : s ≤ 128 → t ≤ 128 → twice_within (p ∷ scale 128 w ∷ scale 128 u ∷ q ∷ []) ≡ pos (16384 - s * t) *ℤ turn v w u
  unfolding twice_within onward
  rest-area l m =
      let v' = scale 128 v in
      let w' = scale 128 w in
      let u' = scale 128 u in
      remaining (turn v w u) (mul-le-mul l m)
      (omega (
        arith,
        int,
        corner-area,
        whole-area v w u,
        along-cross h,
        along-cross k,
        cross-over q p,
        cross-over u' q,
        cross-over q v',
        cross-over u' v',
        is_formula (cross p w' ∷ cross w' u' ∷ cross u' q ∷ cross q p ∷ []) (var 0 :+ (var 1 :+ (var 2 :+ var 3))),
        is_formula (cross v' p ∷ cross p q ∷ cross q v' ∷ []) (var 0 :+ (var 1 :+ var 2)),
        is_formula (cross v' w' ∷ cross w' u' ∷ cross u' v' ∷ []) (var 0 :+ (var 1 :+ var 2)),
        add (cross v' p) (cross p w'),
        add (cross v' q) (cross q u'),
        minus (pos 0) (cross p q),
        minus (pos 0) (cross q u'),
        minus (pos 0) (cross v' q),
        minus (pos 0) (cross v' u'),
        add (cross p w' +ℤ (cross w' u' +ℤ (cross u' q +ℤ cross q p))) (pos (s * t) *ℤ turn v w u),
      ))
