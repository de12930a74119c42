-- Negating the height and the slopes of both ends negates the curve along a side, in both styles. Assumes nothing.
--
-- D and E have one slope in each product, and the rounded quotient and the cut are odd. The control heights are sums of multiples of z, D
-- and E, and the curve is one of control heights, or of z.
use mathlib.Core.Path.{◌≡◌, ◌∙◌}
use mathlib.Core.Bool.{Bool, true, false, cond}
use mathlib.Core.List.{List, [], ◌∷◌, map}
use Prim.Native.Nat.{ℕ, ◌+◌, ◌*◌, ◌-◌}
use lib.IntN.{ℤ, pos, neg_ℤ, ◌*ℤ◌}
use lib.ListN.{get_or, get_or-map}
use Rattle.curve.specs.declared.side.End.{End}
use Rattle.curve.specs.Side.{dx, dy}
use Rattle.curve.specs.Weights.{weight_of}
use Rattle.curve.specs.Curve.{straight_at, most_d, slope_d, most_e, slope_e, control_heights, weighed, smooth_at, is_straight, curve_of}
use Rattle.survey.specs.Survey.{Survey, place_of}
use Rattle.slopes.specs.Job.{slopes_of}
use Rattle.spots.specs.Lines.{end_at}
use Rattle.mirror.specs.Mirror.{negated, end_negated}
use Rattle.mirror.proofs.SlopeLaws.{height-negated, slopes-negated}
use Rattle.mirror.proofs.WholeLaws.{Negated, negation, ◌plus◌, ◌less◌, ◌by◌, ◌of◌, quotient-negated}

module _ (x y : ℤ) where
  of_d : (p q : ℤ) → Negated (slope_d (neg_ℤ p) (neg_ℤ q) x y) (slope_d p q x y)
  unfolding slope_d
  of_d p q = quotient-negated most_d 256 (negation p by x plus negation q by y)

  of_e : (r s t : ℤ) → Negated (slope_e (neg_ℤ r) (neg_ℤ s) (neg_ℤ t) x y) (slope_e r s t x y)
  unfolding slope_e
  of_e r s t = quotient-negated most_e 256 (negation r by (x *ℤ x) plus pos 2 of negation s by x by y plus negation t by (y *ℤ y))

  -- 'in slopes, second slopes, D and E alike'
  pub d-negated : (p q : ℤ) → slope_d (neg_ℤ p) (neg_ℤ q) x y ≡ neg_ℤ (slope_d p q x y)
  d-negated p q = (of_d p q).is

  pub e-negated : (r s t : ℤ) → slope_e (neg_ℤ r) (neg_ℤ s) (neg_ℤ t) x y ≡ neg_ℤ (slope_e r s t x y)
  e-negated r s t = (of_e r s t).is

smooth-negated : (h : List ℤ) (k : ℕ) → smooth_at (map neg_ℤ h) k ≡ neg_ℤ (smooth_at h k)
unfolding smooth_at weighed
smooth-negated h k = (at 0 plus at 1 plus at 2 plus at 3 plus at 4 plus at 5).is
  where
    at : (i : ℕ) → Negated (pos (weight_of k i) *ℤ get_or (map neg_ℤ h) i (pos 0)) (pos (weight_of k i) *ℤ get_or h i (pos 0))
    at i =
        let height : Negated (get_or (map neg_ℤ h) i (pos 0)) (get_or h i (pos 0)) = record { is = get_or-map neg_ℤ h i (pos 0) } in
        pos (weight_of k i) of height

module _ (low high : End) where
  pub controls-negated : control_heights (end_negated low) (end_negated high) ≡ map neg_ℤ (control_heights low high)
  unfolding control_heights
  controls-negated =
      let x = dx low high in
      let y = dy low high in
      let Z1 = pos 5120 of negation low.z in
      let D1 = of_d x y low.p low.q in
      let E1 = of_e x y low.r low.s low.t in
      let Z2 = pos 5120 of negation high.z in
      let D2 = of_d x y high.p high.q in
      let E2 = of_e x y high.r high.s high.t in
      λ t.
      Z1.is t
      ∷ (Z1 plus pos 4 of D1).is t
      ∷ (Z1 plus pos 8 of D1 plus E1).is t
      ∷ (Z2 less pos 8 of D2 plus E2).is t
      ∷ (Z2 less pos 4 of D2).is t
      ∷ Z2.is t
      ∷ []

  -- The curve in either style, at every stop.
  pub curve-negated : (style k : ℕ) → curve_of style (end_negated low) (end_negated high) k ≡ neg_ℤ (curve_of style low high k)
  unfolding curve_of
  curve-negated style k = go (is_straight style)
    where
      go : (b : Bool)
          → cond b (straight_at (neg_ℤ low.z) (neg_ℤ high.z)) (smooth_at (control_heights (end_negated low) (end_negated high))) k
          ≡ neg_ℤ (cond b (straight_at low.z high.z) (smooth_at (control_heights low high)) k)
      go true = (negation low.z by pos (64 - k) plus negation high.z by pos k).is
      go false = (λ t. smooth_at (controls-negated t) k) ∙ smooth-negated (control_heights low high) k

-- So it is on every side of a survey.
module _ (s : Survey) where
  end-negated : (k : ℕ) → end_at (negated s) (slopes_of (negated s)) k ≡ end_negated (end_at s (slopes_of s) k)
  end-negated k =
      let at : (n : ℕ) → get_or (map neg_ℤ (slopes_of s)) n (pos 0) ≡ neg_ℤ (get_or (slopes_of s) n (pos 0)) = λ n. get_or-map neg_ℤ (slopes_of s) n (pos 0) in
      (λ t. end_at (negated s) (slopes-negated s t) k)
      ∙ (λ t.
      record {
        x = (place_of s k).x;
        y = (place_of s k).y;
        z = height-negated s k t;
        p = at (5 * k) t;
        q = at (5 * k + 1) t;
        r = at (5 * k + 2) t;
        s = at (5 * k + 3) t;
        t = at (5 * k + 4) t;
      })

  pub side-negated : (style i j k : ℕ)
      → curve_of style (end_at (negated s) (slopes_of (negated s)) i) (end_at (negated s) (slopes_of (negated s)) j) k
      ≡ neg_ℤ (curve_of style (end_at s (slopes_of s) i) (end_at s (slopes_of s) j) k)
  side-negated style i j k =
      (λ t. curve_of style (end-negated i t) (end-negated j t) k) ∙ curve-negated (end_at s (slopes_of s) i) (end_at s (slopes_of s) j) style k
