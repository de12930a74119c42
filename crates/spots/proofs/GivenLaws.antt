-- The slopes that a style is given: every station with them is in range, and the spots by them are those by the survey's own slopes. Assumes
-- nothing.
use mathlib.Core.Path.{◌≡◌, refl, sym, ap, ◌∙◌, subst}
use mathlib.Core.Bool.{Bool, true, false, cond}
use mathlib.Core.List.{List, ◌++◌}
use Prim.Native.Nat.{ℕ, zero, suc, ◌+◌, ◌*◌, ◌≤◌, ◌<◌}
use native.Mathlib.Omega.{arith}
use lib.IntN.{ℤ, pos}
use lib.ListN.{length, get_or, drop, replicate, length-append, length-replicate, get_or-append}
use lib.Seq.{drop_at}
use Rattle.lists.proofs.RowsLaws.{rows-length, rows_at}
use Rattle.whole.specs.Range.{Within}
use Rattle.whole.proofs.RangeLaws.{within-pos}
use Rattle.survey.specs.Fit.{Fit}
use Rattle.survey.specs.Limits.{most_slope}
use Rattle.survey.specs.Rooms.{slope_room}
use Rattle.survey.specs.Survey.{Survey, count, place_of, height_of}
use Rattle.curve.specs.declared.side.End.{End}
use Rattle.curve.specs.Bracket.{bracket_of}
use Rattle.curve.specs.Curve.{is_straight, straight_at, curve_of, scaled}
use Rattle.curve.specs.Side.{InRange}
use Rattle.curve.specs.Spot.{spot_of}
use Rattle.slopes.specs.Job.{slopes_of}
use Rattle.slopes.specs.Slopes.{slopes_at}
use Rattle.slopes.proofs.SlopeLaws.{slopes-cut}
use Rattle.spots.specs.Lines.{end_at, spot_between}
use Rattle.spots.specs.Prepared.{slopes_for}

-- The straight curve asks for no slopes.
curve-straight : (style : ℕ) (a b : End) → is_straight style ≡ true → curve_of style a b ≡ straight_at a.z b.z
unfolding curve_of
curve-straight style a b e = rw e

module _ (s : Survey) (fit : Fit s) (style : ℕ) where
  -- There are five to a station.
  pub slopes-length : length (slopes_for s style) ≡ slope_room (count s)
  slopes-length = by (is_straight style)
    where
      by : (t : Bool) → length (cond t (replicate (slope_room (count s)) (pos 0)) (slopes_of s)) ≡ slope_room (count s)
      by true = length-replicate (slope_room (count s)) (pos 0)
      by false = rows-length (slopes_at s (height_of s)) 5 (λ i. refl) (count s)

  -- With the slopes cleared, the room is zero, and the rest as it was.
  pub slopes-cleared : (old : List ℤ) {n : ℕ} {filled cleared : List ℤ} → n ≡ slope_room (count s)
      → filled ≡ slopes_for s style ++ drop (slope_room (count s)) old → cleared ≡ replicate n (pos 0) ++ drop n filled
      → cleared ≡ replicate (slope_room (count s)) (pos 0) ++ drop (slope_room (count s)) old
  slopes-cleared old {n} {filled} e f g =
      g
      ∙ ap (λ m. replicate m (pos 0) ++ drop m filled) e
      ∙ ap (λ l. replicate (slope_room (count s)) (pos 0) ++ l)
      (ap (drop (slope_room (count s))) f ∙ drop_at (slopes_for s style) (drop (slope_room (count s)) old) (slope_room (count s)) slopes-length)

  module _ (rest : List ℤ) where
    abbrev given : List ℤ
    given = slopes_for s style ++ rest

    zero-at : (n k : ℕ) → k < n → get_or (replicate n (pos 0) ++ rest) k (pos 0) ≡ pos 0
    zero-at zero k h = absurd (omega arith)
    zero-at (suc n) zero h = refl
    zero-at (suc n) (suc k) h = zero-at n k (omega arith)

    pub given-long : 5 * count s ≤ length given
    given-long = omega (arith, length-append (slopes_for s style) rest, slopes-length)

    -- Each is within the cut, in either style.
    slope-within : (k j : ℕ) → k < count s → j < 5 → ((i : ℕ) → Within most_slope (get_or (slopes_at s (height_of s) i) j (pos 0))) → Within most_slope (get_or given (5 * k + j) (pos 0))
    slope-within k j h l w = by (is_straight style)
      where
        by : (t : Bool) → Within most_slope (get_or (cond t (replicate (slope_room (count s)) (pos 0)) (slopes_of s) ++ rest) (5 * k + j) (pos 0))
        by true = subst (Within most_slope) (sym (zero-at (slope_room (count s)) (5 * k + j) (omega arith))) (within-pos (omega arith))
        by false = subst (Within most_slope) (sym (rows_at (slopes_at s (height_of s)) 5 (λ i. refl) (count s) k j rest (pos 0) h l)) (w k)

    -- Every station is in range.
    pub end-range : (k : ℕ) → k < count s → InRange (end_at s given k)
    end-range k h =
        let e : 5 * k + 0 ≡ 5 * k = omega arith in
        record {
          x-range = fit.x-range k h;
          y-range = fit.y-range k h;
          z-range = fit.z-range k h;
          p-range = subst (λ i. Within most_slope (get_or given i (pos 0))) e (slope-within k 0 h (omega arith) (λ i. (slopes-cut s (height_of s) i).p));
          q-range = slope-within k 1 h (omega arith) (λ i. (slopes-cut s (height_of s) i).q);
          r-range = slope-within k 2 h (omega arith) (λ i. (slopes-cut s (height_of s) i).r);
          s-range = slope-within k 3 h (omega arith) (λ i. (slopes-cut s (height_of s) i).s);
          t-range = slope-within k 4 h (omega arith) (λ i. (slopes-cut s (height_of s) i).t);
        }

    -- A smooth line takes its slopes from the front of the list; a straight one asks for none.
    slope_same : (k j : ℕ) → k < count s → j < 5 → get_or (slopes_of s ++ rest) (5 * k + j) (pos 0) ≡ get_or (slopes_of s) (5 * k + j) (pos 0)
    slope_same k j h l = get_or-append (slopes_of s) rest (pos 0) (5 * k + j) (omega (arith, rows-length (slopes_at s (height_of s)) 5 (λ i. refl) (count s)))

    end_same : (k : ℕ) → k < count s → end_at s (slopes_of s ++ rest) k ≡ end_at s (slopes_of s) k
    end_same k h =
        let e : 5 * k + 0 ≡ 5 * k = omega arith in
        let p = ap (λ i. get_or (slopes_of s ++ rest) i (pos 0)) (sym e) ∙ slope_same k 0 h (omega arith) ∙ ap (λ i. get_or (slopes_of s) i (pos 0)) e in
        let q = slope_same k 1 h (omega arith) in
        let r = slope_same k 2 h (omega arith) in
        let u = slope_same k 3 h (omega arith) in
        let t = slope_same k 4 h (omega arith) in
        λ i. record { x = (place_of s k).x; y = (place_of s k).y; z = height_of s k; p = p i; q = q i; r = r i; s = u i; t = t i }

    pub spot_same : (level : ℤ) (i j : ℕ) → i < count s → j < count s → spot_between s given style level i j ≡ spot_between s (slopes_of s) style level i j
    spot_same level i j hi hj = by (is_straight style) refl
      where
        straight : (a b : End) → is_straight style ≡ true → curve_of style a b ≡ straight_at a.z b.z
        straight a b e = curve-straight style a b e

        by : (t : Bool) → is_straight style ≡ t → spot_between s given style level i j ≡ spot_between s (slopes_of s) style level i j
        by true e =
            ap (λ c. spot_of (end_at s given i) (end_at s given j) (bracket_of c (scaled style level)))
            (straight (end_at s given i) (end_at s given j) e ∙ sym (straight (end_at s (slopes_of s) i) (end_at s (slopes_of s) j) e))
        by false e =
            ap (λ (b : Bool). spot_between s (cond b (replicate (slope_room (count s)) (pos 0)) (slopes_of s) ++ rest) style level i j) e
            ∙ (λ t. spot_of (end_same i hi t) (end_same j hj t) (bracket_of (curve_of style (end_same i hi t) (end_same j hj t)) (scaled style level)))
