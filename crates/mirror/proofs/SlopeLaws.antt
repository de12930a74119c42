-- Negating all heights negates every slope exactly. Assumes nothing.
--
-- A slope is a quotient with NX or NY, which are negated, over NZ, which is not; the rounded quotient and the cut are odd. r, s and t repeat
-- this over p and q, which are negated.
use mathlib.Core.Path.{◌≡◌, refl, sym, ap, ◌∙◌}
use mathlib.Core.List.{◌++◌, map, map-append}
use Prim.Native.Nat.{ℕ, zero, suc, ◌*◌}
use lib.IntN.{ℤ, pos, neg_ℤ, nat_abs, ◌+ℤ◌, ◌*ℤ◌}
use lib.ListN.{get_or-map}
use Rattle.lists.specs.Rows.{rows}
use Rattle.survey.specs.Limits.{most_slope}
use Rattle.survey.specs.Survey.{Survey, count, height_of}
use Rattle.normal.specs.Normal.{normal_at}
use Rattle.slopes.specs.Slopes.{slope, slope_p, slope_q, slope_r, slope_s, slope_t, five_at, row, slopes_at}
use Rattle.slopes.specs.Job.{slopes_of}
use Rattle.held.specs.Held.{five}
use Rattle.mirror.specs.Mirror.{negated, five_negated}
use Rattle.mirror.proofs.WholeLaws.{Negated, negation, ◌plus◌, ◌of◌, quotient-negated}
use Rattle.mirror.proofs.NormalLaws.{normal-negated}

-- 'every height negated'
pub height-negated : (s : Survey) (k : ℕ) → height_of (negated s) k ≡ neg_ℤ (height_of s k)
height-negated s k = get_or-map neg_ℤ s.zs k (pos 0)

slope-negated : {x a : ℤ} → Negated x a → (d : ℕ) → slope x d ≡ neg_ℤ (slope a d)
slope-negated h d = (quotient-negated most_slope d h).is

-- Over any heights h, and any p and q in their place, that are negated at every station.
module _ (s : Survey) (i : ℕ) where
  p_by : (h : ℕ → ℤ) → slope_p (negated s) (λ k. neg_ℤ (h k)) i ≡ neg_ℤ (slope_p s h i)
  unfolding slope_p
  p_by h =
      ap (λ n. slope (neg_ℤ (pos 65536) *ℤ n.nx) (nat_abs n.nz)) (normal-negated s h i)
      ∙ slope-negated (neg_ℤ (pos 65536) of negation (normal_at s h i).nx) (nat_abs (normal_at s h i).nz)

  q_by : (h : ℕ → ℤ) → slope_q (negated s) (λ k. neg_ℤ (h k)) i ≡ neg_ℤ (slope_q s h i)
  unfolding slope_q
  q_by h =
      ap (λ n. slope (neg_ℤ (pos 65536) *ℤ n.ny) (nat_abs n.nz)) (normal-negated s h i)
      ∙ slope-negated (neg_ℤ (pos 65536) of negation (normal_at s h i).ny) (nat_abs (normal_at s h i).nz)

  r_by : (p : ℕ → ℤ) → slope_r (negated s) (λ k. neg_ℤ (p k)) i ≡ neg_ℤ (slope_r s p i)
  unfolding slope_r
  r_by p =
      ap (λ n. slope (neg_ℤ n.nx) (nat_abs n.nz)) (normal-negated s p i)
      ∙ slope-negated (negation (neg_ℤ (normal_at s p i).nx)) (nat_abs (normal_at s p i).nz)

  s_by : (p q : ℕ → ℤ) → slope_s (negated s) (λ k. neg_ℤ (p k)) (λ k. neg_ℤ (q k)) i ≡ neg_ℤ (slope_s s p q i)
  unfolding slope_s
  s_by p q =
      let m = normal_at s p i in
      let n = normal_at s q i in
      (λ t. slope (neg_ℤ ((normal-negated s p i t).ny +ℤ (normal-negated s q i t).nx)) (2 * nat_abs (normal-negated s p i t).nz))
      ∙ ap (λ (z : ℤ). slope (neg_ℤ z) (2 * nat_abs m.nz)) (negation m.ny plus negation n.nx).is
      ∙ slope-negated (negation (neg_ℤ (m.ny +ℤ n.nx))) (2 * nat_abs m.nz)

  t_by : (q : ℕ → ℤ) → slope_t (negated s) (λ k. neg_ℤ (q k)) i ≡ neg_ℤ (slope_t s q i)
  unfolding slope_t
  t_by q =
      ap (λ n. slope (neg_ℤ n.ny) (nat_abs n.nz)) (normal-negated s q i)
      ∙ slope-negated (negation (neg_ℤ (normal_at s q i).ny)) (nat_abs (normal_at s q i).nz)

module _ (s : Survey) where
  heights : height_of (negated s) ≡ (λ k. neg_ℤ (height_of s k))
  heights t k = height-negated s k t

  all_p : slope_p (negated s) (height_of (negated s)) ≡ (λ k. neg_ℤ (slope_p s (height_of s) k))
  all_p = ap (slope_p (negated s)) heights ∙ (λ t k. p_by s k (height_of s) t)

  all_q : slope_q (negated s) (height_of (negated s)) ≡ (λ k. neg_ℤ (slope_q s (height_of s) k))
  all_q = ap (slope_q (negated s)) heights ∙ (λ t k. q_by s k (height_of s) t)

  -- p, q, r, s and t of every station.
  pub five-negated : (i : ℕ) → five (negated s) i ≡ five_negated (five s i)
  five-negated i =
      let p = slope_p s (height_of s) in
      let q = slope_q s (height_of s) in
      (λ t. five_at (negated s) (all_p t) (all_q t) i)
      ∙ (λ t. record { p = neg_ℤ (p i); q = neg_ℤ (q i); r = r_by s i p t; s = s_by s i p q t; t = t_by s i q t })

  rows-negated : (n : ℕ) → rows (slopes_at (negated s) (height_of (negated s))) n ≡ map neg_ℤ (rows (slopes_at s (height_of s)) n)
  rows-negated zero = refl
  rows-negated (suc n) =
      (λ t. rows-negated n t ++ row (five-negated n t)) ∙ sym (map-append neg_ℤ (rows (slopes_at s (height_of s)) n) (slopes_at s (height_of s) n))

  -- 'Negating all heights must then negate every slope exactly.'
  pub slopes-negated : slopes_of (negated s) ≡ map neg_ℤ (slopes_of s)
  slopes-negated = rows-negated (count s)
