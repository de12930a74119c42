-- The half-sides of a list of triangles are its triangles' directed sides: each is one of a triangle (`half_has`), each triangle's has
-- its number (`has_half`), and where no directed side stands twice, no two half-sides run alike (`side-unique`). Assumes nothing.
use Prim.Native.Nat.{ℕ, zero, suc, ◌+◌, ◌*◌, ◌-◌, ◌%◌, ◌≤◌, ◌<◌}
use native.Mathlib.Omega.{arith}
use native.Mathlib.Decide.{ℕ_discrete}
use borrow.Author.Tests.{eq-eqb, ne_eqb, ltb-true, ltb-false}
use mathlib.Core.Path.{◌≡◌, refl, sym, ap, ap₂, ◌∙◌, subst}
use mathlib.Core.Bool.{Bool, true, cond, true≢false}
use mathlib.Core.List.{List, [], ◌∷◌}
use mathlib.Core.Option.{Option, none, some, none-ne-some, some-injective}
use lib.Dec.{eqb, ltb}
use lib.ListN.{length, get_or}
use Rattle.lists.specs.Lowest.{lowest}
use Rattle.lists.proofs.LowestLaws.{lowest-passes, lowest-fails}
use Rattle.sweep.specs.Sweep.{Three, flat}
use Rattle.trace.specs.Side.{Directed, ◌⟶◌, bit, is_same, left_corner}
use Rattle.trace.specs.Mesh.{count, boundaries, Has, first, second, third, later}
use Rattle.trace.proofs.CountLaws.{Tested, passes, fails, tested, same_is, same_self}
use Rattle.trace.proofs.MeshLaws.{boundaries-length, has_left, left_has}
use Rattle.neighbours.specs.Half.{after, before, corner_in, side_at, half_of}

-- ---- after and before
pub after-third : (h : ℕ) → after (suc (suc (suc h))) ≡ suc (suc (suc (after h)))
unfolding after
after-third h = by (ℕ_discrete (h % 3) 2)
  where
    by : Dec (h % 3 ≡ 2)
        → cond (eqb (suc (suc (suc h)) % 3) 2) (suc (suc (suc h)) - 2) (suc (suc (suc h)) + 1) ≡ suc (suc (suc (cond (eqb (h % 3) 2) (h - 2) (h + 1))))
    by (yes e) =
        let f : suc (suc (suc h)) % 3 ≡ 2 = omega (arith, e) in
        rw (eq-eqb _ _ e, eq-eqb _ _ f) (omega (arith, e))
    by (no e) =
        let f : suc (suc (suc h)) % 3 ≡ 2 → ⊥ = λ (q : suc (suc (suc h)) % 3 ≡ 2). e (omega (arith, q)) in
        rw (ne_eqb _ _ e, ne_eqb _ _ f) (omega arith)

pub before-third : (h : ℕ) → before (suc (suc (suc h))) ≡ suc (suc (suc (before h)))
unfolding before
before-third h = by (ℕ_discrete (h % 3) 0)
  where
    by : Dec (h % 3 ≡ 0)
        → cond (eqb (suc (suc (suc h)) % 3) 0) (suc (suc (suc h)) + 2) (suc (suc (suc h)) - 1) ≡ suc (suc (suc (cond (eqb (h % 3) 0) (h + 2) (h - 1))))
    by (yes e) =
        let f : suc (suc (suc h)) % 3 ≡ 0 = omega (arith, e) in
        rw (eq-eqb _ _ e, eq-eqb _ _ f) (omega arith)
    by (no e) =
        let f : suc (suc (suc h)) % 3 ≡ 0 → ⊥ = λ (q : suc (suc (suc h)) % 3 ≡ 0). e (omega (arith, q)) in
        let g : h ≡ 0 → ⊥ = λ (q : h ≡ 0). e (omega (arith, q)) in
        rw (ne_eqb _ _ e, ne_eqb _ _ f) (omega (arith, pos_of h g))
      where
        pos_of : (k : ℕ) → (k ≡ 0 → ⊥) → 1 ≤ k
        pos_of zero q = absurd (q refl)
        pos_of (suc k) q = omega arith

-- What holds at 0, 1 and 2, and three further on, holds of every number.
pub by_threes : (P : ℕ → Type 0) → P 0 → P 1 → P 2 → ((h : ℕ) → P h → P (suc (suc (suc h)))) → (h : ℕ) → P h
by_threes P p q r s zero = p
by_threes P p q r s (suc zero) = q
by_threes P p q r s (suc (suc zero)) = r
by_threes P p q r s (suc (suc (suc h))) = s h (by_threes P p q r s h)

-- Round the triangle.
pub after-before : (h : ℕ) → after (before h) ≡ h
unfolding after before
after-before =
    by_threes (λ h. after (before h) ≡ h) refl refl refl
    (λ h e. ap after (before-third h) ∙ after-third (before h) ∙ ap (λ k. suc (suc (suc k))) e)

pub after-after : (h : ℕ) → after (after h) ≡ before h
unfolding after before
after-after =
    by_threes (λ h. after (after h) ≡ before h) refl refl refl
    (λ h e. ap after (after-third h) ∙ after-third (after h) ∙ ap (λ k. suc (suc (suc k))) e ∙ sym (before-third h))

-- Both stay among the half-sides of whole triangles.
pub after-within : (m h : ℕ) → h < 3 * m → after h < 3 * m
unfolding after
after-within m h l = by (ℕ_discrete (h % 3) 2)
  where
    by : Dec (h % 3 ≡ 2) → cond (eqb (h % 3) 2) (h - 2) (h + 1) < 3 * m
    by (yes e) = rw (eq-eqb _ _ e) (omega arith)
    by (no e) = rw (ne_eqb _ _ e) (omega (arith, other e))
      where
        other : (h % 3 ≡ 2 → ⊥) → h + 1 < 3 * m
        other f = way (ℕ_discrete (h + 1) (3 * m))
          where
            way : Dec (h + 1 ≡ 3 * m) → h + 1 < 3 * m
            way (yes q) = absurd (f (omega (arith, q)))
            way (no q) = omega arith

pub before-within : (m h : ℕ) → h < 3 * m → before h < 3 * m
before-within m h l = subst (λ k. k < 3 * m) (after-after h) (after-within m (after h) (after-within m h l))

-- Case by case, and 32766 is three times 10922.
pub after_last : (h : ℕ) → h % 3 ≡ 2 → h - 2 ≡ after h
unfolding after
after_last h e = rw (eq-eqb _ _ e)

pub after_next : (h : ℕ) → (h % 3 ≡ 2 → ⊥) → h + 1 ≡ after h
unfolding after
after_next h e = rw (ne_eqb _ _ e)

pub before_first : (h : ℕ) → h % 3 ≡ 0 → h + 2 ≡ before h
unfolding before
before_first h e = rw (eq-eqb _ _ e)

pub before_other : (h : ℕ) → (h % 3 ≡ 0 → ⊥) → h - 1 ≡ before h
unfolding before
before_other h e = rw (ne_eqb _ _ e)

pub after_small : (h : ℕ) → h < 32766 → after h < 32766
after_small h l = after-within 10922 h l

pub before_small : (h : ℕ) → h < 32766 → before h < 32766
before_small h l = before-within 10922 h l

-- ---- the half-sides of a list of triangles
-- The three corners of a half-side's triangle, from the one that it starts from.
pub half_has : (ts : List (Three ℕ)) (h : ℕ) → h < 3 * length ts
    → Has (corner_in (flat ts) h) (corner_in (flat ts) (after h)) (corner_in (flat ts) (before h)) ts
unfolding flat after before
half_has [] h l = absurd (omega arith)
half_has (t ∷ ts) zero l = first
half_has (t ∷ ts) (suc zero) l = second
half_has (t ∷ ts) (suc (suc zero)) l = third
half_has (t ∷ ts) (suc (suc (suc h))) l =
    rw (after-third h, before-third h) (later (half_has ts h (omega arith)))

-- The number of a triangle's directed side.
pub record Half (a b c : ℕ) (ts : List (Three ℕ)) : Type 0 where
  pub at : ℕ
  pub within : at < 3 * length ts
  pub from : corner_in (flat ts) at ≡ a
  pub to : corner_in (flat ts) (after at) ≡ b
  pub opposite : corner_in (flat ts) (before at) ≡ c

pub has_half : {a b c : ℕ} {ts : List (Three ℕ)} → Has a b c ts → Half a b c ts
unfolding flat after before
has_half (first {t} {ts}) = record { at = 0; within = omega arith; from = refl; to = refl; opposite = refl }
has_half (second {t} {ts}) = record { at = 1; within = omega arith; from = refl; to = refl; opposite = refl }
has_half (third {t} {ts}) = record { at = 2; within = omega arith; from = refl; to = refl; opposite = refl }
has_half (later {t = t} {ts = ts} h) =
    let k = has_half h in
    record {
      at = suc (suc (suc k.at));
      within = omega (arith, k.within);
      from = k.from;
      to = ap (corner_in (flat (t ∷ ts))) (after-third k.at) ∙ k.to;
      opposite = ap (corner_in (flat (t ∷ ts))) (before-third k.at) ∙ k.opposite;
    }

-- They are the directed sides of the triangles, in their order.
side-listed : (ts : List (Three ℕ)) (h : ℕ) → h < 3 * length ts → get_or (boundaries ts) h (0 ⟶ 0) ≡ side_at ts h
unfolding boundaries side_at flat after
side-listed [] h l = absurd (omega arith)
side-listed (t ∷ ts) zero l = refl
side-listed (t ∷ ts) (suc zero) l = refl
side-listed (t ∷ ts) (suc (suc zero)) l = refl
side-listed (t ∷ ts) (suc (suc (suc h))) l = side-listed ts h (omega arith) ∙ sym (side-third t ts h)
  where
    side-third : (t : Three ℕ) (ts : List (Three ℕ)) (h : ℕ) → side_at (t ∷ ts) (suc (suc (suc h))) ≡ side_at ts h
    side-third t ts h = ap (λ k. corner_in (flat ts) h ⟶ corner_in (flat (t ∷ ts)) k) (after-third h)

-- An entry of a list is counted; two entries that are the same are counted twice.
entry-count : (l : List Directed) (i : ℕ) (x : Directed) → i < length l → 0 < count (get_or l i x) l
unfolding count
entry-count [] i x h = absurd (omega arith)
entry-count (d ∷ l) zero x h = omega (arith, ap bit (same_self d))
entry-count (d ∷ l) (suc i) x h = omega (arith, entry-count l i x (omega arith))

entry-unique : (l : List Directed) (i j : ℕ) (x d : Directed) → i < length l → j < length l → count d l ≤ 1 → get_or l i x ≡ d → get_or l j x ≡ d → i ≡ j
unfolding count
entry-unique [] i j x d hi hj one p q = absurd (omega arith)
entry-unique (y ∷ l) zero zero x d hi hj one p q = refl
entry-unique (y ∷ l) zero (suc j) x d hi hj one p q =
    let c : 0 < count d l = subst (λ e. 0 < count e l) q (entry-count l j x (omega arith)) in
    let b : is_same d y ≡ true = ap (is_same d) p ∙ same_self d in
    absurd (omega (arith, one, ap bit b, c))
entry-unique (y ∷ l) (suc i) zero x d hi hj one p q =
    let c : 0 < count d l = subst (λ e. 0 < count e l) p (entry-count l i x (omega arith)) in
    let b : is_same d y ≡ true = ap (is_same d) q ∙ same_self d in
    absurd (omega (arith, one, ap bit b, c))
entry-unique (y ∷ l) (suc i) (suc j) x d hi hj one p q =
    ap suc (entry-unique l i j x d (omega arith) (omega arith) (omega (arith, one)) p q)

-- ---- the half-side that runs as d
module _ (ts : List (Three ℕ)) where
  abbrev runs : Directed → ℕ → Bool
  runs d g = is_same d (side_at ts g)

  pub half-some : (d : Directed) (g : ℕ) → half_of ts d ≡ some g → (g < 3 * length ts) × (side_at ts g ≡ d)
  unfolding half_of
  half-some d g e = by (tested (ltb (lowest (runs d) (3 * length ts)) (3 * length ts)))
    where
      by : Tested (ltb (lowest (runs d) (3 * length ts)) (3 * length ts)) → (g < 3 * length ts) × (side_at ts g ≡ d)
      by (fails p) = absurd (none-ne-some g (rw p at e))
      by (passes p) =
          let q : lowest (runs d) (3 * length ts) ≡ g = some-injective _ g (rw p at e) in
          let l : lowest (runs d) (3 * length ts) < 3 * length ts = ltb-true _ _ p in
          (omega (arith, l, q), sym (same_is d (side_at ts g) (ap (runs d) (sym q) ∙ lowest-passes (runs d) (3 * length ts) l)))

  pub half_none : (d : Directed) → half_of ts d ≡ none → (g : ℕ) → g < 3 * length ts → side_at ts g ≡ d → ⊥
  unfolding half_of
  half_none d e g l q = by (tested (ltb (lowest (runs d) (3 * length ts)) (3 * length ts)))
    where
      by : Tested (ltb (lowest (runs d) (3 * length ts)) (3 * length ts)) → ⊥
      by (passes p) = none-ne-some _ (sym (rw p at e))
      by (fails p) =
          let f = lowest-fails (runs d) (3 * length ts) g (omega (arith, l, ltb-false (lowest (runs d) (3 * length ts)) (3 * length ts) p)) in
          true≢false (sym (ap (is_same d) q ∙ same_self d) ∙ f)

  -- ---- where no directed side stands twice
  module _ (single : (d : Directed) → count d (boundaries ts) ≤ 1) where
    -- No two half-sides run alike.
    pub side-unique : (g h : ℕ) → g < 3 * length ts → h < 3 * length ts → side_at ts g ≡ side_at ts h → g ≡ h
    side-unique g h lg lh e =
        entry-unique (boundaries ts) g h (0 ⟶ 0) (side_at ts h) (omega (arith, lg, boundaries-length ts)) (omega (arith, lh, boundaries-length ts)) (single (side_at ts h))
        (side-listed ts g lg ∙ e) (side-listed ts h lh)

    -- So a half-side that runs as d is the one.
    pub half_is : (d : Directed) (g : ℕ) → g < 3 * length ts → side_at ts g ≡ d → half_of ts d ≡ some g
    half_is d g l e = by (half_of ts d) refl
      where
        by : (r : Option ℕ) → half_of ts d ≡ r → half_of ts d ≡ some g
        by none q = absurd (half_none d q g l e)
        by (some h) q = let s = half-some d h q in q ∙ ap some (side-unique h g s.0 l (s.1 ∙ sym e))

    -- The corner left of a half-side, as it runs, is its triangle's third; and where no half-side runs as d, no triangle is left of d.
    pub left-half : (h : ℕ) → h < 3 * length ts → left_corner ts (side_at ts h) ≡ some (corner_in (flat ts) (before h))
    unfolding side_at
    left-half h l = has_left single (half_has ts h l)

    pub left_none : (d : Directed) → half_of ts d ≡ none → left_corner ts d ≡ none
    unfolding side_at
    left_none (a ⟶ b) e = by (left_corner ts (a ⟶ b)) refl
      where
        by : (r : Option ℕ) → left_corner ts (a ⟶ b) ≡ r → left_corner ts (a ⟶ b) ≡ none
        by none q = q
        by (some c) q =
            let k = has_half (left_has a b c ts q) in
            absurd (half_none (a ⟶ b) e k.at k.within (ap₂ ◌⟶◌ k.from k.to))
