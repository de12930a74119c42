-- A step from neighbour to neighbour is the step of document 01 (`step_is`), so a line comes out side for side as from the triangle list
-- (`path_is`). Assumes nothing.
use Prim.Native.Nat.{ℕ, zero, suc, ◌*◌, ◌≤◌, ◌<◌}
use native.Mathlib.Decide.{ℕ_discrete}
use borrow.Author.Tests.{eq-eqb, ne_eqb}
use mathlib.Core.Path.{◌≡◌, refl, sym, ap, ap₂, ◌∙◌}
use mathlib.Core.Bool.{Bool, true, false, cond, beq}
use mathlib.Core.List.{List, [], ◌∷◌, map}
use mathlib.Core.Option.{Option, none, some}
use lib.Dec.{eqb}
use lib.ListN.{length}
use Rattle.sweep.specs.Sweep.{Three, flat}
use Rattle.trace.specs.Side.{Directed, ◌⟶◌, is_same, reversed, left_corner}
use Rattle.trace.specs.Mesh.{count, boundaries}
use Rattle.trace.specs.Walk.{out, next, onward, walk, path}
use Rattle.trace.proofs.CountLaws.{same_self, same_not}
use Rattle.neighbours.specs.Half.{after, before, corner_in, runs_by, side_at, twin}
use Rattle.neighbours.specs.Records.{records_of, corner_of, across_of}
use Rattle.tracing.specs.Steps.{exit, is_at, leave, walk_by, path_by, out_by, met_by}
use Rattle.neighbours.proofs.HalfLaws.{after-before, after-after, after-within, before-within, half-some, half_none, left-half, left_none, side-unique}
use Rattle.neighbours.proofs.RecordLaws.{across_is, list_back}

-- Corners and what lies across are those of the triangles ts.
pub record Tells (ts : List (Three ℕ)) (corner : ℕ → ℕ) (across : ℕ → Option ℕ) : Type 0 where
  pub corner_is : (h : ℕ) → h < 3 * length ts → corner h ≡ corner_in (flat ts) h
  pub across_is : (h : ℕ) → h < 3 * length ts → across h ≡ twin ts h

module _ (ts : List (Three ℕ)) (single : (d : Directed) → count d (boundaries ts) ≤ 1) (corner : ℕ → ℕ) (across : ℕ → Option ℕ) (tells : Tells ts corner across)
    (below : ℕ → Bool) where
  abbrev m : ℕ
  m = 3 * length ts

  pub runs_is : (h : ℕ) → h < m → runs_by corner h ≡ side_at ts h
  unfolding side_at
  runs_is h l = ap₂ ◌⟶◌ (tells.corner_is h l) (tells.corner_is (after h) (after-within (length ts) h l))

  pub exit-within : (h : ℕ) → h < m → exit corner below h < m
  unfolding exit
  exit-within h l = by (beq (below (corner (before h))) (below (corner (after h))))
    where
      by : (t : Bool) → cond t (before h) (after h) < m
      by true = before-within (length ts) h l
      by false = after-within (length ts) h l

  -- The next side of the line is the one over which it leaves the triangle.
  pub step_is : (h : ℕ) → h < m → next (left_corner ts) below (runs_by corner h) ≡ some (out_by corner (exit corner below h))
  unfolding next exit
  step_is h l = rw left (ap some (by (beq (below (corner (before h))) (below (corner (after h))))))
    where
      left : left_corner ts (corner h ⟶ corner (after h)) ≡ some (corner (before h))
      left = ap (left_corner ts) (runs_is h l) ∙ left-half ts single h l ∙ ap some (sym (tells.corner_is (before h) (before-within (length ts) h l)))

      by : (t : Bool) → cond t (corner h ⟶ corner (before h)) (corner (before h) ⟶ corner (after h)) ≡ out_by corner (cond t (before h) (after h))
      by true = ap (λ k. corner k ⟶ corner (before h)) (sym (after-before h))
      by false = ap (λ k. corner k ⟶ corner (after h)) (sym (after-after h))

  -- What lies across runs as the line does; with nothing across, the line is at the hull.
  pub across-runs : (g h : ℕ) → g < m → across g ≡ some h → (h < m) × (runs_by corner h ≡ out_by corner g)
  across-runs g h l e =
      let s = half-some ts (reversed (side_at ts g)) h (sym (tells.across_is g l) ∙ e) in
      (s.0, runs_is h s.0 ∙ s.1 ∙ ap reversed (sym (runs_is g l)))

  pub across_none : (g : ℕ) → g < m → across g ≡ none → next (left_corner ts) below (out_by corner g) ≡ none
  unfolding next
  across_none g l e =
      ap (out below (out_by corner g)) (ap (λ d. left_corner ts (reversed d)) (runs_is g l) ∙ left_none ts single (reversed (side_at ts g)) (sym (tells.across_is g l) ∙ e))

  -- The start comes round where it lies across.
  start_same : (s g : ℕ) → s < m → g < m → (e : Option ℕ) → across g ≡ e → is_same (out_by corner g) (runs_by corner s) ≡ is_at s e
  start_same s g ls lg none q =
      same_not (out_by corner g) (runs_by corner s)
      (λ r. half_none ts (reversed (side_at ts g)) (sym (tells.across_is g lg) ∙ q) s ls (sym (runs_is s ls) ∙ sym r ∙ ap reversed (runs_is g lg)))
  start_same s g ls lg (some h) q = by (ℕ_discrete h s)
    where
      w : (h < m) × (runs_by corner h ≡ out_by corner g)
      w = across-runs g h lg q

      by : Dec (h ≡ s) → is_same (out_by corner g) (runs_by corner s) ≡ eqb h s
      by (yes r) = ap (is_same (out_by corner g)) (ap (runs_by corner) (sym r) ∙ w.1) ∙ same_self (out_by corner g) ∙ sym (eq-eqb h s r)
      by (no r) =
          same_not (out_by corner g) (runs_by corner s) (λ t. r (side-unique ts single h s w.0 ls (sym (runs_is h w.0) ∙ w.1 ∙ t ∙ runs_is s ls)))
          ∙ sym (ne_eqb h s r)

  -- What follows half-side h is what follows its directed side.
  pub walk_is : (fuel s h : ℕ) → s < m → h < m
      → map (out_by corner) (walk_by corner across below s fuel h) ≡ walk (next (left_corner ts) below) (runs_by corner s) fuel (runs_by corner h)
  unfolding walk_by walk
  walk_is zero s h ls lh = refl
  walk_is (suc fuel) s h ls lh =
      by (across g) refl (walk_is fuel s) ∙ sym (ap (λ r. onward r (runs_by corner s) (walk (next (left_corner ts) below) (runs_by corner s) fuel)) (step_is h lh))
    where
      g : ℕ
      g = exit corner below h

      lg : g < m
      lg = exit-within h lh

      at_hull : (k : ℕ) → across g ≡ none → walk (next (left_corner ts) below) (runs_by corner s) k (out_by corner g) ≡ []
      at_hull zero q = refl
      at_hull (suc k) q = ap (λ r. onward r (runs_by corner s) (walk (next (left_corner ts) below) (runs_by corner s) k)) (across_none g lg q)

      by : (e : Option ℕ) → across g ≡ e
          → ((k : ℕ) → s < m → k < m → map (out_by corner) (walk_by corner across below s fuel k) ≡ walk (next (left_corner ts) below) (runs_by corner s) fuel (runs_by corner k))
          → map (out_by corner) (leave s g e (walk_by corner across below s fuel))
          ≡ cond (is_same (out_by corner g) (runs_by corner s)) [] (out_by corner g ∷ walk (next (left_corner ts) below) (runs_by corner s) fuel (out_by corner g))
      by none q ih = rw (start_same s g ls lg none q) (ap (λ l. out_by corner g ∷ l) (sym (at_hull fuel q)))
      by (some k) q ih = rw (start_same s g ls lg (some k) q) (way (eqb k s))
        where
          w : (k < m) × (runs_by corner k ≡ out_by corner g)
          w = across-runs g k lg q

          way : (t : Bool) → map (out_by corner) (cond t [] (g ∷ walk_by corner across below s fuel k))
              ≡ cond t [] (out_by corner g ∷ walk (next (left_corner ts) below) (runs_by corner s) fuel (out_by corner g))
          way true = refl
          way false =
              ap (λ l. out_by corner g ∷ l) (ih k ls w.0 ∙ ap (walk (next (left_corner ts) below) (runs_by corner s) fuel) w.1)

  -- So a line comes out as from the triangle list.
  pub path_is : (fuel s : ℕ) → s < m → met_by corner (path_by corner across below fuel s) ≡ path (next (left_corner ts) below) fuel (side_at ts s)
  path_is fuel s ls =
      ap (λ l. runs_by corner s ∷ l) (walk_is fuel s s ls ls) ∙ ap (path (next (left_corner ts) below) fuel) (runs_is s ls)

-- The records of a list tell its corners and neighbours.
pub records-tell : (ts : List (Three ℕ)) → Tells ts (corner_of (records_of ts)) (across_of (records_of ts))
records-tell ts = record { corner_is = λ h l. ap (λ us. corner_in (flat us) h) (list_back ts); across_is = across_is ts }
