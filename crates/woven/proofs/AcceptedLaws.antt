-- The check accepts the meshes of the survey and no other triangles: `accepted-mesh`. Assumes nothing.
--
-- What the tests of numbers, turns, sides and unused stations say is `Woven`, and that is a mesh (`faultless-woven`). A mesh passes them,
-- and all others: whether a station is in a triangle (`inner-free`), how many triangles there are (`length-free`) and what their areas
-- sum to (`accepted_is`) never decides. The first two decide which number refusal 9 carries.
use mathlib.Core.Path.{◌≡◌, refl, sym, ap, ap₂, ◌∙◌, subst}
use mathlib.Core.Bool.{Bool, true, false, true≢false, cond, not, ◌&&◌, ◌||◌, or-true}
use mathlib.Core.List.{List, [], ◌∷◌, append-nil}
use mathlib.Core.Logic.{⊎_elim, ◌↔◌}
use Prim.Native.Nat.{ℕ, zero, suc, ◌*◌, ◌-◌, ◌/◌, ◌%◌, ◌<◌, ◌≤◌}
use native.Mathlib.Omega.{arith}
use native.Mathlib.Decide.{dec_lt}
use borrow.Author.Tests.{le-ltb, eq-eqb, eqb-true, not-true, not-false}
use lib.Dec.{eqb}
use lib.IntN.{◌-ℤ◌}
use lib.ListN.{length, take}
use Rattle.lists.specs.Lowest.{some}
use Rattle.lists.proofs.LowestLaws.{none_found, some-false}
use Rattle.lists.proofs.TestLaws.{and_left, and_right, or_left}
use Rattle.whole.proofs.Bridge.{int, minus}
use Rattle.survey.specs.Checks.{checked}
use Rattle.survey.specs.Fit.{Fit}
use Rattle.survey.specs.Survey.{Survey, count}
use Rattle.std.specs.Prelude.{Ok, Err, ⊤}
use Rattle.survey.specs.Answer.{Answer}
use Rattle.survey.specs.declared.refusal.Refusal.TheVariants.{Mesh}
use Rattle.survey.proofs.CheckLaws.{is_zero}
use Rattle.survey.proofs.FitLaws.{fit_passed, passed-fit}
use Rattle.sweep.specs.Members.{In, sum}
use Rattle.sweep.specs.Sweep.{Three, flat}
use Rattle.sweep.proofs.Fill.{total-some, total_in}
use Rattle.sweep.proofs.MemberLaws.{any_find}
use Rattle.neighbours.specs.Room.{threes}
use Rattle.neighbours.proofs.RoomLaws.{length-flat, length-threes, threes-flat}
use Rattle.triangles.proofs.SurveyLaws.{survey-mesh}
use Rattle.hull.specs.Hull.{is_hull_side, twice_hull}
use Rattle.hull.specs.MeshOf.{twice_of, step_is, runs, runs_in, MeshOf}
use Rattle.hull.proofs.OutlineLaws.{hull-three}
use Rattle.hull.proofs.SideLaws.{Step, is, is_not, step}
use Rattle.woven.specs.Accepted.{whole_in, supplied_in, is_wrong_length, is_sewn, first_wrong, is_unused, is_whole_area, is_accepted, wrong_at, accepted_after, checked_over}
use Rattle.woven.specs.Woven.{Woven}
use Rattle.woven.proofs.FaultlessLaws.{used-corner, corner-used, Sewn, faultless-sewn, sewn-faultless, none_wrong, wrong_none, either}
use Rattle.woven.proofs.WovenLaws.{woven-mesh}

-- ---- sides
module _ (s : Survey) (ts : List (Three ℕ)) (right : (t : Three ℕ) → In t ts → Sewn s ts t) where
  -- A side that is run is a side of a triangle, whose test it passed.
  sewn : (i j : ℕ) → 0 < runs_in i j ts → is_sewn s ts i j ≡ true
  sewn i j h = let r = any_find (total-some (runs i j) ts h) in of_triangle r.0 (right r.0 r.1) r.2
    where
      of_step : (a b : ℕ) → is_sewn s ts a b ≡ true → 0 < step_is i j a b → is_sewn s ts i j ≡ true
      of_step a b e h = go (step i j a b)
        where
          go : Step i j a b (step_is i j a b) → is_sewn s ts i j ≡ true
          go (is p q g) = rw (← p, ← q) e
          go (is_not n g) = absurd (omega (arith, g, h))

      of_triangle : (t : Three ℕ) → Sewn s ts t → 0 < runs i j t → is_sewn s ts i j ≡ true
      of_triangle t r h = go (dec_lt 0 (step_is i j t.a t.b)) (dec_lt 0 (step_is i j t.b t.c)) (dec_lt 0 (step_is i j t.c t.a))
        where
          go : Dec (0 < step_is i j t.a t.b) → Dec (0 < step_is i j t.b t.c) → Dec (0 < step_is i j t.c t.a) → is_sewn s ts i j ≡ true
          go (yes l) y z = of_step t.a t.b r.ab l
          go (no n) (yes l) z = of_step t.b t.c r.bc l
          go (no n) (no k) (yes l) = of_step t.c t.a r.ca l
          go (no n) (no k) (no l) = absurd (omega (arith, h))

  -- It is run once, and back once where it is no hull side.
  run_once : (i j : ℕ) → runs_in i j ts ≤ 1
  unfolding is_sewn
  run_once i j = go (dec_lt 0 (runs_in i j ts))
    where
      go : Dec (0 < runs_in i j ts) → runs_in i j ts ≤ 1
      go (yes h) = omega (arith, eqb-true (runs_in i j ts) 1 (and_left _ _ (sewn i j h)))
      go (no h) = omega arith

  run_back : (i j : ℕ) → is_hull_side s i j ≡ false → 0 < runs_in i j ts → runs_in j i ts ≡ 1
  unfolding is_sewn
  run_back i j e h =
      ⊎_elim (λ r. eqb-true (runs_in j i ts) 1 r) (λ r. absurd (true≢false (sym (and_left (is_hull_side s i j) _ r) ∙ e)))
      (either (eqb (runs_in j i ts) 1) (is_hull_side s i j && eqb (runs_in j i ts) 0) (and_right (eqb (runs_in i j ts) 1) _ (sewn i j h)))

  sewn-woven : some (is_unused s ts) (count s) ≡ false → Woven s ts
  sewn-woven h =
      record {
        stations = λ t i. (right t i).stations;
        positive = λ t i. (right t i).positive;
        even = λ i j e f. even i j e f (dec_lt 0 (runs_in i j ts)) (dec_lt 0 (runs_in j i ts));
        single = λ i j e. run_once i j;
        used = λ k l. used-corner s ts k l (none_found (is_unused s ts) (count s) h k l);
      }
    where
      even : (i j : ℕ) → is_hull_side s i j ≡ false → is_hull_side s j i ≡ false → Dec (0 < runs_in i j ts) → Dec (0 < runs_in j i ts) → runs_in i j ts ≡ runs_in j i ts
      even i j e f (yes l) d = omega (arith, l, run_once i j, run_back i j e l)
      even i j e f (no l) (yes r) = absurd (omega (arith, l, run_back j i f r))
      even i j e f (no l) (no r) = omega arith

-- No triangle is wrong, and no station unused.
pub faultless-woven : (s : Survey) (ts : List (Three ℕ)) → first_wrong s ts ts ≡ length ts → some (is_unused s ts) (count s) ≡ false → Woven s ts
faultless-woven s ts h = sewn-woven s ts (λ t i. faultless-sewn s ts t (none_wrong s ts ts h t i))

-- ---- a mesh
module _ (s : Survey) (ts : List (Three ℕ)) (mesh : MeshOf s ts) where
  side-sewn : (i j : ℕ) → 0 < runs_in i j ts → is_sewn s ts i j ≡ true
  unfolding is_sewn
  side-sewn i j h = rw (eq-eqb (runs_in i j ts) 1 (omega (arith, h, mesh.once i j))) (go (is_hull_side s i j) refl)
    where
      go : (b : Bool) → is_hull_side s i j ≡ b → (eqb (runs_in j i ts) 1 || (b && eqb (runs_in j i ts) 0)) ≡ true
      go true e = rw (eq-eqb (runs_in j i ts) 0 (mesh.hull i j e).1) (or-true (eqb (runs_in j i ts) 1))
      go false e = rw (eq-eqb (runs_in j i ts) 1 (mesh.shared i j e h))

  triangle-sewn : (t : Three ℕ) → In t ts → Sewn s ts t
  triangle-sewn t i =
      record {
        stations = mesh.stations t i;
        positive = mesh.positive t i;
        ab = side-sewn t.a t.b (omega (arith, total_in (runs t.a t.b) i, self t.a t.b));
        bc = side-sewn t.b t.c (omega (arith, total_in (runs t.b t.c) i, self t.b t.c));
        ca = side-sewn t.c t.a (omega (arith, total_in (runs t.c t.a) i, self t.c t.a));
      }
    where
      self : (i j : ℕ) → step_is i j i j ≡ 1
      self i j = go (step i j i j)
        where
          go : Step i j i j (step_is i j i j) → step_is i j i j ≡ 1
          go (is p q e) = e
          go (is_not n e) = absurd (n refl refl)

  mesh-faultless : first_wrong s ts ts ≡ length ts
  mesh-faultless = wrong_none s ts ts (λ t i. sewn-faultless s ts t (triangle-sewn t i) (mesh.clear t i))

  mesh-used : some (is_unused s ts) (count s) ≡ false
  mesh-used = some-false (is_unused s ts) (count s) (λ k l. corner-used s ts k (mesh.used k l))

  mesh-whole-area : is_whole_area s ts ≡ true
  mesh-whole-area =
      rw (is_zero (sum (twice_of s) ts -ℤ twice_hull s) (omega (arith, int, mesh.areas, minus (sum (twice_of s) ts) (twice_hull s))))

-- ---- the whole check
module _ (s : Survey) (fit : Fit s) (l : List ℕ) where
  abbrev ts : List (Three ℕ)
  ts = supplied_in l

  -- 'at most 2n-5': a hull has three stations at least.
  mesh-few : MeshOf s ts → whole_in l ≤ 2 * count s - 5
  mesh-few mesh = omega (arith, mesh.triangle-count, hull-three s fit (survey-mesh s fit), length-threes (whole_in l) l)

  supplied-mesh : first_wrong s ts ts ≡ whole_in l → some (is_unused s ts) (count s) ≡ false → MeshOf s ts
  supplied-mesh e h = woven-mesh s fit ts (faultless-woven s ts (e ∙ sym (length-threes (whole_in l) l)) h)

  mesh-accepted_in : length l % 3 ≡ 0 → MeshOf s ts → is_accepted s l ≡ true
  unfolding is_accepted is_wrong_length
  mesh-accepted_in whole mesh =
      rw (
        eq-eqb (length l % 3) 0 whole,
        le-ltb (2 * count s - 5) (whole_in l) (mesh-few mesh),
        eq-eqb (first_wrong s ts ts) (whole_in l) (mesh-faultless s ts mesh ∙ length-threes (whole_in l) l),
        mesh-used s ts mesh,
        mesh-whole-area s ts mesh,
      )

  -- The sum never decides.
  pub accepted_is : is_wrong_length s l ≡ false → is_accepted s l ≡ (eqb (first_wrong s ts ts) (whole_in l) && not (some (is_unused s ts) (count s)))
  unfolding is_accepted
  accepted_is h = rw h (go (eqb (first_wrong s ts ts) (whole_in l)) (some (is_unused s ts) (count s)) refl refl)
    where
      go : (p q : Bool) → eqb (first_wrong s ts ts) (whole_in l) ≡ p → some (is_unused s ts) (count s) ≡ q
          → (p && (not q && is_whole_area s ts)) ≡ (p && not q)
      go false q e f = refl
      go true true e f = refl
      go true false e f = mesh-whole-area s ts (supplied-mesh (eqb-true (first_wrong s ts ts) (whole_in l) e) f)

  -- Nor does the number of triangles.
  pub length-free : first_wrong s ts ts ≡ whole_in l → some (is_unused s ts) (count s) ≡ false → whole_in l ≤ 2 * count s - 5
  length-free e h = mesh-few (supplied-mesh e h)

  -- Nor does the test of inner stations.
  pub inner-free : length l % 3 ≡ 0 → ((t : Three ℕ) → In t ts → Sewn s ts t) → some (is_unused s ts) (count s) ≡ false → is_accepted s l ≡ true
  inner-free whole right h = mesh-accepted_in whole (woven-mesh s fit ts (sewn-woven s ts right h))

  -- 'accepted exactly if': exactly whole triangles that are a mesh of the survey are.
  pub accepted-mesh : (is_accepted s l ≡ true) ↔ ((length l ≡ 3 * whole_in l) × MeshOf s ts)
  unfolding is_accepted is_wrong_length
  accepted-mesh = (to, λ r. mesh-accepted_in (omega (arith, r.0)) r.1)
    where
      to : is_accepted s l ≡ true → (length l ≡ 3 * whole_in l) × MeshOf s ts
      to h =
          let rest = and_right (not (is_wrong_length s l)) _ h in
          let used = and_right (eqb (first_wrong s ts ts) (whole_in l)) _ rest in
          let long = not-true (is_wrong_length s l) (and_left (not (is_wrong_length s l)) _ h) in
          let whole = eqb-true (length l % 3) 0 (not-false (eqb (length l % 3) 0) (or_left (not (eqb (length l % 3) 0)) _ long)) in (
            omega (arith, whole),
            supplied-mesh (eqb-true (first_wrong s ts ts) (whole_in l) (and_left (eqb (first_wrong s ts ts) (whole_in l)) _ rest))
                (not-true (some (is_unused s ts) (count s)) (and_left (not (some (is_unused s ts) (count s))) _ used)),
          )

-- ---- triangles written as their numbers
pub flat-supplied : (ts : List (Three ℕ)) → (supplied_in (flat ts) ≡ ts) × (whole_in (flat ts) ≡ length ts) × (length (flat ts) % 3 ≡ 0)
flat-supplied ts = (ap₂ threes whole (sym (append-nil (flat ts))) ∙ threes-flat ts [], whole, omega (arith, length-flat ts))
  where
    whole : length (flat ts) / 3 ≡ length ts
    whole = omega (arith, length-flat ts)

-- 'any mesh of ours is accepted'
pub mesh-accepted : (s : Survey) → Fit s → (ts : List (Three ℕ)) → MeshOf s ts → is_accepted s (flat ts) ≡ true
mesh-accepted s fit ts mesh =
    let r = flat-supplied ts in
    mesh-accepted_in s fit (flat ts) r.2 (subst (MeshOf s) (sym r.0) mesh)

-- What passes is a survey with a mesh of it, and a survey with a mesh of it passes.
pub passed-mesh : (s : Survey) (l : List ℕ) → checked_over s l ≡ Ok tt → Fit s × (length l ≡ 3 * whole_in l) × MeshOf s (supplied_in l)
passed-mesh s l h = go (checked s) refl h
  where
    is_passed : Answer ⊤ → Bool
    is_passed (Ok _) = true
    is_passed (Err why) = false

    accepted : Fit s → (b : Bool) → is_accepted s l ≡ b → ◌≡◌ {A = Answer ⊤} (cond b (Ok tt) (Err (Mesh (wrong_at s l)))) (Ok tt)
        → Fit s × (length l ≡ 3 * whole_in l) × MeshOf s (supplied_in l)
    accepted fit true e h = let r = (accepted-mesh s fit l).0 e in (fit, r.0, r.1)
    accepted fit false e h = absurd (true≢false (sym (ap is_passed h)))

    go : (c : Answer ⊤) → checked s ≡ c → accepted_after s l c ≡ Ok tt → Fit s × (length l ≡ 3 * whole_in l) × MeshOf s (supplied_in l)
    go (Ok _) e h = accepted (passed-fit s e) (is_accepted s l) refl h
    go (Err why) e h = absurd (true≢false (sym (ap is_passed h)))

pub mesh-passed : (s : Survey) → Fit s → (l : List ℕ) → length l ≡ 3 * whole_in l → MeshOf s (supplied_in l) → checked_over s l ≡ Ok tt
mesh-passed s fit l whole mesh =
    ap (accepted_after s l) (fit_passed s fit) ∙ ap (λ b. cond {A = Answer ⊤} b (Ok tt) (Err (Mesh (wrong_at s l)))) ((accepted-mesh s fit l).1 (whole, mesh))

-- Their numbers, as they stand at the front of the list.
pub take-supplied : (l : List ℕ) → take (3 * whole_in l) l ≡ flat (supplied_in l)
unfolding threes flat
take-supplied l = go (whole_in l) l (omega arith)
  where
    go : (t : ℕ) (l : List ℕ) → 3 * t ≤ length l → take (3 * t) l ≡ flat (threes t l)
    go zero l h = refl
    go (suc t) [] h = absurd (omega arith)
    go (suc t) (a ∷ []) h = absurd (omega arith)
    go (suc t) (a ∷ b ∷ []) h = absurd (omega arith)
    go (suc t) (a ∷ b ∷ c ∷ l) h =
        let e : 3 * suc t ≡ suc (suc (suc (3 * t))) = omega arith in
        ap (λ m. take m (a ∷ b ∷ c ∷ l)) e ∙ ap (λ r. a ∷ b ∷ c ∷ r) (go t l (omega arith))
