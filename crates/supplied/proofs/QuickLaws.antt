-- Triangles that pass the quick test are woven. Assumes nothing.
--
-- A triangle of the list is one of its whole triangles, so what the test found of each number and of each triangle is said of every member. A
-- side off the hull is none that the outline names, so it is run as often as it is run back; a hull side is never run back, so it is run
-- once at most.
use mathlib.Core.Path.{◌≡◌, refl, sym, ap, ◌∙◌, subst}
use mathlib.Core.Bool.{true, false, true≢false}
use mathlib.Core.List.{List}
use mathlib.Core.Logic.{⊎_elim}
use Prim.Native.Nat.{ℕ, zero, suc, ◌+◌, ◌*◌, ◌<◌}
use native.Mathlib.Decide.{dec_lt}
use native.Mathlib.Omega.{arith}
use lib.IntN.{pos}
use lib.ListN.{get_or, drop, replicate}
use lib.Seq.{get_or-drop}
use lib.Signed.{◌<ℤ◌}
use Rattle.whole.proofs.Bridge.{test-true}
use Rattle.survey.specs.Fit.{Fit}
use Rattle.survey.specs.Survey.{Survey, count}
use Rattle.sweep.specs.Members.{Any, In, here, there}
use Rattle.sweep.specs.Sweep.{Three, triangle_in}
use Rattle.sweep.proofs.MemberLaws.{any_cons, any_none}
use Rattle.neighbours.specs.Room.{threes}
use Rattle.triangles.proofs.SurveyLaws.{survey-mesh}
use Rattle.hull.specs.Hull.{is_hull_side}
use Rattle.hull.specs.MeshOf.{CornerOf, at_a, at_b, at_c, OnStations, twice_of, runs_in}
use Rattle.hull.proofs.SideLaws.{runs_none}
use Rattle.outline.specs.Outline.{Outlined}
use Rattle.seams.specs.Sewn.{SewnUp}
use Rattle.neighbours.proofs.RoomLaws.{behind}
use Rattle.woven.specs.Accepted.{is_positive}
use Rattle.woven.specs.Woven.{Woven}
use Rattle.woven.proofs.WovenLaws.{never_back}
use Rattle.supplied.specs.Named.{Named}

-- ---- marks
-- A list of zeros has no mark.
pub no_mark : (n k : ℕ) → ◌≡◌ {A = ℕ} (get_or (replicate n 0) k 0) 0
no_mark zero k = refl
no_mark (suc n) zero = refl
no_mark (suc n) (suc k) = no_mark n k

-- ---- triangles
-- A member is one of the list's triangles.
member_at : (t : ℕ) (l : List ℕ) (u : Three ℕ) → In u (threes t l) → (k : ℕ) × (k < t) × (u ≡ triangle_in l k)
unfolding threes
member_at zero l u i = absurd (any_none i)
member_at (suc t) l u i =
    ⊎_elim (λ e. (0, omega arith, e)) (λ j. let r = member_at t (drop 3 l) u j in (suc r.0, omega (arith, r.1), r.2 ∙ behind l r.0)) (any_cons i)

-- A number of the list is a corner of a triangle.
corner-at : (t : ℕ) (l : List ℕ) (h : ℕ) → h < 3 * t → Any (CornerOf (get_or l h 0)) (threes t l)
unfolding threes
corner-at zero l h i = absurd (omega arith)
corner-at (suc t) l zero i = here (at_a refl)
corner-at (suc t) l (suc zero) i = here (at_b refl)
corner-at (suc t) l (suc (suc zero)) i = here (at_c refl)
corner-at (suc t) l (suc (suc (suc h))) i =
    let m : 3 + h ≡ suc (suc (suc h)) = omega arith in
    let e : get_or (drop 3 l) h 0 ≡ get_or l (suc (suc (suc h))) 0 = get_or-drop 3 l h 0 ∙ ap (λ i. get_or l i 0) m in
    there (subst (λ k. Any (CornerOf k) (threes t (drop 3 l))) e (corner-at t (drop 3 l) h (omega arith)))

module _
    (s : Survey)
    (fit : Fit s)
    (t : ℕ)
    (l next : List ℕ)
    (numbers : (h : ℕ) → h < 3 * t → get_or l h 0 < count s)
    (turns : (k : ℕ) → k < t → is_positive s (triangle_in l k) ≡ true)
    (named : (k : ℕ) → k < count s → Named l (3 * t) k)
    (outlined : Outlined s next)
    (sewn : SewnUp (λ i. get_or next i 0) (threes t l))
  where
    abbrev ts : List (Three ℕ)
    ts = threes t l

    stations : (u : Three ℕ) → In u ts → OnStations s u
    stations u i =
        let r = member_at t l u i in
        subst (OnStations s) (sym r.2)
        (record {
          on_a = numbers (3 * r.0) (omega (arith, r.1));
          on_b = numbers (3 * r.0 + 1) (omega (arith, r.1));
          on_c = numbers (3 * r.0 + 2) (omega (arith, r.1));
        })

    positive : (u : Three ℕ) → In u ts → pos 0 <ℤ twice_of s u
    positive u i = let r = member_at t l u i in test-true (ap (is_positive s) r.2 ∙ turns r.0 r.1)

    -- A pair that is no hull side is none of the outline's.
    off : (i j : ℕ) → i < count s → j < count s → is_hull_side s i j ≡ false → get_or next i 0 ≡ j → ⊥
    off i j li lj h e = true≢false (sym (outlined.side i j li lj e) ∙ h)

    even : (i j : ℕ) → is_hull_side s i j ≡ false → is_hull_side s j i ≡ false → runs_in i j ts ≡ runs_in j i ts
    even i j h g = go (dec_lt i (count s)) (dec_lt j (count s))
      where
        none : (i j : ℕ) → (i < count s → j < count s → ⊥) → runs_in i j ts ≡ 0
        none = runs_none s fit (survey-mesh s fit) ts stations

        go : Dec (i < count s) → Dec (j < count s) → runs_in i j ts ≡ runs_in j i ts
        go (yes li) (yes lj) = sewn.even i j (off i j li lj h) (off j i lj li g)
        go (yes li) (no lj) = none i j (λ u v. lj v) ∙ sym (none j i (λ u v. lj u))
        go (no li) d = none i j (λ u v. li u) ∙ sym (none j i (λ u v. li v))

    pub quick-woven : Woven s ts
    quick-woven =
        record {
          stations = stations;
          positive = positive;
          even = even;
          single = λ i j h. sewn.single i j (never_back s fit (survey-mesh s fit) ts stations positive i j h);
          used = λ k h. let r = named k h in subst (λ m. Any (CornerOf m) ts) r.is (corner-at t l r.at r.within);
        }
