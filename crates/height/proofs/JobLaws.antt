-- What a mesh and the slopes of a survey that passed the checks are to the height job. Assumes nothing.
--
-- Triangle k of the list stands at 3k, 3k + 1, 3k + 2 of the room, whatever follows it there, so the height by the room is that by the
-- list, of every mesh (`room-height`).
use mathlib.Core.Path.{◌≡◌, refl, sym, ap, ◌∙◌, subst}
use mathlib.Core.Bool.{Bool, true, false, cond, ◌||◌}
use mathlib.Core.List.{List, [], ◌∷◌, ◌++◌}
use Prim.Native.Nat.{ℕ, zero, suc, ◌+◌, ◌*◌, ◌≤◌, ◌<◌}
use native.Mathlib.Decide.{dec_lt}
use native.Mathlib.Omega.{arith}
use borrow.Author.Tests.{lt-ltb, le-ltb, ltb-true, ltb-false}
use lib.Dec.{ltb}
use lib.IntN.{ℤ, pos}
use lib.ListN.{length, get_or, take, drop, length-append, take-append-drop}
use lib.Seq.{drop_at}
use Rattle.lists.proofs.LowestLaws.{lowest-agree}
use Rattle.lists.proofs.TestLaws.{or_left, or_right}
use Rattle.whole.specs.Place.{Place}
use Rattle.whole.specs.Range.{Within}
use Rattle.whole.proofs.RangeLaws.{within-pos}
use Rattle.sweep.specs.Members.{In, here, there}
use Rattle.sweep.specs.Sweep.{Three, tri, flat, triangle_in}
use Rattle.survey.specs.Fit.{Fit}
use Rattle.survey.specs.Limits.{most_coordinate, most_height, beyond}
use Rattle.survey.specs.Rooms.{slope_room, work_room}
use Rattle.survey.specs.Survey.{Survey, count, place_of, height_of}
use Rattle.std.specs.Prelude.{Ok, Err, ⊤}
use Rattle.survey.specs.Answer.{Answer}
use Rattle.survey.specs.declared.answers.Height.{Height}
use Rattle.survey.specs.declared.answers.Height.TheVariants.{Own, Between, Outside}
use Rattle.survey.specs.declared.refusal.Refusal.TheVariants.{Number, Room}
use Rattle.survey.proofs.FitLaws.{fit_passed}
use Rattle.slopes.specs.Job.{slopes_of}
use Rattle.slopes.specs.Slopes.{slopes_at}
use Rattle.lists.proofs.RowsLaws.{rows-length}
use Rattle.neighbours.proofs.RoomLaws.{length-flat}
use Rattle.hull.specs.MeshOf.{OnStations, MeshOf}
use Rattle.hull.proofs.SoundLaws.{mesh-triangles-fit}
use Rattle.mesh.specs.Kinds.{is_no_kind, triangles_of}
use Rattle.held.specs.Held.{station_at, is_held, holder, interpolated, height_by, Listed}
use Rattle.height.specs.Height.{is_outside, triangle_at, height_at}
use Rattle.height.specs.Job.{is_far, is_tight, height_over, heighted, zeroed, slopes_after, work_after}
use Rattle.held.proofs.HeldLaws.{by_own, by_between, by_outside}
use Rattle.height.proofs.HeightLaws.{chosen, height_is, by_outline}

-- Triangles in a room.
in_room : (ts : List (Three ℕ)) (rest : List ℕ) (k : ℕ) → k < length ts → triangle_in (flat ts ++ rest) k ≡ triangle_at ts k
unfolding flat
in_room [] rest k h = absurd (omega arith)
in_room (t ∷ ts) rest zero h = refl
in_room (t ∷ ts) rest (suc k) h =
    let l = t.a ∷ t.b ∷ t.c ∷ (flat ts ++ rest) in
    let a : 3 * suc k ≡ suc (suc (suc (3 * k))) = omega arith in
    let b : 3 * suc k + 1 ≡ suc (suc (suc (3 * k + 1))) = omega arith in
    let c : 3 * suc k + 2 ≡ suc (suc (suc (3 * k + 2))) = omega arith in
    (λ i. tri (get_or l (a i) 0) (get_or l (b i) 0) (get_or l (c i) 0)) ∙ in_room ts rest k (omega arith)

at_in : (ts : List (Three ℕ)) (k : ℕ) → k < length ts → In (triangle_at ts k) ts
at_in [] k h = absurd (omega arith)
at_in (t ∷ ts) zero h = here refl
at_in (t ∷ ts) (suc k) h = there (at_in ts k (omega arith))

-- A number of the room is a corner of some triangle.
corner-below :
    (s : Survey) (ts : List (Three ℕ)) (rest : List ℕ) → ((t : Three ℕ) → In t ts → OnStations s t) → (k : ℕ) → k < 3 * length ts
    → get_or (flat ts ++ rest) k 0 < count s
unfolding flat
corner-below s [] rest h k l = absurd (omega arith)
corner-below s (t ∷ ts) rest h zero l = (h t (here refl)).on_a
corner-below s (t ∷ ts) rest h (suc zero) l = (h t (here refl)).on_b
corner-below s (t ∷ ts) rest h (suc (suc zero)) l = (h t (here refl)).on_c
corner-below s (t ∷ ts) rest h (suc (suc (suc k))) l = corner-below s ts rest (λ u i. h u (there i)) k (omega arith)

-- The height depends only on the triangles of the list.
by_agree : (s : Survey) (t u : ℕ → Three ℕ) (n : ℕ) (p : Place) → ((k : ℕ) → k < n → t k ≡ u k) → height_by s t n p ≡ height_by s u n p
by_agree s t u n p e = go (dec_lt (station_at s p) (count s)) (dec_lt (holder (place_of s) t n p) n)
  where
    same : holder (place_of s) t n p ≡ holder (place_of s) u n p
    same = lowest-agree (λ k. is_held (place_of s) p (t k)) (λ k. is_held (place_of s) p (u k)) n (λ k h. ap (is_held (place_of s) p) (e k h))

    go : Dec (station_at s p < count s) → Dec (holder (place_of s) t n p < n) → height_by s t n p ≡ height_by s u n p
    go (yes h) _ = by_own s t n p refl h ∙ sym (by_own s u n p refl h)
    go (no h) (yes l) =
        by_between s t n p refl (omega arith) refl l
        ∙ ap (λ (v : Three ℕ). Between (interpolated s v p)) (e _ l)
        ∙ sym (by_between s u n p refl (omega arith) same l)
    go (no h) (no l) = by_outside s t n p refl (omega arith) refl (omega arith) ∙ sym (by_outside s u n p refl (omega arith) same (omega arith))

module _
    (s : Survey)
    (fit : Fit s)
    (ts : List (Three ℕ))
    (mesh : MeshOf s ts)
    (room : List ℕ)
    {n : ℕ}
    (made : (n ≡ length ts) × (take (3 * n) room ≡ flat ts))
  where
    abbrev rest : List ℕ
    rest = drop (3 * n) room

    room_is : room ≡ flat ts ++ rest
    room_is = sym (take-append-drop (3 * n) room) ∙ ap (λ (l : List ℕ). l ++ rest) made.1

    -- A room with the triangles of a mesh at its front, and the height by it.
    pub room-listed : Listed (count s) room n
    room-listed =
        let most = fit.most in
        record {
          few = omega (arith, made.0, mesh-triangles-fit s fit ts mesh, most);
          small = omega (arith, most);
          long = omega (arith, made.0, ap length room_is, length-append (flat ts) rest, length-flat ts);
          stations = λ k h.
              subst (λ (l : List ℕ). get_or l k 0 < count s) (sym room_is) (corner-below s ts rest mesh.stations k (omega (arith, made.0)));
        }

    pub room-height : (p : Place) → height_by s (triangle_in room) n p ≡ height_at s ts p
    room-height p =
        (λ i. height_by s (triangle_in (room_is i)) (made.0 i) p)
        ∙ by_agree s (triangle_in (flat ts ++ rest)) (triangle_at ts) (length ts) p (in_room ts rest)
        ∙ by_outline s ts mesh p

-- The height at a place on a station.
pub own_height : (s : Survey) (ts : List (Three ℕ)) (p : Place) {own : ℕ} → own ≡ station_at s p → own < count s → height_at s ts p ≡ Own (height_of s own)
own_height s ts p e h =
    height_is s ts p
    ∙ ap (λ b. chosen s ts p b (is_outside s p)) (lt-ltb _ _ (subst (λ (m : ℕ). m < count s) e h))
    ∙ ap (λ (m : ℕ). Own (height_of s m)) (sym e)

-- What is past the slopes.
pub past-slopes : (s : Survey) (rest : List ℤ) {room : List ℤ} → room ≡ slopes_of s ++ rest → drop (slope_room (count s)) room ≡ rest
past-slopes s rest e =
    ap (drop (slope_room (count s))) e
    ∙ drop_at (slopes_of s) rest (slope_room (count s)) (rows-length (slopes_at s (height_of s)) 5 (λ i. refl) (count s))

-- Both rooms are cleared, whichever of the three kinds is given.
module _ (s : Survey) (ts : List (Three ℕ)) (p : Place) where
  pub done-slopes : (old : List ℤ) → slopes_after (Ok (height_at s ts p)) s old ≡ zeroed (pos 0) (slope_room (count s)) old
  done-slopes old = refl

  pub done-work : (old : List ℕ) → work_after (Ok (height_at s ts p)) s old ≡ zeroed 0 (work_room (count s)) old
  done-work old = refl

-- A place that is not far, and rooms that are not tight.
pub not_far : (p : Place) → is_far p ≡ false → (p.x ≤ most_coordinate) × (p.y ≤ most_coordinate)
not_far p e = (ltb-false most_coordinate p.x (or_left (beyond p.x) _ e), ltb-false most_coordinate p.y (or_right (beyond p.x) _ e))

pub not_tight : (s : Survey) (slopes work : ℕ) → is_tight s slopes work ≡ false → (slope_room (count s) ≤ slopes) × (work_room (count s) ≤ work)
not_tight s slopes work e =
    let short = ltb slopes (slope_room (count s)) in
    (ltb-false slopes (slope_room (count s)) (or_left short _ e), ltb-false work (work_room (count s)) (or_right short _ e))

-- The answer over a mesh, by its tests.
module _ (s : Survey) (ts : List (Three ℕ)) (wrong : Bool) (p : Place) (slopes work : ℕ) {c : Answer ⊤} (passed : c ≡ (Ok tt)) where
  abbrev answer : Answer Height
  answer = height_over s ts wrong p slopes work c

  abbrev answered : Bool → Bool → Bool → Bool → Bool → Answer Height
  answered no_such far-x far-y short-slopes short-work =
      cond (no_such || (far-x || far-y)) (Err Number) (cond (short-slopes || short-work) (Err Room) (Ok (height_at s ts p)))

  by_tests :
      {k a b c d : Bool} → wrong ≡ k → beyond p.x ≡ a → beyond p.y ≡ b → ltb slopes (slope_room (count s)) ≡ c
      → ltb work (work_room (count s)) ≡ d → answer ≡ answered k a b c d
  by_tests n e f g h = ap (height_over s ts wrong p slopes work) passed ∙ (λ i. answered (n i) (e i) (f i) (g i) (h i))

  pub done :
      wrong ≡ false → p.x ≤ most_coordinate → p.y ≤ most_coordinate → slope_room (count s) ≤ slopes → work_room (count s) ≤ work
      → answer ≡ Ok (height_at s ts p)
  done known x y sloped worked =
      by_tests known (le-ltb most_coordinate p.x x) (le-ltb most_coordinate p.y y) (le-ltb slopes (slope_room (count s)) sloped)
      (le-ltb work (work_room (count s)) worked)

-- 'Every survey in range, with distinct places not all on one line, is accepted': either kind, a place in range and rooms long enough give
-- the height.
pub fit-done :
    (s : Survey) → Fit s → (kind : ℕ) (p : Place) (slopes work : ℕ) → kind ≤ 1 → p.x ≤ most_coordinate → p.y ≤ most_coordinate
    → slope_room (count s) ≤ slopes → work_room (count s) ≤ work → heighted s kind p slopes work ≡ Ok (height_at s (triangles_of kind s) p)
fit-done s fit kind p slopes work known x y sloped worked =
    done s (triangles_of kind s) (is_no_kind kind) p slopes work (fit_passed s fit) (le-ltb 1 kind known) x y sloped worked

-- A station's own height is in the range of heights.
abbrev own_in : Height → ℤ
own_in (Own z) = z
own_in (Between z) = pos 0
own_in Outside = pos 0

abbrev own_of : Answer Height → ℤ
own_of (Ok h) = own_in h
own_of (Err why) = pos 0

pub own_within :
    (s : Survey) (ts : List (Three ℕ)) (wrong : Bool) (p : Place) (slopes work : ℕ) (c : Answer ⊤) → (c ≡ Ok tt → Fit s) → (z : ℤ)
    → height_over s ts wrong p slopes work c ≡ Ok (Own z) → Within most_height z
unfolding height_at
own_within s ts wrong p slopes work c fit z e = subst (Within most_height) (ap own_of e) (all c refl)
  where
    none : Within most_height (pos 0)
    none = within-pos (omega arith)

    at : Fit s → Within most_height (own_in (height_at s ts p))
    at fit = go (ltb (station_at s p) (count s)) refl (is_outside s p)
      where
        go : (t : Bool) → ltb (station_at s p) (count s) ≡ t → (o : Bool) → Within most_height (own_in (chosen s ts p t o))
        go true h o = fit.z-range (station_at s p) (ltb-true (station_at s p) (count s) h)
        go false h true = none
        go false h false = none

    all : (d : Answer ⊤) → c ≡ d → Within most_height (own_of (height_over s ts wrong p slopes work d))
    all (Err why) h = none
    all (Ok _) h = tests (wrong || is_far p) (is_tight s slopes work)
      where
        tests : (a b : Bool) → Within most_height (own_of (cond a (Err Number) (cond b (Err Room) (Ok (height_at s ts p)))))
        tests true b = none
        tests false true = none
        tests false false = at (fit h)
