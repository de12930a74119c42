-- The half-sides of `order` stand in the order of sides (`order-ordered`), and the mark of a half-side's side stands at the side's place
-- (`lower_is`). Assumes nothing.
--
-- Each side of the mesh stands once in `sides`, and its half-side in `order` runs as it does or, where only the other hand has a triangle,
-- the other way. Two half-sides of one side are each other's twins, so its place, the lowest of its half-sides, is the lower of the two.
use Prim.Native.Nat.{ℕ, zero, suc, ◌*◌, ◌≤◌, ◌<◌}
use native.Mathlib.Omega.{arith}
use native.Mathlib.Decide.{dec_lt}
use borrow.Author.Tests.{lt-ltb, le-ltb, ltb-true}
use mathlib.Core.Path.{◌≡◌, refl, sym, ap, ap₂, ◌∙◌}
use mathlib.Core.Bool.{Bool, true, false, cond, ◌||◌}
use mathlib.Core.List.{List, [], ◌∷◌, ◌++◌, map}
use mathlib.Core.Logic.{◌⊎◌, inl, inr}
use mathlib.Core.Option.{Option, none, some, none-ne-some}
use lib.Dec.{ltb}
use lib.ListN.{length, get_or, length-map}
use Rattle.lists.specs.Lowest.{lowest}
use Rattle.lists.specs.Table.{table}
use Rattle.lists.proofs.LowestLaws.{lowest-passes, lowest_is, some-true}
use Rattle.lists.proofs.TableLaws.{table-length, table-entry}
use Rattle.lists.proofs.TestLaws.{and_left, and_right}
use Rattle.sweep.specs.Sweep.{Three, flat}
use Rattle.trace.specs.Side.{Directed, ◌⟶◌, bit, is_same, reversed, side_of, left_corner, is_there, is_side}
use Rattle.trace.specs.Crossed.{Before, lower, higher, row, rows, sides}
use Rattle.trace.specs.Mesh.{count, Sound}
use Rattle.trace.proofs.CountLaws.{Tested, passes, fails, tested, bit_one, same_is, same_self, same_not, count_none, count_head, count-later, count-either, count-append, fewer}
use Rattle.trace.proofs.CrossedLaws.{either_there, sides_once}
use Rattle.trace.proofs.MeshLaws.{left_has}
use Rattle.trace.proofs.OrderLaws.{Sorted, none_left, least}
use Rattle.trace.proofs.SideLaws.{row_in, rows_in}
use Rattle.trace.proofs.StepLaws.{side-reversed, side-cases, reversed-twice}
use Rattle.neighbours.specs.Half.{before, corner_in, side_at, half_of, twin}
use Rattle.neighbours.specs.Room.{half_for, order}
use Rattle.neighbours.proofs.HalfLaws.{half_has, has_half, half-some, half_is, side-unique, left-half}
use Rattle.tracing.specs.Scan.{Row, Ordered}
use Rattle.tracing.specs.Tracing.{lower_of}
use Rattle.tracing.proofs.PassLaws.{has_side}

-- Half-sides in a row as the directed sides that they run; the place of a side is its lowest half-side.
abbrev pub row_of : List (Three ℕ) → List ℕ → Row
row_of ts o =
    record {
      count = length o;
      entry = λ i. side_at ts (get_or o i 0);
      place = λ d. lowest (λ g. is_same d (side_of (side_at ts g))) (3 * length ts);
      steps = 3 * length ts;
    }

-- ---- entries of lists
-- What stands in a list has a place in it, and what has a place stands in it.
entry-counted : (l : List Directed) (i : ℕ) (x : Directed) → i < length l → 0 < count (get_or l i x) l
entry-counted [] i x h = absurd (omega arith)
entry-counted (d ∷ l) zero x h = count_head d l
entry-counted (d ∷ l) (suc i) x h = count-later (get_or l i x) d l (entry-counted l i x (omega arith))

counted-entry : (l : List Directed) (d x : Directed) → 0 < count d l → (i : ℕ) × (i < length l) × (get_or l i x ≡ d)
counted-entry [] d x h = absurd (count_none d h)
counted-entry (y ∷ l) d x h = by (count-either d y l h) (counted-entry l d x)
  where
    by : (d ≡ y) ⊎ (0 < count d l) → (0 < count d l → (i : ℕ) × (i < length l) × (get_or l i x ≡ d)) → (i : ℕ) × (i < suc (length l)) × (get_or (y ∷ l) i x ≡ d)
    by (inl e) ih = (0, omega arith, sym e)
    by (inr k) ih = let r = ih k in (suc r.0, omega (arith, r.1), r.2)

map-entry : (f : Directed → ℕ) (l : List Directed) (i e : ℕ) (x : Directed) → i < length l → get_or (map f l) i e ≡ f (get_or l i x)
map-entry f [] i e x h = absurd (omega arith)
map-entry f (d ∷ l) zero e x h = refl
map-entry f (d ∷ l) (suc i) e x h = map-entry f l i e x (omega arith)

-- Entries of a list in order are in order.
sorted_entries : (l : List Directed) → Sorted l → (x : Directed) (i j : ℕ) → i ≤ j → j < length l → (get_or l j x ≡ get_or l i x) ⊎ Before (get_or l i x) (get_or l j x)
sorted_entries [] s x i j h k = absurd (omega arith)
sorted_entries (d ∷ l) s x zero zero h k = inl refl
sorted_entries (d ∷ l) (least f s) x zero (suc j) h k = inr (f (get_or l j x) (entry-counted l j x (omega arith)))
sorted_entries (d ∷ l) s x (suc i) zero h k = absurd (omega arith)
sorted_entries (d ∷ l) (least f s) x (suc i) (suc j) h k = sorted_entries l s x i j (omega arith) (omega arith)

-- ---- the list of sides is in order
row-sorted : (p : Directed → Bool) (i j k : ℕ) → Sorted (row p i j k)
unfolding row
row-sorted p i j zero = none_left
row-sorted p i j (suc k) = by (p (i ⟶ j)) (row-sorted p i (suc j) k)
  where
    behind : (d : Directed) → 0 < count d (row p i (suc j) k) → Before (i ⟶ j) d
    behind (a ⟶ b) h = let q = row_in p i a b (suc j) k h in rw q.0 (higher q.1)

    by : (t : Bool) → Sorted (row p i (suc j) k) → Sorted (cond t (i ⟶ j ∷ row p i (suc j) k) (row p i (suc j) k))
    by true s = least behind s
    by false s = s

join-sorted : (l m : List Directed) → Sorted l → Sorted m → ((x y : Directed) → 0 < count x l → 0 < count y m → Before x y) → Sorted (l ++ m)
join-sorted [] m sl sm f = sm
join-sorted (x ∷ l) m (least g sl) sm f = least behind (join-sorted l m sl sm (λ y z h. f y z (count-later y x l h)))
  where
    behind : (d : Directed) → 0 < count d (l ++ m) → Before x d
    behind d h = by (dec_lt 0 (count d l))
      where
        by : Dec (0 < count d l) → Before x d
        by (yes k) = g d k
        by (no k) = f x d (count_head x l) (omega (arith, h, count-append d l m))

rows-sorted : (p : Directed → Bool) (n i k : ℕ) → Sorted (rows p n i k)
unfolding rows
rows-sorted p n i zero = none_left
rows-sorted p n i (suc k) = join-sorted (row p i 0 n) (rows p n (suc i) k) (row-sorted p i 0 n) (rows-sorted p n (suc i) k) behind
  where
    behind : (x y : Directed) → 0 < count x (row p i 0 n) → 0 < count y (rows p n (suc i) k) → Before x y
    behind (a ⟶ b) (c ⟶ d) h g = lower {a = a} {b = b} {c = c} {d = d} (omega (arith, (row_in p i a b 0 n h).0, rows_in p n c d (suc i) k g))

sides_sorted : (left : Directed → Option ℕ) (n : ℕ) → Sorted (sides left n)
unfolding sides
sides_sorted left n = rows-sorted (is_side left) n 0 n

module _ (ts : List (Three ℕ)) (n : ℕ) (sound : Sound ts n) where
  abbrev m : ℕ
  m = 3 * length ts

  abbrev left : Directed → Option ℕ
  left = left_corner ts

  -- ---- twins
  -- No half-side is its own twin.
  not_own : (h : ℕ) → h < m → side_at ts h ≡ reversed (side_at ts h) → ⊥
  unfolding side_at
  not_own h k e = sound.apart _ _ _ (half_has ts h k) (cc)

  -- Two half-sides of one side are twins.
  mates-twin : (g h : ℕ) → g < m → h < m → (g ≡ h → ⊥) → side_of (side_at ts g) ≡ side_of (side_at ts h) → side_at ts g ≡ reversed (side_at ts h)
  mates-twin g h kg kh f e = by (side-cases (side_at ts g)) (side-cases (side_at ts h))
    where
      alike : side_at ts g ≡ side_at ts h → side_at ts g ≡ reversed (side_at ts h)
      alike q = absurd (f (side-unique ts sound.single g h kg kh q))

      by : (side_of (side_at ts g) ≡ side_at ts g) ⊎ (side_of (side_at ts g) ≡ reversed (side_at ts g))
          → (side_of (side_at ts h) ≡ side_at ts h) ⊎ (side_of (side_at ts h) ≡ reversed (side_at ts h)) → side_at ts g ≡ reversed (side_at ts h)
      by (inl p) (inl q) = alike (sym p ∙ e ∙ q)
      by (inl p) (inr q) = sym p ∙ e ∙ q
      by (inr p) (inl q) = sym (reversed-twice (side_at ts g)) ∙ ap reversed (sym p ∙ e ∙ q)
      by (inr p) (inr q) = alike (sym (reversed-twice (side_at ts g)) ∙ ap reversed (sym p ∙ e ∙ q) ∙ reversed-twice (side_at ts h))

  -- A twin is another half-side of the same side.
  record Twin (g h : ℕ) : Type 0 where
    within : g < m
    other : g ≡ h → ⊥
    runs : side_at ts g ≡ reversed (side_at ts h)
    side : side_of (side_at ts g) ≡ side_of (side_at ts h)

  twin-some : (g h : ℕ) → h < m → twin ts h ≡ some g → Twin g h
  twin-some g h k e =
      let s = half-some ts (reversed (side_at ts h)) g e in
      record {
        within = s.0;
        other = λ q. not_own h k (ap (side_at ts) (sym q) ∙ s.1);
        runs = s.1;
        side = ap side_of s.1 ∙ side-reversed (side_at ts h);
      }

  -- ---- the half-side of a side
  -- The half-side that runs as a directed side with a triangle on its left.
  runs_there : (s : Directed) (c : ℕ) → left s ≡ some c → (h : ℕ) × (h < m) × (side_at ts h ≡ s) × (half_of ts s ≡ some h)
  unfolding side_at
  runs_there (a ⟶ b) c e =
      let k = has_half (left_has a b c ts e) in
      let r = ap₂ ◌⟶◌ k.from k.to in
      (k.at, k.within, r, half_is ts sound.single (a ⟶ b) k.at k.within r)

  none_runs : (d : Directed) → left d ≡ none → half_of ts d ≡ none
  none_runs d e = by (half_of ts d) refl
    where
      by : (r : Option ℕ) → half_of ts d ≡ r → r ≡ none
      by none q = refl
      by (some h) q =
          let s = half-some ts d h q in
          absurd (none-ne-some _ (sym e ∙ ap left (sym s.1) ∙ left-half ts sound.single h s.0))

  -- A side is listed by the half-side that runs as it does; with no triangle on its left, by the one that runs the other way.
  for_own : (d : Directed) (c : ℕ) → left d ≡ some c → (half_for ts d < m) × (side_at ts (half_for ts d) ≡ d)
  unfolding half_for
  for_own d c e = let k = runs_there d c e in rw k.3 (k.1, k.2)

  for_other : (d : Directed) (c : ℕ) → left d ≡ none → left (reversed d) ≡ some c → (half_for ts d < m) × (side_at ts (half_for ts d) ≡ reversed d)
  unfolding half_for
  for_other d c e f = let k = runs_there (reversed d) c f in rw (none_runs d e, k.3) (k.1, k.2)

  side-half : (d : Directed) → is_side left d ≡ true → (half_for ts d < m) × (side_of (side_at ts (half_for ts d)) ≡ d)
  unfolding is_side side_of
  side-half (i ⟶ j) e = by (left (i ⟶ j)) refl (either_there (left (i ⟶ j)) (left (j ⟶ i)) (and_right (ltb i j) (is_there (left (i ⟶ j)) || is_there (left (j ⟶ i))) e))
    where
      rises : ltb i j ≡ true
      rises = and_left (ltb i j) (is_there (left (i ⟶ j)) || is_there (left (j ⟶ i))) e

      own : side_of (i ⟶ j) ≡ i ⟶ j
      own = rw rises

      by : (r : Option ℕ) → left (i ⟶ j) ≡ r → ((c : ℕ) × (left (i ⟶ j) ≡ some c)) ⊎ ((c : ℕ) × (left (j ⟶ i) ≡ some c))
          → (half_for ts (i ⟶ j) < m) × (side_of (side_at ts (half_for ts (i ⟶ j))) ≡ i ⟶ j)
      by (some c) q h = let k = for_own (i ⟶ j) c q in (k.0, ap side_of k.1 ∙ own)
      by none q (inl h) = absurd (none-ne-some h.0 (sym q ∙ h.1))
      by none q (inr h) = let k = for_other (i ⟶ j) h.0 q h.1 in (k.0, ap side_of k.1 ∙ side-reversed (i ⟶ j) ∙ own)

  -- ---- the place of a side
  place-within : (d : Directed) → is_side left d ≡ true → lowest (λ g. is_same d (side_of (side_at ts g))) m < m
  place-within d e =
      let h = side-half d e in
      ltb-true _ m (some-true (λ g. is_same d (side_of (side_at ts g))) m (half_for ts d) h.0 (ap (is_same d) h.1 ∙ same_self d))

  place_is : (d : Directed) → is_side left d ≡ true → d ≡ side_of (side_at ts (lowest (λ g. is_same d (side_of (side_at ts g))) m))
  place_is d e = same_is d _ (lowest-passes (λ g. is_same d (side_of (side_at ts g))) m (place-within d e))

  -- The mark of a half-side's side stands there.
  pub lower_is : (o : List ℕ) (h : ℕ) → h < m → lower_of h (twin ts h) ≡ (row_of ts o).place (side_of (side_at ts h))
  unfolding lower_of
  lower_is o h k = by (twin ts h) refl
    where
      p : ℕ → Bool
      p g = is_same (side_of (side_at ts h)) (side_of (side_at ts g))

      -- A lower half-side of the same side is a twin.
      twins : (j : ℕ) → j < h → side_of (side_at ts h) ≡ side_of (side_at ts j) → twin ts h ≡ some j
      twins j b e =
          let kj : j < m = omega (arith, b, k) in
          half_is ts sound.single (reversed (side_at ts h)) j kj (mates-twin j h kj k (λ q. omega (arith, q, b)) (sym e))

      by : (r : Option ℕ) → twin ts h ≡ r → lower_of h r ≡ lowest p m
      by none e = sym (lowest_is p m h k (same_self _) (λ j b. same_not _ _ (λ q. none-ne-some j (sym e ∙ twins j b q))))
      by (some g) e = way (dec_lt g h)
        where
          t : Twin g h
          t = twin-some g h k e

          is_twin : (j : ℕ) → j < m → (j ≡ h → ⊥) → side_of (side_at ts h) ≡ side_of (side_at ts j) → j ≡ g
          is_twin j b f q = side-unique ts sound.single j g b t.within (mates-twin j h b k f (sym q) ∙ sym t.runs)

          way : Dec (g < h) → cond (ltb g h) g h ≡ lowest p m
          way (yes b) =
              rw (lt-ltb g h b)
              (sym (lowest_is p m g t.within (ap (is_same (side_of (side_at ts h))) t.side ∙ same_self _)
              (λ j c. same_not _ _ (λ q. let r = is_twin j (omega (arith, c, t.within)) (λ z. omega (arith, z, c, b)) q in omega (arith, r, c)))))
          way (no b) =
              rw (le-ltb g h (omega arith))
              (sym (lowest_is p m h k (same_self _) (λ j c. same_not _ _ (λ q. let r = is_twin j (omega (arith, c, k)) (λ z. omega (arith, z, c)) q in omega (arith, r, c, b)))))

  -- ---- one half-side for each side, in a row
  abbrev all : List Directed
  all = sides left n

  -- Side j, and any where there is none.
  abbrev side_on : ℕ → Directed
  side_on j = get_or all j (0 ⟶ 0)

  pub order-length : length (order ts n) ≡ length all
  unfolding order
  order-length = length-map all (half_for ts)

  order-entry : (j : ℕ) → j < length (order ts n) → (is_side left (side_on j) ≡ true) × (get_or (order ts n) j 0 ≡ half_for ts (side_on j))
  unfolding order
  order-entry j h =
      let k : j < length all = omega (arith, h, order-length) in (
        bit_one (is_side left (side_on j)) (omega (arith, sides_once ts n sound (side_on j), entry-counted all j (0 ⟶ 0) k)),
        map-entry (half_for ts) all j 0 (0 ⟶ 0) k,
      )

  pub order-within : (j : ℕ) → j < length (order ts n) → get_or (order ts n) j 0 < m
  order-within j h = let e = order-entry j h in omega (arith, e.1, (side-half (side_on j) e.0).0)

  entry-side : (j : ℕ) → j < length (order ts n) → side_of (side_at ts (get_or (order ts n) j 0)) ≡ side_on j
  entry-side j h = let e = order-entry j h in ap (λ g. side_of (side_at ts g)) e.1 ∙ (side-half (side_on j) e.0).1

  side-entry : (d : Directed) → is_side left d ≡ true → (j : ℕ) × (j < length (order ts n)) × (get_or (order ts n) j 0 ≡ half_for ts d)
  side-entry d e =
      let r = counted-entry all d (0 ⟶ 0) (omega (arith, sides_once ts n sound d, ap bit e)) in
      let k : r.0 < length (order ts n) = omega (arith, r.1, order-length) in
      (r.0, k, (order-entry r.0 k).1 ∙ ap (half_for ts) r.2)

  rising-side : (a b c : ℕ) → a < b → left (a ⟶ b) ≡ some c → is_side left (a ⟶ b) ≡ true
  unfolding is_side
  rising-side a b c q e = rw (lt-ltb a b q, e)

  -- No more sides than half-sides.
  order-few : length (order ts n) ≤ m
  order-few = omega (arith, order-length, fewer all (table run m) among, table-length run m)
    where
      run : ℕ → Directed
      run h = side_of (side_at ts h)

      among : (d : Directed) → count d all ≤ count d (table run m)
      among d = by (tested (is_side left d))
        where
          by : Tested (is_side left d) → count d all ≤ count d (table run m)
          by (fails e) = omega (arith, sides_once ts n sound d, ap bit e)
          by (passes e) =
              let h = side-half d e in
              let at = table-entry run m (half_for ts d) d h.0 ∙ h.1 in
              let c = entry-counted (table run m) (half_for ts d) d (omega (arith, h.0, table-length run m)) in
              omega (arith, sides_once ts n sound d, ap bit e, c, ap (λ x. count x (table run m)) at)

  pub order-ordered : Ordered ts (row_of ts (order ts n))
  order-ordered =
      record {
        steps-are = refl;
        few = order-few;
        entries = λ i k. (corner_in (flat ts) (before (get_or (order ts n) i 0)), left-half ts sound.single (get_or (order ts n) i 0) (order-within i k));
        hulls = hulls_there;
        inners = inners_there;
        in_order = rises;
        placed = place-within;
        place-unique = λ d e p q r. place_is d p ∙ ap (λ g. side_of (side_at ts g)) r ∙ sym (place_is e q);
      }
    where
      is-side : (s : Directed) (c : ℕ) → left s ≡ some c → is_side left (side_of s) ≡ true
      is-side (a ⟶ b) c e = has_side ts n sound a b c (left_has a b c ts e)

      hulls_there : (s : Directed) (c : ℕ) → left s ≡ some c → left (reversed s) ≡ none
          → (j : ℕ) × (j < length (order ts n)) × (side_at ts (get_or (order ts n) j 0) ≡ s)
      hulls_there s c e f =
          let r = side-entry (side_of s) (is-side s c e) in
          (r.0, r.1, ap (side_at ts) r.2 ∙ by (side-cases s))
        where
          by : (side_of s ≡ s) ⊎ (side_of s ≡ reversed s) → side_at ts (half_for ts (side_of s)) ≡ s
          by (inl q) = rw q (for_own s c e).1
          by (inr q) = rw q ((for_other (reversed s) c f (ap left (reversed-twice s) ∙ e)).1 ∙ reversed-twice s)

      inners_there : (a b c d : ℕ) → a < b → left (a ⟶ b) ≡ some c → left (b ⟶ a) ≡ some d
          → (j : ℕ) × (j < length (order ts n)) × (side_at ts (get_or (order ts n) j 0) ≡ a ⟶ b)
      inners_there a b c d q e f =
          let r = side-entry (a ⟶ b) (rising-side a b c q e) in
          (r.0, r.1, ap (side_at ts) r.2 ∙ (for_own (a ⟶ b) c e).1)

      rises : (i j : ℕ) → i ≤ j → j < length (order ts n)
          → (side_of ((row_of ts (order ts n)).entry j) ≡ side_of ((row_of ts (order ts n)).entry i))
          ⊎ Before (side_of ((row_of ts (order ts n)).entry i)) (side_of ((row_of ts (order ts n)).entry j))
      rises i j h k =
          rw (entry-side i (omega arith), entry-side j k)
          (sorted_entries all (sides_sorted left n) (0 ⟶ 0) i j h (omega (arith, k, order-length)))
