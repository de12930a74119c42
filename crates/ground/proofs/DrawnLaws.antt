-- The lines of a level draw the segment of every triangle: `cut-drawn`. Assumes nothing.
--
-- Of the two crossed sides of a triangle v, w, u the one from v to w is met by a line. If it is met as it runs there, the line is led into
-- the triangle, so it goes on, and over the triangle's other crossed side; if it is met the other way, the line has come out of the
-- triangle, over that side. An open line only starts and ends at sides that have no triangle on that hand.
use mathlib.Core.Path.{◌≡◌, refl, sym, ap, ◌∙◌, subst, subst₂}
use mathlib.Core.Bool.{Bool, true, false, not, ◌||◌, beq, true≢false}
use mathlib.Core.List.{List, [], ◌∷◌, ◌++◌, map, append-nil}
use mathlib.Core.Logic.{◌⊎◌, inl, inr}
use mathlib.Core.Option.{some-injective}
use Prim.Native.Nat.{ℕ, ◌<◌}
use native.Mathlib.Omega.{arith}
use native.Mathlib.Decide.{dec_lt}
use borrow.Author.Tests.{lt-ltb}
use lib.IntN.{ℤ}
use Rattle.whole.specs.Place.{Place}
use Rattle.sweep.specs.Members.{In, here, there}
use Rattle.sweep.specs.Sweep.{Three, EdgeOf, edge}
use Rattle.sweep.proofs.MemberLaws.{any_left, any_right, any_split, any_none, any_map, any_mapped, any_imp, any_find}
use Rattle.survey.specs.Survey.{Survey}
use Rattle.trace.specs.Crossed.{is_crossed}
use Rattle.trace.specs.Lines.{Line, line, passed, vertices}
use Rattle.trace.specs.Mesh.{count as count_of, Has}
use Rattle.trace.specs.Promise.{Share, Outer, last_of, Sensible, open-line, closed-line, Every, is_crossed_side}
use Rattle.trace.specs.Side.{Directed, ◌⟶◌, reversed, side_of, left_corner, is_there, is_side}
use Rattle.trace.proofs.CountLaws.{count-either, count_none}
use Rattle.trace.proofs.MeshLaws.{has_turned}
use Rattle.trace.proofs.StepLaws.{not_self, side-cases, reversed-twice}
use Rattle.hull.specs.MeshOf.{MeshOf}
use Rattle.hull.proofs.SoundLaws.{has_found}
use Rattle.spots.specs.Lines.{is_below, lines_of}
use Rattle.ground.specs.Segments.{spot_place, segments}
use Rattle.ground.proofs.ShareLaws.{not_back}
use Rattle.ground.proofs.CutLaws.{named_has, Ends, spot_back, unlike-crossed, CutOff}
use Rattle.ground.proofs.StepLaws.{steps_from, line_steps, steps, put, sides_of, Stepped, segments-are, all_steps, meets, passed-crossed}

-- ---- the step after a side, and the one before it
after : (c : Directed) (p : List Directed) {d : Directed} → In d (c ∷ p) → ((y : Directed) × In (edge d y) (steps_from c p)) ⊎ (d ≡ last_of c p)
unfolding steps_from
after c [] (here e) = inr e
after c [] (there i) = absurd (any_none i)
after c (y ∷ p) (here e) = inl (y, here (ap (λ d. edge d y) e))
after c (y ∷ p) (there i) = go (after y p i)
  where
    go : {d : Directed} → ((z : Directed) × In (edge d z) (steps_from y p)) ⊎ (d ≡ last_of y p)
        → ((z : Directed) × In (edge d z) (edge c y ∷ steps_from y p)) ⊎ (d ≡ last_of y p)
    go (inl (z, j)) = inl (z, there j)
    go (inr e) = inr e

before : (c : Directed) (p : List Directed) {d : Directed} → In d p → (x : Directed) × In (edge x d) (steps_from c p)
unfolding steps_from
before c [] i = absurd (any_none i)
before c (y ∷ p) (here e) = (c, here (ap (edge c) e))
before c (y ∷ p) (there i) = let r = before y p i in (r.0, there r.1)

last_added : (c : Directed) (p : List Directed) (x : Directed) → last_of c (p ++ (x ∷ [])) ≡ x
last_added c [] x = refl
last_added c (y ∷ p) x = last_added y p x

first_step : (c : Directed) (p : List Directed) (x : Directed) → (y : Directed) × In (edge c y) (steps_from c (p ++ (x ∷ [])))
unfolding steps_from
first_step c [] x = (x, here refl)
first_step c (y ∷ p) x = (y, here refl)

-- Of a line: a side goes on, or leads out of the mesh; it was come to, or leads into it.
module _ (ts : List (Three ℕ)) where
  record Linked (l : List (EdgeOf Directed)) (d : Directed) : Type 0 where
    on : ((y : Directed) × In (edge d y) l) ⊎ Outer ts d
    from : ((x : Directed) × In (edge x d) l) ⊎ Outer ts (reversed d)

  line-linked : (l : Line) → Sensible ts l → {d : Directed} → In d (sides_of ts l) → Linked (line_steps l) d
  unfolding line_steps
  line-linked (line false (c ∷ p)) (open-line first last _ _) {d} i =
      rw (append-nil p) (record { on = onward (after c p i); from = backward i })
    where
      onward : ((y : Directed) × In (edge d y) (steps_from c p)) ⊎ (d ≡ last_of c p) → ((y : Directed) × In (edge d y) (steps_from c p)) ⊎ Outer ts d
      onward (inl r) = inl r
      onward (inr e) = inr (subst (Outer ts) (sym e) last)

      backward : In d (c ∷ p) → ((x : Directed) × In (edge x d) (steps_from c p)) ⊎ Outer ts (reversed d)
      backward (here e) = inr (subst (λ x. Outer ts (reversed x)) (sym e) first)
      backward (there j) = inl (before c p j)
  line-linked (line true (c ∷ p)) (closed-line _ _ _ _) {d} i =
      record { on = inl (onward (after c (p ++ (c ∷ [])) (later i))); from = inl (before c (p ++ (c ∷ [])) (round i)) }
    where
      later : In d (c ∷ p) → In d (c ∷ (p ++ (c ∷ [])))
      later (here e) = here e
      later (there j) = there (any_left (c ∷ []) j)

      round : In d (c ∷ p) → In d (p ++ (c ∷ []))
      round (here e) = any_right p (here e)
      round (there j) = any_left (c ∷ []) j

      onward : ((y : Directed) × In (edge d y) (steps_from c (p ++ (c ∷ [])))) ⊎ (d ≡ last_of c (p ++ (c ∷ [])))
          → (y : Directed) × In (edge d y) (steps_from c (p ++ (c ∷ [])))
      onward (inl r) = r
      onward (inr e) =
          subst (λ x. (y : Directed) × In (edge x y) (steps_from c (p ++ (c ∷ [])))) (sym (e ∙ last_added c p c)) (first_step c p c)
  line-linked (line false []) x9 {d = d} i = elim x9 [ ]
  line-linked (line true []) x10 {d = d} i = elim x10 [ ]

  all_linked : (ls : List Line) → Every ts ls → {d : Directed} → In d (passed ls) → Linked (steps ls) d
  unfolding steps passed
  all_linked [] h i = absurd (any_none i)
  all_linked (line closed p ∷ ls) (h, k) {d} i = go (any_split p i) (λ j. all_linked ls k j)
    where
      widen : {l m : List (EdgeOf Directed)} → ((e : EdgeOf Directed) → In e l → In e m) → Linked l d → Linked m d
      widen {l} {m} f g = record { on = on g.on; from = from g.from }
        where
          on : ((y : Directed) × In (edge d y) l) ⊎ Outer ts d → ((y : Directed) × In (edge d y) m) ⊎ Outer ts d
          on (inl (y, j)) = inl (y, f (edge d y) j)
          on (inr o) = inr o

          from : ((x : Directed) × In (edge x d) l) ⊎ Outer ts (reversed d) → ((x : Directed) × In (edge x d) m) ⊎ Outer ts (reversed d)
          from (inl (x, j)) = inl (x, f (edge x d) j)
          from (inr o) = inr o

      go : In d p ⊎ In d (passed ls) → (In d (passed ls) → Linked (steps ls) d) → Linked (line_steps (line closed p) ++ steps ls) d
      go (inl j) f = widen (λ e i. any_left (steps ls) i) (line-linked (line closed p) h j)
      go (inr j) f = widen (λ e i. any_right (line_steps (line closed p)) i) (f j)

-- ---- the two crossed sides of a triangle
or-true : (b : Bool) → (b || true) ≡ true
or-true true = refl
or-true false = refl

some_in : {d : Directed} (l : List Directed) → 0 < count_of d l → In d l
some_in {d} [] h = absurd (count_none d h)
some_in {d} (x ∷ l) h = go (count-either d x l h) (λ k. some_in l k)
  where
    go : (d ≡ x) ⊎ (0 < count_of d l) → (0 < count_of d l → In d l) → In d (x ∷ l)
    go (inl e) f = here e
    go (inr k) f = there (f k)

module _ (s : Survey) (ts : List (Three ℕ)) (mesh : MeshOf s ts) (level : ℤ) where
  abbrev at : ℕ → Bool
  at k = is_below s level k

  alike_not : (i j : ℕ) → at i ≡ at j → is_crossed (is_below s level) (i ⟶ j) ≡ true → ⊥
  unfolding is_crossed
  alike_not i j e h = go (at i) (at j) e h
    where
      go : (f g : Bool) → f ≡ g → not (beq f g) ≡ true → ⊥
      go true true e h = true≢false (sym h)
      go true false e h = true≢false e
      go false true e h = true≢false (sym e)
      go false false e h = true≢false (sym h)

  module _ {v w u : ℕ} (has : Has v w u ts) (w-unlike : at w ≡ not (at v)) (u-unlike : at u ≡ not (at v)) where
    -- The third corner of a triangle that has the side from v to w.
    third : {c : ℕ} → Has v w c ts → c ≡ u
    third {c} h = some-injective c u (sym (has_found s ts mesh h) ∙ has_found s ts mesh has)

    -- A line that is led into the triangle over the side leaves it over the other crossed one;
    into : (y : Directed) → Share ts (v ⟶ w) y → is_crossed (is_below s level) y ≡ true → y ≡ v ⟶ u
    into y (c, h, inl e) k = e ∙ ap (λ c. v ⟶ c) (third h)
    into y (c, h, inr e) k =
        absurd
        (alike_not u w (u-unlike ∙ sym w-unlike)
        (subst (λ c. is_crossed (is_below s level) (c ⟶ w) ≡ true) (third h) (subst (λ y. is_crossed (is_below s level) y ≡ true) e k)))

    -- one that comes out over it has come in over that.
    out_of : (x : Directed) → Share ts x (w ⟶ v) → is_crossed (is_below s level) x ≡ true → x ≡ u ⟶ v
    out_of (a ⟶ b) (c, h, inl e) k = absurd (went (ends e) h k)
      where
        ends : w ⟶ v ≡ a ⟶ c → (w ≡ a) × (v ≡ c)
        ends e = (cc, cc)

        went : (w ≡ a) × (v ≡ c) → Has a b c ts → is_crossed (is_below s level) (a ⟶ b) ≡ true → ⊥
        went (f, g) h k =
            let is : b ≡ u = third (subst₂ (λ a c. Has c a b ts) (sym f) (sym g) (has_turned (has_turned h))) in
            alike_not a b (ap (is_below s level) (sym f) ∙ w-unlike ∙ sym u-unlike ∙ ap (is_below s level) (sym is)) k
    out_of (a ⟶ b) (c, h, inr e) k = went (ends e) h
      where
        ends : w ⟶ v ≡ c ⟶ b → (w ≡ c) × (v ≡ b)
        ends e = (cc, cc)

        went : (w ≡ c) × (v ≡ b) → Has a b c ts → a ⟶ b ≡ u ⟶ v
        went (f, g) h =
            let is : a ≡ u = third (subst₂ (λ b c. Has b c a ts) (sym g) (sym f) (has_turned h)) in
            λ r. is r ⟶ sym g r

  -- ---- all segments
  -- A crossed side of a triangle is met by a line, as it runs or the other way.
  met : {v w u : ℕ} → Has v w u ts → at w ≡ not (at v) → In (v ⟶ w) (passed (lines_of s ts level)) ⊎ In (w ⟶ v) (passed (lines_of s ts level))
  unfolding vertices is_side side_of
  met {v} {w} {u} has e = go (dec_lt v w) (dec_lt w v)
    where
      here-or_back : {l : List Directed} {x y : ℕ} → In (x ⟶ y) (map side_of l) → In (x ⟶ y) l ⊎ In (y ⟶ x) l
      here-or_back {l} {x} {y} i = found (any_find (any_map side_of l i))
        where
          found : (d : Directed) × In d l × (x ⟶ y ≡ side_of d) → In (x ⟶ y) l ⊎ In (y ⟶ x) l
          found (d, j, f) = by (side-cases d)
            where
              by : (side_of d ≡ d) ⊎ (side_of d ≡ reversed d) → In (x ⟶ y) l ⊎ In (y ⟶ x) l
              by (inl g) = inl (subst (λ d. In d l) (sym (f ∙ g)) j)
              by (inr g) = inr (subst (λ d. In d l) (sym (reversed-twice d) ∙ ap reversed (sym (f ∙ g))) j)

      listed : (x y : ℕ) → is_crossed_side ts (is_below s level) (x ⟶ y) ≡ true
          → In (x ⟶ y) (passed (lines_of s ts level)) ⊎ In (y ⟶ x) (passed (lines_of s ts level))
      listed x y h = here-or_back (some_in (map side_of (passed (lines_of s ts level))) (rw ((meets s ts mesh level).each (x ⟶ y), h) (omega arith)))

      back : In (w ⟶ v) (passed (lines_of s ts level)) ⊎ In (v ⟶ w) (passed (lines_of s ts level))
          → In (v ⟶ w) (passed (lines_of s ts level)) ⊎ In (w ⟶ v) (passed (lines_of s ts level))
      back (inl i) = inr i
      back (inr i) = inl i

      go : Dec (v < w) → Dec (w < v) → In (v ⟶ w) (passed (lines_of s ts level)) ⊎ In (w ⟶ v) (passed (lines_of s ts level))
      go (yes h) _ = listed v w (rw (lt-ltb v w h, has_found s ts mesh has, unlike-crossed s [] 0 level v w e))
      go (no _) (yes h) =
          back
          (listed w v
          (rw (lt-ltb w v h, has_found s ts mesh has, or-true (is_there (left_corner ts (w ⟶ v))), unlike-crossed s [] 0 level w v (not_back (at v) e))))
      go (no h) (no k) =
          let same : v ≡ w = omega arith in
          absurd (not_self (at v) (ap (is_below s level) same ∙ e))

  module _ (slopes : List ℤ) (style : ℕ) where
    abbrev spot : ℕ → ℕ → Place
    spot i j = spot_place s slopes style level (i ⟶ j)

    abbrev all : List (EdgeOf Place)
    all = segments s ts slopes style level

    step-drawn : (d y : Directed) → In (edge d y) (steps (lines_of s ts level))
        → In (edge (spot_place s slopes style level d) (spot_place s slopes style level y)) all
    step-drawn d y i =
        subst (In _) (sym (segments-are s ts mesh level slopes style)) (any_mapped _ (any_imp (λ e h. ap (put (spot_place s slopes style level)) h) i))

    corner-drawn : {v w u : ℕ} → Has v w u ts → at w ≡ not (at v) → at u ≡ not (at v)
        → In (edge (spot v w) (spot v u)) all ⊎ In (edge (spot v u) (spot v w)) all
    corner-drawn {v} {w} {u} has e f = go (met has e)
      where
        stepped : {x : EdgeOf Directed} → In x (steps (lines_of s ts level)) → Stepped ts (passed (lines_of s ts level)) x
        stepped i = all_steps ts (lines_of s ts level) (meets s ts mesh level).sensible i

        linked : {d : Directed} → In d (passed (lines_of s ts level)) → Linked ts (steps (lines_of s ts level)) d
        linked i = all_linked ts (lines_of s ts level) (meets s ts mesh level).sensible i

        onward : ((y : Directed) × In (edge (v ⟶ w) y) (steps (lines_of s ts level))) ⊎ Outer ts (v ⟶ w) → In (edge (spot v w) (spot v u)) all
        onward (inr o) = absurd (o u has)
        onward (inl (y, i)) =
            let h = stepped i in
            step-drawn (v ⟶ w) (v ⟶ u)
            (subst (λ y. In (edge (v ⟶ w) y) (steps (lines_of s ts level))) (into has e f y h.share (passed-crossed s ts mesh level h.to_in)) i)

        backward : ((x : Directed) × In (edge x (w ⟶ v)) (steps (lines_of s ts level))) ⊎ Outer ts (v ⟶ w) → In (edge (spot v u) (spot v w)) all
        backward (inr o) = absurd (o u has)
        backward (inl (x, i)) =
            let h = stepped i in
            subst₂ (λ p q. In (edge p q) all) (spot_back s slopes style level u v) (spot_back s slopes style level w v)
            (step-drawn (u ⟶ v) (w ⟶ v)
            (subst (λ x. In (edge x (w ⟶ v)) (steps (lines_of s ts level))) (out_of has e f x h.share (passed-crossed s ts mesh level h.from_in)) i))

        go : In (v ⟶ w) (passed (lines_of s ts level)) ⊎ In (w ⟶ v) (passed (lines_of s ts level))
            → In (edge (spot v w) (spot v u)) all ⊎ In (edge (spot v u) (spot v w)) all
        go (inl i) = inl (onward (linked i).on)
        go (inr i) = inr (backward (linked i).from)

    -- Whichever end is named first.
    pub cut-drawn : {t : Three ℕ} {p q : Place} → In t ts → CutOff s slopes style level t p q → In (edge p q) all ⊎ In (edge q p) all
    cut-drawn i c = go c.ends (corner-drawn (named_has i c.named) c.w-unlike c.u-unlike)
      where
        go : {p q x y : Place} → Ends p q x y → In (edge x y) all ⊎ In (edge y x) all → In (edge p q) all ⊎ In (edge q p) all
        go (inl (e, f)) r = rw (e, f) r
        go (inr (e, f)) (inl r) = rw (e, f) (inr r)
        go (inr (e, f)) (inr r) = rw (e, f) (inl r)
