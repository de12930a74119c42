-- Each step of a drawn line is the drawn segment of a triangle (`segment-cut`), and each vertex of it lies on a side of the mesh between
-- stations on the two sides of the level (`vertex-between`). Assumes nothing.
--
-- Neighbours on a line share a triangle, and both are crossed: the corner that they have in common is cut off.
use mathlib.Core.Path.{◌≡◌, refl, sym, ap, ◌∙◌, subst}
use mathlib.Core.Bool.{Bool, true, false, cond, not, ◌||◌, beq}
use mathlib.Core.List.{List, [], ◌∷◌, ◌++◌, map, append-nil, map-append}
use mathlib.Core.Logic.{◌⊎◌, inl, inr}
use Prim.Native.Nat.{ℕ, ◌+◌, ◌*◌, ◌/◌, ◌≤◌, ◌<◌}
use native.Mathlib.Omega.{arith}
use lib.Dec.{ltb}
use lib.IntN.{ℤ}
use lib.ListN.{length, length-map}
use lib.Seq.{take-append_seam, drop-append_seam}
use Rattle.lists.proofs.TestLaws.{and_left, and_right}
use Rattle.whole.specs.Place.{Place}
use Rattle.sweep.specs.Members.{In, here, there}
use Rattle.sweep.specs.Sweep.{Three, EdgeOf, edge}
use Rattle.sweep.proofs.MemberLaws.{any_left, any_right, any_split, any_none, any_map, any_find}
use Rattle.survey.specs.Survey.{Survey, count, place_of}
use Rattle.trace.specs.Crossed.{is_crossed}
use Rattle.trace.specs.Lines.{Line, line, passed, vertices, record_of, records}
use Rattle.trace.specs.Mesh.{count as count_of}
use Rattle.trace.specs.Promise.{Share, last_of, Neighbours, Sensible, open-line, closed-line, Every, is_crossed_side, Meets}
use Rattle.trace.specs.Side.{Directed, ◌⟶◌, bit, reversed, side_of, left_corner, is_there, is_side}
use Rattle.trace.proofs.CountLaws.{bit_one, same_self}
use Rattle.trace.proofs.CrossedLaws.{side-ends}
use Rattle.trace.proofs.LinesLaws.{lines-meet}
use Rattle.trace.proofs.RecordLaws.{half-record, odd-record}
use Rattle.trace.proofs.StepLaws.{side-cases}
use Rattle.hull.specs.MeshOf.{MeshOf}
use Rattle.hull.proofs.SoundLaws.{mesh-sound}
use Rattle.spots.specs.Lines.{is_below, lines_of, spot_on, spots_of}
use Rattle.ground.specs.Segments.{standing, spot_place, segments_from, line_segments, all_segments, segments}
use Rattle.ground.specs.Sides.{BetweenUnlike}
use Rattle.ground.proofs.AlongLaws.{along-mixed}
use Rattle.ground.proofs.ShareLaws.{share_of, Shared, shared}
use Rattle.ground.proofs.CutLaws.{Named, has_named, next-named, spot_back, crossed-unlike, unlike_back, CutOff}

-- ---- members and counts
in_count : {d : Directed} {l : List Directed} → In d l → 0 < count_of d l
unfolding count_of
in_count {d} (here e) = rw (← e, same_self d) (omega arith)
in_count (there i) = omega (arith, in_count i)

-- ---- the steps of a line
-- Those of a line that is at the side d, over the sides that follow; of a whole line, where a closed one goes back to its first side; and of
-- all lines.
unfoldable pub steps_from : Directed → List Directed → List (EdgeOf Directed)
steps_from d [] = []
steps_from d (e ∷ p) = edge d e ∷ steps_from e p

unfoldable pub line_steps : Line → List (EdgeOf Directed)
line_steps (line closed []) = []
line_steps (line closed (d ∷ p)) = steps_from d (p ++ cond closed (d ∷ []) [])

unfoldable pub steps : List Line → List (EdgeOf Directed)
steps [] = []
steps (l ∷ ls) = line_steps l ++ steps ls

-- Where each side has a place, the segments are the steps, from place to place.
module _ (at : Directed → Place) where
  abbrev pub put : EdgeOf Directed → EdgeOf Place
  put e = edge (at e.from) (at e.to)

  from_steps : (d : Directed) (p : List Directed) → segments_from (at d) (map at p) ≡ map put (steps_from d p)
  unfolding segments_from steps_from
  from_steps d [] = refl
  from_steps d (e ∷ p) = ap (λ l. edge (at d) (at e) ∷ l) (from_steps e p)

  line-drawn : (closed : Bool) (p : List Directed) → line_segments closed (map at p) ≡ map put (line_steps (line closed p))
  unfolding line_segments line_steps
  line-drawn closed [] = refl
  line-drawn true (d ∷ p) = ap (segments_from (at d)) (sym (map-append at p (d ∷ []))) ∙ from_steps d (p ++ (d ∷ []))
  line-drawn false (d ∷ p) = ap (segments_from (at d)) (sym (map-append at p [])) ∙ from_steps d (p ++ [])

  all_drawn : (ls : List Line) → all_segments (records ls) (map at (passed ls)) ≡ map put (steps ls)
  unfolding all_segments records passed steps record_of
  all_drawn [] = refl
  all_drawn (line closed p ∷ ls) =
      let n : (2 * length p + bit closed) / 2 ≡ length (map at p) = half-record closed (length p) ∙ sym (length-map p at) in
      rw (
        odd-record closed (length p),
        n,
        map-append at p (passed ls),
        take-append_seam (map at p) (map at (passed ls)),
        drop-append_seam (map at p) (map at (passed ls)),
        all_drawn ls,
        line-drawn closed p,
      )
      (sym (map-append put (line_steps (line closed p)) (steps ls)))

module _ (ts : List (Three ℕ)) where
  -- A step from d to y, both among the sides l.
  pub record Stepped (l : List Directed) (e : EdgeOf Directed) : Type 0 where
    pub share : Share ts e.from e.to
    pub from_in : In e.from l
    pub to_in : In e.to l

  one_more : {x : Directed} {l : List Directed} {e : EdgeOf Directed} → Stepped l e → Stepped (x ∷ l) e
  one_more h = record { share = h.share; from_in = there h.from_in; to_in = there h.to_in }

  steps-from : (d : Directed) (p : List Directed) → Neighbours ts d p → {e : EdgeOf Directed} → In e (steps_from d p) → Stepped (d ∷ p) e
  unfolding steps_from
  steps-from d [] n i = absurd (any_none i)
  steps-from d (y ∷ p) (h, n) (here f) = rw f (record { share = h; from_in = here refl; to_in = there (here refl) })
  steps-from d (y ∷ p) (h, n) (there i) = one_more (steps-from y p n i)

  -- A closed line goes back to its first side.
  round : (d : Directed) (p : List Directed) (x : Directed) → Neighbours ts d p → Share ts (last_of d p) x → Neighbours ts d (p ++ (x ∷ []))
  round d [] x n h = (h, tt)
  round d (y ∷ p) x (k, n) h = (k, round y p x n h)

  abbrev pub sides_of : Line → List Directed
  sides_of (line closed p) = p

  line-steps : (l : Line) → Sensible ts l → {e : EdgeOf Directed} → In e (line_steps l) → Stepped (sides_of l) e
  unfolding line_steps
  line-steps (line false (d ∷ p)) (open-line _ _ _ n) i = steps-from d p n (rw (append-nil p) at i)
  line-steps (line true (d ∷ p)) (closed-line _ h _ n) i = go (steps-from d (p ++ (d ∷ [])) (round d p d n h) i)
    where
      back : {x : Directed} → In x (d ∷ (p ++ (d ∷ []))) → In x (d ∷ p)
      back (here f) = here f
      back {x} (there j) = again (any_split p j)
        where
          again : In x p ⊎ In x (d ∷ []) → In x (d ∷ p)
          again (inl k) = there k
          again (inr (here f)) = here f
          again (inr (there k)) = absurd (any_none k)

      go : {e : EdgeOf Directed} → Stepped (d ∷ (p ++ (d ∷ []))) e → Stepped (d ∷ p) e
      go h = record { share = h.share; from_in = back h.from_in; to_in = back h.to_in }
  line-steps (line false []) x9 {e = e} i = elim x9 [ ]
  line-steps (line true []) x10 {e = e} i = elim x10 [ ]

  pub all_steps : (ls : List Line) → Every ts ls → {e : EdgeOf Directed} → In e (steps ls) → Stepped (passed ls) e
  unfolding steps passed
  all_steps [] h i = absurd (any_none i)
  all_steps (line closed p ∷ ls) (h, k) i = go (any_split (line_steps (line closed p)) i) (λ j. all_steps ls k j)
    where
      go : {e : EdgeOf Directed} → In e (line_steps (line closed p)) ⊎ In e (steps ls) → (In e (steps ls) → Stepped (passed ls) e) → Stepped (p ++ passed ls) e
      go (inl j) f =
          let g = line-steps (line closed p) h j in
          record { share = g.share; from_in = any_left (passed ls) g.from_in; to_in = any_left (passed ls) g.to_in }
      go (inr j) f = let g = f j in record { share = g.share; from_in = any_right p g.from_in; to_in = any_right p g.to_in }

-- ---- over a mesh
beq_back : (f g : Bool) → not (beq f g) ≡ not (beq g f)
beq_back true true = refl
beq_back true false = refl
beq_back false true = refl
beq_back false false = refl

module _ (s : Survey) (ts : List (Three ℕ)) (mesh : MeshOf s ts) (level : ℤ) where
  pub meets : Meets ts (is_below s level) (count s) (lines_of s ts level)
  unfolding lines_of
  meets = lines-meet ts (is_below s level) (count s) (mesh-sound s ts mesh)

  -- A vertex is that of a crossed side.
  pub vertex-crossed : {d : Directed} → In d (vertices (lines_of s ts level)) → is_crossed_side ts (is_below s level) d ≡ true
  vertex-crossed {d} i = bit_one (is_crossed_side ts (is_below s level) d) (rw (← meets.each d) (in_count i))

  -- And each crossed side has one.
  pub vertex_once : (d : Directed) → count_of d (vertices (lines_of s ts level)) ≤ 1
  vertex_once d = rw (meets.each d) (most (is_crossed_side ts (is_below s level) d))
    where
      most : (f : Bool) → bit f ≤ 1
      most true = omega arith
      most false = omega arith

  pub passed-crossed : {d : Directed} → In d (passed (lines_of s ts level)) → is_crossed (is_below s level) d ≡ true
  unfolding vertices is_crossed
  passed-crossed {d} i =
      go d (side-cases d) (and_right (is_side (left_corner ts) (side_of d)) (is_crossed (is_below s level) (side_of d)) (vertex-crossed (sides-in i)))
    where
      sides-in : {l : List Directed} → In d l → In (side_of d) (map side_of l)
      sides-in (here e) = here (ap side_of e)
      sides-in (there j) = there (sides-in j)

      go : (d : Directed) → (side_of d ≡ d) ⊎ (side_of d ≡ reversed d) → is_crossed (is_below s level) (side_of d) ≡ true → is_crossed (is_below s level) d ≡ true
      go (a ⟶ b) (inl e) h = ap (is_crossed (is_below s level)) (sym e) ∙ h
      go (a ⟶ b) (inr e) h = beq_back (is_below s level a) (is_below s level b) ∙ ap (is_crossed (is_below s level)) (sym e) ∙ h

  module _ (slopes : List ℤ) (style : ℕ) where
    -- A triangle of the mesh in which p and q are the ends of the segment.
    pub record SegmentOf (p q : Place) : Type 0 where
      pub t : Three ℕ
      pub in_mesh : In t ts
      pub cut : CutOff s slopes style level t p q

    -- The corner that two crossed sides of a triangle have in common is cut off.
    step_cut : (d y : Directed) → Share ts d y → is_crossed (is_below s level) d ≡ true → is_crossed (is_below s level) y ≡ true
        → SegmentOf (spot_place s slopes style level d) (spot_place s slopes style level y)
    step_cut (a ⟶ b) y (c, has, o) h k = go (has_named has) (crossed-unlike s slopes style level a b h) o
      where
        go : (t : Three ℕ) × In t ts × Named t a b c → is_below s level b ≡ not (is_below s level a) → (y ≡ a ⟶ c) ⊎ (y ≡ c ⟶ b)
            → SegmentOf (spot_place s slopes style level (a ⟶ b)) (spot_place s slopes style level y)
        go (t, i, named) at_b (inl e) =
            let at_c = crossed-unlike s slopes style level a c (ap (is_crossed (is_below s level)) (sym e) ∙ k) in
            rw e
            (record {
              t = t;
              in_mesh = i;
              cut = record { v = a; w = b; u = c; named = named; w-unlike = at_b; u-unlike = at_c; ends = inl (refl, refl) };
            })
        go (t, i, named) at_b (inr e) =
            let at_c = crossed-unlike s slopes style level c b (ap (is_crossed (is_below s level)) (sym e) ∙ k) in
            rw e
            (record {
              t = t;
              in_mesh = i;
              cut =
                  record {
                    v = b;
                    w = c;
                    u = a;
                    named = next-named named;
                    w-unlike = unlike_back s slopes style level c b at_c;
                    u-unlike = unlike_back s slopes style level a b at_b;
                    ends = inr (spot_back s slopes style level a b, spot_back s slopes style level c b);
                  };
            })

    -- What the lines job gives draws the steps of the lines.
    pub segments-are : segments s ts slopes style level ≡ map (put (spot_place s slopes style level)) (steps (lines_of s ts level))
    unfolding segments spots_of vertices spot_place
    segments-are =
        ap (all_segments (records (lines_of s ts level))) (three (passed (lines_of s ts level))) ∙ all_drawn (spot_place s slopes style level) (lines_of s ts level)
      where
        three : (l : List Directed) → map standing (map (spot_on s slopes style level) (map side_of l)) ≡ map (spot_place s slopes style level) l
        three [] = refl
        three (d ∷ l) = ap (λ m. spot_place s slopes style level d ∷ m) (three l)

    pub segment-cut : {e : EdgeOf Place} → In e (segments s ts slopes style level) → SegmentOf e.from e.to
    segment-cut {e} i = go (any_find (any_map _ (steps (lines_of s ts level)) (subst (In e) segments-are i)))
      where
        go : (f : EdgeOf Directed) × In f (steps (lines_of s ts level)) × (e ≡ put (spot_place s slopes style level) f) → SegmentOf e.from e.to
        go (f, j, g) =
            let h = all_steps ts (lines_of s ts level) meets.sensible j in
            rw g (step_cut f.from f.to h.share (passed-crossed h.from_in) (passed-crossed h.to_in))

    -- ---- vertices
    vertex_at : (d : Directed) → is_crossed_side ts (is_below s level) d ≡ true → BetweenUnlike s ts level (standing (spot_on s slopes style level d))
    unfolding spot_place side_of is_side
    vertex_at (i ⟶ j) h =
        let side = and_left (is_side (left_corner ts) (i ⟶ j)) (is_crossed (is_below s level) (i ⟶ j)) h in
        let unlike = crossed-unlike s slopes style level i j (and_right (is_side (left_corner ts) (i ⟶ j)) (is_crossed (is_below s level) (i ⟶ j)) h) in
        let ends = side-ends ts (count s) (mesh-sound s ts mesh) i j side in
        let at : Shared s slopes style level i j = shared s slopes style level ends.0 ends.1 unlike in
        let up : side_of (i ⟶ j) ≡ i ⟶ j = rw (and_left (ltb i j) (is_there (left_corner ts (i ⟶ j)) || is_there (left_corner ts (j ⟶ i))) side) in
        record {
          i = i;
          j = j;
          side = side;
          unlike = unlike;
          m = share_of s slopes style level j i;
          n = share_of s slopes style level i j;
          some-m = at.some_to;
          some-n = at.some_from;
          all = omega (arith, at.all);
          at =
              ap (λ d. standing (spot_on s slopes style level d)) (sym up)
              ∙ along-mixed (place_of s i) (place_of s j) (share_of s slopes style level j i) (share_of s slopes style level i j)
              (omega (arith, at.all)) at.forth;
        }

    pub vertex-between : {p : Place} → In p (map standing (spots_of s ts slopes style level)) → BetweenUnlike s ts level p
    unfolding spots_of
    vertex-between {p} i =
        go (any_find (any_map _ (vertices (lines_of s ts level)) (any_map _ (map (spot_on s slopes style level) (vertices (lines_of s ts level))) i)))
      where
        go : (d : Directed) × In d (vertices (lines_of s ts level)) × (p ≡ standing (spot_on s slopes style level d)) → BetweenUnlike s ts level p
        go (d, j, e) = rw e (vertex_at d (vertex-crossed j))
