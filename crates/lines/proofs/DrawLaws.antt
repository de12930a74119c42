-- What one preparation gives to every level, over any mesh of the survey: its lines have room, every vertex stands on a side that the level
-- crosses, and the spots by numbers of sides are the spots of the lines. Assumes nothing.
use mathlib.Core.Path.{◌≡◌, refl, sym, ap, ap₂, ◌∙◌, subst}
use mathlib.Core.Bool.{Bool, true, false, true≢false, not, xor, ◌&&◌, beq}
use mathlib.Core.List.{List, [], ◌∷◌, ◌++◌, map}
use Prim.Native.Nat.{ℕ, zero, suc, ◌+◌, ◌*◌, ◌/◌, ◌%◌, ◌≤◌, ◌<◌}
use native.Mathlib.Omega.{arith}
use borrow.Author.Tests.{lt-ltb}
use lib.Dec.{ltb}
use lib.IntN.{ℤ}
use lib.ListN.{length, get_or, take, length-map, length-append}
use lib.Seq.{take_at}
use Rattle.lists.specs.Table.{table}
use Rattle.lists.proofs.TestLaws.{and_left, and_right}
use Rattle.lists.proofs.TableLaws.{table-front}
use Rattle.sweep.specs.Sweep.{Three}
use Rattle.survey.specs.Fit.{Fit}
use Rattle.survey.specs.Rooms.{vertex_room, record_room}
use Rattle.survey.specs.Survey.{Survey, count, height_of}
use Rattle.curve.specs.declared.spot.Spot.{Spot}
use Rattle.curve.specs.Below.{below, is_crossed as is_crossed_by}
use Rattle.curve.proofs.CrossLaws.{true-xor}
use Rattle.trace.specs.Side.{Directed, ◌⟶◌, side_of, left_corner, is_side}
use Rattle.trace.specs.Crossed.{is_crossed}
use Rattle.trace.specs.Lines.{lines, passed, vertices}
use Rattle.trace.specs.Mesh.{count as count_of, Sound}
use Rattle.trace.specs.Promise.{is_crossed_side}
use Rattle.tracing.specs.Written.{below_in, pair_of, side_number, sides_of}
use Rattle.trace.proofs.CountLaws.{bit_one, count_head, count-later}
use Rattle.trace.proofs.CrossedLaws.{side-ends}
use Rattle.trace.proofs.LinesLaws.{lines-meet}
use Rattle.slopes.specs.Job.{slopes_of}
use Rattle.hull.specs.MeshOf.{MeshOf}
use Rattle.spots.specs.Lines.{is_below, lines_of, spot_between, spot_on, spots_of, spot_at}
use Rattle.spots.specs.Prepared.{Crossing, slopes_for}
use Rattle.spots.proofs.GivenLaws.{end-range, spot_same}
use Rattle.hull.proofs.SoundLaws.{mesh-sound, mesh-vertices-fit, mesh-records-fit}

-- The ends of a directed side.
abbrev from : Directed → ℕ
from (a ⟶ b) = a

abbrev to : Directed → ℕ
to (a ⟶ b) = b

-- ---- a mesh of the survey
module _ (s : Survey) (fit : Fit s) (ts : List (Three ℕ)) (mesh : MeshOf s ts) where
  -- It is sound, and its lines have room, whatever is below.
  sound : Sound ts (count s)
  sound = mesh-sound s ts mesh

  vertices-fit : (below : ℕ → Bool) → length (vertices (lines ts below (count s))) ≤ vertex_room (count s)
  vertices-fit = mesh-vertices-fit s fit ts mesh

  -- The stations below a level, by the list of heights.
  below_is : (level : ℤ) → below_in s.zs level ≡ is_below s level
  below_is level = λ i k. ltb k (fit.zs-count i) && below level (height_of s k)

  pub traced-are : (level : ℤ) → lines ts (below_in s.zs level) (length s.zs) ≡ lines_of s ts level
  unfolding lines_of
  traced-are level = ap₂ (lines ts) (below_is level) fit.zs-count

  pub lines_fit : (level : ℤ) → length (lines_of s ts level) ≤ record_room (count s)
  unfolding lines_of
  lines_fit level = mesh-records-fit s fit ts mesh (is_below s level)

  pub passed-fit : (level : ℤ) → length (passed (lines_of s ts level)) ≤ vertex_room (count s)
  unfolding lines_of vertices
  passed-fit level = let h = vertices-fit (is_below s level) in omega (arith, h, length-map (passed (lines ts (is_below s level) (count s))) side_of)

  pub spots-fit : (style : ℕ) (level : ℤ) → length (spots_of s ts (slopes_of s) style level) ≤ vertex_room (count s)
  unfolding spots_of lines_of
  spots-fit style level = let h = vertices-fit (is_below s level) in omega (arith, h, length-map (vertices (lines ts (is_below s level) (count s))) (spot_on s (slopes_of s) style level))

  -- ---- the vertices
  -- The sides that vertices stand on join stations in use, and the level passes between them.
  pub record Crossed (level : ℤ) (d : Directed) : Type 0 where
    pub low_in : from d < count s
    pub high_in : to d < count s
    pub between : is_crossed_by level (height_of s (from d)) (height_of s (to d)) ≡ true

  vertex-crossed : (level : ℤ) (d : Directed) → 0 < count_of d (vertices (lines_of s ts level)) → Crossed level d
  unfolding lines_of is_side is_crossed
  vertex-crossed level (i ⟶ j) h =
      record { low_in = ends.0; high_in = ends.1; between = differ (below level (height_of s i)) (below level (height_of s j)) across }
    where
      is : is_crossed_side ts (is_below s level) (i ⟶ j) ≡ true
      is = bit_one (is_crossed_side ts (is_below s level) (i ⟶ j)) (rw ((lines-meet ts (is_below s level) (count s) sound).each (i ⟶ j)) at h)

      side : is_side (left_corner ts) (i ⟶ j) ≡ true
      side = and_left (is_side (left_corner ts) (i ⟶ j)) (is_crossed (is_below s level) (i ⟶ j)) is

      ends : (i < count s) × (j < count s)
      ends = side-ends ts (count s) sound i j side

      used : (k : ℕ) → k < count s → is_below s level k ≡ below level (height_of s k)
      used k l = ap (λ t. t && below level (height_of s k)) (lt-ltb k (count s) l)

      across : not (beq (below level (height_of s i)) (below level (height_of s j))) ≡ true
      across =
          ap₂ (λ p q. not (beq p q)) (sym (used i ends.0)) (sym (used j ends.1))
          ∙ and_right (is_side (left_corner ts) (i ⟶ j)) (is_crossed (is_below s level) (i ⟶ j)) is

      other : (p q : Bool) → not (beq p q) ≡ true → q ≡ not p
      other true true e = absurd (true≢false (sym e))
      other true false e = refl
      other false true e = refl
      other false false e = absurd (true≢false (sym e))

      differ : (p q : Bool) → not (beq p q) ≡ true → xor p q ≡ true
      differ p q e = true-xor p q (other p q e)

  -- All of them.
  abbrev Each : ℤ → List Directed → Type 0
  Each level [] = Unit {0}
  Each level (d ∷ l) = Crossed level d × Each level l

  each_of : (level : ℤ) (l : List Directed) → ((d : Directed) → 0 < count_of d l → Crossed level d) → Each level l
  each_of level [] f = tt
  each_of level (d ∷ l) f = (f d (count_head d l), each_of level l (λ e h. f e (count-later e d l h)))

  pub vertices-crossed : (level : ℤ) → Each level (vertices (lines_of s ts level))
  vertices-crossed level = each_of level (vertices (lines_of s ts level)) (vertex-crossed level)

  -- The numbers of the sides, in the slice of the code.
  pub numbers-are : (level : ℤ) → sides_of (passed (lines_of s ts level)) ≡ map pair_of (vertices (lines_of s ts level))
  unfolding vertices side_number
  numbers-are level = go (passed (lines_of s ts level))
    where
      go : (p : List Directed) → map side_number p ≡ map pair_of (map side_of p)
      go [] = refl
      go (d ∷ p) = ap (λ t. pair_of (side_of d) ∷ t) (go p)

  module _ (style : ℕ) (rest : List ℤ) where
    abbrev given : List ℤ
    given = slopes_for s style ++ rest

    crossing : (level : ℤ) (d : Directed) → Crossed level d → Crossing s given level (from d) (to d)
    crossing level d c =
        record { low_in = c.low_in; high_in = c.high_in; low-range = end-range s fit style rest (from d) c.low_in; high-range = end-range s fit style rest (to d) c.high_in; crossed = c.between }

    -- ---- spots by numbers
    number-spot : (level : ℤ) (d : Directed) → Crossed level d → spot_at s given style level (pair_of d) ≡ spot_on s (slopes_of s) style level d
    unfolding spot_on
    number-spot level (i ⟶ j) c =
        let m = fit.most in
        let p : (i * 65536 + j) / 65536 ≡ i = omega (arith, c.high_in, m) in
        let q : (i * 65536 + j) % 65536 ≡ j = omega (arith, c.high_in, m) in
        (λ t. spot_between s given style level (p t) (q t)) ∙ spot_same s fit style rest level i j c.low_in c.high_in

    number-crossing : (level : ℤ) (d : Directed) → Crossed level d → Crossing s given level (pair_of d / 65536) (pair_of d % 65536)
    number-crossing level (i ⟶ j) c =
        let m = fit.most in
        let p : (i * 65536 + j) / 65536 ≡ i = omega (arith, c.high_in, m) in
        let q : (i * 65536 + j) % 65536 ≡ j = omega (arith, c.high_in, m) in
        rw (p, q) (crossing level (i ⟶ j) c)

    numbers-crossing : (level : ℤ) (l : List Directed) → Each level l → (tail : List ℕ) (k : ℕ) → k < length l
        → Crossing s given level (get_or (map pair_of l ++ tail) k 0 / 65536) (get_or (map pair_of l ++ tail) k 0 % 65536)
    numbers-crossing level [] e tail k h = absurd (omega arith)
    numbers-crossing level (d ∷ l) e tail zero h = number-crossing level d e.0
    numbers-crossing level (d ∷ l) e tail (suc k) h = numbers-crossing level l e.1 tail k (omega arith)

    number-spots : (level : ℤ) (l : List Directed) → Each level l → map (spot_at s given style level) (map pair_of l) ≡ map (spot_on s (slopes_of s) style level) l
    number-spots level [] e = refl
    number-spots level (d ∷ l) e = λ i. number-spot level d e.0 i ∷ number-spots level l e.1 i

    -- What the code leaves: the vertices' sides at the front of a slice give the spots.
    module _ (level : ℤ) {sides : List ℕ} (tail : List ℕ) (e : sides ≡ sides_of (passed (lines_of s ts level)) ++ tail) where
      abbrev total : ℕ
      total = length (passed (lines_of s ts level))

      numbers : sides ≡ map pair_of (vertices (lines_of s ts level)) ++ tail
      numbers = e ∙ ap (λ l. l ++ tail) (numbers-are level)

      total_is : total ≡ length (vertices (lines_of s ts level))
      unfolding vertices
      total_is = sym (length-map (passed (lines_of s ts level)) side_of)

      pub total-spots : total ≡ length (spots_of s ts (slopes_of s) style level)
      unfolding spots_of
      total-spots = total_is ∙ sym (length-map (vertices (lines_of s ts level)) (spot_on s (slopes_of s) style level))

      pub sides-crossing : (k : ℕ) → k < total → Crossing s given level (get_or sides k 0 / 65536) (get_or sides k 0 % 65536)
      sides-crossing k h =
          subst (λ l. Crossing s given level (get_or l k 0 / 65536) (get_or l k 0 % 65536)) (sym numbers)
          (numbers-crossing level (vertices (lines_of s ts level)) (vertices-crossed level) tail k (omega (arith, h, total_is)))

      pub sides-spots : (g : Spot → ℕ) → table (λ k. g (spot_at s given style level (get_or sides k 0))) total ≡ map g (spots_of s ts (slopes_of s) style level)
      unfolding spots_of
      sides-spots g =
          table-front (λ m. g (spot_at s given style level m)) sides 0 total (omega (arith, ap length numbers, length-append (map pair_of (vertices (lines_of s ts level))) tail, length-map (vertices (lines_of s ts level)) pair_of, total_is))
          ∙ ap (map (λ m. g (spot_at s given style level m)))
          (ap (take total) numbers ∙ take_at (map pair_of (vertices (lines_of s ts level))) tail total (length-map (vertices (lines_of s ts level)) pair_of ∙ sym total_is))
          ∙ twice (map pair_of (vertices (lines_of s ts level)))
          ∙ ap (map g) (number-spots level (vertices (lines_of s ts level)) (vertices-crossed level))
        where
          twice : (l : List ℕ) → map (λ m. g (spot_at s given style level m)) l ≡ map g (map (spot_at s given style level) l)
          twice [] = refl
          twice (m ∷ l) = ap (λ t. g (spot_at s given style level m) ∷ t) (twice l)
