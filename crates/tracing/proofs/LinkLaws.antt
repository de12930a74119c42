-- The two passes over half-sides give the lines of the page (`lines_are`), so what the code writes are their sides and their records
-- (`sides-are`, `records-are`). Assumes nothing.
--
-- A half-side of a line that is left, run the other way, is the directed side that the line meets; the mark of its side stands at the lower
-- of the side's two half-sides, which is the side's place. So a pass over half-sides is the pass over directed sides, entry for entry.
use Prim.Native.Nat.{ℕ, zero, suc, ◌+◌, ◌*◌, ◌≤◌, ◌<◌}
use native.Mathlib.Omega.{arith}
use mathlib.Core.Path.{◌≡◌, refl, sym, ap, ap₂, ◌∙◌}
use mathlib.Core.Bool.{Bool, true, false, cond, not, ◌&&◌}
use mathlib.Core.List.{List, [], ◌∷◌, ◌++◌, map, map-append}
use mathlib.Core.Option.{Option, none, some}
use lib.Dec.{eqb}
use lib.ListN.{length, get_or, set, length-map}
use Rattle.sweep.specs.Sweep.{Three}
use Rattle.trace.specs.Side.{Directed, bit, is_there, reversed, side_of, left_corner}
use Rattle.trace.specs.Crossed.{is_crossed}
use Rattle.trace.specs.Lines.{line, passed, record_of, records, lines}
use Rattle.trace.specs.Mesh.{Sound}
use Rattle.trace.specs.Walk.{next, path}
use Rattle.trace.proofs.CountLaws.{Tested, passes, fails, tested}
use Rattle.trace.proofs.StepLaws.{side-reversed}
use Rattle.neighbours.specs.Half.{runs_by, side_at, twin}
use Rattle.tracing.specs.Steps.{exit, leave, walk_by, out_by, met_by}
use Rattle.tracing.specs.Scan.{Row, no_marks, mark_all, line_from, is_rising, may_start, starts, scan, scanned}
use Rattle.tracing.specs.Tracing.{Halves, lower_of, mark_by, HalfLine, half_line, line_of, passed_by, record_by, records_by, line_at, may_start_by, starts_by, scan_by, scanned_by}
use Rattle.tracing.specs.Written.{pair_of, side_number, sides_of, side_by, sides_by}
use Rattle.neighbours.specs.Room.{order}
use Rattle.neighbours.proofs.HalfLaws.{half-some, left-half, left_none}
use Rattle.tracing.proofs.PassLaws.{scanned-lines, mark-append as marks-append}
use Rattle.tracing.proofs.RowLaws.{row_of, lower_is, order-within, order-ordered}
use Rattle.tracing.proofs.StepLaws.{Tells, runs_is, exit-within, across-runs, path_is}
use Rattle.tracing.proofs.WrittenLaws.{mark-append}

-- ---- what the code writes of lines
-- A side has one number, whichever way it is run.
number-reversed : (d : Directed) → side_number (reversed d) ≡ side_number d
unfolding side_number
number-reversed d = ap pair_of (side-reversed d)

met-sides : (corner : ℕ → ℕ) (p : List ℕ) → map (λ g. side_number (runs_by corner g)) p ≡ sides_of (met_by corner p)
met-sides corner [] = refl
met-sides corner (s ∷ p) = ap (λ t. side_number (runs_by corner s) ∷ t) (outs p)
  where
    outs : (p : List ℕ) → map (λ g. side_number (runs_by corner g)) p ≡ sides_of (map (out_by corner) p)
    outs [] = refl
    outs (g ∷ p) = ap₂ (λ x t. x ∷ t) (sym (number-reversed (runs_by corner g))) (outs p)

met-length : (corner : ℕ → ℕ) (p : List ℕ) → length (met_by corner p) ≡ length p
met-length corner [] = refl
met-length corner (s ∷ p) = ap suc (length-map p (out_by corner))

pub sides-of : (corner : ℕ → ℕ) (ls : List HalfLine) → sides_by corner (passed_by ls) ≡ sides_of (passed (map (line_of corner) ls))
unfolding passed_by passed
sides-of corner [] = refl
sides-of corner (half_line c p ∷ ls) =
    map-append (side_by corner) p (passed_by ls)
    ∙ ap₂ ◌++◌ (met-sides corner p) (sides-of corner ls)
    ∙ sym (map-append side_number (met_by corner p) (passed (map (line_of corner) ls)))

pub records-of : (corner : ℕ → ℕ) (ls : List HalfLine) → records_by ls ≡ records (map (line_of corner) ls)
unfolding records_by records record_by record_of
records-of corner [] = refl
records-of corner (half_line c p ∷ ls) = ap₂ (λ k t. (2 * k + bit c) ∷ t) (sym (met-length corner p)) (records-of corner ls)

module _ (ts : List (Three ℕ)) (n : ℕ) (sound : Sound ts n) (below : ℕ → Bool) (mesh : Halves) (tells : Tells ts mesh.corner mesh.across)
    (long : mesh.steps ≡ 3 * length ts) (listed : (i : ℕ) → i < length (order ts n) → mesh.half i ≡ get_or (order ts n) i 0) where
  abbrev m : ℕ
  m = 3 * length ts

  abbrev o : List ℕ
  o = order ts n

  abbrev corner : ℕ → ℕ
  corner = mesh.corner

  abbrev across : ℕ → Option ℕ
  across = mesh.across

  abbrev left : Directed → Option ℕ
  left = left_corner ts

  abbrev row : Row
  row = row_of ts o

  runs : (h : ℕ) → h < m → runs_by corner h ≡ side_at ts h
  runs = runs_is ts sound.single corner across tells below

  halves : (i : ℕ) → i < length o → mesh.half i < m
  halves i k = omega (arith, listed i k, order-within ts n sound i k)

  entry_is : (i : ℕ) → i < length o → side_at ts (mesh.half i) ≡ row.entry i
  entry_is i k = ap (side_at ts) (listed i k)

  -- ---- the half-sides of a line
  abbrev Within : List ℕ → Type 0
  Within [] = Unit {0}
  Within (g ∷ p) = (g < m) × Within p

  walk-within : (fuel s h : ℕ) → h < m → Within (walk_by corner across below s fuel h)
  unfolding walk_by
  walk-within zero s h k = tt
  walk-within (suc fuel) s h k = by (across g) refl (walk-within fuel s)
    where
      g : ℕ
      g = exit corner below h

      kg : g < m
      kg = exit-within ts sound.single corner across tells below h k

      by : (e : Option ℕ) → across g ≡ e → ((j : ℕ) → j < m → Within (walk_by corner across below s fuel j)) → Within (leave s g e (walk_by corner across below s fuel))
      by none q ih = (kg, tt)
      by (some j) q ih = way (eqb j s)
        where
          way : (t : Bool) → Within (cond t [] (g ∷ walk_by corner across below s fuel j))
          way true = tt
          way false = (kg, ih j (across-runs ts sound.single corner across tells below g j kg q).0)

  -- ---- marks
  place_as : (h : ℕ) (d : Directed) → h < m → side_of d ≡ side_of (side_at ts h) → lower_of h (across h) ≡ row.place (side_of d)
  place_as h d k e = ap (lower_of h) (tells.across_is h k) ∙ lower_is ts n sound o h k ∙ sym (ap (λ x. row.place x) e)

  mark_out : (p marks : List ℕ) → Within p → mark_by across p marks ≡ mark_all row (map (out_by corner) p) marks
  unfolding mark_by mark_all
  mark_out [] marks k = refl
  mark_out (g ∷ p) marks k =
      mark_out p (set marks (lower_of g (across g)) 1) k.1
      ∙ ap (λ i. mark_all row (map (out_by corner) p) (set marks i 1)) (place_as g (out_by corner g) k.0 (side-reversed (runs_by corner g) ∙ ap side_of (runs g k.0)))

  mark-met : (p marks : List ℕ) → Within p → mark_by across p marks ≡ mark_all row (met_by corner p) marks
  unfolding mark_by mark_all
  mark-met [] marks k = refl
  mark-met (s ∷ p) marks k =
      mark_out p (set marks (lower_of s (across s)) 1) k.1
      ∙ ap (λ i. mark_all row (map (out_by corner) p) (set marks i 1)) (place_as s (runs_by corner s) k.0 (ap side_of (runs s k.0)))

  -- ---- one entry
  entry-within : (i : ℕ) → i < length o → Within (line_at mesh below (mesh.half i))
  entry-within i k = (halves i k, walk-within mesh.steps (mesh.half i) (mesh.half i) (halves i k))

  entry-line : (i : ℕ) → i < length o → met_by corner (line_at mesh below (mesh.half i)) ≡ line_from left row below i
  entry-line i k =
      path_is ts sound.single corner across tells below mesh.steps (mesh.half i) (halves i k) ∙ ap₂ (path (next left below)) long (entry_is i k)

  entry-marks : (i : ℕ) (marks : List ℕ) → i < length o → mark_by across (line_at mesh below (mesh.half i)) marks ≡ mark_all row (line_from left row below i) marks
  entry-marks i marks k = mark-met (line_at mesh below (mesh.half i)) marks (entry-within i k) ∙ ap (λ p. mark_all row p marks) (entry-line i k)

  may-start : (closed : Bool) (h : ℕ) → h < m → may_start_by closed mesh h ≡ may_start closed left (side_at ts h)
  may-start true h k = ap is_rising (runs h k)
  may-start false h k = ap (λ r. not (is_there r)) (tells.across_is h k) ∙ by (twin ts h) refl
    where
      by : (r : Option ℕ) → twin ts h ≡ r → not (is_there r) ≡ not (is_there (left (reversed (side_at ts h))))
      by none e = sym (ap (λ r. not (is_there r)) (left_none ts sound.single (reversed (side_at ts h)) e))
      by (some g) e =
          let s = half-some ts (reversed (side_at ts h)) g e in
          sym (ap (λ r. not (is_there r)) (ap left (sym s.1) ∙ left-half ts sound.single g s.0))

  entry-starts : (closed : Bool) (marks : List ℕ) (i : ℕ) → i < length o → starts_by closed mesh below marks (mesh.half i) ≡ starts closed left row below marks i
  unfolding starts_by starts
  entry-starts closed marks i k =
      let h = halves i k in
      ap₂ ◌&&◌ (ap (is_crossed below) (runs (mesh.half i) h))
      (ap₂ ◌&&◌ (ap (λ j. eqb (get_or marks j 0) 0) (place_as (mesh.half i) (side_at ts (mesh.half i)) h refl)) (may-start closed (mesh.half i) h))
      ∙ ap (λ d. is_crossed below d && (eqb (get_or marks (row.place (side_of d)) 0) 0 && may_start closed left d)) (entry_is i k)

  -- ---- a pass
  record Both (closed : Bool) (marks : List ℕ) (i k : ℕ) : Type 0 where
    is : map (line_of corner) (scan_by closed mesh below marks i k) ≡ scan closed left row below marks i k
    marked : (room : List ℕ) → mark_by across (passed_by (scan_by closed mesh below marks i k)) room ≡ mark_all row (passed (scan closed left row below marks i k)) room

  scan_is : (closed : Bool) (k i : ℕ) (marks : List ℕ) → i + k ≤ length o → Both closed marks i k
  unfolding scan_by scan passed_by passed mark_by mark_all
  scan_is closed zero i marks h = record { is = refl; marked = λ room. refl }
  scan_is closed (suc k) i marks h = by (tested (starts_by closed mesh below marks (mesh.half i))) (scan_is closed k (suc i))
    where
      ki : i < length o
      ki = omega arith

      p : List ℕ
      p = line_at mesh below (mesh.half i)

      q : List Directed
      q = line_from left row below i

      by : Tested (starts_by closed mesh below marks (mesh.half i)) → ((marks : List ℕ) → suc i + k ≤ length o → Both closed marks (suc i) k) → Both closed marks i (suc k)
      by (passes t) go =
          let u = sym (entry-starts closed marks i ki) ∙ t in
          let r = go (mark_by across p marks) (omega arith) in
          let e = ap (λ x. scan closed left row below x (suc i) k) (entry-marks i marks ki) in
          record {
            is = rw (t, u) (ap₂ (λ x ls. line closed x ∷ ls) (entry-line i ki) (r.is ∙ e));
            marked = λ room.
                rw (t, u)
                (mark-append across p (passed_by (scan_by closed mesh below (mark_by across p marks) (suc i) k)) room
                ∙ r.marked (mark_by across p room)
                ∙ ap₂ (λ ls x. mark_all row (passed ls) x) e (entry-marks i room ki)
                ∙ sym (marks-append row q (passed (scan closed left row below (mark_all row q marks) (suc i) k)) room));
          }
      by (fails t) go =
          let u = sym (entry-starts closed marks i ki) ∙ t in
          let r = go marks (omega arith) in
          record { is = rw (t, u) r.is; marked = λ room. rw (t, u) (r.marked room) }

  -- ---- both passes
  scanned_is : (marks : List ℕ) → map (line_of corner) (scanned_by mesh below marks (length o)) ≡ scanned left row below marks
  unfolding scanned_by scanned
  scanned_is marks =
      let f = scan_is false (length o) 0 marks (omega arith) in
      let opens = scan_by false mesh below marks 0 (length o) in
      let g = scan_is true (length o) 0 (mark_by across (passed_by opens) marks) (omega arith) in
      map-append (line_of corner) opens (scan_by true mesh below (mark_by across (passed_by opens) marks) 0 (length o))
      ∙ ap₂ ◌++◌ f.is (g.is ∙ ap (λ x. scan true left row below x 0 (length o)) (f.marked marks))

  -- The lines of the page.
  pub lines_are : (room : ℕ) → m ≤ room → map (line_of corner) (scanned_by mesh below (no_marks room) (length o)) ≡ lines ts below n
  lines_are room h = scanned_is (no_marks room) ∙ scanned-lines ts n sound below row (order-ordered ts n sound) room h
