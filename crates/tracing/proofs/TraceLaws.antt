-- What the two passes write over a room that holds the records of a sound list of triangles: the sides and the records of its lines.
-- Assumes nothing.
use Prim.Native.Nat.{ℕ, ◌+◌, ◌*◌, ◌≤◌}
use native.Mathlib.Omega.{arith}
use mathlib.Core.Path.{◌≡◌, sym, ap, ap₂, ◌∙◌, subst}
use mathlib.Core.Bool.{Bool, true, false}
use mathlib.Core.List.{List, ◌++◌, map}
use lib.ListN.{length, drop, length-map}
use Rattle.sweep.specs.Sweep.{Three}
use Rattle.trace.specs.Lines.{Line, passed, records, lines}
use Rattle.trace.specs.Mesh.{Sound}
use Rattle.neighbours.specs.Half.{corner_in}
use Rattle.neighbours.specs.Room.{order, Holds}
use Rattle.tracing.specs.Scan.{no_marks}
use Rattle.tracing.specs.Tracing.{Halves, HalfLine, line_of, passed_by, records_by, scan_by, scanned_by}
use Rattle.tracing.specs.Written.{side_number, sides_of, side_by, sides_by, Lined}
use Rattle.tracing.specs.Room.{cleared, marks_in, halves_of, halves_in, Ready}
use Rattle.tracing.proofs.HeldLaws.{held-half, held_tells, held-ready, held-clear, held-unmarked}
use Rattle.tracing.proofs.LinkLaws.{lines_are, sides-of, records-of}
use Rattle.tracing.proofs.TracingLaws.{both-vertices, both-lines, both-sides, both-records, scanned_is, open-room, open-lines, closed-room, closed-lines}

module _ (ts : List (Three ℕ)) (n : ℕ) (sound : Sound ts n) (few : 3 * length ts ≤ 32766) (room : List ℕ) (holds : Holds ts n room)
    (m : ℕ) (whole : m ≡ 3 * length ts) (count : ℕ) (counted : count ≡ length (order ts n)) (below : ℕ → Bool) where
  abbrev mesh : Halves
  mesh = halves_in m room

  abbrev marks : List ℕ
  marks = marks_in m room

  abbrev all : List HalfLine
  all = scanned_by mesh below marks count

  abbrev opens : List HalfLine
  opens = scan_by false mesh below marks 0 count

  abbrev ls : List Line
  ls = lines ts below n

  clear : cleared m m room ≡ room
  clear = held-clear ts n sound few room holds m whole

  -- ---- the lines
  all_lines : map (line_of mesh.corner) all ≡ ls
  all_lines =
      ap₂ (λ b k. map (line_of (corner_in b)) (scanned_by (halves_of m b) below k count)) clear (held-unmarked ts n sound few room holds m whole)
      ∙ ap (λ k. map (line_of (corner_in room)) (scanned_by (halves_of m room) below (no_marks m) k)) counted
      ∙ lines_are ts n sound below (halves_of m room) (held_tells ts n sound few room holds m whole) whole (held-half ts n sound few room holds m whole)
      m (omega (arith, whole))

  all_sides : sides_by mesh.corner (passed_by all) ≡ sides_of (passed ls)
  all_sides = sides-of mesh.corner all ∙ ap (λ t. sides_of (passed t)) all_lines

  all_records : records_by all ≡ records ls
  all_records = records-of mesh.corner all ∙ ap records all_lines

  all_count : length all ≡ length ls
  all_count = sym (length-map all (line_of mesh.corner)) ∙ ap length all_lines

  all_vertices : length (passed_by all) ≡ length (passed ls)
  all_vertices = omega (arith, ap length all_sides, length-map (passed_by all) (side_by mesh.corner), length-map (passed ls) side_number)

  -- ---- the open lines
  pub trace-ready : Ready m n count (cleared m m room)
  trace-ready =
      subst (λ b. Ready m n count b) (sym clear) (subst (λ k. Ready m n k room) (sym counted) (held-ready ts n sound few room holds m whole))

  pub trace-open : (k : ℕ) → length (passed ls) ≤ k → 0 + length (passed_by opens) ≤ k
  trace-open k h = open-room mesh below marks count k (omega (arith, h, all_vertices))

  pub trace-open-lines : (k : ℕ) → length ls ≤ k → 0 + length opens ≤ k
  trace-open-lines k h = open-lines mesh below marks count k (omega (arith, h, all_count))

  -- ---- the closed lines
  module _ (room₁ : List ℕ) (kept : cleared m m room₁ ≡ cleared m m room) {sides recorded sides₁ recorded₁ : List ℕ} {v₁ l₁ : ℕ}
      (first : Lined mesh opens marks sides 0 recorded 0 (marks_in m room₁) sides₁ v₁ recorded₁ l₁) where
    abbrev closes : List HalfLine
    closes = scan_by true (halves_in m room₁) below (marks_in m room₁) 0 count

    closes-are : closes ≡ scan_by true mesh below (marks_in m room₁) 0 count
    closes-are = ap (λ b. scan_by true (halves_of m b) below (marks_in m room₁) 0 count) kept

    pub trace-again : Ready m n count (cleared m m room₁)
    trace-again = subst (Ready m n count) (sym kept) trace-ready

    pub trace-closed : (k : ℕ) → length (passed ls) ≤ k → v₁ + length (passed_by closes) ≤ k
    trace-closed k h =
        let r = closed-room mesh below marks count k first.left.marked first.left.place (omega (arith, h, all_vertices)) in
        omega (arith, r, ap (λ t. length (passed_by t)) closes-are)

    pub trace-closed-lines : (k : ℕ) → length ls ≤ k → l₁ + length closes ≤ k
    trace-closed-lines k h =
        let r = closed-lines mesh below marks count k first.left.marked first.count (omega (arith, h, all_count)) in
        omega (arith, r, ap length closes-are)

    module _ {marks₂ sides₂ recorded₂ : List ℕ} {v₂ l₂ : ℕ}
        (then : Lined (halves_in m room₁) closes (marks_in m room₁) sides₁ v₁ recorded₁ l₁ marks₂ sides₂ v₂ recorded₂ l₂) where
      after : Lined mesh (scan_by true mesh below (marks_in m room₁) 0 count) (marks_in m room₁) sides₁ v₁ recorded₁ l₁ marks₂ sides₂ v₂ recorded₂ l₂
      after =
          subst
          (λ b. Lined (halves_of m b) (scan_by true (halves_of m b) below (marks_in m room₁) 0 count) (marks_in m room₁) sides₁ v₁ recorded₁ l₁ marks₂ sides₂ v₂ recorded₂ l₂)
          kept then

      both : opens ++ scan_by true mesh below (marks_in m room₁) 0 count ≡ all
      both = scanned_is mesh below marks count first.left.marked

      pub trace-lines : l₂ ≡ length ls
      trace-lines = both-lines first after ∙ ap length both ∙ all_count

      pub trace-vertices : v₂ ≡ length (passed ls)
      trace-vertices = both-vertices first after ∙ ap (λ t. length (passed_by t)) both ∙ all_vertices

      pub trace-sides : length (passed ls) ≤ length sides → sides₂ ≡ sides_of (passed ls) ++ drop v₂ sides
      trace-sides h =
          both-sides first after (omega (arith, h, ap (λ t. length (passed_by t)) both, all_vertices))
          ∙ ap (λ t. t ++ drop v₂ sides) (ap (λ t. sides_by mesh.corner (passed_by t)) both ∙ all_sides)

      pub trace-records : length ls ≤ length recorded → recorded₂ ≡ records ls ++ drop l₂ recorded
      trace-records h =
          both-records first after (omega (arith, h, ap length both, all_count)) ∙ ap (λ t. t ++ drop l₂ recorded) (ap records_by both ∙ all_records)
