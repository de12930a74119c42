-- The loop of a pass: the lines that are left, marked and written on top of what is there, are all of them marked and written. Assumes
-- nothing.
use Prim.Native.Nat.{ℕ, ◌+◌, ◌-◌, ◌≤◌, ◌<◌}
use native.Mathlib.Omega.{arith}
use mathlib.Core.Path.{◌≡◌, refl, sym, ap, ◌∙◌, subst}
use mathlib.Core.Bool.{Bool, true, false}
use mathlib.Core.List.{List, ◌∷◌}
use lib.ListN.{length, set, length-set}
use Rattle.tracing.specs.Tracing.{Halves, mark_by, HalfLine, half_line, passed_by, record_by, records_by, line_at, starts_by, scan_by}
use Rattle.tracing.specs.Written.{sides_by, write_all, Left, Lined}
use Rattle.tracing.specs.Room.{cleared, marks_in, halves_in}
use Rattle.tracing.proofs.RoomLaws.{cleared_same_length}
use Rattle.tracing.proofs.TracingLaws.{scan-start, scan-pass, scan-end, lined_on, lined-room, lined_none}
use Rattle.tracing.proofs.WrittenLaws.{write-length}

-- ---- the lines that are left
module _ (closed : Bool) (m count : ℕ) (below : ℕ → Bool) (room₀ sides₀ recorded₀ : List ℕ) (v₀ l₀ : ℕ) where
  abbrev pub mesh : Halves
  mesh = halves_in m room₀

  abbrev pub all_lines : List HalfLine
  all_lines = scan_by closed mesh below (marks_in m room₀) 0 count

  abbrev Towards : List HalfLine → List ℕ → List ℕ → ℕ → List ℕ → ℕ → Type 0
  Towards ls marks sides v recorded l =
      Lined mesh ls marks sides v recorded l
      (mark_by mesh.across (passed_by all_lines) (marks_in m room₀)) (write_all v₀ (sides_by mesh.corner (passed_by all_lines)) sides₀) (v₀ + length (passed_by all_lines))
      (write_all l₀ (records_by all_lines) recorded₀) (l₀ + length all_lines)

  abbrev pub Drawn : List ℕ → List ℕ → List ℕ → ℕ → ℕ → Type 0
  Drawn room sides recorded v l =
      (cleared m m room ≡ cleared m m room₀) × Lined mesh all_lines (marks_in m room₀) sides₀ v₀ recorded₀ l₀ (marks_in m room) sides v recorded l

  -- The lines that start at the entries before i are marked and written.
  pub record Drawing (room sides recorded : List ℕ) (v l i : ℕ) : Type 0 where
    pub kept : cleared m m room ≡ cleared m m room₀
    pub wide : length room ≡ length room₀
    pub long : length sides ≡ length sides₀
    pub tall : length recorded ≡ length recorded₀
    pub left : Towards (scan_by closed mesh below (marks_in m room) i (count - i)) (marks_in m room) sides v recorded l

  pub draw_first : Drawing room₀ sides₀ recorded₀ v₀ l₀ 0
  draw_first =
      let z : count - 0 ≡ count = omega arith in
      let e : all_lines ≡ scan_by closed mesh below (marks_in m room₀) 0 (count - 0) = ap (scan_by closed mesh below (marks_in m room₀) 0) (sym z) in
      record {
        kept = refl;
        wide = refl;
        long = refl;
        tall = refl;
        left =
            record {
              left =
                  record {
                    marked = ap (λ t. mark_by mesh.across (passed_by t) (marks_in m room₀)) e;
                    written = ap (λ t. write_all v₀ (sides_by mesh.corner (passed_by t)) sides₀) e;
                    place = ap (λ t. v₀ + length (passed_by t)) e;
                  };
              records-are = ap (λ t. write_all l₀ (records_by t) recorded₀) e;
              count = ap (λ t. l₀ + length t) e;
            };
      }

  pub draw-over : {room sides recorded : List ℕ} {v l i : ℕ} → Drawing room sides recorded v l i → count ≤ i → Drawn room sides recorded v l
  draw-over {room} {i = i} d h = (d.kept, lined_none (scan-end closed mesh below (marks_in m room) count i h) d.left)

  -- No line starts at entry i.
  pub draw-pass : {room sides recorded : List ℕ} {v l i : ℕ} → Drawing room sides recorded v l i → i < count
      → starts_by closed mesh below (marks_in m room) (mesh.half i) ≡ false → Drawing room sides recorded v l (i + 1)
  draw-pass {room} {sides} {recorded} {v} {l} {i} d h e =
      record {
        kept = d.kept;
        wide = d.wide;
        long = d.long;
        tall = d.tall;
        left = subst (λ t. Towards t (marks_in m room) sides v recorded l) (scan-pass closed mesh below (marks_in m room) count i h e) d.left;
      }

  -- A line does.
  module _ (room : List ℕ) {sides recorded : List ℕ} {v l i : ℕ} (d : Drawing room sides recorded v l i) (h : i < count) (s : starts_by closed mesh below (marks_in m room) (mesh.half i) ≡ true) where
    abbrev line : List ℕ
    line = line_at mesh below (mesh.half i)

    next-line : scan_by closed mesh below (marks_in m room) i (count - i)
        ≡ half_line closed line ∷ scan_by closed mesh below (mark_by mesh.across line (marks_in m room)) (i + 1) (count - (i + 1))
    next-line = scan-start closed mesh below (marks_in m room) count i h s

    -- It has its places.
    pub draw-room : (v + length line ≤ v₀ + length (passed_by all_lines)) × (l + 1 ≤ l₀ + length all_lines)
    draw-room = lined-room d.left next-line

    -- It is drawn.
    pub draw_on : (room' : List ℕ) {sides' recorded' : List ℕ} {v' : ℕ} → cleared m m room' ≡ cleared m m room
        → Left mesh line (marks_in m room) sides v (marks_in m room') sides' v' → recorded' ≡ set recorded l (record_by (half_line closed line))
        → Drawing room' sides' recorded' v' (l + 1) (i + 1)
    draw_on room' {sides'} {recorded'} {v'} kept f g =
        let e = next-line ∙ ap (λ t. half_line closed line ∷ scan_by closed mesh below t (i + 1) (count - (i + 1))) (sym f.marked) in
        record {
          kept = kept ∙ d.kept;
          wide = cleared_same_length m room₀ room' (kept ∙ d.kept);
          long = ap length f.written ∙ write-length v (sides_by mesh.corner line) sides ∙ d.long;
          tall = ap length g ∙ length-set recorded l _ ∙ d.tall;
          left = lined_on d.left e f g;
        }
