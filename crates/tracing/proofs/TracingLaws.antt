-- The two passes over half-sides, one entry at a time, as the code has them. Assumes nothing.
use Prim.Native.Nat.{ℕ, suc, ◌+◌, ◌-◌, ◌≤◌, ◌<◌}
use native.Mathlib.Numerals.{add-one}
use native.Mathlib.Omega.{arith}
use mathlib.Core.Path.{◌≡◌, refl, sym, ap, ap₂, ◌∙◌}
use mathlib.Core.Bool.{Bool, true, false}
use mathlib.Core.List.{List, [], ◌∷◌, ◌++◌, map-append, append_assoc}
use lib.ListN.{length, set, drop, length-map, length-append}
use Rattle.tracing.specs.Tracing.{Halves, mark_by, HalfLine, half_line, passed_by, record_by, records_by, line_at, starts_by, scan_by, scanned_by}
use Rattle.tracing.specs.Written.{side_by, sides_by, write_all, Left, Lined}
use Rattle.tracing.proofs.WrittenLaws.{write-append, write-front, mark-append}

pub passed-append : (l k : List HalfLine) → passed_by (l ++ k) ≡ passed_by l ++ passed_by k
unfolding passed_by
passed-append [] k = refl
passed-append (half_line c p ∷ l) k = ap (λ t. p ++ t) (passed-append l k) ∙ sym (append_assoc p (passed_by l) (passed_by k))

-- ---- one entry
module _ (closed : Bool) (mesh : Halves) (below : ℕ → Bool) (marks : List ℕ) (count : ℕ) (i : ℕ) (h : i < count) where
  pub scan-start : starts_by closed mesh below marks (mesh.half i) ≡ true
      → scan_by closed mesh below marks i (count - i)
      ≡ half_line closed (line_at mesh below (mesh.half i)) ∷ scan_by closed mesh below (mark_by mesh.across (line_at mesh below (mesh.half i)) marks) (i + 1) (count - (i + 1))
  unfolding scan_by
  scan-start e = let n : count - i ≡ suc (count - (i + 1)) = omega arith in rw (n, e, add-one)

  pub scan-pass : starts_by closed mesh below marks (mesh.half i) ≡ false
      → scan_by closed mesh below marks i (count - i) ≡ scan_by closed mesh below marks (i + 1) (count - (i + 1))
  unfolding scan_by
  scan-pass e = let n : count - i ≡ suc (count - (i + 1)) = omega arith in rw (n, e, add-one)

pub scan-end : (closed : Bool) (mesh : Halves) (below : ℕ → Bool) (marks : List ℕ) (count : ℕ) (i : ℕ) → count ≤ i
    → scan_by closed mesh below marks i (count - i) ≡ []
unfolding scan_by
scan-end closed mesh below marks count i h = let n : count - i ≡ 0 = omega arith in rw n

-- ---- what is left of the lines
-- A line first, then the others.
pub left-append : {mesh : Halves} {p q : List ℕ} {marks sides marked written marks' sides' : List ℕ} {v k k' : ℕ}
    → Left mesh (p ++ q) marks sides v marks' sides' k' → Left mesh p marks sides v marked written k → Left mesh q marked written k marks' sides' k'
left-append {mesh} {p} {q} {marks} {sides} {v = v} l f =
    record {
      marked = l.marked ∙ mark-append mesh.across p q marks ∙ ap (mark_by mesh.across q) (sym f.marked);
      written =
          l.written
          ∙ ap (λ t. write_all v t sides) (map-append (side_by mesh.corner) p q)
          ∙ write-append v (sides_by mesh.corner p) (sides_by mesh.corner q) sides
          ∙ ap₂ (λ n t. write_all n (sides_by mesh.corner q) t) (ap (λ n. v + n) (length-map p (side_by mesh.corner)) ∙ sym f.place) (sym f.written);
      place = omega (arith, l.place, f.place, length-append p q);
    }

pub lined_on : {mesh : Halves} {c : Bool} {p : List ℕ} {all ls : List HalfLine} {marks sides recorded : List ℕ} {v m : ℕ}
    {marks' sides' recorded' : List ℕ} {v' m' : ℕ} {marked written : List ℕ} {k : ℕ} {put : List ℕ}
    → Lined mesh all marks sides v recorded m marks' sides' v' recorded' m' → all ≡ half_line c p ∷ ls
    → Left mesh p marks sides v marked written k → put ≡ set recorded m (record_by (half_line c p))
    → Lined mesh ls marked written k put (m + 1) marks' sides' v' recorded' m'
unfolding write_all passed_by records_by
lined_on {mesh} {c} {p} {all} {ls} {marks} {sides} {recorded} {v} {m} {marks'} {sides'} {v' = v'} l e f g =
    record {
      left = left-append (rw e at l.left) f;
      records-are = l.records-are ∙ ap (λ t. write_all m (records_by t) recorded) e ∙ ap₂ (λ n t. write_all n (records_by ls) t) (sym (add-one m)) (sym g);
      count = let n = ap length e in omega (arith, l.count, n);
    }

-- The next line has its places.
pub lined-room : {mesh : Halves} {c : Bool} {p : List ℕ} {all ls : List HalfLine} {marks sides recorded : List ℕ} {v m : ℕ}
    {marks' sides' recorded' : List ℕ} {v' m' : ℕ}
    → Lined mesh all marks sides v recorded m marks' sides' v' recorded' m' → all ≡ half_line c p ∷ ls → (v + length p ≤ v') × (m + 1 ≤ m')
unfolding passed_by
lined-room {p = p} {ls = ls} l e =
    let n = ap length e in
    let k = ap (λ t. length (passed_by t)) e ∙ length-append p (passed_by ls) in
    (omega (arith, l.left.place, k), omega (arith, l.count, n))

-- With no line left, all lines are marked and written.
pub lined_none : {mesh : Halves} {ls all : List HalfLine} {marks sides recorded : List ℕ} {v m : ℕ} {marks₀ sides₀ recorded₀ : List ℕ} {v₀ m₀ : ℕ} → ls ≡ []
    → Lined mesh ls marks sides v recorded m
    (mark_by mesh.across (passed_by all) marks₀) (write_all v₀ (sides_by mesh.corner (passed_by all)) sides₀) (v₀ + length (passed_by all)) (write_all m₀ (records_by all) recorded₀) (m₀ + length all)
    → Lined mesh all marks₀ sides₀ v₀ recorded₀ m₀ marks sides v recorded m
unfolding mark_by write_all passed_by records_by
lined_none {mesh} {ls} {all} {marks} {sides} {recorded} {v} {m} e l =
    record {
      left =
          record {
            marked = sym (l.left.marked ∙ ap (λ t. mark_by mesh.across (passed_by t) marks) e);
            written = sym (l.left.written ∙ ap (λ t. write_all v (sides_by mesh.corner (passed_by t)) sides) e);
            place = let n = ap (λ t. length (passed_by t)) e in omega (arith, l.left.place, n);
          };
      records-are = sym (l.records-are ∙ ap (λ t. write_all m (records_by t) recorded) e);
      count = let n = ap length e in omega (arith, l.count, n);
    }

-- ---- the two passes
-- Open lines, then closed ones, from empty slices on.
module _
    {mesh : Halves} {opens closes : List HalfLine} {marks sides recorded marks₁ sides₁ recorded₁ marks₂ sides₂ recorded₂ : List ℕ} {v₁ m₁ v₂ m₂ : ℕ}
    (first : Lined mesh opens marks sides 0 recorded 0 marks₁ sides₁ v₁ recorded₁ m₁)
    (then : Lined mesh closes marks₁ sides₁ v₁ recorded₁ m₁ marks₂ sides₂ v₂ recorded₂ m₂)
  where
    passed-both : passed_by (opens ++ closes) ≡ passed_by opens ++ passed_by closes
    passed-both = passed-append opens closes

    pub both-vertices : v₂ ≡ length (passed_by (opens ++ closes))
    both-vertices = omega (arith, ap length passed-both, length-append (passed_by opens) (passed_by closes), first.left.place, then.left.place)

    pub both-lines : m₂ ≡ length (opens ++ closes)
    both-lines = omega (arith, length-append opens closes, first.count, then.count)

    pub both-sides : length (passed_by (opens ++ closes)) ≤ length sides → sides₂ ≡ sides_by mesh.corner (passed_by (opens ++ closes)) ++ drop v₂ sides
    both-sides h =
        then.left.written
        ∙ ap₂ (λ k t. write_all k (sides_by mesh.corner (passed_by closes)) t) (first.left.place ∙ ap (λ n. 0 + n) (sym (length-map (passed_by opens) (side_by mesh.corner)))) first.left.written
        ∙ sym (write-append 0 (sides_by mesh.corner (passed_by opens)) (sides_by mesh.corner (passed_by closes)) sides)
        ∙ ap (λ t. write_all 0 t sides) (sym (ap (sides_by mesh.corner) passed-both ∙ map-append (side_by mesh.corner) (passed_by opens) (passed_by closes)))
        ∙ write-front (sides_by mesh.corner (passed_by (opens ++ closes))) sides (omega (arith, h, length-map (passed_by (opens ++ closes)) (side_by mesh.corner)))
        ∙ ap (λ k. sides_by mesh.corner (passed_by (opens ++ closes)) ++ drop k sides) (length-map (passed_by (opens ++ closes)) (side_by mesh.corner) ∙ sym both-vertices)

    pub both-records : length (opens ++ closes) ≤ length recorded → recorded₂ ≡ records_by (opens ++ closes) ++ drop m₂ recorded
    unfolding records_by
    both-records h =
        then.records-are
        ∙ ap₂ (λ k t. write_all k (records_by closes) t) (first.count ∙ ap (λ n. 0 + n) (sym (length-map opens record_by))) first.records-are
        ∙ sym (write-append 0 (records_by opens) (records_by closes) recorded)
        ∙ ap (λ t. write_all 0 t recorded) (sym (map-append record_by opens closes))
        ∙ write-front (records_by (opens ++ closes)) recorded (omega (arith, h, length-map (opens ++ closes) record_by))
        ∙ ap (λ k. records_by (opens ++ closes) ++ drop k recorded) (length-map (opens ++ closes) record_by ∙ sym both-lines)

-- The lines of both passes, in the room that they have.
module _ (mesh : Halves) (below : ℕ → Bool) (marks : List ℕ) (count : ℕ) where
  abbrev opens_of : List HalfLine
  opens_of = scan_by false mesh below marks 0 (count)

  abbrev closes_of : List ℕ → List HalfLine
  closes_of marked = scan_by true mesh below marked 0 (count)

  -- The marks after the open lines are those with which the closed ones begin.
  pub scanned_is : {marked : List ℕ} → marked ≡ mark_by mesh.across (passed_by opens_of) marks → opens_of ++ closes_of marked ≡ scanned_by mesh below marks count
  unfolding scanned_by
  scanned_is e = ap (λ t. opens_of ++ closes_of t) e

  pub open-room : (room : ℕ) → length (passed_by (scanned_by mesh below marks count)) ≤ room → 0 + length (passed_by opens_of) ≤ room
  unfolding scanned_by
  open-room room h = omega (arith, h, ap length (passed-append opens_of (closes_of (mark_by mesh.across (passed_by opens_of) marks))), length-append (passed_by opens_of) (passed_by (closes_of (mark_by mesh.across (passed_by opens_of) marks))))

  pub open-lines : (room : ℕ) → length (scanned_by mesh below marks count) ≤ room → 0 + length opens_of ≤ room
  unfolding scanned_by
  open-lines room h = omega (arith, h, length-append opens_of (closes_of (mark_by mesh.across (passed_by opens_of) marks)))

  pub closed-room : (room : ℕ) {marked : List ℕ} {v : ℕ} → marked ≡ mark_by mesh.across (passed_by opens_of) marks → v ≡ 0 + length (passed_by opens_of)
      → length (passed_by (scanned_by mesh below marks count)) ≤ room → v + length (passed_by (closes_of marked)) ≤ room
  closed-room room {marked} e f h =
      omega (arith, h, f, ap (λ t. length (passed_by t)) (scanned_is e), ap length (passed-append opens_of (closes_of marked)), length-append (passed_by opens_of) (passed_by (closes_of marked)))

  pub closed-lines : (room : ℕ) {marked : List ℕ} {m : ℕ} → marked ≡ mark_by mesh.across (passed_by opens_of) marks → m ≡ 0 + length opens_of
      → length (scanned_by mesh below marks count) ≤ room → m + length (closes_of marked) ≤ room
  closed-lines room {marked} e f h = omega (arith, h, f, ap length (scanned_is e), length-append opens_of (closes_of marked))
