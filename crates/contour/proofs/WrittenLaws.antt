-- A block's text by its parts: the values of its lines are in their ranges, and their text is the bytes of each line. Assumes nothing.
use mathlib.Core.Path.{◌≡◌, refl, sym}
use mathlib.Core.Bool.{false, cond}
use mathlib.Core.List.{List, [], ◌∷◌, ◌++◌, append_assoc, append-nil}
use Prim.Native.Nat.{ℕ, zero, suc, ◌+◌, ◌-◌, ◌≤◌, ◌<◌}
use native.Mathlib.Omega.{arith}
use borrow.Author.Tests.{ltb-false, ne_eqb}
use lib.Dec.{eqb}
use lib.ListN.{length, get_or}
use Rattle.shapes.specs.Bytes.{value_bytes, line_bytes}
use Rattle.lists.specs.Rows.{rows}
use Rattle.lists.proofs.LowestLaws.{none_found}
use Rattle.forms.specs.Form.{Form, end}
use Rattle.forms.specs.Written.{written, Ranged}
use Rattle.survey.specs.Limits.{most_stations}
use Rattle.survey.specs.Rooms.{vertex_room}
use Rattle.formats.specs.Lines.{least_height, contours_line, style_line, x_line, y_line, level_line, kind_line, refused_line, at_line}
use Rattle.formats.specs.Surveys.{plain}
use Rattle.formats.specs.Contours.{most_spot, vertices, drawn}
use Rattle.plotting.specs.Records.{vertices_of, kind_of, vertices_before}
use Rattle.plotting.specs.Bytes.{count_bytes, lines_bytes, block_bytes}
use Rattle.plotting.proofs.CountLaws.{line-within}
use Rattle.contour.specs.Contour.{heading_of, lines_of, block_text, refusal_of}
use Rattle.contour.specs.Writer.{is_short, some_far, Listed}
use Rattle.contour.proofs.AnswerLaws.{none_far}

pub heading-written : (style : ℕ) → heading_of style ≡ line_bytes (contours_line 1) 1 ++ line_bytes style_line style
unfolding heading_of written
heading-written style = rw append-nil

pub refusal-written : (number carried : ℕ) → refusal_of number carried ≡ line_bytes (refused_line 4294967295) number ++ line_bytes (at_line 4294967295) carried
unfolding refusal_of written
refusal-written number carried = rw append-nil

-- The first of the lists, and then the others.
rows-front : (f : ℕ → List ℕ) (n : ℕ) → rows f (suc n) ≡ f 0 ++ rows (λ j. f (suc j)) n
rows-front f zero = sym (append-nil (f 0))
rows-front f (suc n) = rw (rows-front f n) (append_assoc (f 0) (rows (λ j. f (suc j)) n) (f (suc n)))

-- Values in their ranges, and their text.
abbrev pub Says : Form → List ℕ → List ℕ → Type 0
Says form vs t = Ranged form vs × (written form vs ≡ t)

abbrev spots : (ℕ → ℕ) → (ℕ → ℕ) → ℕ → List ℕ
spots f g n = rows (λ j. f j ∷ g j ∷ []) n

abbrev spots_bytes : (ℕ → ℕ) → (ℕ → ℕ) → ℕ → List ℕ
spots_bytes f g n = rows (λ j. line_bytes (x_line most_spot) (f j) ++ line_bytes (y_line most_spot) (g j)) n

-- n vertices, and what follows them.
vertices-said : (f g : ℕ → ℕ) (n : ℕ) (rest : Form) (vs t : List ℕ) → ((j : ℕ) → j < n → (f j ≤ most_spot) × (g j ≤ most_spot)) → Says rest vs t
    → Says (vertices plain n rest) (spots f g n ++ vs) (spots_bytes f g n ++ t)
unfolding written vertices
vertices-said f g zero rest vs t h r = r
vertices-said f g (suc n) rest vs t h r =
    let s = vertices-said (λ j. f (suc j)) (λ j. g (suc j)) n rest vs t (λ j l. h (suc j) (omega arith)) r in
    let z = h 0 (omega arith) in
    rw (rows-front (λ j. f j ∷ g j ∷ []) n, rows-front (λ j. line_bytes (x_line most_spot) (f j) ++ line_bytes (y_line most_spot) (g j)) n)
    (((omega arith, z.0), ((omega arith, z.1), s.0)), rw s.1 (simp append_assoc))

-- The least count of a line of a kind.
abbrev least : ℕ → ℕ
least kind = cond (eqb kind 0) 2 3

least-le : (kind n : ℕ) → 2 + kind ≤ n → least kind ≤ n
least-le zero n h = omega arith
least-le (suc k) n h = rw (ne_eqb (suc k) 0 (λ e. omega arith)) (omega arith)

-- c 0 + c 1 + ..
abbrev sum : (ℕ → ℕ) → ℕ → ℕ
sum c zero = 0
sum c (suc n) = c 0 + sum (λ i. c (suc i)) n

sum_last : (c : ℕ → ℕ) (n : ℕ) → sum c (suc n) ≡ sum c n + c n
sum_last c zero = omega arith
sum_last c (suc n) = omega (arith, sum_last (λ i. c (suc i)) n)

sum-before : (records : List ℕ) (n : ℕ) → sum (λ i. vertices_of (get_or records i 0)) n ≡ vertices_before records n
sum-before records zero = refl
sum-before records (suc n) = omega (arith, sum_last (λ i. vertices_of (get_or records i 0)) n, sum-before records n)

-- n lines, each with its vertices before the lines that follow.
drawn-said : (kind count : ℕ → ℕ) (f g : ℕ → ℕ → ℕ) (n left : ℕ) → ((i : ℕ) → i < n → (kind i ≤ 1) × (least (kind i) ≤ count i))
    → ((i : ℕ) → i < n → (j : ℕ) → j < count i → (f i j ≤ most_spot) × (g i j ≤ most_spot)) → sum count n ≤ left
    → Says (drawn plain n left end) (rows (λ i. kind i ∷ count i ∷ spots (f i) (g i) (count i)) n)
    (rows (λ i. (line_bytes kind_line (kind i) ++ count_bytes (count i)) ++ spots_bytes (f i) (g i) (count i)) n)
unfolding written drawn value_bytes
drawn-said kind count f g zero left h k s = (tt, refl)
drawn-said kind count f g (suc n) left h k s =
    let z = h 0 (omega arith) in
    let more = drawn-said (λ i. kind (suc i)) (λ i. count (suc i)) (λ i. f (suc i)) (λ i. g (suc i)) n (left - count 0)
    (λ i l. h (suc i) (omega arith)) (λ i l. k (suc i) (omega arith)) (omega arith) in
    let first = vertices-said (f 0) (g 0) (count 0) _ _ _ (k 0 (omega arith)) more in
    rw (
      rows-front (λ i. kind i ∷ count i ∷ spots (f i) (g i) (count i)) n,
      rows-front (λ i. (line_bytes kind_line (kind i) ++ count_bytes (count i)) ++ spots_bytes (f i) (g i) (count i)) n,
    )
    ((z.0, ((z.1, omega arith), first.0)), rw first.1 (simp append_assoc))

module _ (records xs ys : List ℕ) (l : Listed records xs ys) (x : some_far xs ≡ false) (y : some_far ys ≡ false) where
  -- No line is short, and no spot far.
  long : (i : ℕ) → i < length records → (kind_of (get_or records i 0) ≤ 1) × (least (kind_of (get_or records i 0)) ≤ vertices_of (get_or records i 0))
  long i h =
      let r = get_or records i 0 in
      (omega arith, least-le (kind_of r) (vertices_of r) (ltb-false _ _ (none_found (λ (i : ℕ). is_short (get_or records i 0)) (length records) l.none_short i h)))

  near : (i : ℕ) → i < length records → (j : ℕ) → j < vertices_of (get_or records i 0)
      → (get_or xs (vertices_before records i + j) 0 ≤ most_spot) × (get_or ys (vertices_before records i + j) 0 ≤ most_spot)
  near i h j k =
      let within = line-within records i h in
      (none_far xs x (vertices_before records i + j) (omega arith), none_far ys y (vertices_before records i + j) (omega arith))

  pub lines-said : Says (drawn plain (length records) (vertex_room most_stations) end) (rows (lines_of records xs ys) (length records))
      (lines_bytes records xs ys (length records))
  lines-said =
      drawn-said (λ i. kind_of (get_or records i 0)) (λ i. vertices_of (get_or records i 0)) (λ i j. get_or xs (vertices_before records i + j) 0)
      (λ i j. get_or ys (vertices_before records i + j) 0) (length records) (vertex_room most_stations) long near (omega (arith, sum-before records (length records)))

  pub block_written : (level : ℕ) → block_text level records xs ys ≡ block_bytes level records xs ys
  unfolding written
  block_written level = rw lines-said.1 (sym (append_assoc (line_bytes (level_line least_height) level) _ _))
