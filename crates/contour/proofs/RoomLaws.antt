-- How long a block can be, so that a room of fixed size suffices. Assumes nothing.
--
-- A coordinate of a spot has at most seven digits, so its line has ten bytes.
use mathlib.Core.Path.{◌≡◌, refl, ap}
use mathlib.Core.Bool.{true, false}
use mathlib.Core.List.{List}
use Prim.Native.Nat.{ℕ, zero, suc, ◌+◌, ◌*◌, ◌-◌, ◌/◌, ◌^◌, ◌<◌, ◌≤◌}
use native.Mathlib.Omega.{arith}
use native.Mathlib.Nat.{pow-suc, div-lt_iff_lt-mul}
use native.Mathlib.Decide.{dec_lt}
use lib.IntN.{ℤ}
use lib.ListN.{length, get_or, length-append}
use Rattle.shapes.specs.Bytes.{digits_of, value_bytes}
use Rattle.shapes.proofs.BytesLaws.{digits_none, digits_one, digits_more}
use Rattle.survey.specs.Limits.{most_stations}
use Rattle.survey.specs.Rooms.{record_room}
use Rattle.std.specs.Prelude.{Ok}
use Rattle.formats.specs.Lines.{told, least_height, contours_line, style_line, refused_line, at_line, level_line, lines_line}
use Rattle.plotting.specs.Records.{vertices_before}
use Rattle.plotting.specs.Bytes.{vertex_bytes, drawn_bytes, lines_bytes, block_bytes}
use Rattle.plotting.proofs.CountLaws.{line-within}
use Rattle.plotting.proofs.LengthLaws.{two-most, behind-most, drawn-most}
use Rattle.contour.specs.Contour.{heading_of, block_of, refusal_of}
use Rattle.contour.specs.Writer.{Listed, is_listed, some_far, is_outside, block_answer}
use Rattle.contour.proofs.AnswerLaws.{listed, none_far, is_fit}
use Rattle.contour.proofs.LevelLaws.{inside}
use Rattle.contour.proofs.WrittenLaws.{block_written, heading-written, refusal-written}

-- A number of at most c + 1 digits.
digits-few : (c k n : ℕ) → n < 10 ^ suc c → length (digits_of 10 48 k n) ≤ suc c
digits-few c zero n h = omega (arith, ap length (digits_none 10 48 0 n refl))
digits-few zero (suc k) n h = omega (arith, ap length (digits_one 10 48 (suc k) n (omega arith) (omega arith)))
digits-few (suc c) (suc k) n h = go (dec_lt n 10) (digits-few c k (n / 10) ((div-lt_iff_lt-mul {k = 10} {x = n} {y = 10 ^ suc c} (omega arith)).1 (omega
    (arith, pow-suc 10 (suc c)))))
  where
    go : Dec (n < 10) → length (digits_of 10 48 k (n / 10)) ≤ suc c → length (digits_of 10 48 (suc k) n) ≤ suc (suc c)
    go (yes l) i = omega (arith, ap length (digits_one 10 48 (suc k) n l (omega arith)))
    go (no l) i =
        let e : suc k - 1 ≡ k = omega arith in
        omega (arith, simp (length-append, e) at (ap length (digits_more 10 48 (suc k) n (omega arith) (omega arith))))

module _ (records xs ys : List ℕ) (listed : Listed records xs ys) (x : some_far xs ≡ false) (y : some_far ys ≡ false) where
  vertex-near : (i : ℕ) → i < length xs → length (vertex_bytes xs ys i) ≤ 20
  unfolding digits_of value_bytes
  vertex-near i h =
      let few = digits-few 6 19 in
      simp length-append (omega (arith, few (get_or xs i 0) (omega (arith, none_far xs x i h)), few (get_or ys i 0) (omega (arith, none_far ys y i (omega arith)))))

  lines-most : (i : ℕ) → i ≤ length records → length (lines_bytes records xs ys i) ≤ 60 * i + 20 * vertices_before records i
  lines-most zero h = omega arith
  lines-most (suc i) h =
      let within = line-within records i (omega arith) in
      let b = vertices_before records i in
      let r = get_or records i 0 in
      omega (
        arith,
        length-append (lines_bytes records xs ys i) (drawn_bytes xs ys b r),
        lines-most i (omega arith),
        drawn-most xs ys b r 20 (λ j l. vertex-near (b + j) (omega arith)),
      )

  pub block-most : (level : ℕ) → length (block_bytes level records xs ys) ≤ 60 + 60 * length records + 20 * length xs
  block-most level =
      let n = length records in
      omega (arith, behind-most (level_line least_height) level (lines_line (record_room most_stations)) n (lines_bytes records xs ys n), lines-most n (omega arith))

-- A room of 153,360 bytes suffices for every block that passes 1 and 5,
pub survey-room : (level : ℤ) (records xs ys : List ℕ) (room : ℕ) → is_listed records xs ys ≡ true → is_outside level xs ys ≡ false → 153360 ≤ room
    → block_answer level records xs ys room ≡ Ok (length (block_of level records xs ys))
unfolding block_of block_answer
survey-room level records xs ys room h w e =
    let near = inside level xs ys w in
    let l = listed records xs ys h in
    let most = block-most records xs ys l near.1 near.2 (told level) in
    rw (h, w) (is_fit (block_of level records xs ys) room (rw (block_written records xs ys l near.1 near.2 (told level)) (omega arith)))

-- and one of 60 for every heading and every refusal.
pub heading-most : (style : ℕ) → length (heading_of style) ≤ 60
heading-most style = rw heading-written (two-most (contours_line 1) 1 style_line style)

pub refusal-most : (n carried : ℕ) → length (refusal_of n carried) ≤ 60
refusal-most n carried = rw refusal-written (two-most (refused_line 4294967295) n (at_line 4294967295) carried)
