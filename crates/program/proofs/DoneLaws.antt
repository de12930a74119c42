-- What the program writes is done in a room of 153,360 bytes: the heading, a refusal, and the block of every level of a fit survey, so that
-- no level is left out. Assumes nothing.
--
-- A record counts half of itself, which is the vertices that its line passes, so the records count as many vertices as there are
-- spots. There are no more lines and spots than the rooms of the largest survey, no line is too short and no spot too far, so a block is
-- refused for its room alone.
use mathlib.Core.Path.{◌≡◌, refl, sym, ap, ◌∙◌}
use mathlib.Core.Bool.{true, false, not}
use mathlib.Core.List.{List, [], ◌∷◌, ◌++◌}
use Prim.Native.Nat.{ℕ, zero, suc, ◌+◌, ◌*◌, ◌-◌, ◌≤◌}
use native.Mathlib.Omega.{arith}
use borrow.Author.Tests.{le-ltb}
use lib.Dec.{ltb}
use lib.IntN.{ℤ}
use lib.ListN.{length, get_or, drop, length-append}
use Rattle.lists.proofs.LowestLaws.{some-false}
use Rattle.whole.specs.Range.{Within}
use Rattle.whole.proofs.Bridge.{false-test}
use Rattle.whole.proofs.RangeLaws.{within-order}
use Rattle.survey.specs.Fit.{Fit}
use Rattle.survey.specs.Limits.{most_stations, most_height, too_far}
use Rattle.survey.specs.Rooms.{vertex_room, record_room}
use Rattle.survey.specs.Survey.{Survey, count}
use Rattle.std.specs.Prelude.{Ok}
use Rattle.survey.specs.Answer.{Answer}
use Rattle.trace.specs.Side.{bit}
use Rattle.trace.specs.Lines.{Line, line, record_of, records, passed}
use Rattle.trace.proofs.RecordLaws.{halves, half-record}
use Rattle.sweep.specs.Sweep.{Three}
use Rattle.hull.specs.MeshOf.{MeshOf}
use Rattle.spots.specs.Lines.{lines_of}
use Rattle.lines.proofs.DrawLaws.{lines_fit, passed-fit}
use Rattle.formats.specs.Contours.{most_spot}
use Rattle.plotting.specs.Records.{vertices_of, vertices_before, vertices_in}
use Rattle.contour.specs.Contour.{heading_of, refusal_of}
use Rattle.contour.specs.Writer.{room_after, heading_answer, is_short, is_listed, is_outside, refusal_answer}
use Rattle.contour.proofs.AnswerLaws.{is_fit, of_style, lists_agree}
use Rattle.contour.proofs.RoomLaws.{heading-most, refusal-most, survey-room}
use Rattle.program.specs.Program.{xs_at, ys_at, level_text, level_answer, text_room}
use Rattle.program.specs.Opened.{bytes_of}
use Rattle.program.proofs.LevelLaws.{records-count, spots-count, xs-count, ys-count}
use Rattle.program.proofs.ThreeLaws.{records-long, spots-near}

before-cons : (r : ℕ) (rs : List ℕ) (n : ℕ) → vertices_before (r ∷ rs) (suc n) ≡ vertices_of r + vertices_before rs n
before-cons r rs zero = omega arith
before-cons r rs (suc n) = omega (arith, before-cons r rs n)

records-vertices : (ls : List Line) → vertices_in (records ls) ≡ length (passed ls)
unfolding records record_of passed
records-vertices [] = refl
records-vertices (line c p ∷ ls) =
    let r = 2 * length p + bit c in
    omega (arith, before-cons r (records ls) (length (records ls)), half-record c (length p), records-vertices ls, length-append p (passed ls))

pub not_far : (level : ℤ) → Within most_height level → too_far level ≡ false
not_far level w = simp (false-test (within-order w).0, false-test (within-order w).1)

module _ (s : Survey) (fit : Fit s) (ts : List (Three ℕ)) (mesh : MeshOf s ts) (style : ℕ) (level : ℤ) where
  -- A level is not refused with 1,
  level-listed : is_listed (records (lines_of s ts level)) (xs_at s ts style level) (ys_at s ts style level) ≡ true
  level-listed =
      let R = records (lines_of s ts level) in
      let X = xs_at s ts style level in
      let Y = ys_at s ts style level in
      let most = fit.most in
      let half = halves (3 * count s - 6) in
      let lines : length R ≤ record_room most_stations = omega (arith, records-count s fit ts mesh style level, lines_fit s fit ts mesh level, half, most) in
      let spots = spots-count s fit ts mesh style level in
      let xs = xs-count s fit ts mesh style level in
      let ys = ys-count s fit ts mesh style level in
      let vertices : length X ≤ vertex_room most_stations = omega (arith, xs, spots, passed-fit s fit ts mesh level, most) in
      lists_agree R X Y lines vertices (ys ∙ sym xs) (records-vertices (lines_of s ts level) ∙ sym (xs ∙ spots))
      ∙ ap not (some-false (λ i. is_short (get_or R i 0)) (length R) (λ i h. le-ltb _ _ (records-long s fit ts mesh level i h)))

  -- nor with 5,
  level-inside : Within most_height level → is_outside level (xs_at s ts style level) (ys_at s ts style level) ≡ false
  level-inside w =
      let X = xs_at s ts style level in
      let Y = ys_at s ts style level in
      let near = spots-near s fit ts mesh style level in
      rw (
        not_far level w,
        some-false (λ i. ltb most_spot (get_or X i 0)) (length X) (λ i h. le-ltb most_spot (get_or X i 0) (near i).0),
        some-false (λ i. ltb most_spot (get_or Y i 0)) (length Y) (λ i h. le-ltb most_spot (get_or Y i 0) (near i).1),
      )

  -- nor, in that room, with 6.
  pub level-done :
      Within most_height level → (room : ℕ) → text_room ≤ room → level_answer s ts style level room ≡ Ok (length (level_text s ts style level))
  level-done w room e =
      survey-room level (records (lines_of s ts level)) (xs_at s ts style level) (ys_at s ts style level) room level-listed (level-inside w) e

-- The heading, and the two lines of a refusal.
pub heading-done : (style room : ℕ) → style ≤ 1 → 60 ≤ room → heading_answer style room ≡ Ok (length (heading_of style))
heading-done style room h l = of_style style room h ∙ is_fit (heading_of style) room (omega (arith, heading-most style))

pub refusal-done : (number carried room : ℕ) → 60 ≤ room → refusal_answer number carried room ≡ Ok (length (refusal_of number carried))
unfolding refusal_answer
refusal-done number carried room l = is_fit (refusal_of number carried) room (omega (arith, refusal-most number carried))

-- A done text stands at the front of its room.
pub written :
    {w : Answer ℕ} {bytes : ℕ} {last : List ℕ} (text old : List ℕ) → w ≡ Ok (length text) → bytes ≡ bytes_of w → last ≡ room_after text w old
    → (bytes ≡ length text) × (last ≡ text ++ drop bytes old)
written text old done count put =
    let bytes = count ∙ ap bytes_of done in
    (bytes, put ∙ ap (λ (w : Answer ℕ). room_after text w old) done ∙ ap (λ (k : ℕ). text ++ drop k old) (sym bytes))
