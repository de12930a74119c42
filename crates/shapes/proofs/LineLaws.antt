-- What the tests of a line tell of its numbers. Assumes nothing.
use mathlib.Core.Path.{◌≡◌, refl, sym, ap, ◌∙◌}
use mathlib.Core.Bool.{Bool, true, false, ◌&&◌, false≢true}
use mathlib.Core.List.{List, [], ◌∷◌}
use Prim.Native.Nat.{ℕ, ◌+◌, ◌<◌, ◌≤◌}
use native.Mathlib.Numerals.{add-one}
use lib.Dec.{eqb, leb, ltb}
use lib.ListN.{length, get_or, drop, drop_of_length-le}
use lib.Seq.{drop-cons}
use borrow.Author.Tests.{ltb-true, leb-true}
use Rattle.shapes.specs.declared.line.Shape.{Shape}
use Rattle.shapes.specs.declared.line.Part.{Part}
use Rattle.shapes.specs.Line.{is_digit, is_word_byte, full_word, grows, full_number, goes_on, read, line_end, line_in}
use Rattle.shapes.specs.Bytes.{part_of}

pub and_both : (a b : Bool) → (a && b) ≡ true → (a ≡ true) × (b ≡ true)
and_both true true e = (refl, refl)
and_both true false e = absurd (false≢true e)
and_both false b e = absurd (false≢true e)

pub grows-small : (w b : ℕ) → grows w b ≡ true → w < full_word
grows-small w b e = ltb-true w full_word (and_both (is_word_byte b) (ltb w full_word) e).1

pub digit-bounds : (b : ℕ) → is_digit b ≡ true → (48 ≤ b) × (b ≤ 57)
digit-bounds b e =
    let h = and_both (leb 48 b) (leb b 57) e in (leb-true 48 b h.0, leb-true b 57 h.1)

pub goes_on_bounds : (v b : ℕ) → goes_on v b ≡ true → (48 ≤ b) × (b ≤ 57) × (v < full_number)
goes_on_bounds v b e =
    let h = and_both (is_digit b) (leb 1 v && ltb v full_number) e in
    let d = digit-bounds b h.0 in
    (d.0, d.1, ltb-true v full_number (and_both (leb 1 v) (ltb v full_number) h.1).1)

pub part-more : (s : Shape) (p : Part) (b : ℕ) (l : List ℕ) → part_of s p (b ∷ l) ≡ part_of s (read s p b) l
unfolding part_of
part-more s p b l = refl

-- The bytes up to an LF, one more at a time.
module _ (t : List ℕ) (at : ℕ) where
  pub line-more : at < length t → eqb (get_or t at 0) line_end ≡ false → line_in (drop at t) ≡ get_or t at 0 ∷ line_in (drop (at + 1) t)
  unfolding line_in
  line-more h e = ap line_in (drop-cons t at 0 h) ∙ rw e (ap (λ (k : ℕ). get_or t at 0 ∷ line_in (drop k t)) (sym (add-one at)))

  pub line-stops : at < length t → eqb (get_or t at 0) line_end ≡ true → line_in (drop at t) ≡ []
  unfolding line_in
  line-stops h e = ap line_in (drop-cons t at 0 h) ∙ rw e

  pub line-done : length t ≤ at → line_in (drop at t) ≡ []
  unfolding line_in
  line-done h = ap line_in (drop_of_length-le t h)
