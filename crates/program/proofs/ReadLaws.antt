-- What the reader's answer says of a text, with rooms for the largest survey: only the text itself can be refused, and the rooms hold the
-- survey that it says. Assumes nothing.
use mathlib.Core.Path.{◌≡◌, refl, sym, ap, ◌∙◌}
use mathlib.Core.Bool.{Bool, true, cond}
use mathlib.Core.List.{List}
use Prim.Native.Nat.{ℕ, ◌≤◌}
use native.Mathlib.Omega.{arith}
use borrow.Author.Tests.{le-leb}
use lib.IntN.{ℤ}
use lib.ListN.{length, take, drop}
use Rattle.survey.specs.Checks.{checked}
use Rattle.survey.specs.Limits.{most_stations, most_levels}
use Rattle.survey.specs.Rooms.{tag_room}
use Rattle.survey.specs.Survey.{Survey, survey}
use Rattle.std.specs.Prelude.{Ok, Err, ⊤}
use Rattle.survey.specs.Answer.{Answer, read_done}
use Rattle.survey.specs.declared.answers.Read.{Read}
use Rattle.survey.specs.declared.refusal.Refusal.{Refusal}
use Rattle.survey.specs.declared.refusal.Refusal.TheVariants.{Room}
use Rattle.rendering.specs.Filed.{Filed, stations, count}
use Rattle.rendering.specs.Form.{InForm}
use Rattle.rendering.specs.Scan.{Scanned, Right, Refused, scanned, filed_of}
use Rattle.rendering.proofs.FormLaws.{rising}
use Rattle.rendering.proofs.TextLaws.{accepted-form}
use Rattle.text.specs.Reader.{has_room, housed, read_of, survey_of, x_room, y_room, z_room, levels_room}
use Rattle.program.specs.Program.{judged_by, judged}
use Rattle.program.specs.Opened.{reading_of}
use Rattle.program.proofs.LevelLaws.{front}

-- The reader's answer, by what the text is.
abbrev housed_most : Scanned → Answer Read
housed_most w = housed most_stations most_stations most_stations (tag_room most_stations) most_levels w

has_room_lem : (n m : ℕ) → n ≤ most_stations → m ≤ most_levels → has_room n m most_stations most_stations most_stations (tag_room most_stations) most_levels ≡ true
has_room_lem n m h l = rw (le-leb n most_stations h, le-leb (tag_room n) (tag_room most_stations) (omega (arith, h)), le-leb m most_levels l)

-- The numbers of a reading, where it is done.
abbrev style_read : Answer Read → ℕ
style_read (Ok d) = d.style
style_read (Err why) = 0

abbrev stations_read : Answer Read → ℕ
stations_read (Ok d) = d.stations
stations_read (Err why) = 0

abbrev levels_read : Answer Read → ℕ
levels_read (Ok d) = d.levels
levels_read (Err why) = 0

done_refused : {A : Type 0} {style n m : ℕ} {why : Refusal} → read_done style n m ≡ Err why → A
done_refused e = absurd (let z : ◌≡◌ {A = ℕ} 0 1 = cc in omega arith)

module _ (t : List ℕ) where
  -- The rooms by their lengths.
  pub reading_is :
      {x y z tags levels : ℕ} → x ≡ most_stations → y ≡ most_stations → z ≡ most_stations → tags ≡ tag_room most_stations → levels ≡ most_levels
      → read_of t x y z tags levels ≡ reading_of t
  reading_is a b c d e = λ i. read_of t (a i) (b i) (c i) (d i) (e i)

  -- No room is too short.
  pub reading-done : {s : Filed} → scanned t ≡ Right s → reading_of t ≡ read_done s.style (count s) (length s.levels)
  reading-done {s} q =
      let F = (accepted-form t s q).0 in
      ap housed_most q
      ∙ ap (λ (b : Bool). cond b (read_done s.style (count s) (length s.levels)) (Err Room))
      (has_room_lem (count s) (length s.levels) F.most (rising s.levels F.levels-form).most)

  pub reading-refused : {why : Refusal} → reading_of t ≡ Err why → judged t ≡ Err why
  unfolding judged
  reading-refused {why} h = go (scanned t) refl h
    where
      go : (w : Scanned) → scanned t ≡ w → housed_most w ≡ Err why → judged_by w ≡ Err why
      go (Right s) q e = done_refused (sym (reading-done q) ∙ h)
      go (Refused other) q e = let same : other ≡ why = cc in ap Err same

  -- The text is right, and the rooms hold the survey that it says at their front, where they held `old`.
  module _ {style n m : ℕ} (h : reading_of t ≡ read_done style n m) where
    reading-right : scanned t ≡ Right (survey_of t)
    reading-right = go (scanned t) h
      where
        go : (w : Scanned) → housed_most w ≡ read_done style n m → w ≡ Right (filed_of w)
        go (Right s) e = refl
        go (Refused why) e = done_refused (sym e)

    reading-form : InForm (survey_of t)
    reading-form = (accepted-form t (survey_of t) reading-right).0

    same : read_done style n m ≡ read_done (survey_of t).style (count (survey_of t)) (length (survey_of t).levels)
    same = sym h ∙ reading-done reading-right

    style_is : style ≡ (survey_of t).style
    style_is = ap style_read same

    pub style-range : style ≤ 1
    style-range = omega (arith, style_is, reading-form.style-range)

    pub xs-count : n ≡ length (survey_of t).xs
    xs-count = ap stations_read same

    pub ys-count : n ≡ length (survey_of t).ys
    ys-count = xs-count ∙ sym reading-form.ys-count

    pub zs-count : n ≡ length (survey_of t).zs
    zs-count = xs-count ∙ sym reading-form.zs-count

    levels-count : m ≡ length (survey_of t).levels
    levels-count = ap levels_read same

    pub xs-front : {xs : List ℕ} (old : List ℕ) → xs ≡ x_room t (reading_of t) old → take n xs ≡ (survey_of t).xs
    xs-front old e = front (survey_of t).xs (drop n old) (e ∙ ap (λ (r : Answer Read). x_room t r old) h) xs-count

    pub ys-front : {ys : List ℕ} (old : List ℕ) → ys ≡ y_room t (reading_of t) old → take n ys ≡ (survey_of t).ys
    ys-front old e = front (survey_of t).ys (drop n old) (e ∙ ap (λ (r : Answer Read). y_room t r old) h) ys-count

    pub zs-front : {zs : List ℤ} (old : List ℤ) → zs ≡ z_room t (reading_of t) old → take n zs ≡ (survey_of t).zs
    zs-front old e = front (survey_of t).zs (drop n old) (e ∙ ap (λ (r : Answer Read). z_room t r old) h) zs-count

    pub levels-front : {levels : List ℤ} (old : List ℤ) → levels ≡ levels_room t (reading_of t) old → take m levels ≡ (survey_of t).levels
    levels-front old e = front (survey_of t).levels (drop m old) (e ∙ ap (λ (r : Answer Read). levels_room t r old) h) levels-count

    -- So what is made of the fronts of the rooms is made of the survey that the text says.
    pub of_survey :
        {A : Type 0} {xs ys : List ℕ} {zs : List ℤ} (f : Survey → ℕ → ℕ → Answer ⊤ → A)
        → xs ≡ (survey_of t).xs → ys ≡ (survey_of t).ys → zs ≡ (survey_of t).zs
        → f (survey xs ys zs) style m (checked (survey xs ys zs))
        ≡ f (stations (survey_of t)) (survey_of t).style (length (survey_of t).levels) (judged t)
    unfolding judged
    of_survey {xs = xs} {ys = ys} {zs = zs} f x y z =
        let same : survey xs ys zs ≡ stations (survey_of t) = λ i. survey (x i) (y i) (z i) in
        let c = ap checked same ∙ sym (ap judged_by reading-right) in
        λ i. f (same i) (style_is i) (levels-count i) (c i)
