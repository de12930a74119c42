-- What opening an accepted text leaves in the rooms is ready for the block of every level. Assumes nothing.
use mathlib.Core.Bool.{Bool, false}
use mathlib.Core.Path.{◌≡◌, sym, ap, subst, ◌∙◌}
use mathlib.Core.List.{List, ◌++◌}
use Prim.Native.Nat.{ℕ, ◌<◌}
use native.Mathlib.Omega.{arith}
use lib.IntN.{ℤ, pos}
use lib.ListN.{length, get_or, take, drop}
use lib.Seq.{get_or-take}
use Rattle.whole.specs.Range.{Within}
use Rattle.survey.specs.Fit.{Fit}
use Rattle.survey.specs.Limits.{most_height, most_levels}
use Rattle.survey.specs.Rooms.{slope_room}
use Rattle.survey.specs.Survey.{Survey, survey, count}
use Rattle.std.specs.Prelude.{Ok, ⊤}
use Rattle.survey.specs.Answer.{Answer}
use Rattle.rendering.specs.Filed.{stations}
use Rattle.rendering.proofs.FormLaws.{rising}
use Rattle.text.specs.Reader.{survey_of, x_room, y_room, z_room, levels_room}
use Rattle.sweep.specs.Sweep.{Three}
use Rattle.mesh.specs.Kinds.{triangles_of}
use Rattle.spots.specs.Prepared.{slopes_for, Prepared}
use Rattle.neighbours.specs.Room.{order, threes, Holds}
use Rattle.hull.specs.MeshOf.{MeshOf}
use Rattle.mesh.proofs.KindLaws.{kind-mesh}
use Rattle.neighbours.proofs.RoomLaws.{holds-threes}
use Rattle.program.specs.Program.{level_text, judged, if_passed, block_at}
use Rattle.program.specs.Opened.{reading_of, opened_of, any_opened_by, any_opened_of, Worked, slopes_room, Ready, AnyReady}
use Rattle.program.specs.declared.Opened.{Opened}
use Rattle.program.proofs.OpeningLaws.{contour_opened}
use Rattle.program.proofs.ReadLaws.{reading-done, xs-front, ys-front, zs-front, levels-front}
use Rattle.program.proofs.AcceptedLaws.{some-passed, right_in, survey-fit, survey-form, level-range}

-- The numbers that an accepted text is opened with.
module _ (kind : ℕ) (report : Bool) (t : List ℕ) {o : Opened} (passed : judged t ≡ (Ok tt)) (opened : o ≡ any_opened_of kind report t) where
  by_passed : o ≡ any_opened_by kind report (stations (survey_of t)) (survey_of t).style (length (survey_of t).levels) (Ok tt)
  by_passed = opened ∙ ap (any_opened_by kind report (stations (survey_of t)) (survey_of t).style (length (survey_of t).levels)) passed

  stations-are : o.stations ≡ length (survey_of t).xs
  stations-are = ap (λ (p : Opened). p.stations) by_passed

  triangles-number : o.triangles ≡ length (triangles_of kind (stations (survey_of t)))
  triangles-number = ap (λ (p : Opened). p.triangles) by_passed

  sides-number : o.sides ≡ length (order (triangles_of kind (stations (survey_of t))) (count (stations (survey_of t))))
  sides-number = ap (λ (p : Opened). p.sides) by_passed

  levels-number : o.levels ≡ length (survey_of t).levels
  levels-number = ap (λ (p : Opened). p.levels) by_passed

  style-number : o.style ≡ (survey_of t).style
  style-number = ap (λ (p : Opened). p.style) by_passed

-- The rooms, as `open_any` leaves them.
module _ (kind : ℕ) (report : Bool) (t : List ℕ) (o : Opened) {xs ys work : List ℕ} {zs levels slopes : List ℤ} (xs₀ ys₀ work₀ : List ℕ) (zs₀ levels₀ slopes₀ : List ℤ) where
  pub any_ready :
      (k : ℕ) → k < o.levels → o ≡ any_opened_of kind report t → xs ≡ x_room t (reading_of t) xs₀ → ys ≡ y_room t (reading_of t) ys₀ → zs ≡ z_room t (reading_of t) zs₀
      → levels ≡ levels_room t (reading_of t) levels₀ → Worked kind (stations (survey_of t)) (judged t) work₀ work
      → slopes ≡ slopes_room (stations (survey_of t)) (survey_of t).style (judged t) slopes₀ → AnyReady kind t o xs ys zs levels work slopes
  any_ready k l opened x y z v e p =
      let passed = some-passed t k (subst (λ (i : ℕ). k < i) (ap (λ (p : Opened). p.levels) opened) l) in
      let s = stations (survey_of t) in
      let q = reading-done t (right_in t passed) in
      let n = stations-are kind report t passed opened in
      let m = levels-number kind report t passed opened in
      record {
        passed = passed;
        report = report;
        opened = opened;
        xs-are = ap (λ (i : ℕ). take i xs) n ∙ xs-front t q xs₀ x;
        ys-are = ap (λ (i : ℕ). take i ys) n ∙ ys-front t q ys₀ y;
        zs-are = ap (λ (i : ℕ). take i zs) n ∙ zs-front t q zs₀ z;
        levels-are = ap (λ (i : ℕ). take i levels) m ∙ levels-front t q levels₀ v;
        holds = subst (λ (d : Answer ⊤). Worked kind s d work₀ work) passed e;
        rest = drop (slope_room (count s)) slopes₀;
        slopes-are = p ∙ ap (λ (d : Answer ⊤). slopes_room s (survey_of t).style d slopes₀) passed;
      }

-- The same of contour text.
module _ (kind : ℕ) (t : List ℕ) (o : Opened) {xs ys work : List ℕ} {zs levels slopes : List ℤ} (xs₀ ys₀ work₀ : List ℕ) (zs₀ levels₀ slopes₀ : List ℤ) where
  pub ready :
      (k : ℕ) → k < o.levels → o ≡ opened_of kind t → xs ≡ x_room t (reading_of t) xs₀ → ys ≡ y_room t (reading_of t) ys₀ → zs ≡ z_room t (reading_of t) zs₀
      → levels ≡ levels_room t (reading_of t) levels₀ → Worked kind (stations (survey_of t)) (judged t) work₀ work
      → slopes ≡ slopes_room (stations (survey_of t)) (survey_of t).style (judged t) slopes₀ → Ready kind t o xs ys zs levels work slopes
  ready k l opened x y z v e p =
      let r = any_ready kind false t o xs₀ ys₀ work₀ zs₀ levels₀ slopes₀ k l (opened ∙ sym (contour_opened kind t)) x y z v e p in
      record {
        passed = r.passed;
        opened = opened;
        xs-are = r.xs-are;
        ys-are = r.ys-are;
        zs-are = r.zs-are;
        levels-are = r.levels-are;
        holds = r.holds;
        rest = r.rest;
        slopes-are = r.slopes-are;
      }

-- Rooms that are ready for contour text stay so where the work room is left as it was.
pub ready_still : {kind : ℕ} {t : List ℕ} {o : Opened} {xs ys work kept : List ℕ} {zs levels slopes : List ℤ}
    → Ready kind t o xs ys zs levels work slopes → kept ≡ work → Ready kind t o xs ys zs levels kept slopes
ready_still {kind} {t} {o} {xs} {ys} {zs = zs} {levels} {slopes} r e = subst (λ (w : List ℕ). Ready kind t o xs ys zs levels w slopes) (sym e) r

-- Rooms that are ready for contour text are ready for either.
pub either_ready : {kind : ℕ} {t : List ℕ} {o : Opened} {xs ys work : List ℕ} {zs levels slopes : List ℤ}
    → Ready kind t o xs ys zs levels work slopes → AnyReady kind t o xs ys zs levels work slopes
either_ready {kind} {t} r =
    record {
      passed = r.passed;
      report = false;
      opened = r.opened ∙ sym (contour_opened kind t);
      xs-are = r.xs-are;
      ys-are = r.ys-are;
      zs-are = r.zs-are;
      levels-are = r.levels-are;
      holds = r.holds;
      rest = r.rest;
      slopes-are = r.slopes-are;
    }

-- What a block asks, of ready rooms.
module _ {kind : ℕ} {t : List ℕ} {o : Opened} {xs ys work : List ℕ} {zs levels slopes : List ℤ} (r : AnyReady kind t o xs ys zs levels work slopes) where
  -- They are as ready after a block, which leaves the work room as it was.
  pub still_ready : {kept : List ℕ} → kept ≡ work → AnyReady kind t o xs ys zs levels kept slopes
  still_ready e = subst (λ (w : List ℕ). AnyReady kind t o xs ys zs levels w slopes) (sym e) r

  pub xs-taken : o.stations ≡ length (take o.stations xs)
  xs-taken = stations-are kind r.report t r.passed r.opened ∙ sym (ap length r.xs-are)

  pub ys-taken : o.stations ≡ length (take o.stations ys)
  ys-taken =
      stations-are kind r.report t r.passed r.opened ∙ sym (survey-form t r.passed).ys-count ∙ sym (ap length r.ys-are)

  pub zs-taken : o.stations ≡ length (take o.stations zs)
  zs-taken =
      stations-are kind r.report t r.passed r.opened ∙ sym (survey-form t r.passed).zs-count ∙ sym (ap length r.zs-are)

  survey_is : survey (take o.stations xs) (take o.stations ys) (take o.stations zs) ≡ stations (survey_of t)
  survey_is = λ i. survey (r.xs-are i) (r.ys-are i) (r.zs-are i)

  triangles-are : threes o.triangles work ≡ triangles_of kind (stations (survey_of t))
  triangles-are =
      ap (λ (n : ℕ). threes n work) (triangles-number kind r.report t r.passed r.opened)
      ∙ holds-threes (triangles_of kind (stations (survey_of t))) (count (stations (survey_of t))) work r.holds

  pub prepared :
      Prepared (survey (take o.stations xs) (take o.stations ys) (take o.stations zs)) (threes o.triangles work) o.style work slopes
  prepared =
      let back = sym survey_is in
      let fit = survey-fit t r.passed in
      let S = stations (survey_of t) in
      let us = threes o.triangles work in
      let ts = sym triangles-are in
      let style = sym (style-number kind r.report t r.passed r.opened) in
      record {
        fit = subst Fit back fit;
        mesh = subst (λ (s : Survey). MeshOf s us) back (subst (MeshOf S) ts (kind-mesh kind S fit));
        holds = subst (λ (s : Survey). Holds us (count s) work) back (subst (λ vs. Holds vs (count S) work) ts r.holds);
        rest = r.rest;
        slopes-are = r.slopes-are ∙ (λ i. slopes_for (back i) (style i) ++ r.rest);
      }

  pub sides-are : o.sides ≡ length (order (threes o.triangles work) (length (take o.stations xs)))
  sides-are = sides-number kind r.report t r.passed r.opened ∙ (λ i. length (order (sym triangles-are i) (length (sym r.xs-are i))))

  module _ (k : ℕ) (l : k < o.levels) where
    pub few-levels : k < most_levels
    few-levels =
        let n = levels-number kind r.report t r.passed r.opened in
        let most = (rising (survey_of t).levels (survey-form t r.passed).levels-form).most in
        omega (arith, l, n, most)

    level_is : get_or levels k (pos 0) ≡ get_or (survey_of t).levels k (pos 0)
    level_is = sym (get_or-take o.levels levels k (pos 0) l) ∙ ap (λ (v : List ℤ). get_or v k (pos 0)) r.levels-are

    pub level_in : Within most_height (get_or levels k (pos 0))
    level_in =
        let n = levels-number kind r.report t r.passed r.opened in
        let count = ap (if_passed (length (survey_of t).levels)) r.passed in
        subst (Within most_height) (sym level_is) (level-range t r.passed k (omega (arith, l, n, count)))

    -- So what is made of the rooms for level k is made of the survey that the text says.
    pub of_level :
        {A : Type 0} (f : Survey → List (Three ℕ) → ℕ → ℤ → A)
        → f (survey (take o.stations xs) (take o.stations ys) (take o.stations zs)) (threes o.triangles work) o.style
        (get_or levels k (pos 0))
        ≡ f (stations (survey_of t)) (triangles_of kind (stations (survey_of t))) (survey_of t).style (get_or (survey_of t).levels k (pos 0))
    of_level f = let style = style-number kind r.report t r.passed r.opened in λ i. f (survey_is i) (triangles-are i) (style i) (level_is i)

    -- The text of level k, made of the rooms, is its block.
    pub block-is :
        level_text (survey (take o.stations xs) (take o.stations ys) (take o.stations zs)) (threes o.triangles work) o.style (get_or levels k (pos 0))
        ≡ block_at kind t k
    block-is = of_level level_text
