-- `open_any` meets its contract: with rooms for the largest survey the reader refuses only what the text itself deserves, and the fronts of its
-- rooms are the survey that the text says. Assumes nothing.
use mathlib.Core.Path.{◌≡◌, sym, ap, ◌∙◌, refl, subst}
use mathlib.Core.List.{◌++◌}
use native.Mathlib.Omega.{arith}
use lib.ListN.{length, drop}
use Rattle.std.specs.Prelude.{⊤}
use Rattle.survey.specs.Answer.{Answer}
use Rattle.survey.specs.declared.answers.Read.{Read}
use Rattle.survey.specs.Survey.{Survey}
use Rattle.rendering.specs.Filed.{stations}
use Rattle.text.specs.Reader.{survey_of, x_room, y_room, z_room}
use Rattle.program.specs.Program.{any_opening_by}
use Rattle.program.specs.Opened.{reading_of, any_opened_by, Worked, slopes_room}
use Rattle.program.proofs.ReadLaws.{reading_is, reading-refused, style-range}
use Rattle.program.proofs.ReadLaws.{xs-front, ys-front, zs-front, of_survey}
use Rattle.program.proofs.open_any.Goals as goal

pub judge-requires : goal.judge-requires
judge-requires c =
    let a = c.args in
    let t = a.text.now in
    let rd = c.read in
    let now : rd.result ≡ reading_of t = rd.ensures.value ∙ reading_is t c.told-x c.told-y c.told-z c.told-tags c.told-levels in
    let h = sym now ∙ c.in-Ok.is in
    (style-range t h, omega arith, omega arith, omega arith)

pub returns-in-Err-clause-opened : goal.returns-in-Err-clause-opened
returns-in-Err-clause-opened c =
    let a = c.args in
    let t = a.text.now in
    let rd = c.read in
    let now : rd.result ≡ reading_of t = rd.ensures.value ∙ reading_is t c.told-x c.told-y c.told-z c.told-tags c.told-levels in
    let e = sym (reading-refused t (sym now ∙ c.in-Err.is)) in
    let s = survey_of t in
    c.refuse.ensures.by_index a.kind a.report (stations s) s.style (length s.levels)
    ∙ ap (any_opened_by a.kind a.report (stations s) s.style (length s.levels)) e

pub returns-in-Err-clause-of_room : goal.returns-in-Err-clause-of_room
returns-in-Err-clause-of_room c =
    let a = c.args in
    let t = a.text.now in
    let rd = c.read in
    let now : rd.result ≡ reading_of t = rd.ensures.value ∙ reading_is t c.told-x c.told-y c.told-z c.told-tags c.told-levels in
    let e = sym (reading-refused t (sym now ∙ c.in-Err.is)) in
    let s = survey_of t in
    c.refuse.ensures.room_after ∙ ap (λ (d : Answer ⊤). any_opening_by a.report s.style d ++ drop c.refuse.result.bytes a.room.now) e

pub returns-in-Err-clause-of_work : goal.returns-in-Err-clause-of_work
returns-in-Err-clause-of_work c =
    let a = c.args in
    let t = a.text.now in
    let rd = c.read in
    let now : rd.result ≡ reading_of t = rd.ensures.value ∙ reading_is t c.told-x c.told-y c.told-z c.told-tags c.told-levels in
    let e = sym (reading-refused t (sym now ∙ c.in-Err.is)) in
    let s = survey_of t in
    subst (λ (d : Answer ⊤). Worked a.kind (stations s) d a.work.now a.work.now) e refl

pub returns-in-Err-clause-of_slopes : goal.returns-in-Err-clause-of_slopes
returns-in-Err-clause-of_slopes c =
    let a = c.args in
    let t = a.text.now in
    let rd = c.read in
    let now : rd.result ≡ reading_of t = rd.ensures.value ∙ reading_is t c.told-x c.told-y c.told-z c.told-tags c.told-levels in
    let e = sym (reading-refused t (sym now ∙ c.in-Err.is)) in
    let s = survey_of t in
    ap (λ (d : Answer ⊤). slopes_room (stations s) s.style d a.slopes.now) e

pub returns-in-Ok-clause-opened : goal.returns-in-Ok-clause-opened
returns-in-Ok-clause-opened c =
    let a = c.args in
    let t = a.text.now in
    let rd = c.read in
    let now : rd.result ≡ reading_of t = rd.ensures.value ∙ reading_is t c.told-x c.told-y c.told-z c.told-tags c.told-levels in
    let h = sym now ∙ c.in-Ok.is in
    let o = c.judge in
    let xs = xs-front t h a.x.now (rd.ensures.x_after ∙ ap (λ (w : Answer Read). x_room t w a.x.now) now) in
    let ys = ys-front t h a.y.now (rd.ensures.y_after ∙ ap (λ (w : Answer Read). y_room t w a.y.now) now) in
    let zs = zs-front t h a.z.now (rd.ensures.z_after ∙ ap (λ (w : Answer Read). z_room t w a.z.now) now) in
    o.ensures.value ∙ of_survey t h (any_opened_by a.kind a.report) xs ys zs

pub returns-in-Ok-clause-of_room : goal.returns-in-Ok-clause-of_room
returns-in-Ok-clause-of_room c =
    let a = c.args in
    let t = a.text.now in
    let rd = c.read in
    let now : rd.result ≡ reading_of t = rd.ensures.value ∙ reading_is t c.told-x c.told-y c.told-z c.told-tags c.told-levels in
    let h = sym now ∙ c.in-Ok.is in
    let o = c.judge in
    let xs = xs-front t h a.x.now (rd.ensures.x_after ∙ ap (λ (w : Answer Read). x_room t w a.x.now) now) in
    let ys = ys-front t h a.y.now (rd.ensures.y_after ∙ ap (λ (w : Answer Read). y_room t w a.y.now) now) in
    let zs = zs-front t h a.z.now (rd.ensures.z_after ∙ ap (λ (w : Answer Read). z_room t w a.z.now) now) in
    o.ensures.room_after ∙ of_survey t h (λ s style m d. any_opening_by a.report style d ++ drop o.result.bytes a.room.now) xs ys zs

pub returns-in-Ok-clause-of_work : goal.returns-in-Ok-clause-of_work
returns-in-Ok-clause-of_work c =
    let a = c.args in
    let t = a.text.now in
    let rd = c.read in
    let now : rd.result ≡ reading_of t = rd.ensures.value ∙ reading_is t c.told-x c.told-y c.told-z c.told-tags c.told-levels in
    let h = sym now ∙ c.in-Ok.is in
    let o = c.judge in
    let xs = xs-front t h a.x.now (rd.ensures.x_after ∙ ap (λ (w : Answer Read). x_room t w a.x.now) now) in
    let ys = ys-front t h a.y.now (rd.ensures.y_after ∙ ap (λ (w : Answer Read). y_room t w a.y.now) now) in
    let zs = zs-front t h a.z.now (rd.ensures.z_after ∙ ap (λ (w : Answer Read). z_room t w a.z.now) now) in
    subst (λ (p : Survey × Answer ⊤). Worked a.kind p.0 p.1 a.work.now o.new.work) (of_survey t h (λ s style m d. (s, d)) xs ys zs) o.ensures.worked

pub returns-in-Ok-clause-of_slopes : goal.returns-in-Ok-clause-of_slopes
returns-in-Ok-clause-of_slopes c =
    let a = c.args in
    let t = a.text.now in
    let rd = c.read in
    let now : rd.result ≡ reading_of t = rd.ensures.value ∙ reading_is t c.told-x c.told-y c.told-z c.told-tags c.told-levels in
    let h = sym now ∙ c.in-Ok.is in
    let o = c.judge in
    let xs = xs-front t h a.x.now (rd.ensures.x_after ∙ ap (λ (w : Answer Read). x_room t w a.x.now) now) in
    let ys = ys-front t h a.y.now (rd.ensures.y_after ∙ ap (λ (w : Answer Read). y_room t w a.y.now) now) in
    let zs = zs-front t h a.z.now (rd.ensures.z_after ∙ ap (λ (w : Answer Read). z_room t w a.z.now) now) in
    o.ensures.slopes_after ∙ of_survey t h (λ s style m d. slopes_room s style d a.slopes.now) xs ys zs
