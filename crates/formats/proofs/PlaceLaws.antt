-- Each place follows its form: the line that it expects is the next of the form, the place behind a line is that of what follows, and
-- fewer lines and tags are then to come. Assumes nothing.
use mathlib.Core.Path.{◌≡◌, refl, sym, ap, subst, ◌∙◌}
use mathlib.Core.Bool.{Bool, true, false, cond, true≢false}
use mathlib.Core.List.{List, [], ◌∷◌, ◌++◌}
use Prim.Native.Nat.{ℕ, zero, suc, ◌+◌, ◌*◌, ◌-◌, ◌≤◌}
use native.Mathlib.Omega.{arith}
use borrow.Author.Tests.{le-ltb}
use Rattle.shapes.specs.declared.line.Part.{Part}
use Rattle.std.specs.Prelude.{Result, Ok, Err}
use Rattle.shapes.specs.declared.line.Fault.{Fault}
use Rattle.shapes.specs.Line.{said_natural, said, line_said}
use Rattle.shapes.proofs.SpellLaws.{natural_by}
use Rattle.forms.specs.Form.{Form, end, line}
use Rattle.survey.specs.Limits.{least_stations, most_stations, most_levels}
use Rattle.formats.specs.declared.place.Line.{Line}
use Rattle.formats.specs.declared.place.Line.TheVariants.{End, Survey, Style, Points, Tag, X, Y, Z, Levels, Level}
use Rattle.formats.specs.declared.place.Place.{Place}
use Rattle.formats.specs.Lines.{least_height}
use Rattle.formats.specs.Surveys.{above, level_lines, level_list, from_z, from_y, from_x, stations, from_points, from_style, plain}
use Rattle.formats.specs.Place.{stations_left, form_of, form_at, shape_of, placed, to_stations, to_levels, next_of, lines_ahead, tags_ahead, is_end, used_of, tags_of, tag_one}

-- What follows the line at a place, by its value.
abbrev pub rest_of : Line → ℕ → ℕ → List ℕ → ℕ → Form
rest_of End n m u v = end
rest_of Survey n m u v = from_style plain level_list u
rest_of Style n m u v = from_points plain level_list u
rest_of Points n m u v = stations_left v u
rest_of Tag n m u v = from_x plain (stations_left n (u ++ (v ∷ [])))
rest_of X n m u v = from_y plain (stations_left n u)
rest_of Y n m u v = from_z plain (stations_left n u)
rest_of Z n m u v = stations_left n u
rest_of Levels n m u v = level_lines v least_height
rest_of Level n m u v = level_lines n (above v)

pub place-line : (l : Line) (n m : ℕ) (u : List ℕ) → is_end l ≡ false → form_of l n m u ≡ line (shape_of l m) (used_of l u) (rest_of l n m u)
place-line End n m u h = absurd (true≢false h)
place-line Survey n m u h = refl
place-line Style n m u h = refl
place-line Points n m u h = refl
place-line Tag n m u h = refl
place-line X n m u h = refl
place-line Y n m u h = refl
place-line Z n m u h = refl
place-line Levels n m u h = refl
place-line Level n m u h = refl

-- Nothing follows the end.
pub end-form : (l : Line) (n m : ℕ) (u : List ℕ) → is_end l ≡ true → form_of l n m u ≡ end
end-form End n m u h = refl
end-form Survey n m u h = absurd (true≢false (sym h))
end-form Style n m u h = absurd (true≢false (sym h))
end-form Points n m u h = absurd (true≢false (sym h))
end-form Tag n m u h = absurd (true≢false (sym h))
end-form X n m u h = absurd (true≢false (sym h))
end-form Y n m u h = absurd (true≢false (sym h))
end-form Z n m u h = absurd (true≢false (sym h))
end-form Levels n m u h = absurd (true≢false (sym h))
end-form Level n m u h = absurd (true≢false (sym h))

less_one : (n : ℕ) → suc n - 1 ≡ n
less_one n = omega arith

stations_at : (n m : ℕ) (u : List ℕ) → stations_left n u ≡ form_at (to_stations n m) u
unfolding stations
stations_at zero m u = refl
stations_at (suc n) m u =
    sym
    (ap (λ (t : Bool). form_at (cond t (placed Levels 0 m) (placed Tag (suc n - 1) m)) u) (le-ltb (suc n) 1 (omega arith))
    ∙ ap (λ (k : ℕ). form_of Tag k m u) (less_one n))

levels_at : (n m : ℕ) (u : List ℕ) → level_lines n m ≡ form_at (to_levels n m) u
unfolding level_lines
levels_at zero m u = refl
levels_at (suc n) m u =
    sym
    (ap (λ (t : Bool). form_at (cond t (placed End 0 m) (placed Level (suc n - 1) m)) u) (le-ltb (suc n) 1 (omega arith))
    ∙ ap (λ (k : ℕ). form_of Level k m u) (less_one n))

pub place-next : (l : Line) (n m : ℕ) (u : List ℕ) (v : ℕ) → rest_of l n m u v ≡ form_at (next_of l n m v) (tags_of l u v)
place-next End n m u v = refl
place-next Survey n m u v = refl
place-next Style n m u v = refl
place-next Points n m u v = stations_at v m u
place-next Tag n m u v = refl
place-next X n m u v = refl
place-next Y n m u v = refl
place-next Z n m u v = stations_at n m u
place-next Levels n m u v = levels_at v least_height u
place-next Level n m u v = levels_at n (above v) u

-- ---- how many lines are to come

abbrev pub lines_from : Place → ℕ
lines_from p = lines_ahead p.line p.left

abbrev pub tags_from : Place → ℕ
tags_from p = tags_ahead p.line p.left

abbrev Few : Place → ℕ → ℕ → Type 0
Few p lines tags = (lines_from p ≤ lines) × (tags_from p ≤ tags)

stations-ahead : (n m : ℕ) → Few (to_stations n m) (4 * n + most_levels + 1) n
stations-ahead zero m = (omega arith, omega arith)
stations-ahead (suc n) m = rw (le-ltb (suc n) 1 (omega arith)) (omega arith, omega arith)

levels-ahead : (n m : ℕ) → Few (to_levels n m) n 0
levels-ahead zero m = (omega arith, omega arith)
levels-ahead (suc n) m = rw (le-ltb (suc n) 1 (omega arith)) (omega arith, omega arith)

-- A number that is right is at most the largest.
abbrev Most : ℕ → Result ℕ Fault → Type 0
Most most (Ok v) = v ≤ most
Most most (Err n) = Unit

natural-most : (least most : ℕ) (p : Part) (v : ℕ) → said_natural least most p ≡ Ok v → v ≤ most
natural-most least most p v e = subst (Most most) e (natural_by (Most most) tt least most p (λ w _ _ j. j))

-- A line takes one of the lines to come, and a tag line one of the tags.
pub ahead-less : (l : Line) (n m : ℕ) (u : List ℕ) (p : Part) (v : ℕ) → is_end l ≡ false → line_said (shape_of l m) u p ≡ Ok v
    → (suc (lines_from (next_of l n m v)) ≤ lines_ahead l n) × (tag_one l + tags_from (next_of l n m v) ≤ tags_ahead l n)
unfolding said
ahead-less End n m u p v h i = absurd (true≢false h)
ahead-less Survey n m u p v h i = (omega arith, omega arith)
ahead-less Style n m u p v h i = (omega arith, omega arith)
ahead-less Points n m u p v h i = let s = stations-ahead v m in let few = natural-most least_stations most_stations p v i in (omega (arith, s.0), omega (arith, s.1))
ahead-less Tag n m u p v h i = (omega arith, omega arith)
ahead-less X n m u p v h i = (omega arith, omega arith)
ahead-less Y n m u p v h i = (omega arith, omega arith)
ahead-less Z n m u p v h i = let s = stations-ahead n m in (omega (arith, s.0), omega (arith, s.1))
ahead-less Levels n m u p v h i = let s = levels-ahead v least_height in let few = natural-most 1 most_levels p v i in (omega (arith, s.0), omega (arith, s.1))
ahead-less Level n m u p v h i = let s = levels-ahead n (above v) in (omega (arith, s.0), omega (arith, s.1))

pub ahead-some : (l : Line) (n : ℕ) → is_end l ≡ false → (1 ≤ lines_ahead l n) × (tag_one l ≤ tags_ahead l n)
ahead-some End n h = absurd (true≢false h)
ahead-some Survey n h = (omega arith, omega arith)
ahead-some Style n h = (omega arith, omega arith)
ahead-some Points n h = (omega arith, omega arith)
ahead-some Tag n h = (omega arith, omega arith)
ahead-some X n h = (omega arith, omega arith)
ahead-some Y n h = (omega arith, omega arith)
ahead-some Z n h = (omega arith, omega arith)
ahead-some Levels n h = (omega arith, omega arith)
ahead-some Level n h = (omega arith, omega arith)

-- From a first line on, no more are to come than a survey's text has.
pub ahead-most : (l : Line) → (lines_ahead l 0 ≤ 4 * most_stations + most_levels + 4) × (tags_ahead l 0 ≤ most_stations)
ahead-most End = (omega arith, omega arith)
ahead-most Survey = (omega arith, omega arith)
ahead-most Style = (omega arith, omega arith)
ahead-most Points = (omega arith, omega arith)
ahead-most Tag = (omega arith, omega arith)
ahead-most X = (omega arith, omega arith)
ahead-most Y = (omega arith, omega arith)
ahead-most Z = (omega arith, omega arith)
ahead-most Levels = (omega arith, omega arith)
ahead-most Level = (omega arith, omega arith)
