-- The answers of the call, test by test: document 01, "Refusal numbers". Assumes nothing.
use mathlib.Core.Path.{◌≡◌, ap, ◌∙◌}
use mathlib.Core.Bool.{true, false}
use Prim.Native.Nat.{ℕ, ◌≤◌}
use borrow.Author.Tests.{le-ltb, ltb-false}
use lib.Dec.{ltb}
use lib.IntN.{ℤ}
use Rattle.lists.proofs.TestLaws.{or_left, or_right}
use Rattle.survey.specs.Fit.{Fit}
use Rattle.survey.specs.Rooms.{slope_room, work_room, is_tight}
use Rattle.survey.specs.Survey.{Survey, count}
use Rattle.std.specs.Prelude.{Ok, Err, ⊤}
use Rattle.survey.specs.Answer.{Answer}
use Rattle.survey.specs.declared.refusal.Refusal.TheVariants.{Number, Room}
use Rattle.survey.proofs.FitLaws.{fit_passed}
use Rattle.mesh.specs.Kinds.{triangles_of}
use Rattle.lines.specs.Job.{is_wrong}
use Rattle.served.specs.Job.{figures_over, counted_after, counted}

pub not_tight : (n slopes work : ℕ) → is_tight n slopes work ≡ false → (slope_room n ≤ slopes) × (work_room n ≤ work)
not_tight n slopes work e =
    (ltb-false slopes (slope_room n) (or_left (ltb slopes (slope_room n)) _ e), ltb-false work (work_room n) (or_right (ltb slopes (slope_room n)) _ e))

module _ (s : Survey) (kind : ℕ) (level : ℤ) (style slopes work : ℕ) {c : Answer ⊤} where
  pub refused-number : c ≡ (Ok tt) → is_wrong kind level style ≡ true → counted_after s kind level style slopes work c ≡ Err Number
  refused-number e f = ap (counted_after s kind level style slopes work) e ∙ rw f

  pub refused-room : c ≡ (Ok tt) → is_wrong kind level style ≡ false → is_tight (count s) slopes work ≡ true
      → counted_after s kind level style slopes work c ≡ Err Room
  refused-room e f g = ap (counted_after s kind level style slopes work) e ∙ rw (f, g)

  pub done : c ≡ (Ok tt) → is_wrong kind level style ≡ false → is_tight (count s) slopes work ≡ false
      → counted_after s kind level style slopes work c ≡ figures_over s (triangles_of kind s) style level
  done e f g = ap (counted_after s kind level style slopes work) e ∙ rw (f, g)

-- 'Every survey in range, with distinct places not all on one line, is accepted when the other numbers .. are in range and the lent room is long
-- enough'.
pub fit-done :
    (s : Survey) (kind : ℕ) (level : ℤ) (style slopes work : ℕ) → Fit s → is_wrong kind level style ≡ false
    → slope_room (count s) ≤ slopes → work_room (count s) ≤ work
    → counted s kind level style slopes work ≡ figures_over s (triangles_of kind s) style level
fit-done s kind level style slopes work fit f p q =
    done s kind level style slopes work (fit_passed s fit) f (rw (le-ltb slopes (slope_room (count s)) p, le-ltb work (work_room (count s)) q))
