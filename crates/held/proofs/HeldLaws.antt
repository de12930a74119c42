-- What the steps of a triangle and the rooms of slopes and triangles hold. Assumes nothing.
use mathlib.Core.Path.{◌≡◌, refl, sym, ap, ◌∙◌, subst}
use mathlib.Core.Bool.{Bool, false, cond}
use mathlib.Core.List.{List}
use Prim.Native.Nat.{ℕ, suc, ◌+◌, ◌*◌, ◌≤◌, ◌<◌}
use native.Mathlib.Nat.{mul-le-mul_left}
use native.Mathlib.Omega.{arith}
use borrow.Author.Tests.{lt-ltb, le-ltb}
use lib.Dec.{ltb}
use lib.IntN.{ℤ, pos}
use lib.ListN.{length, get_or, length-append}
use mir.Syntax.{w64}
use mir.Val.{Fits}
use Rattle.whole.specs.Place.{Place}
use Rattle.whole.proofs.RangeLaws.{within-diff}
use Rattle.survey.specs.Fit.{Fit}
use Rattle.survey.specs.Limits.{most_coordinate}
use Rattle.survey.specs.Survey.{Survey, count, place_of, height_of}
use Rattle.survey.specs.declared.answers.Height.{Height}
use Rattle.survey.specs.declared.answers.Height.TheVariants.{Own, Between, Outside}
use Rattle.sweep.specs.Sweep.{Three}
use Rattle.slopes.specs.Job.{slopes_of}
use Rattle.slopes.specs.Slopes.{slopes_at, IsCut}
use Rattle.lists.proofs.RowsLaws.{rows-length, rows_at}
use Rattle.slopes.proofs.SlopeLaws.{slopes-cut}
use Rattle.quintic.specs.Quintic.{steps_of, Short}
use Rattle.held.specs.Held.{station_at, holder, five, interpolated, height_by, five_in, Listed, Sloped}

-- A place in range, and the steps between such places.
pub record Near (p : Place) : Type 0 where
  pub x : p.x ≤ most_coordinate
  pub y : p.y ≤ most_coordinate

pub steps-short : {p q r : Place} → Near p → Near q → Near r → Short (steps_of p q r)
unfolding steps_of
steps-short {p} {q} {r} h k l =
    record {
      a = within-diff q.x p.x k.x h.x;
      b = within-diff r.x p.x l.x h.x;
      c = within-diff q.y p.y k.y h.y;
      d = within-diff r.y p.y l.y h.y;
    }

-- A station of a survey that passed the checks.
pub fit-near : {s : Survey} → Fit s → {k : ℕ} → k < count s → Near (place_of s k)
fit-near fit {k} l = record { x = fit.x-range k l; y = fit.y-range k l }

-- The slopes of a station in their room.
module _ {s : Survey} {room : List ℤ} (h : Sloped s room) where
  pub room-long : 5 * count s ≤ length room
  room-long =
      omega (arith, ap length h.is, length-append (slopes_of s) h.rest, rows-length (slopes_at s (height_of s)) 5 (λ i. refl) (count s))

  module _ {k : ℕ} (l : k < count s) where
    pub row-long : 5 * k + 5 ≤ length room
    row-long = omega (arith, room-long, mul-le-mul_left {m = k + 1} {n = count s} 5 (omega arith))

    entry : (j : ℕ) → j < 5 → get_or room (5 * k + j) (pos 0) ≡ get_or (slopes_at s (height_of s) k) j (pos 0)
    entry j m =
        ap (λ (r : List ℤ). get_or r (5 * k + j) (pos 0)) h.is
        ∙ rows_at (slopes_at s (height_of s)) 5 (λ i. refl) (count s) k j h.rest (pos 0) l m

    pub five-in : five_in room k ≡ five s k
    five-in =
        let zero : 5 * k ≡ 5 * k + 0 = omega arith in
        let p : get_or room (5 * k) (pos 0) ≡ (five s k).p = ap (λ (m : ℕ). get_or room m (pos 0)) zero ∙ entry 0 (omega arith) in
        let q : get_or room (5 * k + 1) (pos 0) ≡ (five s k).q = entry 1 (omega arith) in
        let r : get_or room (5 * k + 2) (pos 0) ≡ (five s k).r = entry 2 (omega arith) in
        let s₁ : get_or room (5 * k + 3) (pos 0) ≡ (five s k).s = entry 3 (omega arith) in
        let t : get_or room (5 * k + 4) (pos 0) ≡ (five s k).t = entry 4 (omega arith) in
        λ i. record { p = p i; q = q i; r = r i; s = s₁ i; t = t i }

    pub five-cut : IsCut (five_in room k)
    five-cut = subst IsCut (sym five-in) (slopes-cut s (height_of s) k)

-- The corners of triangle k in their room.
module _ {m : ℕ} {room : List ℕ} {n : ℕ} (h : Listed m room n) {k : ℕ} (l : k < n) where
  inside : (j : ℕ) → j < 3 → 3 * k + j < 3 * n
  inside j i = omega (arith, mul-le-mul_left {m = k + 1} {n = n} 3 (omega arith))

  pub on_a : get_or room (3 * k) 0 < m
  on_a = h.stations (3 * k) (omega (arith, inside 0 (omega arith)))

  pub on_b : get_or room (3 * k + 1) 0 < m
  on_b = h.stations (3 * k + 1) (inside 1 (omega arith))

  pub on_c : get_or room (3 * k + 2) 0 < m
  on_c = h.stations (3 * k + 2) (inside 2 (omega arith))

  pub fits_a : Fits w64 (get_or room (3 * k) 0)
  fits_a = record { fits = omega (arith, on_a, h.small) }

  pub fits-b : Fits w64 (get_or room (3 * k + 1) 0)
  fits-b = record { fits = omega (arith, on_b, h.small) }

  pub fits-c : Fits w64 (get_or room (3 * k + 2) 0)
  fits-c = record { fits = omega (arith, on_c, h.small) }

  pub long-c : 3 * k + 2 < length room
  long-c = omega (arith, inside 2 (omega arith), h.long)

  -- A shorter list.
  pub fewer : Listed m room (suc k)
  fewer =
      let up = mul-le-mul_left {m = k + 1} {n = n} 3 (omega arith) in
      record { few = omega (arith, h.few); small = h.small; long = omega (arith, up, h.long); stations = λ i b. h.stations i (omega (arith, up)) }

-- The three answers, by the two tests, and by the numbers that the searches gave.
module _ (s : Survey) (t : ℕ → Three ℕ) (n : ℕ) (p : Place) where
  abbrev chosen : Bool → Bool → Height
  chosen own held = cond own (Own (height_of s (station_at s p))) (cond held (Between (interpolated s (t (holder (place_of s) t n p)) p)) Outside)

  by_tests : {a b : Bool} → ltb (station_at s p) (count s) ≡ a → ltb (holder (place_of s) t n p) n ≡ b → height_by s t n p ≡ chosen a b
  unfolding height_by
  by_tests e f = λ i. chosen (e i) (f i)

  module _ {own : ℕ} (e : own ≡ station_at s p) where
    pub by_own : own < count s → height_by s t n p ≡ Own (height_of s own)
    by_own h = by_tests (lt-ltb _ _ (subst (λ (m : ℕ). m < count s) e h)) refl ∙ ap (λ (m : ℕ). Own (height_of s m)) (sym e)

    module _ (none : count s ≤ own) {k : ℕ} (f : k ≡ holder (place_of s) t n p) where
      past : ltb (station_at s p) (count s) ≡ false
      past = le-ltb _ _ (subst (λ (m : ℕ). count s ≤ m) e none)

      pub by_between : k < n → height_by s t n p ≡ Between (interpolated s (t k) p)
      by_between h = by_tests past (lt-ltb _ _ (subst (λ (m : ℕ). m < n) f h)) ∙ ap (λ (m : ℕ). Between (interpolated s (t m) p)) (sym f)

      pub by_outside : n ≤ k → height_by s t n p ≡ Outside
      by_outside h = by_tests past (le-ltb _ _ (subst (λ (m : ℕ). n ≤ m) f h))
