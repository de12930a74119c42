-- The factors of the steps are the numbers that they are named for, and every whole number that the steps convert is converted exactly.
-- Assumes nothing.
--
-- A number of at most 2 ^ 53 in size is an f64, and comes back from it (`within-exact`). The whole numbers of the steps are products and
-- sums of steps no longer than the largest coordinate, and far smaller than that (`formed`). `formed` names each one by the page's letters.
use mathlib.Core.List.{List}
use mathlib.Core.Path.{◌≡◌, refl}
use Prim.Native.Nat.{ℕ, ◌^◌}
use native.Mathlib.Omega.{arith}
use lib.Dec.{T, leb, leb→le}
use lib.Ieee as Ieee
use lib.Ieee.{binary64, to_signed}
use lib.Ieee.Back.{positive_back, negative_back}
use lib.IntN.{ℤ, pos, negsuc, neg_ℤ, ◌+ℤ◌, ◌-ℤ◌, ◌*ℤ◌}
use Rattle.whole.specs.Place.{Place}
use Rattle.whole.specs.Range.{Within}
use Rattle.whole.specs.Turn.{across, climb}
use Rattle.whole.proofs.RangeLaws.{within-neg, within-diff, within-float}
use Rattle.whole.proofs.Expression.{lit, ◌⊕◌, ◌⊖◌, ◌⊗◌, InBounds, within}
use Rattle.survey.specs.Fit.{Fit}
use Rattle.survey.specs.Limits.{most_coordinate, most_height, most_slope}
use Rattle.survey.specs.Survey.{Survey, place_of}
use Rattle.sweep.specs.Members.{In}
use Rattle.sweep.specs.Sweep.{Three}
use Rattle.hull.specs.MeshOf.{MeshOf}
use Rattle.quintic.specs.declared.Steps.{Steps}
use Rattle.quintic.specs.Real.{whole, half, two, three, four, six, seven, ten, fifteen, unit, ◌⊞◌}
use Rattle.quintic.specs.Quintic.{steps_of, Short, w, us, sv, twice_area}
use Rattle.held.proofs.HeldLaws.{Near, fit-near, steps-short}
use Rattle.quintic.proofs.StepLaws.{step, a_of, b_of, c_of, d_of, us_of, sv_of}

-- The factors.
pub record Factors : Type 0 where
  pub half_is : half ⊞ half ≡ whole (pos 1)
  pub two_is : two ≡ whole (pos 2)
  pub three_is : three ≡ whole (pos 3)
  pub four_is : four ≡ whole (pos 4)
  pub six_is : six ≡ whole (pos 6)
  pub seven_is : seven ≡ whole (pos 7)
  pub ten_is : ten ≡ whole (pos 10)
  pub fifteen_is : fifteen ≡ whole (pos 15)
  pub unit_is : unit ≡ whole (pos 65536)

pub factors : Factors
unfolding Ieee.of_bits Ieee.of_int Ieee.add
factors =
    record {
      half_is = refl;
      two_is = refl;
      three_is = refl;
      four_is = refl;
      six_is = refl;
      seven_is = refl;
      ten_is = refl;
      fifteen_is = refl;
      unit_is = refl;
    }

-- z is at most 2 ^ 53 in size, and its f64 is z.
pub record Exact (z : ℤ) : Type 0 where
  pub small : Within 9007199254740992 z
  pub back : to_signed 63 (whole z) ≡ z

pub within-exact : {n : ℕ} (z : ℤ) → Within n z → T (leb n (2 ^ 53)) → Exact z
within-exact {n} (pos a) h t =
    let l = leb→le n (2 ^ 53) t in
    record { small = record { by = omega (arith, h.by) }; back = (positive_back binary64 63 a (within-float (pos a) h t) (omega (arith, h.by))).1 }
within-exact {n} (negsuc a) h t =
    let l = leb→le n (2 ^ 53) t in
    record { small = record { by = omega (arith, h.by) }; back = (negative_back binary64 63 a (within-float (negsuc a) h t) (omega (arith, h.by))).1 }

-- Heights and slopes.
pub height-exact : (z : ℤ) → Within most_height z → Exact z
height-exact z h = within-exact z h tt

pub slope-exact : (z : ℤ) → Within most_slope z → Exact z
slope-exact z h = within-exact z h tt

-- What is formed of the steps, and of X and Y.
pub record Formed (e : Steps) (X Y : ℤ) : Type 0 where
  pub a : Exact e.a
  pub b : Exact e.b
  pub c : Exact e.c
  pub d : Exact e.d
  pub aa : Exact (e.a *ℤ e.a)
  pub 2ac : Exact (pos 2 *ℤ e.a *ℤ e.c)
  pub cc : Exact (e.c *ℤ e.c)
  pub ab : Exact (e.a *ℤ e.b)
  pub ad+bc : Exact (e.a *ℤ e.d +ℤ e.b *ℤ e.c)
  pub cd : Exact (e.c *ℤ e.d)
  pub bb : Exact (e.b *ℤ e.b)
  pub 2bd : Exact (pos 2 *ℤ e.b *ℤ e.d)
  pub dd : Exact (e.d *ℤ e.d)
  pub 5w : Exact (pos 5 *ℤ w e)
  pub aa+cc : Exact (e.a *ℤ e.a +ℤ e.c *ℤ e.c)
  pub bb+dd : Exact (e.b *ℤ e.b +ℤ e.d *ℤ e.d)
  pub 5sv : Exact (pos 5 *ℤ sv e)
  pub 4sv+us : Exact (pos 4 *ℤ sv e +ℤ us e)
  pub 4us+sv : Exact (pos 4 *ℤ us e +ℤ sv e)
  pub 5us : Exact (pos 5 *ℤ us e)
  pub g1 : Exact (neg_ℤ (pos 3 *ℤ sv e +ℤ pos 2 *ℤ us e))
  pub g2 : Exact (pos 3 *ℤ us e +ℤ pos 2 *ℤ sv e)
  pub us-sv : Exact (us e -ℤ sv e)
  pub d_x-b_y : Exact (e.d *ℤ X -ℤ e.b *ℤ Y)
  pub a_y-c_x : Exact (e.a *ℤ Y -ℤ e.c *ℤ X)
  pub ad-bc : Exact (twice_area e)

pub formed : (e : Steps) (X Y : ℤ) → Short e → Within most_coordinate X → Within most_coordinate Y → Formed e X Y
formed e X Y h x y =
    let us-in : InBounds (us_of e) = ((h.a, (h.b, h.a)), (h.c, (h.d, h.c))) in
    let sv-in : InBounds (sv_of e) = ((h.b, (h.b, h.a)), (h.d, (h.d, h.c))) in
    record {
      a = within-exact _ h.a tt;
      b = within-exact _ h.b tt;
      c = within-exact _ h.c tt;
      d = within-exact _ h.d tt;
      aa = within-exact _ (within (a_of e ⊗ a_of e) (h.a, h.a)) tt;
      2ac = within-exact _ (within (lit (pos 2) ⊗ a_of e ⊗ c_of e) ((tt, h.a), h.c)) tt;
      cc = within-exact _ (within (c_of e ⊗ c_of e) (h.c, h.c)) tt;
      ab = within-exact _ (within (a_of e ⊗ b_of e) (h.a, h.b)) tt;
      ad+bc = within-exact _ (within (a_of e ⊗ d_of e ⊕ b_of e ⊗ c_of e) ((h.a, h.d), (h.b, h.c))) tt;
      cd = within-exact _ (within (c_of e ⊗ d_of e) (h.c, h.d)) tt;
      bb = within-exact _ (within (b_of e ⊗ b_of e) (h.b, h.b)) tt;
      2bd = within-exact _ (within (lit (pos 2) ⊗ b_of e ⊗ d_of e) ((tt, h.b), h.d)) tt;
      dd = within-exact _ (within (d_of e ⊗ d_of e) (h.d, h.d)) tt;
      5w = within-exact _ (within (lit (pos 5) ⊗ (a_of e ⊗ b_of e ⊕ c_of e ⊗ d_of e)) (tt, ((h.a, h.b), (h.c, h.d)))) tt;
      aa+cc = within-exact _ (within (a_of e ⊗ a_of e ⊕ c_of e ⊗ c_of e) ((h.a, h.a), (h.c, h.c))) tt;
      bb+dd = within-exact _ (within (b_of e ⊗ b_of e ⊕ d_of e ⊗ d_of e) ((h.b, h.b), (h.d, h.d))) tt;
      5sv = within-exact _ (within (lit (pos 5) ⊗ sv_of e) (tt, sv-in)) tt;
      4sv+us = within-exact _ (within (lit (pos 4) ⊗ sv_of e ⊕ us_of e) ((tt, sv-in), us-in)) tt;
      4us+sv = within-exact _ (within (lit (pos 4) ⊗ us_of e ⊕ sv_of e) ((tt, us-in), sv-in)) tt;
      5us = within-exact _ (within (lit (pos 5) ⊗ us_of e) (tt, us-in)) tt;
      g1 = within-exact _ (within-neg (within (lit (pos 3) ⊗ sv_of e ⊕ lit (pos 2) ⊗ us_of e) ((tt, sv-in), (tt, us-in)))) tt;
      g2 = within-exact _ (within (lit (pos 3) ⊗ us_of e ⊕ lit (pos 2) ⊗ sv_of e) ((tt, us-in), (tt, sv-in))) tt;
      us-sv = within-exact _ (within (us_of e ⊖ sv_of e) (us-in, sv-in)) tt;
      d_x-b_y = within-exact _ (within (d_of e ⊗ step X ⊖ b_of e ⊗ step Y) ((h.d, x), (h.b, y))) tt;
      a_y-c_x = within-exact _ (within (a_of e ⊗ step Y ⊖ c_of e ⊗ step X) ((h.a, y), (h.c, x))) tt;
      ad-bc = within-exact _ (within (a_of e ⊗ d_of e ⊖ b_of e ⊗ c_of e) ((h.a, h.d), (h.b, h.c))) tt;
    }

-- So it is for every triangle of a mesh and every place in range.
pub mesh-formed :
    (s : Survey) → Fit s → (ts : List (Three ℕ)) → MeshOf s ts → (t : Three ℕ) → In t ts → (p : Place) → Near p
    → Formed (steps_of (place_of s t.a) (place_of s t.b) (place_of s t.c)) (across (place_of s t.a) p) (climb (place_of s t.a) p)
unfolding across climb
mesh-formed s fit ts mesh t i p h =
    let on = mesh.stations t i in
    let one = fit-near fit on.on_a in
    formed (steps_of (place_of s t.a) (place_of s t.b) (place_of s t.c))
    (pos p.x -ℤ pos (place_of s t.a).x)
    (pos p.y -ℤ pos (place_of s t.a).y)
    (steps-short one (fit-near fit on.on_b) (fit-near fit on.on_c))
    (within-diff p.x (place_of s t.a).x h.x one.x)
    (within-diff p.y (place_of s t.a).y h.y one.y)
