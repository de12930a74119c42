-- Demand 2, of the four jobs: what is made. Assumes nothing.
--
-- The laws of each job say it of the definitions. A height that is given is that of the definition, by the tests, and that is a number.
use mathlib.Core.Path.{◌≡◌, refl, sym, ap, ◌∙◌, subst}
use mathlib.Core.Bool.{Bool, true, false}
use mathlib.Core.List.{List}
use mathlib.Core.Logic.{◌↔◌}
use Prim.Native.Nat.{ℕ, ◌<◌}
use native.Mathlib.Omega.{arith}
use lib.Dec.{lit≤}
use lib.Ieee as Ieee
use lib.Ieee.{Float, binary64, of_bits}
use lib.Ieee.Bits.{of_bits-fits}
use lib.ListN.{length}
use lib.IntN.{ℤ}
use Rattle.whole.specs.Place.{Place}
use Rattle.survey.specs.Answers.{height_gives}
use Rattle.survey.specs.Checks.{checked}
use Rattle.survey.specs.Fit.{Fit}
use Rattle.survey.proofs.FitLaws.{passed-fit}
use Rattle.survey.specs.Survey.{Survey, count}
use Rattle.std.specs.Prelude.{Ok, Err}
use Rattle.survey.specs.Answer.{Answer}
use Rattle.survey.specs.declared.answers.Height.{Height}
use Rattle.survey.specs.declared.answers.Height.TheVariants.{Own, Between, Outside}
use Rattle.sweep.specs.Sweep.{Three}
use Rattle.triangles.specs.Mesh.{triangles}
use Rattle.hull.specs.Hull.{is_hull_side}
use Rattle.hull.specs.MeshOf.{runs_in, MeshOf}
use Rattle.triangles.proofs.FitLaws.{fit-triangles}
use Rattle.hull.proofs.MeshOfLaws.{mesh_of, lowest-station_first}
use Rattle.hull.proofs.PageHull.{page-sides}
use Rattle.triangles.proofs.OrderLaws.{order-sorted, in_order_lem}
use Rattle.circle.proofs.CircleLaws.{inside-circle, circle-inside, circle-either}
use Rattle.trace.specs.Mesh.{Has}
use Rattle.listing.specs.Listed.{Listed}
use Rattle.fatter.specs.Swap.{may_swap}
use Rattle.fatter.specs.Fatter.{fatter}
use Rattle.fatter.proofs.EndLaws.{swaps-end, swapped-unique, lowest-mesh, lowest-falls}
use Rattle.fatter.proofs.FatterLaws.{fatter-end, fatter-circles, fatter-count, fatter-listed}
use Rattle.mesh.specs.Kinds.{is_no_kind, triangles_of}
use Rattle.mesh.proofs.KindLaws.{kind-old, kind-new, kind-mesh, kind-lowest}
use Rattle.spots.specs.Lines.{is_below, lines_of, spots_of}
use Rattle.neighbours.specs.Records.{records_of}
use Rattle.neighbours.proofs.RecordLaws.{records-say, records_only, list_back, list_only}
use Rattle.tracing.proofs.SameLaws.{lines_same}
use Rattle.hull.proofs.SoundLaws.{mesh-sound, mesh-triangles-fit, mesh-work-fit, mesh-vertices-fit, mesh-records-fit}
use Rattle.lines.proofs.MapLaws.{map-meets, map_only}
use Rattle.height.specs.Finite.{IsNumber, Finite}
use Rattle.height.specs.Height.{height_at}
use Rattle.height.proofs.FiniteLaws.{answer-finite, same_bits}
use Rattle.height.proofs.HeightLaws.{kinds, first_holds}
use Rattle.woven.specs.Accepted.{supplied_in, checked_over}
use Rattle.woven.proofs.AcceptedLaws.{passed-mesh}
use Rattle.thawpebble.specs.Door.{between_after}
use Rattle.promises.specs.Made.{ByTheSteps, BySwaps, ByTheRules, AsRecords, OverAnyMesh, Made, Numbers}
use Rattle.promises.specs.Tests.{Test, first_or, height_tests, height_over_tests}
use Rattle.promises.specs.Outcomes.{outcome_of, HeightLent, height_on}
use Rattle.promises.proofs.RefusingLaws.{height-answer, height-over-answer}
use Rattle.promises.proofs.OutcomeLaws.{none_applies, call-number, done-outcome}

module _ (s : Survey) (fit : Fit s) where
  by_the-steps : ByTheSteps s
  unfolding triangles
  by_the-steps =
      record {
        order = order-sorted s fit;
        all = in_order_lem s fit;
        steps = refl;
        outline = page-sides s fit;
        chains = fit-triangles s fit;
        positive = (mesh_of s fit).positive;
        areas = (mesh_of s fit).areas;
        mesh_of = mesh_of s fit;
        lowest-first = lowest-station_first s fit;
      }

  -- Of a mesh the hull sides are run once and not back, and every other side both ways.
  one_triangle : (ts : List (Three ℕ)) → MeshOf s ts → (i j : ℕ) → 0 < runs_in i j ts → (runs_in j i ts ≡ 0) ↔ (is_hull_side s i j ≡ true)
  one_triangle ts m i j run = (λ e. go (is_hull_side s i j) refl e, λ e. (m.hull i j e).1)
    where
      go : (b : Bool) → is_hull_side s i j ≡ b → runs_in j i ts ≡ 0 → is_hull_side s i j ≡ true
      go true h e = h
      go false h e = absurd (omega (arith, m.shared i j h run, e))

  by_swaps : BySwaps s
  unfolding fatter
  by_swaps =
      let m = mesh_of s fit in
      let ts = triangles s in
      let new = kind-new s {kind = 1} (λ e. absurd (omega (arith, e))) in
      let f = kind-mesh 1 s fit in
      record {
        old = kind-old s refl;
        new = new;
        ends = swaps-end s fit ts m;
        only = λ us h. swapped-unique h (swaps-end s fit ts m);
        each = λ us k e. (lowest-mesh s fit us k e, lowest-falls s fit us k e);
        circles = λ a b c d h. (circle-inside a b c d h, inside-circle a b c d h);
        either = λ i j l r. circle-either i j l r;
        none_left = λ i j. ap (λ us. may_swap s us i j) new ∙ fatter-end s fit ts m i j;
        none_inside = λ i j l r p q. fatter-circles s fit ts m i j l r (subst (Has i j l) new p) (subst (Has j i r) new q);
        same_count = ap length new ∙ fatter-count s fit ts m;
        same_area = f.areas ∙ sym m.areas;
        same_hull = one_triangle (triangles_of 1 s) f;
        in_order = subst Listed (sym new) (fatter-listed s ts);
        lowest-first = kind-lowest 1 s fit;
      }

  module _ (ts : List (Three ℕ)) (mesh : MeshOf s ts) where
    by_the-rules : (level : ℤ) → ByTheRules s ts level
    unfolding lines_of spots_of
    by_the-rules level =
        record {
          spots = λ style. refl;
          each = (map-meets s ts mesh level).each;
          rules = map-meets s ts mesh level;
          only = map_only s ts mesh level;
          vertices-fit = mesh-vertices-fit s fit ts mesh (is_below s level);
          records-fit = mesh-records-fit s fit ts mesh (is_below s level);
        }

    as_records : AsRecords s ts
    unfolding lines_of
    as_records =
        let sound = mesh-sound s ts mesh in
        let only = records_only ts sound.single in
        record {
          say_same = records-say ts;
          only = only;
          list_back = list_back ts;
          records_back = λ rs same. ap records_of same.listed ∙ sym (only rs same);
          list_only = list_only ts;
          lines = λ rs same level. lines_same ts (count s) sound (is_below s level) rs same;
        }

    over_any_mesh : OverAnyMesh s ts
    over_any_mesh =
        record {
          triangles-fit = mesh-triangles-fit s fit ts mesh;
          work-fit = mesh-work-fit s fit ts mesh;
          heights = record { kinds = kinds s fit ts; first = first_holds s ts mesh };
          records = as_records;
          lines = by_the-rules;
        }

  pub made : Made s
  made = record { mesh = by_the-steps; fatter = by_swaps; kinds = λ kind. kind-mesh kind s fit; over = over_any_mesh }

-- ---- numbers
zero_number : IsNumber (of_bits binary64 0)
unfolding Ieee.of_bits
zero_number = (of_bits-fits binary64 0, lit≤ tt)

-- What stands in *between is a height that is given, or 0.
given-number : (h : Height) (old : Float) → Finite (Ok h) → IsNumber (between_after (Ok h) old)
given-number (Own z) old f = zero_number
given-number (Between z) old f = f
given-number Outside old f = zero_number

-- Over any mesh, after any tests.
number_on : (s : Survey) (ts : List (Three ℕ)) (tests : List Test) (p : Place) (old : HeightLent) {a : Answer Height}
    → a ≡ first_or Err tests (Ok (height_at s ts p)) → Finite a → (outcome_of (height_on s ts tests p old)).number ≡ 0
    → IsNumber (outcome_of (height_on s ts tests p old)).lent.between
number_on s ts tests p old e f h =
    let c = height_on s ts tests p old in
    let given : Finite (Ok (height_at s ts p)) = subst Finite (e ∙ none_applies Err tests (Ok (height_at s ts p)) (sym (call-number c) ∙ h)) f in
    subst IsNumber (sym (ap (λ o. o.lent.between) (done-outcome c h)))
    (given-number (height_at s ts p) old.between given)

pub are-numbers : Numbers
are-numbers =
    record {
      between = λ s kind p old.
          number_on s (triangles_of kind s) (height_tests s kind p (length old.slopes) (length old.work)) p old
          (height-answer s kind p (length old.slopes) (length old.work))
          (answer-finite s (triangles_of kind s) (is_no_kind kind) p (length old.slopes) (length old.work) (checked s)
          (λ e. let fit = passed-fit s e in (fit, kind-mesh kind s fit)));
      between-over = λ s l p old.
          number_on s (supplied_in l) (height_over_tests s l p (length old.slopes) (length old.work)) p old
          (height-over-answer s l p (length old.slopes) (length old.work))
          (answer-finite s (supplied_in l) false p (length old.slopes) (length old.work) (checked_over s l)
          (λ e. let m = passed-mesh s l e in (m.0, m.2)));
      bits = same_bits;
    }
