-- The room before the first swap: the corners of a mesh and the neighbours that `neighbours` lays behind them are what the swaps ask for
-- (`mesh-ready`). Assumes nothing.
use mathlib.Core.Path.{◌≡◌, refl, sym, ap, ap₂, ◌∙◌, subst}
use mathlib.Core.List.{List, [], append-nil}
use mathlib.Core.Option.{Option, none, some}
use Prim.Native.Nat.{ℕ, ◌*◌, ◌≤◌, ◌<◌}
use native.Mathlib.Omega.{arith}
use lib.ListN.{length}
use Rattle.survey.specs.Fit.{Fit}
use Rattle.survey.specs.Survey.{Survey}
use Rattle.sweep.specs.Sweep.{Three, flat}
use Rattle.trace.specs.Mesh.{count as count_of, boundaries}
use Rattle.trace.specs.Side.{Directed, ◌⟶◌, reversed}
use Rattle.neighbours.specs.Half.{after, corner_in, side_at, twin}
use Rattle.neighbours.specs.Records.{records_of}
use Rattle.neighbours.specs.Room.{number_of, neighbours_in, threes}
use Rattle.neighbours.proofs.HalfLaws.{half-some, half_is}
use Rattle.neighbours.proofs.RecordLaws.{neighbours_at, neighbours-length}
use Rattle.neighbours.proofs.RoomLaws.{length-flat, threes-flat}
use Rattle.hull.specs.MeshOf.{MeshOf}
use Rattle.hull.proofs.SoundLaws.{runs-count}
use Rattle.swapping.specs.Halves.{Twinned}
use Rattle.swapping.specs.Rooms.{twin_in, Ready}

side_is : (ts : List (Three ℕ)) (h : ℕ) → side_at ts h ≡ (corner_in (flat ts) h ⟶ corner_in (flat ts) (after h))
unfolding side_at
side_is ts h = refl

abbrev start_of : Directed → ℕ
start_of (a ⟶ b) = a

abbrev end_of : Directed → ℕ
end_of (a ⟶ b) = b

module _ (ts : List (Three ℕ)) (single : (d : Directed) → count_of d (boundaries ts) ≤ 1) (few : 3 * length ts ≤ 32766) where
  abbrev C : ℕ → ℕ
  C = corner_in (flat ts)

  abbrev W : ℕ → ℕ
  W = twin_in (neighbours_in (records_of ts))

  twin-read : (h : ℕ) → h < 3 * length ts → W h ≡ number_of (twin ts h)
  twin-read h l = neighbours_at ts h l

  -- A twin runs back.
  back : (h : ℕ) → h < 3 * length ts → W h < 3 * length ts → (C (W h) ≡ C (after h)) × (C (after (W h)) ≡ C h)
  back h l b = go (twin ts h) refl
    where
      go : (x : Option ℕ) → twin ts h ≡ x → (C (W h) ≡ C (after h)) × (C (after (W h)) ≡ C h)
      go none e = absurd (omega (arith, twin-read h l ∙ ap number_of e, b, few))
      go (some g) e =
          let w : W h ≡ g = twin-read h l ∙ ap number_of e in
          let s : (C g ⟶ C (after g)) ≡ (C (after h) ⟶ C h) = sym (side_is ts g) ∙ (half-some ts (reversed (side_at ts h)) g e).1 ∙ ap reversed (side_is ts h) in
          (ap C w ∙ ap start_of s, ap (λ x. C (after x)) w ∙ ap end_of s)

  pub twins-right : Twinned C W (3 * length ts)
  twins-right =
      record {
        found = λ h g lh lg p q.
            twin-read h lh
            ∙ ap number_of (half_is ts single (reversed (side_at ts h)) g lg (side_is ts g ∙ ap₂ (λ a b. a ⟶ b) p q ∙ ap reversed (sym (side_is ts h))));
        from = λ h l b. (back h l b).0;
        to = λ h l b. (back h l b).1;
      }

pub mesh-ready : (s : Survey) → Fit s → (ts : List (Three ℕ)) → MeshOf s ts → 3 * length ts ≤ 32766
    → Ready s (length ts) (flat ts) (neighbours_in (records_of ts))
mesh-ready s fit ts m few =
    record {
      fit = fit;
      mesh = subst (MeshOf s) (sym back_again) m;
      twinned = twins-right ts one few;
      corners-count = length-flat ts;
      twins-count = neighbours-length ts;
      few = few;
    }
  where
    one : (d : Directed) → count_of d (boundaries ts) ≤ 1
    one (i ⟶ j) = omega (arith, runs-count i j ts, m.once i j)

    back_again : threes (length ts) (flat ts) ≡ ts
    back_again = ap (threes (length ts)) (sym (append-nil (flat ts))) ∙ threes-flat ts []
