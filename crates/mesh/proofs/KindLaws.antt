-- Either kind is a mesh of the survey (`kind-mesh`): what is shown of every mesh holds of both. Assumes nothing.
use mathlib.Core.Path.{◌≡◌, ap}
use mathlib.Core.Bool.{Bool, true, false, cond}
use Prim.Native.Nat.{ℕ, ◌*◌, ◌≤◌, ◌<◌}
use borrow.Author.Tests.{eq-eqb, ne_eqb}
use lib.Dec.{eqb}
use lib.ListN.{length}
use Rattle.survey.specs.Fit.{Fit}
use Rattle.survey.specs.Rooms.{triangle_room}
use Rattle.survey.specs.Survey.{Survey, count}
use Rattle.sweep.specs.Members.{In}
use Rattle.sweep.specs.Sweep.{Three}
use Rattle.triangles.specs.Mesh.{triangles}
use Rattle.hull.specs.MeshOf.{MeshOf}
use Rattle.hull.proofs.MeshOfLaws.{mesh_of, lowest-station_first}
use Rattle.hull.proofs.SoundLaws.{mesh-triangles-fit}
use Rattle.fatter.specs.Fatter.{fatter}
use Rattle.fatter.proofs.FatterLaws.{fatter-mesh, fatter-lowest}
use Rattle.mesh.specs.Kinds.{triangles_of}

-- 'Kind 0 is the old mesh, 1 this one'
pub kind-old : (s : Survey) {kind : ℕ} → kind ≡ 0 → triangles_of kind s ≡ triangles s
unfolding triangles_of
kind-old s {kind} e = ap (λ b. cond b (triangles s) (fatter s (triangles s))) (eq-eqb kind 0 e)

pub kind-new : (s : Survey) {kind : ℕ} → (kind ≡ 0 → ⊥) → triangles_of kind s ≡ fatter s (triangles s)
unfolding triangles_of
kind-new s {kind} e = ap (λ b. cond b (triangles s) (fatter s (triangles s))) (ne_eqb kind 0 e)

module _ (kind : ℕ) (s : Survey) (fit : Fit s) where
  pub kind-mesh : MeshOf s (triangles_of kind s)
  unfolding triangles_of
  kind-mesh = go (eqb kind 0)
    where
      go : (b : Bool) → MeshOf s (cond b (triangles s) (fatter s (triangles s)))
      go true = mesh_of s fit
      go false = fatter-mesh s fit (triangles s) (mesh_of s fit)

  -- The triangles fit their room.
  pub kind-fit : 3 * length (triangles_of kind s) ≤ triangle_room (count s)
  kind-fit = mesh-triangles-fit s fit (triangles_of kind s) kind-mesh

  -- 'lowest station first'
  pub kind-lowest : (t : Three ℕ) → In t (triangles_of kind s) → (t.a < t.b) × (t.a < t.c)
  unfolding triangles_of
  kind-lowest = go (eqb kind 0)
    where
      go : (b : Bool) (t : Three ℕ) → In t (cond b (triangles s) (fatter s (triangles s))) → (t.a < t.b) × (t.a < t.c)
      go true = lowest-station_first s fit
      go false = fatter-lowest s fit (triangles s) (mesh_of s fit)
