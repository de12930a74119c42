-- The served ground report: document 02, L12. Assumes nothing.
use Rattle.std.specs.Prelude.{List, ◌≡◌, ℕ, ℤ}
use Rattle.survey.specs.Fit.{Fit}
use Rattle.survey.specs.Survey.{Survey}
use Rattle.sweep.specs.Sweep.{Three}
use Rattle.hull.specs.MeshOf.{MeshOf}
use Rattle.mesh.specs.Kinds.{triangles_of}
use Rattle.parcels.specs.Served.{served_of, unserved_of, Report}
use Rattle.promises.specs.Outcomes.{outcome_of, ServedLent, served_call}

-- What a call that is done leaves: the figures of the mesh of its kind.
pub record Left (s : Survey) (kind : ℕ) (level : ℤ) (style : ℕ) (old : ServedLent) : Type 0 where
  pub served : (outcome_of (served_call s kind level style old)).lent.served ≡ served_of s (triangles_of kind s) style level
  pub unserved : (outcome_of (served_call s kind level style old)).lent.unserved ≡ unserved_of s (triangles_of kind s) style level

pub record Reports : Type 0 where
  -- Of any mesh of a survey, those of both kinds among them.
  pub any : (s : Survey) → Fit s → (ts : List (Three ℕ)) → MeshOf s ts → Report s ts
  pub kinds : (s : Survey) → Fit s → (kind : ℕ) → Report s (triangles_of kind s)
  -- And these are the figures that the call gives.
  pub given : (s : Survey) (kind : ℕ) (level : ℤ) (style : ℕ) (old : ServedLent) → (outcome_of (served_call s kind level style old)).number ≡ 0
      → Left s kind level style old
