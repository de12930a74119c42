-- A mesh from the supplier: document 02, L10. Assumes nothing.
use Rattle.std.specs.Prelude.{true, false, not, ◌&&◌, List, ◌↔◌, ◌≡◌, ℕ, ◌*◌, ◌-◌, ◌%◌, ◌≤◌, ◌<◌, eqb, length, get_or}
use Rattle.lists.specs.Lowest.{some}
use Rattle.survey.specs.Survey.{Survey, count}
use Rattle.sweep.specs.Members.{In}
use Rattle.sweep.specs.Sweep.{Three, tri, flat}
use Rattle.hull.specs.MeshOf.{MeshOf}
use Rattle.mesh.specs.Kinds.{triangles_of}
use Rattle.woven.specs.Accepted.{whole_in, supplied_in, is_wrong_length, is_numbered, is_positive, is_sewn, is_faultless, first_wrong, is_unused, is_accepted}
use Rattle.woven.specs.Woven.{Woven}

pub record Supplied (s : Survey) : Type 0 where
  -- Accepted are the meshes of the survey, in any order and each triangle from any of its corners, and nothing else: with their areas, counts,
  -- sides, hull and cover.
  pub accepted : (l : List ℕ) → (is_accepted s l ≡ true) ↔ ((length l ≡ 3 * whole_in l) × MeshOf s (supplied_in l))
  -- 'any mesh of ours is accepted'
  pub ours : (kind : ℕ) → is_accepted s (flat (triangles_of kind s)) ≡ true
  -- 'the first triangle, in its order, with a wrong number, turn, inner station or side': none before it is wrong, and it is.
  pub before : (ts : List (Three ℕ)) (k : ℕ) → k < first_wrong s ts ts → is_faultless s ts (get_or ts k (tri 0 0 0)) ≡ true
  pub first : (ts : List (Three ℕ)) → first_wrong s ts ts < length ts → is_faultless s ts (get_or ts (first_wrong s ts ts) (tri 0 0 0)) ≡ false
  -- Which conditions follow from the others. Numbers, turns and sides that are right, and no station left out, make a mesh: no station then lies
  -- in a triangle but at a corner, there are no more than 2n-5, and the areas sum to the hull's.
  pub enough : (ts : List (Three ℕ)) → Woven s ts → MeshOf s ts
  pub no_inner : (l : List ℕ) → length l % 3 ≡ 0
      → ((t : Three ℕ) → In t (supplied_in l)
      → (is_numbered s t
      && (is_positive s t
      && (is_sewn s (supplied_in l) t.a t.b && (is_sewn s (supplied_in l) t.b t.c && is_sewn s (supplied_in l) t.c t.a)))) ≡ true)
      → some (is_unused s (supplied_in l)) (count s) ≡ false → is_accepted s l ≡ true
  pub no_length : (l : List ℕ) → first_wrong s (supplied_in l) (supplied_in l) ≡ whole_in l → some (is_unused s (supplied_in l)) (count s) ≡ false
      → whole_in l ≤ 2 * count s - 5
  pub no_sum : (l : List ℕ) → is_wrong_length s l ≡ false
      → is_accepted s l ≡ (eqb (first_wrong s (supplied_in l) (supplied_in l)) (whole_in l) && not (some (is_unused s (supplied_in l)) (count s)))
