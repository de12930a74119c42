-- What is true of every mesh of places that rise is true of the mesh of every survey that passes the checks: `survey-mesh`. Assumes nothing.
--
-- The stations in order rise, so the sweep's laws hold of their places. They are not all on one line, so there is a triangle. The
-- triangles that the job writes are the same ones, each turned so that its lowest station stands first (`turned`).
use mathlib.Core.Path.{◌≡◌, refl, ap, ◌∙◌}
use mathlib.Core.Bool.{Bool, true, false, cond, ◌&&◌}
use mathlib.Core.List.{List, [], ◌∷◌, map}
use mathlib.Core.Logic.{◌⊎◌, inl, inr}
use Prim.Native.Nat.{ℕ}
use native.Mathlib.Omega.{arith}
use borrow.Author.Tests.{ltb-true}
use lib.Dec.{leb, ltb}
use lib.ListN.{length}
use Rattle.whole.specs.Place.{Place}
use Rattle.sweep.specs.Members.{Any, In, here, there}
use Rattle.sweep.specs.Rising.{Rises}
use Rattle.sweep.specs.Sweep.{Three, tri, mesh}
use Rattle.sweep.specs.Page.{page}
use Rattle.sweep.proofs.MemberLaws.{any_mapped}
use Rattle.sweep.proofs.Facts.{Facts, facts}
use Rattle.sweep.proofs.Numbers.{three, mesh-map}
use Rattle.sweep.proofs.PageLaws.{page_is}
use Rattle.survey.specs.Survey.{Survey, count, place_of}
use Rattle.survey.specs.Fit.{Fit}
use Rattle.triangles.specs.Order.{in_order}
use Rattle.triangles.specs.Mesh.{lowest_first}
use Rattle.triangles.proofs.OrderLaws.{in_order_lem, order-length, order-sorted, sorted_rises}

-- A triangle with its lowest station first is the triangle, run from one of its corners.
pub turned : (t : Three ℕ) → (lowest_first t ≡ t) ⊎ ((lowest_first t ≡ tri t.b t.c t.a) ⊎ (lowest_first t ≡ tri t.c t.a t.b))
unfolding lowest_first
turned t = go (leb t.a t.b && leb t.a t.c) (leb t.b t.a && leb t.b t.c)
  where
    go : (p q : Bool) → (cond p t (cond q (tri t.b t.c t.a) (tri t.c t.a t.b)) ≡ t)
        ⊎ ((cond p t (cond q (tri t.b t.c t.a) (tri t.c t.a t.b)) ≡ tri t.b t.c t.a)
        ⊎ (cond p t (cond q (tri t.b t.c t.a) (tri t.c t.a t.b)) ≡ tri t.c t.a t.b))
    go true q = inl refl
    go false true = inr (inl refl)
    go false false = inr (inr refl)

-- The stations in order, the places of the page's triangles, and what is true of them.
pub record SurveyMesh (s : Survey) : Type 0 where
  pub first : ℕ
  pub rest : List ℕ
  pub order : in_order s ≡ first ∷ rest
  pub placed : map (three (place_of s)) (page (place_of s) (in_order s)) ≡ (mesh (place_of s first) (map (place_of s) rest)).tris
  pub all : Facts (place_of s first) (map (place_of s) rest)
  pub some : (mesh (place_of s first) (map (place_of s) rest)).tris ≡ [] → ⊥

pub survey-mesh : (s : Survey) → Fit s → SurveyMesh s
survey-mesh s fit = go (in_order s) refl
  where
    go : (l : List ℕ) → in_order s ≡ l → SurveyMesh s
    go [] e = absurd (omega (arith, ap length e, order-length s fit, fit.least))
    go (p ∷ ps) e =
        record {
          first = p;
          rest = ps;
          order = e;
          placed = ap (map (three f)) (ap (page f) e ∙ page_is f p ps r) ∙ ap (λ m. m.tris) (mesh-map f p ps);
          all = facts (f p) (map f ps) r;
          some = λ none. fit.spread.turned ((facts (f p) (map f ps) r).flat none _ _ _ (at _ fit.spread.i-used) (at _ fit.spread.j-used) (at _ fit.spread.k-used));
        }
      where
        f : ℕ → Place
        f = place_of s

        r : Rises (f p) (map f ps)
        r = sorted_rises f p ps (rw e at (order-sorted s fit))

        -- A station in use is one of them.
        at : (k : ℕ) → ltb k (count s) ≡ true → In (f k) (f p ∷ map f ps)
        at k h = any_mapped f {l = p ∷ ps} (any_of (rw e at (in_order_lem s fit k (ltb-true _ _ h))))
          where
            any_of : {l : List ℕ} → In k l → Any (λ j. f k ≡ f j) l
            any_of (here q) = here (ap f q)
            any_of (there i) = there (any_of i)
