-- The sweep on station numbers, which look up their places: put through `f`, it is the sweep on places, so every law of `Facts` holds of it.
-- Assumes nothing.
use mathlib.Core.Path.{◌≡◌, refl, ◌∙◌, ap}
use mathlib.Core.Bool.{Bool, true, false}
use mathlib.Core.List.{List, [], ◌∷◌, ◌++◌, reverse, map, map-append}
use lib.IntN.{ℤ, pos}
use lib.Signed.{lt_z}
use Rattle.whole.specs.Place.{Place}
use Rattle.whole.specs.Turn.{turn}
use Rattle.sweep.specs.Sweep.{Three, tri, mirror, high, pop, fan, StateOf, State, ordered, step, sweep, start, mesh, by, step_n, sweep_n, mesh_n}
use Rattle.sweep.proofs.MemberLaws.{map-reverse}

module _ {A : Type 0} (f : A → Place) where
  abbrev pub three : Three A → Three Place
  three t = tri (f t.a) (f t.b) (f t.c)

  abbrev pub placed : StateOf A → State
  placed s = record { top = f s.top; lo = map f s.lo; up = map f s.up; tris = map three s.tris }

  -- ---- the same on places: at each pop the two tests are one
  pop-map : (o : Place → Place → Place → ℤ) (q t : A) (l : List A) → map f (pop (by f o) q t l) ≡ pop o (f q) (f t) (map f l)
  unfolding pop
  pop-map o q t [] = refl
  pop-map o q t (s ∷ l) = go (lt_z (o (f s) (f t) (f q)) (pos 0)) (pop-map o q s l)
    where
      go : (b : Bool) → map f (pop (by f o) q s l) ≡ pop o (f q) (f s) (map f l) →
          map f (elim b [ true ↦ pop (by f o) q s l | false ↦ t ∷ s ∷ l ]) ≡ (elim b [ true ↦ pop o (f q) (f s) (map f l) | false ↦ f t ∷ f s ∷ map f l ])
      go true e = e
      go false e = refl

  fan-map : (o : Place → Place → Place → ℤ) (q t : A) (l : List A) → map three (fan (by f o) q t l) ≡ fan o (f q) (f t) (map f l)
  unfolding fan
  fan-map o q t [] = refl
  fan-map o q t (s ∷ l) = go (lt_z (o (f s) (f t) (f q)) (pos 0)) (fan-map o q s l)
    where
      go : (b : Bool) → map three (fan (by f o) q s l) ≡ fan o (f q) (f s) (map f l) →
          map three (elim b [ true ↦ tri s q t ∷ fan (by f o) q s l | false ↦ [] ]) ≡ (elim b [ true ↦ tri (f s) (f q) (f t) ∷ fan o (f q) (f s) (map f l) | false ↦ [] ])
      go true e = rw e
      go false e = refl

  mirror-map : (ts : List (Three A)) → map three (map mirror ts) ≡ map mirror (map three ts)
  mirror-map [] = refl
  mirror-map (t ∷ ts) = ap (λ us. three (mirror t) ∷ us) (mirror-map ts)

  ordered-map : (ts us : List (Three A)) → map three (ordered ts us) ≡ ordered (map three ts) (map three us)
  unfolding ordered
  ordered-map [] us = map-reverse three us
  ordered-map (t ∷ ts) us = refl

  tris-map : (s : StateOf A) (q : A) → map three (step_n f s q).tris ≡ (step (placed s) (f q)).tris
  unfolding step_n step
  tris-map s q =
      rw (
        map-append three s.tris (reverse (fan (by f turn) q s.top s.lo) ++ ordered s.tris (map mirror (fan (by f high) q s.top s.up))),
        map-append three (reverse (fan (by f turn) q s.top s.lo)) (ordered s.tris (map mirror (fan (by f high) q s.top s.up))),
        map-reverse three (fan (by f turn) q s.top s.lo),
        ordered-map s.tris (map mirror (fan (by f high) q s.top s.up)),
        mirror-map (fan (by f high) q s.top s.up),
        fan-map turn q s.top s.lo,
        fan-map high q s.top s.up,
      )

  pub step_map : (s : StateOf A) (q : A) → placed (step_n f s q) ≡ step (placed s) (f q)
  unfolding step_n step
  step_map s q = λ i. record { top = f q; lo = pop-map turn q s.top s.lo i; up = pop-map high q s.top s.up i; tris = tris-map s q i }

  sweep-map : (s : StateOf A) (qs : List A) → placed (sweep_n f s qs) ≡ sweep (placed s) (map f qs)
  unfolding sweep_n sweep
  sweep-map s [] = refl
  sweep-map s (q ∷ qs) = sweep-map (step_n f s q) qs ∙ ap (λ t. sweep t (map f qs)) (step_map s q)

  -- The mesh on numbers, placed, is the mesh of the places.
  pub mesh-map : (p : A) (ps : List A) → placed (mesh_n f p ps) ≡ mesh (f p) (map f ps)
  unfolding mesh_n mesh
  mesh-map p ps = sweep-map (start p) ps
