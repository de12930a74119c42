-- The sweep of document 01, on stations given by rising x, then rising y: two chains as stacks, one triangle for each side that is popped.
-- Assumes nothing.
use Rattle.std.specs.Prelude.{true, false, List, [], ◌∷◌, ◌++◌, reverse, map, ℕ, ◌+◌, ◌*◌, ℤ, pos, get_or}
use Rattle.std.specs.Int.Signed.{lt_z}
use Rattle.whole.specs.Place.{Place}
use Rattle.whole.specs.Turn.{turn}

-- Triangles and states are over any kind of station number A; the laws are proved over places, A = Pt, and `Numbers` carries them over.
pub record Three (A : Type 0) : Type 0 where
  pub a : A
  pub b : A
  pub c : A

abbrev pub Triangle : Type 0
Triangle = Three Place

abbrev pub tri : {A : Type 0} → A → A → A → Three A
tri a b c = record { a = a; b = b; c = c }

abbrev pub mirror : {A : Type 0} → Three A → Three A
mirror t = tri t.c t.b t.a

-- Three entries to a triangle, one triangle after another.
unfoldable pub flat : {A : Type 0} → List (Three A) → List A
flat [] = []
flat (t ∷ ts) = t.a ∷ t.b ∷ t.c ∷ flat ts

-- Triangle k of a room of station numbers.
abbrev pub triangle_in : List ℕ → ℕ → Three ℕ
triangle_in room k = tri (get_or room (3 * k) 0) (get_or room (3 * k + 1) 0) (get_or room (3 * k + 2) 0)

-- The upper chain's sides run backwards on the outline: it looks at a side s, t from t to s, where the lower chain looks at it from s to t.
abbrev pub high : Place → Place → Place → ℤ
high s t q = turn t s q

-- A chain is its top t and the list l of the stations below it. What is left of it when the sides that q sees strictly are gone.
unfoldable pub pop : {A : Type 0} → (A → A → A → ℤ) → A → A → List A → List A
pop o q t [] = t ∷ []
pop o q t (s ∷ l) = elim (lt_z (o s t q) (pos 0)) [ true ↦ pop o q s l | false ↦ t ∷ s ∷ l ]

-- The triangles of q with those sides, the top one first.
unfoldable pub fan : {A : Type 0} → (A → A → A → ℤ) → A → A → List A → List (Three A)
fan o q t [] = []
fan o q t (s ∷ l) = elim (lt_z (o s t q) (pos 0)) [ true ↦ tri s q t ∷ fan o q s l | false ↦ [] ]

-- Both chains end in the last station, `top`.
pub record StateOf (A : Type 0) : Type 0 where
  pub top : A
  pub lo : List A
  pub up : List A
  pub tris : List (Three A)

abbrev pub State : Type 0
State = StateOf Place

-- The upper chain's triangles run along the old outline, but the first triangles of all are made in run order.
unfoldable pub ordered : {A : Type 0} → List (Three A) → List (Three A) → List (Three A)
ordered [] new = reverse new
ordered (t ∷ ts) new = new

-- One station more.
abbrev pub step_by : {A : Type 0} → (A → A → A → ℤ) → (A → A → A → ℤ) → StateOf A → A → StateOf A
step_by o u s q =
    record {
      top = q;
      lo = pop o q s.top s.lo;
      up = pop u q s.top s.up;
      tris = s.tris ++ (reverse (fan o q s.top s.lo) ++ ordered s.tris (map mirror (fan u q s.top s.up)));
    }

unfoldable pub step : State → Place → State
step s q = step_by turn high s q

-- All of them, in order.
unfoldable pub sweep : State → List Place → State
sweep s [] = s
sweep s (q ∷ qs) = sweep (step s q) qs

abbrev pub start : {A : Type 0} → A → StateOf A
start p = record { top = p; lo = []; up = []; tris = [] }

-- The mesh of the stations p, ps.
unfoldable pub mesh : Place → List Place → State
mesh p ps = sweep (start p) ps

-- ---- the outline
pub record EdgeOf (A : Type 0) : Type 0 where
  pub from : A
  pub to : A

abbrev pub Edge : Type 0
Edge = EdgeOf Place

abbrev pub edge : {A : Type 0} → A → A → EdgeOf A
edge s t = record { from = s; to = t }

abbrev pub turned : {A : Type 0} → EdgeOf A → EdgeOf A
turned e = edge e.to e.from

-- The sides of a chain, the top one first, each upwards.
unfoldable pub pairs : {A : Type 0} → A → List A → List (EdgeOf A)
pairs t [] = []
pairs t (s ∷ l) = edge s t ∷ pairs s l

-- The outline counterclockwise from the first station: the lower chain upwards, then the upper chain downwards.
unfoldable pub outline : {A : Type 0} → StateOf A → List (EdgeOf A)
outline s = reverse (pairs s.top s.lo) ++ map turned (pairs s.top s.up)

-- A triangle of q with each of the directed sides es that has q strictly on its right, in the order of es.
unfoldable pub joined : {A : Type 0} → (A → A → A → ℤ) → A → List (EdgeOf A) → List (Three A)
joined o q [] = []
joined o q (e ∷ es) = elim (lt_z (o e.from e.to q) (pos 0)) [ true ↦ tri e.from q e.to ∷ joined o q es | false ↦ joined o q es ]

-- ---- the sweep on stations of any kind A that stand at places f
abbrev pub by : {A : Type 0} → (A → Place) → (Place → Place → Place → ℤ) → A → A → A → ℤ
by f o a b c = o (f a) (f b) (f c)

unfoldable pub step_n : {A : Type 0} → (A → Place) → StateOf A → A → StateOf A
step_n f s q = step_by (by f turn) (by f high) s q

unfoldable pub sweep_n : {A : Type 0} → (A → Place) → StateOf A → List A → StateOf A
sweep_n f s [] = s
sweep_n f s (q ∷ qs) = sweep_n f (step_n f s q) qs

unfoldable pub mesh_n : {A : Type 0} → (A → Place) → A → List A → StateOf A
mesh_n f p ps = sweep_n f (start p) ps
