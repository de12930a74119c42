-- Document 01, "Mesh", as it is written, for stations of any kind A that stand at places f, taken in order. Assumes nothing.
use Rattle.std.specs.Prelude.{Bool, true, cond, not, ◌&&◌, ◌||◌, List, [], ◌∷◌, ◌++◌, reverse, map, ltb, eqb, ℤ, pos}
use Rattle.std.specs.Int.Signed.{lt_z}
use Rattle.whole.specs.Place.{Place}
use Rattle.whole.specs.Turn.{turn}
use Rattle.sweep.specs.Sweep.{Three, tri, EdgeOf, edge, turned, joined, high, by}

-- 'by rising x, then rising y'
unfoldable pub is_before : Place → Place → Bool
is_before a b = ltb a.x b.x || (eqb a.x b.x && ltb a.y b.y)

unfoldable pub every : {A : Type 0} → (A → Bool) → List A → Bool
every p [] = true
every p (x ∷ l) = p x && every p l

-- Of the side from s to t, which rises: w is not on the far side of it (to its right where o is `turn`, to its left where o is
-- `high`), and does not stand between its ends.
unfoldable pub is_clear : {A : Type 0} → (A → Place) → (Place → Place → Place → ℤ) → A → A → A → Bool
is_clear f o s t w =
    not (lt_z (by f o s t w) (pos 0)) && not ((is_before (f s) (f w) && is_before (f w) (f t)) && not (lt_z (pos 0) (by f o s t w)))

unfoldable pub is_side : {A : Type 0} → (A → Place) → (Place → Place → Place → ℤ) → List A → A → A → Bool
is_side f o ps s t = is_before (f s) (f t) && every (is_clear f o s t) ps

-- The sides from s to a station of a list, and from every station of a list.
unfoldable pub sides_to : {A : Type 0} → (A → Place) → (Place → Place → Place → ℤ) → List A → A → List A → List (EdgeOf A)
sides_to f o ps s [] = []
sides_to f o ps s (t ∷ ts) = cond (is_side f o ps s t) (edge s t ∷ sides_to f o ps s ts) (sides_to f o ps s ts)

unfoldable pub sides_of : {A : Type 0} → (A → Place) → (Place → Place → Place → ℤ) → List A → List A → List (EdgeOf A)
sides_of f o ps [] = []
sides_of f o ps (s ∷ ss) = sides_to f o ps s ps ++ sides_of f o ps ss

-- 'the convex outline of all the stations, defined without the mesh': its sides counterclockwise from the first station, those that
-- have all stations above them, rising, then those that have all stations below them, falling.
unfoldable pub hull_of : {A : Type 0} → (A → Place) → List A → List (EdgeOf A)
hull_of f ps = sides_of f turn ps ps ++ reverse (map turned (sides_of f high ps ps))

-- 'one triangle per neighbouring pair of the run, in run order', counterclockwise on either side of the run.
unfoldable pub facing : {A : Type 0} → (A → Place) → A → A → A → Three A
facing f a b c = cond (lt_z (by f turn a b c) (pos 0)) (tri a c b) (tri b c a)

unfoldable pub run_fan : {A : Type 0} → (A → Place) → A → List A → List (Three A)
run_fan f c [] = []
run_fan f c (a ∷ []) = []
run_fan f c (a ∷ b ∷ l) = facing f a b c ∷ run_fan f c (b ∷ l)

-- 'After that each next station q forms a triangle with each side of the present hull that it sees strictly: going counterclockwise,
-- q lies to the right of the side. These come in counterclockwise order along the old hull.'
unfoldable pub grow : {A : Type 0} → (A → Place) → List A → List A → List (Three A) → List (Three A)
grow f done [] ts = ts
grow f done (q ∷ rest) ts = grow f (done ++ (q ∷ [])) rest (ts ++ joined (by f turn) q (hull_of f done))

-- 'The longest leading run on one line, and the first station c off it, give one triangle per neighbouring pair of the run': a and b
-- are the run's first two stations.
unfoldable pub lead : {A : Type 0} → (A → Place) → A → A → List A → List A → List (Three A)
lead f a b run [] = []
lead f a b run (c ∷ rest) =
    cond (lt_z (by f turn a b c) (pos 0) || lt_z (pos 0) (by f turn a b c)) (grow f (run ++ (c ∷ [])) rest (run_fan f c run))
    (lead f a b (run ++ (c ∷ [])) rest)

-- The mesh of stations taken in order, each triangle counterclockwise, in the order made.
unfoldable pub page : {A : Type 0} → (A → Place) → List A → List (Three A)
page f [] = []
page f (a ∷ []) = []
page f (a ∷ b ∷ l) = lead f a b (a ∷ b ∷ []) l
