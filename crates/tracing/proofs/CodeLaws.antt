-- What the code computes with half-sides in a room, over plain numbers and lists. Assumes nothing.
use Prim.Native.Nat.{ℕ, suc, ◌+◌, ◌*◌, ◌-◌, ◌≤◌, ◌<◌}
use native.Mathlib.Omega.{arith}
use native.Mathlib.Decide.{ℕ_discrete}
use borrow.Author.Tests.{eq-eqb, ne_eqb, lt-ltb, le-ltb}
use mathlib.Core.Path.{◌≡◌, sym, ap, ap₂, ◌∙◌}
use mathlib.Core.Bool.{Bool, true, false, not, beq}
use mathlib.Core.List.{List, [], ◌∷◌}
use lib.IntN.{ℤ}
use lib.ListN.{length, set}
use Rattle.trace.specs.Crossed.{is_crossed}
use Rattle.neighbours.specs.Half.{after, before, corner_in, runs_by}
use Rattle.neighbours.proofs.HalfLaws.{after-within, before-within}
use Rattle.tracing.specs.Steps.{exit, enter, leave, walk_by}
use Rattle.tracing.specs.Tracing.{lower_of, mark_by, rest_from}
use Rattle.tracing.specs.Written.{below_in}
use Rattle.tracing.specs.Room.{cleared, numbered, neighbour_in, halves_of, Meshed}
use Rattle.tracing.proofs.RoomLaws.{cleared-length, cleared-front}

-- ---- the lower half-side
pub lower-across : (g e : ℕ) → e < g → g < 32767 → e ≡ lower_of g (numbered e)
unfolding lower_of
lower-across g e h l = let n : e ≡ 32767 → ⊥ = λ (q : e ≡ 32767). omega (arith, q) in rw (ne_eqb _ _ n, lt-ltb _ _ h)

pub lower_own : (g e : ℕ) → g ≤ e → g ≡ lower_of g (numbered e)
unfolding lower_of
lower_own g e h = by (ℕ_discrete e 32767)
  where
    by : Dec (e ≡ 32767) → g ≡ lower_of g (numbered e)
    by (yes q) = rw (eq-eqb _ _ q)
    by (no q) = rw (ne_eqb _ _ q, le-ltb _ _ h)

-- ---- a room with a mesh in it
module _ {m n : ℕ} (room : List ℕ) (meshed : Meshed m n (cleared m m room)) where
  pub mesh-long : 2 * m ≤ length room
  mesh-long = omega (arith, meshed.long, cleared-length m m room)

  pub mesh-after : (h : ℕ) → h < m → after h < m
  mesh-after h l = omega (arith, meshed.whole, after-within meshed.triangles h (omega (arith, l, meshed.whole)))

  pub mesh-before : (h : ℕ) → h < m → before h < m
  mesh-before h l = omega (arith, meshed.whole, before-within meshed.triangles h (omega (arith, l, meshed.whole)))

  -- A corner is read past all marks, and is a station.
  pub mesh-corner : (h : ℕ) → h < m → corner_in room h ≡ corner_in (cleared m m room) h
  mesh-corner h l = sym (cleared-front m m room h l (omega (arith, l, mesh-long)))

  pub mesh-station : (h : ℕ) → h < m → corner_in room h < n
  mesh-station h l = omega (arith, mesh-corner h l, meshed.corners h l)

  -- Whether the third corner and the end of a half-side are on one side of the level.
  pub level_of : (z : List ℤ) (level : ℤ) (h : ℕ) → h < m → {b a : ℕ} → b ≡ corner_in room (before h) → a ≡ corner_in room (after h)
      → beq (below_in z level b) (below_in z level a)
      ≡ beq (below_in z level (corner_in (cleared m m room) (before h))) (below_in z level (corner_in (cleared m m room) (after h)))
  level_of z level h l p q =
      let x = p ∙ mesh-corner (before h) (mesh-before h l) in
      let y = q ∙ mesh-corner (after h) (mesh-after h l) in
      (λ i. beq (below_in z level (x i)) (below_in z level (y i)))

-- Whether a half-side's two stations are on the two sides of the level.
pub crossed_of : {m n : ℕ} (room : List ℕ) (meshed : Meshed m n (cleared m m room)) (z : List ℤ) (level : ℤ) (h : ℕ) → h < m
    → {a b : ℕ} → a ≡ corner_in room h → b ≡ corner_in room (after h)
    → not (beq (below_in z level a) (below_in z level b)) ≡ is_crossed (below_in z level) (runs_by (corner_in (cleared m m room)) h)
unfolding is_crossed
crossed_of room meshed z level h l p q =
    let x = p ∙ mesh-corner room meshed h l in
    let y = q ∙ mesh-corner room meshed (after h) (mesh-after room meshed h l) in
    (λ i. not (beq (below_in z level (x i)) (below_in z level (y i))))

-- The room without marks tells a corner of another room that is the same without marks.
pub corner-kept : (m : ℕ) (room marked : List ℕ) → cleared m m marked ≡ cleared m m room → (h : ℕ) → h < m → h < length marked
    → corner_in marked h ≡ corner_in (cleared m m room) h
corner-kept m room marked e h l w = sym (cleared-front m m marked h l w) ∙ ap (λ t. corner_in t h) e

-- ---- the way out of a triangle
module _ (corner : ℕ → ℕ) (below : ℕ → Bool) (h : ℕ) where
  abbrev is_level : Bool
  is_level = beq (below (corner (before h))) (below (corner (after h)))

  pub exit-before : is_level ≡ true → before h ≡ exit corner below h
  unfolding exit
  exit-before e = rw e

  pub exit-after : is_level ≡ false → after h ≡ exit corner below h
  unfolding exit
  exit-after e = rw e

-- ---- one step of a walk
module _ (m : ℕ) (base : List ℕ) (below : ℕ → Bool) (start : ℕ) where
  -- What is left of the line at half-side h after j steps.
  abbrev pub rest_at : ℕ → ℕ → List ℕ
  rest_at j h = rest_from (halves_of m base) below start (m - j) h

  -- With no step to take, nothing is left.
  pub rest_none : (j h : ℕ) → m ≤ j → rest_at j h ≡ []
  unfolding walk_by
  rest_none j h l = let n : m - j ≡ 0 = omega arith in rw n

  module _ (j h : ℕ) (l : j < m) {g e : ℕ} (p : g ≡ exit (corner_in base) below h) (q : e ≡ neighbour_in m base g) where
    rest-step : rest_at j h ≡ leave start g (numbered e) (rest_at (j + 1))
    unfolding walk_by
    rest-step =
        let n : m - j ≡ suc (m - (j + 1)) = omega arith in
        rw n (ap₂ (λ x y. leave start x (numbered y) (rest_at (j + 1))) (sym p) (ap (neighbour_in m base) (sym p) ∙ sym q))

    -- What lies across is the start: the line is over.
    pub rest-round : start < 32767 → e ≡ start → rest_at j h ≡ []
    rest-round s f =
        let n : e ≡ 32767 → ⊥ = λ (z : e ≡ 32767). omega (arith, z, f, s) in
        rest-step ∙ rw (ne_eqb _ _ n, eq-eqb _ _ f)

    -- It is not: the line goes on over g.
    pub rest_on : (e ≡ start → ⊥) → rest_at j h ≡ g ∷ enter (numbered e) (rest_at (j + 1))
    rest_on f = rest-step ∙ by (ℕ_discrete e 32767)
      where
        by : Dec (e ≡ 32767) → leave start g (numbered e) (rest_at (j + 1)) ≡ g ∷ enter (numbered e) (rest_at (j + 1))
        by (yes z) = rw (eq-eqb _ _ z)
        by (no z) = rw (ne_eqb _ _ z, ne_eqb _ _ f)

-- The mark of one half-side.
pub mark_one : (m : ℕ) (base marks : List ℕ) (g : ℕ) {marked : List ℕ} {e : ℕ} → e ≡ neighbour_in m base g → marked ≡ set marks (lower_of g (numbered e)) 1
    → marked ≡ mark_by (halves_of m base).across (g ∷ []) marks
unfolding mark_by
mark_one m base marks g q r = r ∙ ap (λ k. set marks (lower_of g (numbered k)) 1) q

pub enter-hull : (e : ℕ) (go : ℕ → List ℕ) → e ≡ 32767 → enter (numbered e) go ≡ []
enter-hull e go z = rw (eq-eqb _ _ z)

pub enter_on : (e : ℕ) (go : ℕ → List ℕ) → (e ≡ 32767 → ⊥) → enter (numbered e) go ≡ go e
enter_on e go z = rw (ne_eqb _ _ z)
