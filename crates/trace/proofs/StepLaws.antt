-- One step over a triangle: its ends stay on their sides of the level, and it can be taken back. Assumes nothing.
--
-- The third corner takes the place of the end that is on its side of the level. So all directed sides of a line run from below the
-- level to not below it, or all the other way, and within one of the two a side has one direction. The step back over the same
-- triangle puts the end back in its place.
use Prim.Native.Nat.{ℕ}
use native.Mathlib.Omega.{arith}
use mathlib.Core.Path.{◌≡◌, refl, sym, ◌∙◌, ap}
use mathlib.Core.Bool.{Bool, true, false, cond, not, beq, true≢false}
use mathlib.Core.Logic.{◌⊎◌, inl, inr}
use mathlib.Core.Option.{Option, none, some, none-ne-some}
use lib.Dec.{ltb}
use borrow.Author.Tests.{ltb-true, ltb-false}
use Rattle.trace.specs.Side.{Directed, ◌⟶◌, is_same, reversed, side_of}
use Rattle.trace.specs.Walk.{next}
use Rattle.trace.proofs.CountLaws.{Tested, passes, fails, tested, same_both}

-- d is crossed, and o says whether its first station is below the level.
abbrev pub Runs : (ℕ → Bool) → Bool → Directed → Type 0
Runs below o (a ⟶ b) = (below a ≡ o) × (below b ≡ not o)

-- No flag is its own opposite.
pub not_self : (o : Bool) → o ≡ not o → ⊥
not_self true e = true≢false e
not_self false e = true≢false (sym e)

not_not : (o : Bool) → not (not o) ≡ o
not_not true = refl
not_not false = refl

-- The reverse runs from the other side of the level.
pub runs-reversed : (below : ℕ → Bool) (o : Bool) (d : Directed) → Runs below o d → Runs below (not o) (reversed d)
runs-reversed below o (a ⟶ b) r = (r.1, r.0 ∙ sym (not_not o))

-- A directed side and its reverse are one side.
pub side-reversed : (d : Directed) → side_of (reversed d) ≡ side_of d
unfolding side_of
side-reversed (a ⟶ b) = by (tested (ltb a b)) (tested (ltb b a))
  where
    by : Tested (ltb a b) → Tested (ltb b a) → cond (ltb b a) (b ⟶ a) (a ⟶ b) ≡ cond (ltb a b) (a ⟶ b) (b ⟶ a)
    by (passes p) (passes q) = absurd (omega (arith, ltb-true a b p, ltb-true b a q))
    by (passes p) (fails q) = rw (p, q)
    by (fails p) (passes q) = rw (p, q)
    by (fails p) (fails q) = let e : a ≡ b = omega (arith, ltb-false a b p, ltb-false b a q) in rw (p, q) (cc)

pub reversed-twice : (d : Directed) → reversed (reversed d) ≡ d
reversed-twice (a ⟶ b) = refl

-- A directed side is run as the side runs, or the other way.
pub side-cases : (d : Directed) → (side_of d ≡ d) ⊎ (side_of d ≡ reversed d)
unfolding side_of
side-cases (a ⟶ b) = by (ltb a b)
  where
    by : (t : Bool) → (cond t (a ⟶ b) (b ⟶ a) ≡ a ⟶ b) ⊎ (cond t (a ⟶ b) (b ⟶ a) ≡ b ⟶ a)
    by true = inl refl
    by false = inr refl

-- Of two that run alike, the sides are equal where they are.
pub side_same : (below : ℕ → Bool) (o : Bool) (x y : Directed) → Runs below o x → Runs below o y → is_same (side_of x) (side_of y) ≡ is_same x y
unfolding side_of
side_same below o (a ⟶ b) (c ⟶ d) rx ry = same_both _ _ _ _ (by (tested (ltb a b)) (tested (ltb c d))) (λ p. ap side_of p)
  where
    by : Tested (ltb a b) → Tested (ltb c d) → cond (ltb a b) (a ⟶ b) (b ⟶ a) ≡ cond (ltb c d) (c ⟶ d) (d ⟶ c) → a ⟶ b ≡ c ⟶ d
    by (passes p) (passes q) e = rw (p, q) at e
    by (fails p) (fails q) e = let f = rw (p, q) at e in cc
    by (passes p) (fails q) e = let f = rw (p, q) at e in absurd (not_self o (cc))
    by (fails p) (passes q) e = let f = rw (p, q) at e in absurd (not_self o (cc))

-- What tracing needs of a mesh: a triangle is the same from each of its sides, its corners differ, and it does not stand both ways
-- round.
pub record Mesh (left : Directed → Option ℕ) : Type 0 where
  pub turn : (a b c : ℕ) → left (a ⟶ b) ≡ some c → left (b ⟶ c) ≡ some a
  pub apart : (a b c : ℕ) → left (a ⟶ b) ≡ some c → (a ≡ b → ⊥)
  pub once : (a b c : ℕ) → left (a ⟶ b) ≡ some c → left (b ⟶ a) ≡ some c → ⊥

module _ (left : Directed → Option ℕ) (below : ℕ → Bool) where
  -- The two ways out of a triangle, by the third corner's side of the level.
  pub data Out (o : Bool) (a b : ℕ) (y : Directed) : Type 0 where
    keep_from : (c : ℕ) → left (a ⟶ b) ≡ some c → below c ≡ not o → y ≡ a ⟶ c → Out o a b y
    keep_to : (c : ℕ) → left (a ⟶ b) ≡ some c → below c ≡ o → y ≡ c ⟶ b → Out o a b y

  beq_not : (o p : Bool) → beq p (not o) ≡ true → p ≡ not o
  beq_not true false e = refl
  beq_not false true e = refl
  beq_not true true e = cc
  beq_not false false e = cc

  beq_self : (o p : Bool) → beq p (not o) ≡ false → p ≡ o
  beq_self true true e = refl
  beq_self false false e = refl
  beq_self true false e = cc
  beq_self false true e = cc

  -- A step goes out by one of the two.
  pub outs : (o : Bool) (a b : ℕ) (y : Directed) → Runs below o (a ⟶ b) → next left below (a ⟶ b) ≡ some y → Out o a b y
  unfolding next
  outs o a b y r e = by (left (a ⟶ b)) refl
    where
      way : (c : ℕ) → left (a ⟶ b) ≡ some c → some (cond (beq (below c) (below b)) (a ⟶ c) (c ⟶ b)) ≡ some y → Tested (beq (below c) (not o))
          → Out o a b y
      way c h f (passes t) = keep_from c h (beq_not o (below c) t) (let g = ap (λ z. beq (below c) z) r.1 in cc)
      way c h f (fails t) = keep_to c h (beq_self o (below c) t) (let g = ap (λ z. beq (below c) z) r.1 in cc)

      by : (m : Option ℕ) → left (a ⟶ b) ≡ m → Out o a b y
      by none h = absurd (none-ne-some y (rw h at e))
      by (some c) h = way c h (cc) (tested _)

  -- Over a ⟶ b with a third corner on b's side of the level the line goes on over a ⟶ c, else over c ⟶ b.
  next_from : (a b c : ℕ) (p : Bool) → left (a ⟶ b) ≡ some c → below c ≡ p → below b ≡ p → next left below (a ⟶ b) ≡ some (a ⟶ c)
  unfolding next
  next_from a b c true h f g = rw (h, f, g)
  next_from a b c false h f g = rw (h, f, g)

  next_to : (a b c : ℕ) (p : Bool) → left (a ⟶ b) ≡ some c → below c ≡ not p → below b ≡ p → next left below (a ⟶ b) ≡ some (c ⟶ b)
  unfolding next
  next_to a b c true h f g = rw (h, f, g)
  next_to a b c false h f g = rw (h, f, g)

  -- No step where no triangle is, and no triangle where no step is.
  pub next_none : (d : Directed) → left d ≡ none → next left below d ≡ none
  unfolding next
  next_none (a ⟶ b) h = rw h

  pub none_next : (d : Directed) → next left below d ≡ none → left d ≡ none
  unfolding next
  none_next (a ⟶ b) h = by (left (a ⟶ b)) refl
    where
      by : (m : Option ℕ) → left (a ⟶ b) ≡ m → left (a ⟶ b) ≡ none
      by none q = q
      by (some c) q = let z = rw q at h in cc

  -- A step's ends stay on their sides of the level.
  pub next-runs : (o : Bool) (x y : Directed) → Runs below o x → next left below x ≡ some y → Runs below o y
  next-runs o (a ⟶ b) y r e = by (outs o a b y r e)
    where
      by : Out o a b y → Runs below o y
      by (keep_from c h f g) = rw g (r.0, f)
      by (keep_to c h f g) = rw g (f, r.1)

  module _ (mesh : Mesh left) where
    -- A step can be taken back.
    pub next_back : (o : Bool) (x y : Directed) → Runs below o x → next left below x ≡ some y → next left below (reversed y) ≡ some (reversed x)
    next_back o (a ⟶ b) y r e = by (outs o a b y r e)
      where
        by : Out o a b y → next left below (reversed y) ≡ some (b ⟶ a)
        by (keep_from c h f g) = rw g (next_to c a b o (mesh.turn b c a (mesh.turn a b c h)) r.1 r.0)
        by (keep_to c h f g) = rw g (next_from b c a o (mesh.turn a b c h) r.0 f)

    reversed_same : (x y : Directed) → reversed x ≡ reversed y → x ≡ y
    reversed_same (a ⟶ b) (c ⟶ d) e = cc

    -- Two steps start at one side exactly where they come to one side.
    pub next_same : (o : Bool) (x z d y : Directed) → Runs below o x → Runs below o d → next left below x ≡ some z → next left below d ≡ some y
        → is_same x d ≡ is_same z y
    next_same o x z d y rx rd ez ey =
        same_both x d z y (λ p. cc)
        (λ p. reversed_same x d (let bx = next_back o x z rx ez in let bd = next_back o d y rd ey in cc))

    -- No step leads back to where the last came from.
    pub no_back : (o : Bool) (x y : Directed) → Runs below o x → next left below x ≡ some y → next left below y ≡ some x → ⊥
    no_back o (a ⟶ b) y r e again = by (outs o a b y r e)
      where
        from_end : (c : ℕ) → left (a ⟶ b) ≡ some c → Out o a c (a ⟶ b) → ⊥
        from_end c h (keep_from z k f g) = mesh.once a c b (cc) (mesh.turn b c a (mesh.turn a b c h))
        from_end c h (keep_to z k f g) = mesh.apart b b a (mesh.turn a b b (cc)) refl

        to_end : (c : ℕ) → left (a ⟶ b) ≡ some c → Out o c b (a ⟶ b) → ⊥
        to_end c h (keep_from z k f g) = mesh.apart a a b (mesh.turn b a a (mesh.turn a b a (cc))) refl
        to_end c h (keep_to z k f g) = mesh.once c b a (cc) (mesh.turn a b c h)

        by : Out o a b y → ⊥
        by (keep_from c h f g) = from_end c h (outs o a c (a ⟶ b) (r.0, f) (cc))
        by (keep_to c h f g) = to_end c h (outs o c b (a ⟶ b) (f, r.1) (cc))
