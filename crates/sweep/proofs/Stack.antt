-- One chain of the sweep: what a new station pops, and that the chain stays one. Assumes nothing.
use mathlib.Core.Path.{◌≡◌, refl, sym, subst}
use mathlib.Core.Bool.{Bool, true, false, not}
use mathlib.Core.List.{List, [], ◌∷◌}
use mathlib.Core.Logic.{◌⊎◌, inl, inr}
use native.Mathlib.Omega.{arith}
use lib.Dec.{T}
use lib.IntN.{ℤ, pos}
use lib.Signed.{lt_z, lt_z_yes, lt_z_no, ◌≤ℤ◌, ◌<ℤ◌}
use Rattle.whole.proofs.Bridge.{int}
use Rattle.whole.specs.Place.{Place, Before}
use Rattle.whole.proofs.OrderLaws.{Compared, compared, before-trans, before-irrefl, same, earlier, later}
use Rattle.sweep.specs.Sweep.{Triangle, tri, pop, fan}
use Rattle.sweep.proofs.Slopes.{Slopes, zero_from, zero_to, older, newer, below}

-- What q does to a chain t, l: m is left, and ts are its triangles. The lemmas on the sweep go by this.
pub data Pops (O : Place → Place → Place → ℤ) (q : Place) : Place → List Place → List Place → List Triangle → Type 0 where
  end : {t : Place} → Pops O q t [] (t ∷ []) []
  keep : {t s : Place} {l : List Place} → pos 0 ≤ℤ O s t q → Pops O q t (s ∷ l) (t ∷ s ∷ l) []
  drop : {t s : Place} {l m : List Place} {ts : List Triangle} → O s t q <ℤ pos 0 → Pops O q s l m ts → Pops O q t (s ∷ l) m (tri s q t ∷ ts)

-- The functions do this: the test is met here once and for all.
pub pops : (O : Place → Place → Place → ℤ) (q t : Place) (l : List Place) → Pops O q t l (pop O q t l) (fan O q t l)
unfolding pop fan
pops O q t [] = end
pops O q t (s ∷ l) = go (lt_z (O s t q) (pos 0)) refl (pops O q s l)
  where
    go : (b : Bool) → lt_z (O s t q) (pos 0) ≡ b → Pops O q s l (pop O q s l) (fan O q s l) →
        Pops O q t (s ∷ l) (elim b [ true ↦ pop O q s l | false ↦ t ∷ s ∷ l ]) (elim b [ true ↦ tri s q t ∷ fan O q s l | false ↦ [] ])
    go true e r = drop (lt_z_yes (subst T (sym e) tt)) r
    go false e r = keep (lt_z_no (subst (λ b. T (not b)) (sym e) tt))

-- A side of the hull of the stations S, as a chain sees it.
pub record Side (o : Slopes) (S : Place → Type 0) (a b : Place) : Type 0 where
  pub from : S a
  pub to : S b
  pub lex : Before a b
  pub left : (w : Place) → S w → pos 0 ≤ℤ o.O a b w
  pub apart : (w : Place) → S w → Before a w → Before w b → pos 0 <ℤ o.O a b w

-- A chain of such sides from the first station z up to its top.
pub data Chain (o : Slopes) (S : Place → Type 0) (z : Place) : Place → List Place → Type 0 where
  bottom : S z → Chain o S z z []
  more : {t s : Place} {l : List Place} → Side o S s t → Chain o S z s l → Chain o S z t (s ∷ l)

pub top_in : {o : Slopes} {S : Place → Type 0} {z t : Place} {l : List Place} → Chain o S z t l → S t
top_in (bottom i) = i
top_in (more sd ch) = sd.to

-- A chain of at least one side, taken apart; one of no side.
pub chain-side : {o : Slopes} {S : Place → Type 0} {z t s : Place} {l : List Place} → Chain o S z t (s ∷ l) → Side o S s t
chain-side (more sd ch) = sd

pub chain-rest : {o : Slopes} {S : Place → Type 0} {z t s : Place} {l : List Place} → Chain o S z t (s ∷ l) → Chain o S z s l
chain-rest (more sd ch) = ch

pub chain-bottom : {o : Slopes} {S : Place → Type 0} {z t : Place} → Chain o S z t [] → t ≡ z
chain-bottom (bottom i) = refl

-- The stations S' are S and a new one, q, after all of S; z is the first of S.
pub record Next (S S' : Place → Type 0) (z q : Place) : Type 0 where
  pub old : {w : Place} → S w → S' w
  pub new : S' q
  pub split : {w : Place} → S' w → (w ≡ q) ⊎ S w
  pub first : (w : Place) → S w → Before w z → ⊥
  pub last : (w : Place) → S w → Before w q

module _ (o : Slopes) (S S' : Place → Type 0) (z q : Place) (n : Next S S' z q) where
  open n use {old, new, split, first, last}

  -- A side that q does not see stays one.
  stays : {a b : Place} → Side o S a b → pos 0 ≤ℤ o.O a b q → Side o S' a b
  stays {a} {b} sd h = record { from = old sd.from; to = old sd.to; lex = sd.lex; left = λ w i. at w (split i); apart = λ w i. off w (split i) }
    where
      at : (w : Place) → (w ≡ q) ⊎ S w → pos 0 ≤ℤ o.O a b w
      at w (inl e) = rw e h
      at w (inr i) = sd.left w i

      off : (w : Place) → (w ≡ q) ⊎ S w → Before a w → Before w b → pos 0 <ℤ o.O a b w
      off w (inl e) aw wb = absurd (before-irrefl (before-trans (last b sd.to) (rw e at wb)))
      off w (inr i) aw wb = sd.apart w i aw wb

  -- And so do the sides below it.
  rest : {s : Place} {l : List Place} (t : Place) → Side o S s t → Chain o S z s l → pos 0 ≤ℤ o.O s t q → Chain o S' z s l
  rest t sd (bottom i) h = bottom (old i)
  rest {s} t sd (more {s = r} sr ch) h =
      let k : pos 0 ≤ℤ o.O r s q = below o r s t q sr.lex sd.lex (last s sr.to) (sr.left t sd.to) h in
      more (stays sr k) (rest s sr ch k)

  -- The new side t, q, from what is known of the stations before t and after t.
  joined : (t : Place) → S t → ((w : Place) → S w → Before w t → pos 0 ≤ℤ o.O t q w) → ((w : Place) → S w → Before t w → pos 0 <ℤ o.O t q w) → Side o S' t q
  joined t i bef aft = record { from = old i; to = new; lex = last t i; left = λ w j. at w (split j); apart = λ w j. off w (split j) }
    where
      near : (w : Place) → S w → Compared w t → pos 0 ≤ℤ o.O t q w
      near w j (same e) = rw e (omega (arith, int, zero_from o t q))
      near w j (earlier l) = bef w j l
      near w j (later l) = omega (arith, int, aft w j l)

      at : (w : Place) → (w ≡ q) ⊎ S w → pos 0 ≤ℤ o.O t q w
      at w (inl e) = rw e (omega (arith, int, zero_to o t q))
      at w (inr j) = near w j (compared w t)

      off : (w : Place) → (w ≡ q) ⊎ S w → Before t w → Before w q → pos 0 <ℤ o.O t q w
      off w (inl e) tw wq = absurd (before-irrefl (rw e at wq))
      off w (inr j) tw wq = aft w j tw

  -- What q leaves of a chain, and q on it, is a chain again. `aft` holds at first since no station is after the top, and then since the last side was seen.
  pub push : {t : Place} {l m : List Place} {ts : List Triangle} → Chain o S z t l → Pops o.O q t l m ts → ((w : Place) → S w → Before t w → pos 0 <ℤ o.O t q w) → Chain o S' z q m
  push (bottom i) end aft = more (joined z i (λ w j l. absurd (first w j l)) aft) (bottom (old i))
  push (more {t = t} {s = s} sd ch) (keep h) aft =
      more (joined t sd.to (λ w j l. older o w s t q l sd.lex (last t sd.to) (sd.left w j) h) aft) (more (stays sd h) (rest t sd ch h))
  push (more {t = t} {s = s} sd ch) (drop h r) aft = push ch r (λ w j l. newer o w s t q l sd.lex (last s sd.from) (sd.left w j) h)
