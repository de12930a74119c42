-- The rule of document 01 has one answer. Assumes nothing.
--
-- The lowest of the sides with a property is one side, so every start is determined by what is unused; from there each step is
-- determined, and so is where the line ends.
use Prim.Native.Nat.{ℕ, ◌<◌}
use mathlib.Core.Path.{◌≡◌, refl, sym, ◌∙◌, ap₂, subst}
use mathlib.Core.Bool.{Bool, true, false}
use mathlib.Core.Option.{Option, none, none-ne-some}
use mathlib.Core.Logic.{◌⊎◌, inl, inr}
use mathlib.Core.List.{List, ◌∷◌, ◌++◌}
use Rattle.trace.specs.Side.{Directed, inward}
use Rattle.trace.specs.Crossed.{Before}
use Rattle.trace.specs.Lines.{strike, Line, line}
use Rattle.trace.specs.Walk.{next}
use Rattle.trace.specs.Mesh.{count}
use Rattle.trace.specs.Rule.{Walk, hull, round, on, Lowest, IsHull, Opens, no_hull, opened, Closes, none_left, closed, Rule}
use Rattle.trace.proofs.CountLaws.{count_none}
use Rattle.trace.proofs.OrderLaws.{before-both}

pub lowest-unique : {P : Directed → Type 0} {l : List Directed} (d e : Directed) → Lowest P l d → Lowest P l e → d ≡ e
lowest-unique d e p q = by (q.least d p.there p.has) (p.least e q.there q.has)
  where
    by : (d ≡ e) ⊎ Before e d → (e ≡ d) ⊎ Before d e → d ≡ e
    by (inl f) g = f
    by (inr f) (inl g) = sym g
    by (inr f) (inr g) = absurd (before-both d e g f)

pub walk-unique : {follow : Directed → Option Directed} {s d : Directed} {c u : Bool} {p q : List Directed} → Walk follow s c d p → Walk follow s u d q → p ≡ q
walk-unique (hull e) (hull f) = refl
walk-unique (round e) (round f) = refl
walk-unique {s = s} (hull e) (round f) = absurd (none-ne-some s (sym e ∙ f))
walk-unique {s = s} (round e) (hull f) = absurd (none-ne-some s (sym f ∙ e))
walk-unique (hull e) (on {y = y} f nf v) = absurd (none-ne-some y (sym e ∙ f))
walk-unique (on {y = y} e ne w) (hull f) = absurd (none-ne-some y (sym f ∙ e))
walk-unique (round e) (on f nf v) = absurd (nf (cc))
walk-unique (on e ne w) (round f) = absurd (ne (cc))
walk-unique (on {y = y} e ne w) (on {y = z} f nf v) = let q : z ≡ y = cc in ap₂ ◌∷◌ (sym q) (walk-unique w (rw q at v))

-- No hull side is lowest where none is there.
no_lowest : (left : Directed → Option ℕ) {l : List Directed} (e : Directed) → ((d : Directed) → 0 < count d l → inward left d ≡ none)
    → Lowest (IsHull left) l e → ⊥
no_lowest left e f w = w.has (f e w.there)

pub opens-unique : {left : Directed → Option ℕ} {below : ℕ → Bool} {l m r : List Directed} {ls ms : List Line} → Opens left below l ls m
    → Opens left below l ms r
    → (ls ≡ ms) × (m ≡ r)
opens-unique (no_hull f) (no_hull g) = (refl, refl)
opens-unique {left} (no_hull f) (opened {e = e} a b w o) = absurd (no_lowest left e f a)
opens-unique {left} (opened {e = e} a b w o) (no_hull f) = absurd (no_lowest left e f a)
opens-unique {left} {below} {l} {m} {r} (opened {p = p} {e = e} {s = s} {ls = ls} a b w o) (opened {p = q} {e = d} {s = t} {ls = ms} f g v u) =
    let hd : d ≡ e = lowest-unique d e f a in
    let hs : t ≡ s = cc in
    let hp : q ≡ p = sym (walk-unique w (subst (λ z. Walk (next left below) z false z q) hs v)) in
    let h = opens-unique o (subst (λ z. Opens left below (strike z l) ms r) (ap₂ ◌∷◌ hs hp) u) in
    (ap₂ (λ x y. line false x ∷ y) (sym (ap₂ ◌∷◌ hs hp)) h.0, h.1)

pub closes-unique : {left : Directed → Option ℕ} {below : ℕ → Bool} {l : List Directed} {ls ms : List Line} → Closes left below l ls
    → Closes left below l ms → ls ≡ ms
closes-unique none_left none_left = refl
closes-unique none_left (closed {s = s} a w o) = absurd (count_none s a.there)
closes-unique (closed {s = s} a w o) none_left = absurd (count_none s a.there)
closes-unique {left} {below} {l} (closed {p = p} {s = s} {ls = ls} a w o) (closed {p = q} {s = t} {ls = ms} f v u) =
    let hs : t ≡ s = lowest-unique t s f a in
    let hp : q ≡ p = sym (walk-unique w (subst (λ z. Walk (next left below) z true z q) hs v)) in
    let h = closes-unique o (subst (λ z. Closes left below (strike z l) ms) (ap₂ ◌∷◌ hs hp) u) in
    ap₂ (λ x y. line true x ∷ y) (sym (ap₂ ◌∷◌ hs hp)) h

-- No two lists of lines follow the rule over the same unused sides.
pub rule-unique : {left : Directed → Option ℕ} {below : ℕ → Bool} {l : List Directed} {ls ms : List Line} → Rule left below l ls → Rule left below l ms
    → ls ≡ ms
rule-unique {left} {below} a b =
    let o = opens-unique a.open_first b.open_first in
    let c = closes-unique a.closed_then (subst (λ r. Closes left below r b.closes) (sym o.1) b.closed_then) in
    a.whole ∙ ap₂ ◌++◌ o.0 c ∙ sym b.whole
