-- The sides that a new station pops off a chain are exactly those that it sees strictly. Assumes nothing.
--
-- Where q does not see a side of a chain, it sees none below it (`below`), so popping stops at the first side that is not seen.
use mathlib.Core.Path.{◌≡◌, refl, sym, ◌∙◌, ap}
use mathlib.Core.Bool.{Bool, true, false}
use mathlib.Core.List.{List, [], ◌∷◌, ◌++◌, reverse, map, reverse-cons, append-nil}
use lib.IntN.{ℤ, pos}
use lib.Signed.{lt_z, ◌≤ℤ◌, ◌<ℤ◌}
use Rattle.whole.proofs.Bridge.{true-test, false-test, test-false}
use Rattle.whole.specs.Place.{Place, Before}
use Rattle.whole.specs.Turn.{turn}
use Rattle.sweep.specs.Members.{here, there, In}
use Rattle.sweep.specs.Sweep.{Three, tri, mirror, fan, EdgeOf, edge, turned, pairs, joined, high, by}
use Rattle.sweep.proofs.Slopes.{Slopes, below}
use Rattle.sweep.proofs.Stack.{Side, Chain, chain-side, chain-rest}

-- Lists of sides, of which the head is seen or not, all are, or none is.
module _ {A : Type 0} (O : A → A → A → ℤ) (q : A) where
  joined-yes : (e : EdgeOf A) (es : List (EdgeOf A)) → O e.from e.to q <ℤ pos 0 → joined O q (e ∷ es) ≡ tri e.from q e.to ∷ joined O q es
  unfolding joined
  joined-yes e es h = rw (true-test h, joined)

  joined_no : (e : EdgeOf A) (es : List (EdgeOf A)) → pos 0 ≤ℤ O e.from e.to q → joined O q (e ∷ es) ≡ joined O q es
  unfolding joined
  joined_no e es h = rw (false-test h, joined)

  pub joined_all : (es : List (EdgeOf A)) → ((e : EdgeOf A) → In e es → O e.from e.to q <ℤ pos 0) → joined O q es ≡ map (λ e. tri e.from q e.to) es
  unfolding joined
  joined_all [] h = refl
  joined_all (e ∷ es) h = joined-yes e es (h e (here refl)) ∙ ap (λ ts. tri e.from q e.to ∷ ts) (joined_all es (λ f i. h f (there i)))

  pub joined_none : (es : List (EdgeOf A)) → ((e : EdgeOf A) → In e es → pos 0 ≤ℤ O e.from e.to q) → joined O q es ≡ []
  unfolding joined
  joined_none [] h = refl
  joined_none (e ∷ es) h = joined_no e es (h e (here refl)) ∙ joined_none es (λ f i. h f (there i))

  pub joined-append : (es fs : List (EdgeOf A)) → joined O q (es ++ fs) ≡ joined O q es ++ joined O q fs
  unfolding joined
  joined-append [] fs = refl
  joined-append (e ∷ es) fs = go (lt_z (O e.from e.to q) (pos 0)) (joined-append es fs)
    where
      go : (b : Bool) → joined O q (es ++ fs) ≡ joined O q es ++ joined O q fs →
          (elim b [ true ↦ tri e.from q e.to ∷ joined O q (es ++ fs) | false ↦ joined O q (es ++ fs) ]) ≡
          (elim b [ true ↦ tri e.from q e.to ∷ joined O q es | false ↦ joined O q es ]) ++ joined O q fs
      go true h = rw h
      go false h = h

  pub joined-reverse : (es : List (EdgeOf A)) → joined O q (reverse es) ≡ reverse (joined O q es)
  unfolding joined
  joined-reverse [] = refl
  joined-reverse (e ∷ es) =
      rw (reverse-cons e es) (joined-append (reverse es) (e ∷ []) ∙ rw (joined-reverse es) (go (lt_z (O e.from e.to q) (pos 0))))
    where
      go : (b : Bool) → reverse (joined O q es) ++ (elim b [ true ↦ tri e.from q e.to ∷ [] | false ↦ [] ]) ≡
          reverse (elim b [ true ↦ tri e.from q e.to ∷ joined O q es | false ↦ joined O q es ])
      go true = sym (reverse-cons (tri e.from q e.to) (joined O q es))
      go false = append-nil (reverse (joined O q es))

-- The upper chain's sides run the other way on the outline.
pub joined-turned : {A : Type 0} (f : A → Place) (q : A) (es : List (EdgeOf A)) → joined (by f turn) q (map turned es) ≡ map mirror (joined (by f high) q es)
unfolding joined
joined-turned f q [] = refl
joined-turned {A} f q (e ∷ es) = go (lt_z (turn (f e.to) (f e.from) (f q)) (pos 0)) (joined-turned f q es)
  where
    go : (b : Bool) → joined (by f turn) q (map turned es) ≡ map mirror (joined (by f high) q es) →
        (elim b [ true ↦ tri e.to q e.from ∷ joined (by f turn) q (map turned es) | false ↦ joined (by f turn) q (map turned es) ]) ≡
        map (mirror {A = A}) (elim b [ true ↦ tri e.from q e.to ∷ joined (by f high) q es | false ↦ joined (by f high) q es ])
    go true h = rw h
    go false h = h

module _ {A : Type 0} (f : A → Place) (o : Slopes) (S : Place → Type 0) (z : Place) (q : A) (last : (w : Place) → S w → Before w (f q)) where
  -- q sees no side below one that it does not see.
  unseen : (t s : A) (l : List A) → Side o S (f s) (f t) → Chain o S z (f s) (map f l) → pos 0 ≤ℤ o.O (f s) (f t) (f q) → joined (by f o.O) q (pairs s l) ≡ []
  unfolding joined pairs
  unseen t s [] sd ch h = refl
  unseen t s (r ∷ l) sd ch h =
      let sr = chain-side ch in
      let k : pos 0 ≤ℤ o.O (f r) (f s) (f q) = below o (f r) (f s) (f t) (f q) sr.lex sd.lex (last (f s) sr.to) (sr.left (f t) sd.to) h in
      joined_no (by f o.O) q (edge r s) (pairs r l) k ∙ unseen s r l sr (chain-rest ch) k

  -- So the triangles of the popped sides are those of all sides seen.
  pub seen : (t : A) (l : List A) → Chain o S z (f t) (map f l) → fan (by f o.O) q t l ≡ joined (by f o.O) q (pairs t l)
  unfolding fan joined pairs
  seen t [] ch = refl
  seen t (s ∷ l) ch = go (lt_z (o.O (f s) (f t) (f q)) (pos 0)) refl (seen s l (chain-rest ch))
    where
      go : (b : Bool) → lt_z (o.O (f s) (f t) (f q)) (pos 0) ≡ b → fan (by f o.O) q s l ≡ joined (by f o.O) q (pairs s l) →
          ◌≡◌ {A = List (Three A)} (elim b [ true ↦ tri s q t ∷ fan (by f o.O) q s l | false ↦ [] ])
          (elim b [ true ↦ tri s q t ∷ joined (by f o.O) q (pairs s l) | false ↦ joined (by f o.O) q (pairs s l) ])
      go true e r = ap (λ ts. tri s q t ∷ ts) r
      go false e r = sym (unseen t s l (chain-side ch) (chain-rest ch) (test-false e))
