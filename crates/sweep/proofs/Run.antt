-- While there is no triangle all stations stand on one line, and a new station stands on one side of all sides of the run, or in line with
-- them. Assumes nothing.
use mathlib.Core.Path.{◌≡◌}
use mathlib.Core.List.{List, [], ◌∷◌}
use mathlib.Core.Logic.{◌⊎◌, inl, inr, ⊎_elim}
use native.Mathlib.Omega.{arith}
use lib.IntN.{ℤ, pos, negsuc, ◌-ℤ◌}
use lib.Signed.{◌≤ℤ◌, ◌<ℤ◌}
use Rattle.whole.proofs.Bridge.{int, minus}
use Rattle.whole.proofs.TurnLaws.{turn-swap}
use Rattle.whole.specs.Place.{Place, Before}
use Rattle.whole.specs.Turn.{turn}
use Rattle.sweep.specs.Members.{In}
use Rattle.sweep.specs.Sweep.{State, Edge, edge, pairs, high}
use Rattle.sweep.proofs.Slopes.{Slopes, lower, upper, sign, level, below}
use Rattle.sweep.proofs.Stack.{Side, Chain, bottom, more}
use Rattle.sweep.proofs.MemberLaws.{any_cons, any_none}
use Rattle.sweep.proofs.Invariants.{Inv}
use Rattle.sweep.proofs.HullLaws.{pair-side, side-pair, before-top}

-- ---- a chain on one line: q is on the same side of all its sides
module _ (o : Slopes) (S : Place → Type 0) (z q : Place) (last : (w : Place) → S w → Before w q) (flat : (a b : Place) → Side o S a b → (w : Place) → S w → o.O a b w ≡ pos 0) where
  -- Not seeing the top side, q sees none below it (`below`).
  all_no : {s t : Place} {l : List Place} → Side o S s t → Chain o S z s l → pos 0 ≤ℤ o.O s t q → (e : Edge) → In e (pairs t (s ∷ l)) → pos 0 ≤ℤ o.O e.from e.to q
  unfolding pairs
  all_no {s} {t} sd (bottom j) h e i = ⊎_elim (λ p. rw p h) (λ k. absurd (any_none k)) (any_cons i)
  all_no {s} {t} sd (more {s = r} sr ch) h e i =
      ⊎_elim (λ p. rw p h) (λ k. all_no sr ch (below o r s t q sr.lex sd.lex (last s sd.from) (sr.left t sd.to) h) e k) (any_cons i)

  -- Seeing the top side, q sees all below it, since they are in line with it (`level`).
  all_yes : {s t : Place} {l : List Place} → Side o S s t → Chain o S z s l → o.O s t q <ℤ pos 0 → (e : Edge) → In e (pairs t (s ∷ l)) → o.O e.from e.to q <ℤ pos 0
  unfolding pairs
  all_yes {s} {t} sd (bottom j) h e i = ⊎_elim (λ p. rw p h) (λ k. absurd (any_none k)) (any_cons i)
  all_yes {s} {t} sd (more {s = r} sr ch) h e i = ⊎_elim (λ p. rw p h) (λ k. all_yes sr ch (down (o.O r s q) (λ n. up n)) e k) (any_cons i)
    where
      up : pos 0 ≤ℤ o.O r s q → pos 0 ≤ℤ o.O s t q
      up n = level o r s t q sr.lex sd.lex (last s sd.from) (flat r s sr t sd.to) n

      down : (x : ℤ) → (pos 0 ≤ℤ x → pos 0 ≤ℤ o.O s t q) → x <ℤ pos 0
      down (pos n) f = absurd (omega (arith, int, f (omega (arith, int))))
      down (negsuc n) f = omega (arith, int)

module _ (z : Place) (done : List Place) (s : State) (inv : Inv z done s) (e₀ : s.tris ≡ []) where
  -- The two chains are one, so every station is on each side's line.
  up_chain : Chain upper (λ w. In w done) z s.top s.lo
  up_chain = rw (inv.bare e₀).both inv.high

  -- A side of the one chain is a pair of it, so a side of the other: areas are at least 0 both ways.
  pub flat-low : (a b : Place) → Side lower (λ w. In w done) a b → (w : Place) → In w done → turn a b w ≡ pos 0
  flat-low a b d w i =
      let j : In (edge a b) (pairs s.top s.lo) = side-pair lower _ z inv.first a b d (before-top (λ w. In w done) s.top inv.last a b d.to d.lex) inv.low in
      omega (arith, int, d.left w i, (pair-side upper _ z inv.first up_chain (edge a b) j).left w i, turn-swap a b w, minus (pos 0) (turn b a w))

  flat_up : (a b : Place) → Side upper (λ w. In w done) a b → (w : Place) → In w done → high a b w ≡ pos 0
  flat_up a b d w i =
      let j : In (edge a b) (pairs s.top s.lo) = side-pair upper _ z inv.first a b d (before-top (λ w. In w done) s.top inv.last a b d.to d.lex) up_chain in
      omega (arith, int, d.left w i, (pair-side lower _ z inv.first inv.low (edge a b) j).left w i, turn-swap b a w, minus (pos 0) (turn a b w))

-- Where q stands to the sides es of a run: in line with all, right of all, or left of all.
pub data Standing (q : Place) (es : List Edge) : Type 0 where
  in_line : ((e : Edge) → In e es → turn e.from e.to q ≡ pos 0) → Standing q es
  on_right : ((e : Edge) → In e es → turn e.from e.to q <ℤ pos 0) → Standing q es
  on_left : ((e : Edge) → In e es → pos 0 <ℤ turn e.from e.to q) → Standing q es

module _ (z : Place) (done : List Place) (s : State) (q : Place) (inv : Inv z done s) (last : (w : Place) → In w done → Before w q) (e₀ : s.tris ≡ []) where
  swap : (e : Edge) → turn e.from e.to q ≡ pos 0 -ℤ turn e.to e.from q
  swap e = turn-swap e.from e.to q

  -- The sign at the top side decides for all.
  decided : {t : Place} {l : List Place} → Chain lower (λ w. In w done) z t l → Chain upper (λ w. In w done) z t l → Standing q (pairs t l)
  unfolding pairs
  decided (bottom i) ch = in_line (λ e j. absurd (any_none j))
  decided {t} (more {s = r} {l = l} sd ch) (more su cu) = go (sign (turn r t q)) (sign (turn t r q))
    where
      go : (pos 0 <ℤ turn r t q) ⊎ (turn r t q ≤ℤ pos 0) → (pos 0 <ℤ turn t r q) ⊎ (turn t r q ≤ℤ pos 0) → Standing q (pairs t (r ∷ l))
      go (inl h) k =
          on_left
          (λ e i.
          omega (
            arith,
            int,
            swap e,
            minus (pos 0) (turn e.to e.from q),
            all_yes upper _ z q last (flat_up z done s inv e₀) su cu (omega (arith, int, swap (edge r t), minus (pos 0) (turn t r q))) e i,
          ))
      go (inr h) (inl k) = on_right (λ e i. all_yes lower _ z q last (flat-low z done s inv e₀) sd ch (omega (arith, int, swap (edge r t), minus (pos 0) (turn t r q))) e i)
      go (inr h) (inr k) =
          in_line
          (λ e i.
          omega (
            arith,
            int,
            swap e,
            minus (pos 0) (turn e.to e.from q),
            all_no lower _ z q last (flat-low z done s inv e₀) sd ch (omega (arith, int, swap (edge r t), minus (pos 0) (turn t r q))) e i,
            all_no upper _ z q last (flat_up z done s inv e₀) su cu (omega (arith, int, swap (edge r t), minus (pos 0) (turn t r q))) e i,
          ))

  pub standing : Standing q (pairs s.top s.lo)
  standing = decided inv.low (up_chain z done s inv e₀)
