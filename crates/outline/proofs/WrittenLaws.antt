-- What a list says when sides were written into it: an entry is that of a side, or what it was (`entry_is`), and where a side starts it is
-- that of a side that starts there (`entry_of`). Assumes nothing.
use mathlib.Core.Path.{◌≡◌, refl, sym, ap, ◌∙◌, subst}
use mathlib.Core.Bool.{Bool, true, false}
use mathlib.Core.List.{List, [], ◌∷◌, ◌++◌}
use mathlib.Core.Logic.{◌⊎◌, inl, inr, ⊎_elim}
use Prim.Native.Nat.{ℕ, ◌+◌, ◌<◌}
use native.Mathlib.Decide.{ℕ_discrete}
use native.Mathlib.Numerals.{add-one}
use native.Mathlib.Omega.{arith}
use lib.ListN.{length, get_or, set, replicate, length-set, get_or-append, length-replicate}
use lib.Seq.{get_or-set_same, get_or-set_other}
use Rattle.std.proofs.lemmas.List.{get_or-replicate}
use Rattle.sweep.specs.Members.{Any, In, here, there}
use Rattle.sweep.specs.Sweep.{EdgeOf, edge}
use Rattle.sweep.proofs.MemberLaws.{any_cons, any_none}
use Rattle.outline.specs.Outline.{side_on, sides_on, written}

pub written-append : (es ds : List (EdgeOf ℕ)) (next : List ℕ) → written (es ++ ds) next ≡ written es (written ds next)
unfolding written
written-append [] ds next = refl
written-append (e ∷ es) ds next = ap (λ l. set l e.from e.to) (written-append es ds next)

written-length : (es : List (EdgeOf ℕ)) (next : List ℕ) → length (written es next) ≡ length next
unfolding written
written-length [] next = refl
written-length (e ∷ es) next = length-set (written es next) e.from e.to ∙ written-length es next

-- ---- the loops
-- The sides of a chain, from the bottom up.
pub written_none : (upper : Bool) (chain next : List ℕ) → next ≡ written (sides_on upper chain 0) next
unfolding written sides_on
written_none upper chain next = refl

pub written-more : (upper : Bool) (chain old : List ℕ) (k : ℕ) {next left : List ℕ} → next ≡ written (sides_on upper chain k) old
    → left ≡ set next (side_on upper chain k).from (side_on upper chain k).to → left ≡ written (sides_on upper chain (k + 1)) old
unfolding written sides_on
written-more upper chain old k e f =
    f
    ∙ ap (λ l. set l (side_on upper chain k).from (side_on upper chain k).to) e
    ∙ ap (λ n. written (sides_on upper chain n) old) (sym (add-one k))

-- One side, of either chain.
module _ (upper : Bool) (chain next : List ℕ) (k : ℕ) where
  pub side-above : upper ≡ true
      → set next (get_or chain (k + 1) 0) (get_or chain k 0) ≡ set next (side_on upper chain k).from (side_on upper chain k).to
  unfolding side_on
  side-above e = rw e

  pub side-below : upper ≡ false
      → set next (get_or chain k 0) (get_or chain (k + 1) 0) ≡ set next (side_on upper chain k).from (side_on upper chain k).to
  unfolding side_on
  side-below e = rw e

-- The first entries of a list, where v stands n times in front.
pub filled_at : (n v : ℕ) (front rest : List ℕ) → front ≡ replicate n v → (k : ℕ) → k < n → get_or (front ++ rest) k 0 ≡ v
filled_at n v front rest e k h =
    rw e (get_or-append (replicate n v) rest 0 k (omega (arith, length-replicate n v)) ∙ get_or-replicate n k v 0 h)

-- ---- entries
module _ (next : List ℕ) (i : ℕ) (within : i < length next) where
  -- Entry i behind the store of a side that starts there, and of another one.
  own : (e : EdgeOf ℕ) (es : List (EdgeOf ℕ)) → e.from ≡ i → edge i (get_or (set (written es next) e.from e.to) i 0) ≡ e
  own e es p =
      let stored = get_or-set_same (written es next) i e.to 0 (omega (arith, written-length es next, within)) in
      λ k. edge (sym p k) (subst (λ j. get_or (set (written es next) j e.to) i 0 ≡ e.to) (sym p) stored k)

  past : (e : EdgeOf ℕ) (es : List (EdgeOf ℕ)) → (e.from ≡ i → ⊥) → get_or (set (written es next) e.from e.to) i 0 ≡ get_or (written es next) i 0
  past e es d = get_or-set_other (written es next) e.from i e.to 0 (λ p. d (sym p))

  pub entry_is : (es : List (EdgeOf ℕ)) → In (edge i (get_or (written es next) i 0)) es ⊎ (get_or (written es next) i 0 ≡ get_or next i 0)
  unfolding written
  entry_is [] = inr refl
  entry_is (e ∷ es) = go (ℕ_discrete e.from i) (entry_is es)
    where
      go : Dec (e.from ≡ i) → In (edge i (get_or (written es next) i 0)) es ⊎ (get_or (written es next) i 0 ≡ get_or next i 0)
          → In (edge i (get_or (set (written es next) e.from e.to) i 0)) (e ∷ es)
          ⊎ (get_or (set (written es next) e.from e.to) i 0 ≡ get_or next i 0)
      go (yes p) r = inl (here (own e es p))
      go (no d) r = ⊎_elim (λ j. inl (there (subst (λ v. In (edge i v) es) (sym (past e es d)) j))) (λ q. inr (past e es d ∙ q)) r

  pub entry_of : (es : List (EdgeOf ℕ)) → Any (λ e. e.from ≡ i) es → In (edge i (get_or (written es next) i 0)) es
  unfolding written
  entry_of [] j = absurd (any_none j)
  entry_of (e ∷ es) j = go (ℕ_discrete e.from i) (λ k. entry_of es k) (any_cons j)
    where
      go : Dec (e.from ≡ i) → (Any (λ d. d.from ≡ i) es → In (edge i (get_or (written es next) i 0)) es) → (e.from ≡ i) ⊎ Any (λ d. d.from ≡ i) es
          → In (edge i (get_or (set (written es next) e.from e.to) i 0)) (e ∷ es)
      go (yes p) r k = here (own e es p)
      go (no d) r k = ⊎_elim (λ p. absurd (d p)) (λ q. there (subst (λ v. In (edge i v) es) (sym (past e es d)) (r q))) k
