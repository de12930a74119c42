-- The stations of the sweep's two chains, and the ends of their sides, are among the stations that were swept: `swept-among`, `side-among`.
-- Assumes nothing.
use mathlib.Core.Path.{◌≡◌, refl}
use mathlib.Core.Bool.{Bool, true, false}
use mathlib.Core.List.{List, [], ◌∷◌}
use mathlib.Core.Logic.{⊎_elim}
use Prim.Native.Nat.{ℕ, ◌<◌}
use native.Mathlib.Omega.{arith}
use lib.IntN.{ℤ, pos}
use lib.ListN.{length}
use lib.Signed.{lt_z}
use Rattle.whole.specs.Place.{Place}
use Rattle.whole.specs.Turn.{turn}
use Rattle.sweep.specs.Members.{In, here, there}
use Rattle.sweep.specs.Sweep.{high, pop, StateOf, EdgeOf, turned, pairs, by, step_n, sweep_n, mesh_n, start}
use Rattle.sweep.proofs.MemberLaws.{any_cons, any_none, any_map, any_find}
use Rattle.triangles.specs.Growth.{swept}
use Rattle.outline.specs.Outline.{chain_sides}

-- What is left of a chain is of the chain.
pop_in : (o : ℕ → ℕ → ℕ → ℤ) (q t : ℕ) (l : List ℕ) (x : ℕ) → In x (pop o q t l) → In x (t ∷ l)
unfolding pop
pop_in o q t [] x i = i
pop_in o q t (s ∷ l) x i = go (lt_z (o s t q) (pos 0)) (λ j. pop_in o q s l x j) i
  where
    go : (b : Bool) → (In x (pop o q s l) → In x (s ∷ l)) → In x (elim b [ true ↦ pop o q s l | false ↦ t ∷ s ∷ l ]) → In x (t ∷ s ∷ l)
    go true below j = there (below j)
    go false below j = j

pub record Among (s : StateOf ℕ) (done : List ℕ) : Type 0 where
  pub last : In s.top done
  pub low : (x : ℕ) → In x s.lo → In x done
  pub above : (x : ℕ) → In x s.up → In x done

module _ (f : ℕ → Place) (done : List ℕ) where
  among-step : (s : StateOf ℕ) (q : ℕ) → In q done → Among s done → Among (step_n f s q) done
  unfolding step_n
  among-step s q i a =
      record {
        last = i;
        low = λ x j. of s.lo a.low x (pop_in (by f turn) q s.top s.lo x j);
        above = λ x j. of s.up a.above x (pop_in (by f high) q s.top s.up x j);
      }
    where
      of : (l : List ℕ) → ((x : ℕ) → In x l → In x done) → (x : ℕ) → In x (s.top ∷ l) → In x done
      of l h x j = ⊎_elim (λ e. rw e a.last) (λ k. h x k) (any_cons j)

  among-sweep : (s : StateOf ℕ) (l : List ℕ) → ((x : ℕ) → In x l → In x done) → Among s done → Among (sweep_n f s l) done
  unfolding sweep_n
  among-sweep s [] h a = a
  among-sweep s (q ∷ l) h a = among-sweep (step_n f s q) l (λ x i. h x (there i)) (among-step s q (h q (here refl)) a)

pub swept-among : (f : ℕ → Place) (l : List ℕ) → 0 < length l → Among (swept f l) l
unfolding mesh_n
swept-among f [] h = absurd (omega arith)
swept-among f (p ∷ ps) h =
    among-sweep f (p ∷ ps) (start p) ps (λ x i. there i) (record { last = here refl; low = λ x i. absurd (any_none i); above = λ x i. absurd (any_none i) })

-- ---- the ends of their sides
pub record Ends (e : EdgeOf ℕ) (done : List ℕ) : Type 0 where
  pub from_in : In e.from done
  pub to_in : In e.to done

pair_ends : (done : List ℕ) (t : ℕ) (l : List ℕ) → In t done → ((x : ℕ) → In x l → In x done) → (e : EdgeOf ℕ) → In e (pairs t l) → Ends e done
unfolding pairs
pair_ends done t [] i h e j = absurd (any_none j)
pair_ends done t (s ∷ l) i h e j =
    ⊎_elim (λ p. rw p (record { from_in = h s (here refl); to_in = i })) (λ k. pair_ends done s l (h s (here refl)) (λ x q. h x (there q)) e k) (any_cons j)

pub side-among : {s : StateOf ℕ} {done : List ℕ} → Among s done → (upper : Bool) (e : EdgeOf ℕ) → In e (chain_sides upper s) → Ends e done
unfolding chain_sides
side-among {s} {done} a false e i = pair_ends done s.top s.lo a.last a.low e i
side-among {s} {done} a true e i = go (any_find (any_map turned (pairs s.top s.up) i))
  where
    go : (d : EdgeOf ℕ) × In d (pairs s.top s.up) × (e ≡ turned d) → Ends e done
    go r =
        let p = pair_ends done s.top s.up a.last a.above r.0 r.1 in
        rw r.2 (record { from_in = p.to_in; to_in = p.from_in })
