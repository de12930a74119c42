-- A chain climbed in a slice is the sweep's chain: one station more pops the sides that it sees and stands on top. Assumes nothing.
use mathlib.Core.Path.{◌≡◌, refl, sym, ap, ◌∙◌, subst}
use mathlib.Core.Bool.{Bool, true, false, cond}
use mathlib.Core.List.{List, [], ◌∷◌, map}
use mathlib.Core.Logic.{⊎_elim}
use Prim.Native.Nat.{ℕ, suc, ◌+◌, ◌≤◌, ◌<◌}
use native.Mathlib.Decide.{dec_lt}
use native.Mathlib.Numerals.{add-one}
use native.Mathlib.Omega.{arith}
use lib.IntN.{ℤ}
use lib.ListN.{length, get_or, set, take, length-take}
use lib.Seq.{get_or-set_same}
use Rattle.whole.specs.Place.{Place}
use Rattle.whole.specs.Turn.{turn}
use Rattle.sweep.specs.Members.{In, here, there}
use Rattle.sweep.specs.Sweep.{high, by, StateOf, edge, turned, pairs, step_n, sweep_n, mesh_n}
use Rattle.sweep.proofs.MemberLaws.{any_cons}
use Rattle.triangles.specs.Chain.{is_seen, is_seen_at}
use Rattle.triangles.specs.Growth.{left, swept}
use Rattle.triangles.proofs.ChainLaws.{down_le}
use Rattle.triangles.proofs.SliceLaws.{OnSlice, bottom, above, on_push, Left}
use Rattle.triangles.proofs.SliceLaws as slice
use Rattle.triangles.proofs.SweptLaws.{swept-next}
use Rattle.outline.specs.Outline.{chain_sides, side_on, sides_on, Climbed}
use Rattle.outline.proofs.AmongLaws.{Among, swept-among}

-- The stations below the top of one of the two chains, and how that chain looks at a side.
abbrev chain_of : Bool → StateOf ℕ → List ℕ
chain_of upper s = cond upper s.up s.lo

abbrev look_of : Bool → (ℕ → Place) → ℕ → ℕ → ℕ → ℤ
look_of upper f = cond upper (by f high) (by f turn)

-- The first i stations are climbed, and the chain is shorter than i + 1.
pub record Climbing (f : ℕ → Place) (upper : Bool) (order chain : List ℕ) (a i : ℕ) : Type 0 where
  pub some : 0 < i
  pub below : a < i
  pub on : OnSlice chain a (swept f (take i order)).top (chain_of upper (swept f (take i order)))

-- One station alone.
pub climb-start : (f : ℕ → Place) (upper : Bool) (order chain : List ℕ) → 0 < length order → 0 < length chain
    → Climbing f upper order (set chain 0 (get_or order 0 0)) 0 1
unfolding mesh_n sweep_n
climb-start f upper [] chain h l = absurd (omega arith)
climb-start f true (p ∷ ps) chain h l = record { some = omega arith; below = omega arith; on = bottom (get_or-set_same chain 0 p 0 l) }
climb-start f false (p ∷ ps) chain h l = record { some = omega arith; below = omega arith; on = bottom (get_or-set_same chain 0 p 0 l) }

-- What a station leaves of a chain, and the chain with it on top.
leaves : (f : ℕ → Place) (upper : Bool) (q : ℕ) {chain : List ℕ} {a t : ℕ} {l : List ℕ} → OnSlice chain a t l
    → Left (look_of upper f) chain q (left f upper chain a q) a t l
unfolding is_seen
leaves f true q {chain} c = slice.left (by f high) chain q c
leaves f false q {chain} c = slice.left (by f turn) chain q c

popped_is : (f : ℕ → Place) (upper : Bool) (s : StateOf ℕ) (q : ℕ) {chain : List ℕ} {j a : ℕ}
    → (r : Left (look_of upper f) chain q j a s.top (chain_of upper s)) → chain_of upper (step_n f s q) ≡ r.top ∷ r.rest
unfolding step_n
popped_is f true s q r = r.popped
popped_is f false s q r = r.popped

stepped : (f : ℕ → Place) (upper : Bool) (s : StateOf ℕ) (q : ℕ) {chain : List ℕ} {a : ℕ} → left f upper chain a q + 1 < length chain
    → OnSlice chain a s.top (chain_of upper s)
    → OnSlice (set chain (left f upper chain a q + 1) q) (left f upper chain a q + 1) (step_n f s q).top (chain_of upper (step_n f s q))
unfolding step_n
stepped f upper s q {chain} {a} h c =
    let r = leaves f upper q c in
    subst (OnSlice (set chain (left f upper chain a q + 1) q) (left f upper chain a q + 1) q) (sym (popped_is f upper s q r)) (on_push q h r.on)

-- One station more.
pub climb-next : (f : ℕ → Place) (upper : Bool) (order : List ℕ) {chain : List ℕ} {a i j : ℕ} → Climbing f upper order chain a i → i < length order
    → i < length chain → j ≡ left f upper chain a (get_or order i 0) → Climbing f upper order (set chain (j + 1) (get_or order i 0)) (j + 1) (i + 1)
climb-next f upper order {chain} {a} {i} {j} g h l e =
    rw e
    (record {
      some = omega arith;
      below = omega (arith, g.below, least);
      on = rw next (stepped f upper (swept f (take i order)) (get_or order i 0) (omega (arith, g.below, least)) g.on);
    })
  where
    least : left f upper chain a (get_or order i 0) ≤ a
    least = down_le (is_seen_at f upper chain (get_or order i 0)) a

    next : swept f (take (i + 1) order) ≡ step_n f (swept f (take i order)) (get_or order i 0)
    next = ap (λ m. swept f (take m order)) (add-one i) ∙ swept-next f order i g.some h

-- ---- the chain in the slice
on_top : {chain : List ℕ} {a t : ℕ} {l : List ℕ} → OnSlice chain a t l → get_or chain a 0 ≡ t
on_top (bottom e) = e
on_top (above e c) = e

-- Its sides.
on_sides : (upper : Bool) {chain : List ℕ} {a t : ℕ} {l : List ℕ} → OnSlice chain a t l
    → sides_on upper chain a ≡ cond upper (map turned (pairs t l)) (pairs t l)
unfolding sides_on side_on pairs
on_sides true (bottom e) = refl
on_sides false (bottom e) = refl
on_sides true {chain} (above {a = a} e c) = λ i. edge ((ap (λ n. get_or chain n 0) (add-one a) ∙ e) i) (on_top c i) ∷ on_sides true c i
on_sides false {chain} (above {a = a} e c) = λ i. edge (on_top c i) ((ap (λ n. get_or chain n 0) (add-one a) ∙ e) i) ∷ on_sides false c i

-- Its stations.
on_in : {chain : List ℕ} {a t : ℕ} {l : List ℕ} → OnSlice chain a t l → (k : ℕ) → k ≤ a → In (get_or chain k 0) (t ∷ l)
on_in {chain} (bottom e) k h = let z : k ≡ 0 = omega arith in rw z (here e)
on_in {chain} (above {a = a} {t = t} {s = s} {l = l} e c) k h = go (dec_lt a k) (λ q. on_in c k q)
  where
    go : Dec (a < k) → (k ≤ a → In (get_or chain k 0) (s ∷ l)) → In (get_or chain k 0) (t ∷ s ∷ l)
    go (yes q) r = let n : k ≡ suc a = omega arith in here (ap (λ m. get_or chain m 0) n ∙ e)
    go (no q) r = there (r (omega arith))

chain_in : {s : StateOf ℕ} {done : List ℕ} → Among s done → (upper : Bool) (x : ℕ) → In x (s.top ∷ chain_of upper s) → In x done
chain_in {s} {done} a upper x i = ⊎_elim (λ e. rw e a.last) (go upper) (any_cons i)
  where
    go : (b : Bool) → In x (chain_of b s) → In x done
    go true j = a.above x j
    go false j = a.low x j

-- All stations climbed.
pub climbed : (f : ℕ → Place) (upper : Bool) (order : List ℕ) (n : ℕ) {chain : List ℕ} {a i : ℕ} → n ≤ length order → i ≡ n
    → Climbing f upper order chain a i → Climbed f upper (take n order) chain a
unfolding chain_sides
climbed f upper order n {chain} {a} {i} h e g =
    record {
      sides = on_sides upper on ∙ same upper;
      stations = λ k l. chain_in (swept-among f (take n order) (omega (arith, size, g.some))) upper (get_or chain k 0) (on_in on k l);
      below = omega (arith, g.below, size);
    }
  where
    size : length (take n order) ≡ n
    size = omega (arith, length-take n order)

    on : OnSlice chain a (swept f (take n order)).top (chain_of upper (swept f (take n order)))
    on = subst (λ k. OnSlice chain a (swept f (take k order)).top (chain_of upper (swept f (take k order)))) e g.on

    state : StateOf ℕ
    state = swept f (take n order)

    same : (b : Bool) → cond b (map turned (pairs state.top (chain_of b state))) (pairs state.top (chain_of b state)) ≡ chain_sides b state
    same true = refl
    same false = refl
