-- The sweep station by station: one station more is one step more, the first stations of a list in order are in order, and the triangles
-- always fit their room. Assumes nothing.
use mathlib.Core.Path.{◌≡◌, refl, sym, ap, ◌∙◌}
use mathlib.Core.Bool.{true, false}
use mathlib.Core.List.{List, [], ◌∷◌, ◌++◌, map}
use Prim.Native.Nat.{ℕ, zero, suc, ◌+◌, ◌*◌, ◌-◌, ◌≤◌, ◌<◌}
use native.Mathlib.Omega.{arith}
use native.Mathlib.Numerals.{add-one}
use lib.ListN.{length, get_or, set, take, drop, length-map, length-take}
use lib.Seq.{get_or-set_same}
use Rattle.std.proofs.lemmas.List.{get_or-take, length-take-le}
use Rattle.std.proofs.lemmas.Grind.{get_or_after_one}
use Rattle.whole.specs.Place.{Place}
use Rattle.sweep.specs.Members.{here}
use Rattle.sweep.specs.Rising.{Rises, ends, goes}
use Rattle.sweep.specs.Sweep.{Triangle, StateOf, step_n, sweep_n, mesh_n, mesh, flat}
use Rattle.sweep.proofs.Facts.{Facts, facts}
use Rattle.sweep.proofs.Numbers.{mesh-map}
use Rattle.triangles.specs.Chain.{is_seen_at}
use Rattle.triangles.specs.Growth.{left, Growth, swept, Rising}
use Rattle.triangles.proofs.ChainLaws.{down_le}
use Rattle.triangles.proofs.SliceLaws.{bottom}
use Rattle.triangles.proofs.GrowthLaws.{Held, held, held-count}

sweep-more : (f : ℕ → Place) (s : StateOf ℕ) (l : List ℕ) (q : ℕ) → sweep_n f s (l ++ (q ∷ [])) ≡ step_n f (sweep_n f s l) q
unfolding sweep_n
sweep-more f s [] q = refl
sweep-more f s (p ∷ l) q = sweep-more f (step_n f s p) l q

take_next : (l : List ℕ) (i : ℕ) → i < length l → take (suc i) l ≡ take i l ++ (get_or l i 0 ∷ [])
take_next [] i h = absurd (omega arith)
take_next (x ∷ l) zero h = refl
take_next (x ∷ l) (suc i) h = ap (λ m. x ∷ m) (take_next l i (omega arith))

-- One station more.
pub swept-next : (f : ℕ → Place) (l : List ℕ) (i : ℕ) → 0 < i → i < length l → swept f (take (suc i) l) ≡ step_n f (swept f (take i l)) (get_or l i 0)
unfolding mesh_n
swept-next f [] i h e = absurd (omega arith)
swept-next f (p ∷ ps) zero h e = absurd (omega arith)
swept-next f (p ∷ ps) (suc i) h e = ap (λ m. mesh_n f p m) (take_next ps i (omega arith)) ∙ sweep-more f _ (take i ps) (get_or ps i 0)

-- The first stations.
front : (f : ℕ → Place) (p : ℕ) (ps : List ℕ) (i : ℕ) → Rises (f p) (map f ps) → Rises (f p) (map f (take i ps))
front f p ps zero r = ends
front f p [] (suc i) r = ends
front f p (q ∷ ps) (suc i) (goes b r) = goes b (front f q ps i r)

pub rising-front : (f : ℕ → Place) (l : List ℕ) (i : ℕ) → Rising f l → Rising f (take i l)
rising-front f l zero r = tt
rising-front f [] (suc i) r = tt
rising-front f (p ∷ ps) (suc i) r = front f p ps i r

-- With b hull sides there are 2n - b - 2 triangles, and where there is one, b is three at least.
pub swept-fits : (f : ℕ → Place) (l : List ℕ) (n : ℕ) → 3 ≤ n → length l ≤ n → Rising f l → length (swept f l).tris ≤ 2 * n - 5
unfolding mesh_n
swept-fits f [] n h e r = omega arith
swept-fits f (p ∷ ps) n h e r = go (mesh (f p) (map f ps)).tris refl
  where
    all : Facts (f p) (map f ps)
    all = facts (f p) (map f ps) r

    same : length (mesh_n f p ps).tris ≡ length (mesh (f p) (map f ps)).tris
    same = sym (length-map (mesh_n f p ps).tris _) ∙ ap (λ s. length s.tris) (mesh-map f p ps)

    go : (ts : List Triangle) → (mesh (f p) (map f ps)).tris ≡ ts → length (mesh_n f p ps).tris ≤ 2 * n - 5
    go [] t = omega (arith, same, ap length t)
    go (u ∷ ts) t = omega (arith, same, all.count, all.three u (rw t (here refl)), length-map ps f)

-- ---- the loop of the sweep
take_within : (l : List ℕ) (m n : ℕ) → m ≤ n → take m (take n l) ≡ take m l
take_within l zero n h = refl
take_within [] (suc m) zero h = refl
take_within [] (suc m) (suc n) h = refl
take_within (x ∷ l) (suc m) zero h = absurd (omega arith)
take_within (x ∷ l) (suc m) (suc n) h = ap (λ k. x ∷ k) (take_within l m n (omega arith))

-- The station at place k behind the first one.
pub next_read : (l : List ℕ) (n k : ℕ) → k + 1 < n → get_or (take (n - 1) (drop 1 l)) k 0 ≡ get_or l (k + 1) 0
next_read l n k h =
    let e : 1 + k ≡ k + 1 = omega arith in
    get_or-take (n - 1) (drop 1 l) k 0 (omega arith) ∙ get_or_after_one l k 0 ∙ ap (λ i. get_or l i 0) e

behind_one : (l : List ℕ) → length (drop 1 l) ≡ length l - 1
behind_one [] = refl
behind_one (x ∷ l) = omega arith

pub next_length : (l : List ℕ) (n : ℕ) → n ≤ length l → length (take (n - 1) (drop 1 l)) ≡ n - 1
next_length l n h = length-take-le (n - 1) (drop 1 l) (omega (arith, behind_one l))

-- The first i stations of the order are swept: the slices hold the sweep's state, and each chain is shorter than i + 1.
pub record Going (f : ℕ → Place) (order old lo : List ℕ) (a : ℕ) (up : List ℕ) (b : ℕ) (room : List ℕ) (k i : ℕ) : Type 0 where
  pub some : 0 < i
  pub a_below : a < i
  pub b-below : b < i
  pub held : Held lo a up b room k old (swept f (take i order))

-- One station alone.
pub going_start : (f : ℕ → Place) (order old lo up : List ℕ) → 0 < length order → 0 < length lo → 0 < length up
    → Going f order old (set lo 0 (get_or order 0 0)) 0 (set up 0 (get_or order 0 0)) 0 old 0 1
unfolding mesh_n sweep_n flat
going_start f [] old lo up h l u = absurd (omega arith)
going_start f (p ∷ ps) old lo up h l u =
    record {
      some = omega arith;
      a_below = omega arith;
      b-below = omega arith;
      held =
          record {
            low = bottom (get_or-set_same lo 0 p 0 l);
            above = bottom (get_or-set_same up 0 p 0 u);
            count = refl;
            room_is = refl;
          };
    }

module _ (f : ℕ → Place) (order : List ℕ) (n : ℕ) (least : 3 ≤ n) (enough : n ≤ length order) (rising : Rising f (take n order)) where
  -- The triangles of the first stations fit.
  pub next_fits : (i : ℕ) → 0 < i → i < n → length (step_n f (swept f (take i order)) (get_or order i 0)).tris ≤ 2 * n - 5
  next_fits i h l =
      let e = swept-next f order i h (omega arith) in
      let r : Rising f (take (suc i) order) = rw (take_within order (suc i) n (omega arith)) at (rising-front f (take n order) (suc i) rising) in
      rw e at (swept-fits f (take (suc i) order) n least (omega (arith, length-take (suc i) order)) r)

  module _ {old lo : List ℕ} {a : ℕ} {up : List ℕ} {b : ℕ} {room : List ℕ} {k i : ℕ} (g : Going f order old lo a up b room k i) (more : i < n) where
    -- So do those of one station more.
    pub going-fits : 3 * (2 * n - 5) ≤ length old
        → 3 * (k + (a - left f false lo a (get_or order i 0)) + (b - left f true up b (get_or order i 0))) ≤ length old
    going-fits h = omega (arith, next_fits i g.some more, held-count f (get_or order i 0) (swept f (take i order)) g.held)

    -- One station more.
    pub going_next : {lo' up' room' : List ℕ} {a' b' k' : ℕ} → n ≤ length lo → n ≤ length up → 3 * (2 * n - 5) ≤ length old
        → Growth f (get_or order i 0) lo a up b room k a' lo' b' up' k' room'
        → Going f order old lo' a' up' b' room' k' (i + 1)
    going_next hl hu h w =
        let q = get_or order i 0 in
        let e : swept f (take (i + 1) order) ≡ step_n f (swept f (take i order)) q = ap (λ m. swept f (take m order)) (add-one i) ∙ swept-next f order i g.some (omega arith) in
        record {
          some = omega arith;
          a_below = omega (arith, w.low-top, g.a_below, down_le (is_seen_at f false lo q) a);
          b-below = omega (arith, w.up_top, g.b-below, down_le (is_seen_at f true up q) b);
          held =
              rw e
              (held f q (swept f (take i order)) (omega (arith, g.a_below)) (omega (arith, g.b-below)) (omega (arith, next_fits i g.some more)) g.held w);
        }
