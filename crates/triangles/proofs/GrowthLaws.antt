-- The slices of the code hold a state of the sweep, and growth by a station is a step of the sweep. Assumes nothing.
--
-- Each chain stands in its slice. Popping stops where the search down the chain stops, and the triangles written are those of the two
-- fans: the lower chain's from the bottom up, then the upper chain's from the top down, or from the bottom up where they are the first.
use mathlib.Core.Path.{◌≡◌, refl, sym, ap, ◌∙◌}
use mathlib.Core.Bool.{true, false}
use mathlib.Core.List.{List, [], ◌∷◌, ◌++◌, map, reverse, map-append, append_assoc}
use Prim.Native.Nat.{ℕ, zero, suc, ◌+◌, ◌*◌, ◌-◌, ◌≤◌, ◌<◌}
use native.Mathlib.Omega.{arith}
use borrow.Author.Tests.{lt-ltb}
use lib.Dec.{ltb}
use lib.ListN.{length, get_or, drop, length-append, length-map}
use Rattle.whole.specs.Place.{Place}
use Rattle.whole.specs.Turn.{turn}
use Rattle.sweep.specs.Sweep.{Three, tri, mirror, ordered, high, by, fan, StateOf, step_n, flat}
use Rattle.triangles.specs.Chain.{is_seen, is_seen_at, values, put_all}
use Rattle.triangles.specs.Mesh.{lowest_first, fan_at}
use Rattle.triangles.specs.Growth.{left, Growth}
use Rattle.triangles.proofs.ChainLaws.{down_le}
use Rattle.triangles.proofs.FanLaws.{falling, values_length, values-map, values-falling, values-rising}
use Rattle.triangles.proofs.PutLaws.{put-all}
use Rattle.triangles.proofs.SliceLaws.{OnSlice, Left, on_push}
use Rattle.triangles.proofs.SliceLaws as slice

-- The chains up to entries a and b of their slices, and the room with k triangles written over what it held.
pub record Held (lo : List ℕ) (a : ℕ) (up : List ℕ) (b : ℕ) (room : List ℕ) (k : ℕ) (old : List ℕ) (s : StateOf ℕ) : Type 0 where
  pub low : OnSlice lo a s.top s.lo
  pub above : OnSlice up b s.top s.up
  pub count : k ≡ length s.tris
  pub room_is : room ≡ flat (map lowest_first s.tris) ++ drop (3 * k) old

falling-map : {A B : Type 0} (φ : A → B) (g : ℕ → A) (j k : ℕ) → falling (λ n. φ (g n)) j k ≡ map φ (falling g j k)
unfolding falling
falling-map φ g j zero = refl
falling-map φ g j (suc k) = ap (λ l. φ (g (j + k)) ∷ l) (falling-map φ g j k)

module _ (f : ℕ → Place) (q : ℕ) where
  -- What q leaves of the lower chain and of the upper one.
  low-left : {lo : List ℕ} {a t : ℕ} {l : List ℕ} → OnSlice lo a t l → Left (by f turn) lo q (left f false lo a q) a t l
  unfolding is_seen
  low-left {lo} c = slice.left (by f turn) lo q c

  up_left : {up : List ℕ} {b t : ℕ} {l : List ℕ} → OnSlice up b t l → Left (by f high) up q (left f true up b q) b t l
  unfolding is_seen
  up_left {up} c = slice.left (by f high) up q c

  -- The lower chain's triangles.
  low-fan : {lo : List ℕ} {j a t : ℕ} {l : List ℕ} → Left (by f turn) lo q j a t l
      → values (fan_at false false lo j a q) 0 (a - j) ≡ map lowest_first (reverse (fan (by f turn) q t l))
  low-fan {lo} {j} {a} r =
      let g : ℕ → Three ℕ = λ i. tri (get_or lo i 0) q (get_or lo (i + 1) 0) in
      values-map lowest_first (λ n. g (j + n)) 0 (a - j) ∙ ap (map lowest_first) (values-rising g j (a - j) ∙ ap reverse (sym r.fanned))

  -- The upper chain's triangles, after the triangles ts.
  up_fan : {up : List ℕ} {j b t : ℕ} {l : List ℕ} (ts : List (Three ℕ)) → j ≤ b → Left (by f high) up q j b t l
      → values (fan_at true (ltb 0 (length ts)) up j b q) 0 (b - j) ≡ map lowest_first (ordered ts (map mirror (fan (by f high) q t l)))
  unfolding ordered
  up_fan {up} {j} {b} [] h r =
      let g : ℕ → Three ℕ = λ i. tri (get_or up i 0) q (get_or up (i + 1) 0) in
      values-map lowest_first (λ n. mirror (g (j + n))) 0 (b - j)
      ∙ ap (map lowest_first) (values-rising (λ n. mirror (g n)) j (b - j) ∙ ap reverse (falling-map mirror g j (b - j) ∙ ap (map mirror) (sym r.fanned)))
  up_fan {up} {j} {b} (t ∷ ts) h r =
      let g : ℕ → Three ℕ = λ i. tri (get_or up i 0) q (get_or up (i + 1) 0) in
      ap (λ falls. values (fan_at true falls up j b q) 0 (b - j)) (lt-ltb 0 (length (t ∷ ts)) (omega arith))
      ∙ values-map lowest_first (λ n. mirror (g (b - 1 - n))) 0 (b - j)
      ∙ ap (map lowest_first) (values-falling (λ n. mirror (g n)) j b 0 (b - j) (omega arith) ∙ falling-map mirror g j (b - j) ∙ ap (map mirror) (sym r.fanned))

  low-length : {lo : List ℕ} {a t : ℕ} {l : List ℕ} → OnSlice lo a t l → length (map lowest_first (reverse (fan (by f turn) q t l))) ≡ a - left f false lo a q
  low-length {lo} {a} c =
      ap length (sym (low-fan (low-left c))) ∙ values_length (fan_at false false lo (left f false lo a q) a q) 0 (a - left f false lo a q)

  up_length : {up : List ℕ} {b t : ℕ} {l : List ℕ} (ts : List (Three ℕ)) → OnSlice up b t l
      → length (map lowest_first (ordered ts (map mirror (fan (by f high) q t l)))) ≡ b - left f true up b q
  up_length {up} {b} ts c =
      ap length (sym (up_fan ts (down_le (is_seen_at f true up q) b) (up_left c)))
      ∙ values_length (fan_at true (ltb 0 (length ts)) up (left f true up b q) b q) 0 (b - left f true up b q)

  -- How many triangles there are then.
  pub held-count :
      {lo : List ℕ} {a : ℕ} {up : List ℕ} {b : ℕ} {room : List ℕ} {k : ℕ} {old : List ℕ} (s : StateOf ℕ)
      → Held lo a up b room k old s
      → length (step_n f s q).tris ≡ k + (a - left f false lo a q) + (b - left f true up b q)
  unfolding step_n
  held-count {lo} {a} {up} {b} {room} {k} s c =
      omega (
        arith,
        c.count,
        length-append s.tris (fan_a ++ fan-b),
        length-append fan_a fan-b,
        length-map fan_a lowest_first,
        length-map fan-b lowest_first,
        low-length c.low,
        up_length s.tris c.above,
      )
    where
      fan_a : List (Three ℕ)
      fan_a = reverse (fan (by f turn) q s.top s.lo)

      fan-b : List (Three ℕ)
      fan-b = ordered s.tris (map mirror (fan (by f high) q s.top s.up))

  -- Growth is a step.
  pub held :
      {lo : List ℕ} {a : ℕ} {up : List ℕ} {b : ℕ} {room : List ℕ} {k : ℕ} {old lo' up' room' : List ℕ} {a' b' k' : ℕ} (s : StateOf ℕ)
      → a + 1 < length lo
      → b + 1 < length up
      → 3 * length (step_n f s q).tris ≤ length old
      → Held lo a up b room k old s
      → Growth f q lo a up b room k a' lo' b' up' k' room'
      → Held lo' a' up' b' room' k' old (step_n f s q)
  unfolding step_n
  held {lo} {a} {up} {b} {room} {k} {old} s h l m c g =
      record {
        low = rw (g.low_is, g.low-top, r.popped) (on_push q (omega (arith, jl)) r.on);
        above = rw (g.up_is, g.up_top, u.popped) (on_push q (omega (arith, il)) u.on);
        count = g.count ∙ sym sizes;
        room_is = g.room_is ∙ written ∙ ap (λ n. flat (map lowest_first (s.tris ++ (fan_a ++ fan-b))) ++ drop (3 * n) old) (sym g.count);
      }
    where
      r : Left (by f turn) lo q (left f false lo a q) a s.top s.lo
      r = low-left c.low

      u : Left (by f high) up q (left f true up b q) b s.top s.up
      u = up_left c.above

      jl : left f false lo a q ≤ a
      jl = down_le (is_seen_at f false lo q) a

      il : left f true up b q ≤ b
      il = down_le (is_seen_at f true up q) b

      -- The new triangles of either chain.
      fan_a : List (Three ℕ)
      fan_a = reverse (fan (by f turn) q s.top s.lo)

      fan-b : List (Three ℕ)
      fan-b = ordered s.tris (map mirror (fan (by f high) q s.top s.up))

      length_a : length (map lowest_first fan_a) ≡ a - left f false lo a q
      length_a = low-length c.low

      length-b : length (map lowest_first fan-b) ≡ b - left f true up b q
      length-b = up_length s.tris c.above

      sizes : length (s.tris ++ (fan_a ++ fan-b)) ≡ k + (a - left f false lo a q) + (b - left f true up b q)
      sizes = held-count s c

      -- The triangles before, with those of the lower chain.
      ts : List (Three ℕ)
      ts = map lowest_first s.tris

      ts_length : length ts ≡ k
      ts_length = length-map s.tris lowest_first ∙ sym c.count

      more-length : length (ts ++ map lowest_first fan_a) ≡ k + (a - left f false lo a q)
      more-length = omega (arith, length-append ts (map lowest_first fan_a), ts_length, length_a)

      first : put_all k (values (fan_at false false lo (left f false lo a q) a q) 0 (a - left f false lo a q)) room
          ≡ flat (ts ++ map lowest_first fan_a) ++ drop (3 * length (ts ++ map lowest_first fan_a)) old
      first =
          (λ i. put_all k (low-fan r i) (c.room_is i))
          ∙ ap (λ n. put_all n (map lowest_first fan_a) (flat ts ++ drop (3 * n) old)) (sym ts_length)
          ∙ put-all ts (map lowest_first fan_a) old (omega (arith, m, sizes, ts_length, length_a))

      all_is : (ts ++ map lowest_first fan_a) ++ map lowest_first fan-b ≡ map lowest_first (s.tris ++ (fan_a ++ fan-b))
      all_is =
          append_assoc ts (map lowest_first fan_a) (map lowest_first fan-b)
          ∙ ap (λ l. ts ++ l) (sym (map-append lowest_first fan_a fan-b))
          ∙ sym (map-append lowest_first s.tris (fan_a ++ fan-b))

      all_length : length ((ts ++ map lowest_first fan_a) ++ map lowest_first fan-b) ≡ k + (a - left f false lo a q) + (b - left f true up b q)
      all_length = omega (arith, length-append (ts ++ map lowest_first fan_a) (map lowest_first fan-b), more-length, length-b)

      second : values (fan_at true (ltb 0 k) up (left f true up b q) b q) 0 (b - left f true up b q) ≡ map lowest_first fan-b
      second = ap (λ n. values (fan_at true (ltb 0 n) up (left f true up b q) b q) 0 (b - left f true up b q)) c.count ∙ up_fan s.tris il u

      written : put_all (k + (a - left f false lo a q)) (values (fan_at true (ltb 0 k) up (left f true up b q) b q) 0 (b - left f true up b q))
          (put_all k (values (fan_at false false lo (left f false lo a q) a q) 0 (a - left f false lo a q)) room)
          ≡ flat (map lowest_first (s.tris ++ (fan_a ++ fan-b))) ++ drop (3 * (k + (a - left f false lo a q) + (b - left f true up b q))) old
      written =
          (λ i. put_all (sym more-length i) (second i) (first i))
          ∙ put-all (ts ++ map lowest_first fan_a) (map lowest_first fan-b) old (omega (arith, m, sizes, more-length, length-b))
          ∙ (λ i. flat (all_is i) ++ drop (3 * all_length i) old)
