-- The sweep keeps its invariants, and so the mesh of strictly rising stations has them. Assumes nothing.
use mathlib.Core.Path.{◌≡◌, refl, sym, ◌∙◌, ap}
use mathlib.Core.List.{List, [], ◌∷◌, ◌++◌, reverse, map, append_assoc, append-nil, reverse-append}
use mathlib.Core.Logic.{◌⊎◌, inl, inr, ⊎_elim}
use Prim.Native.Nat.{ℕ, suc, ◌+◌, ◌*◌}
use native.Mathlib.Omega.{arith}
use lib.ListN.{length, length-append, length-reverse, length-map}
use Rattle.whole.specs.Place.{Place, Before}
use Rattle.whole.specs.Turn.{turn}
use Rattle.whole.proofs.OrderLaws.{before-trans, before-irrefl}
use Rattle.sweep.specs.Sweep.{Triangle, mirror, pop, fan, ordered, State, step, sweep, mesh, pairs}
use Rattle.sweep.proofs.Slopes.{lower, upper, low-cyc}
use Rattle.sweep.proofs.Stack.{Pops, pops, Chain, bottom, top_in, Next, push}
use Rattle.sweep.specs.Members.{total, Any, here, there, In}
use Rattle.sweep.proofs.MemberLaws.{total-append, total-reverse, any_left, any_right, any_cons, any_none, any_split, any_reverse, any_reversed, any_map, any_mapped, any_find, any_imp}
use Rattle.sweep.specs.Boundary.{around, back, along}
use Rattle.sweep.proofs.SumLaws.{fan-sum, fan-count}
use Rattle.sweep.specs.Cover.{Holds, Corner, at_b, Fine}
use Rattle.sweep.proofs.Clear.{old-clear, beyond}
use Rattle.sweep.proofs.Fans.{Made, fan-made, made-left, mirrored, fan-cover, pops_none, no_length, total-mirror, total-ordered, length-ordered, any_ordered, to_ordered}
use Rattle.sweep.specs.Rising.{Rises, ends, goes}
use Rattle.sweep.specs.Sweep as def

pub data Stands (w : Place) (s : State) : Type 0 where
  on_low : In w (s.top ∷ s.lo) → Stands w s
  on_up : In w (s.top ∷ s.up) → Stands w s
  corner : Any (Corner w) s.tris → Stands w s

-- While there is no triangle, both chains hold every station.
pub record Bare (done : List Place) (s : State) : Type 0 where
  pub low : s.top ∷ s.lo ≡ reverse done
  pub both : s.lo ≡ s.up

pub record Inv (z : Place) (done : List Place) (s : State) : Type 0 where
  pub first : (w : Place) → In w done → Before w z → ⊥
  pub last : (w : Place) → In w done → (w ≡ s.top) ⊎ Before w s.top
  pub low : Chain lower (λ w. In w done) z s.top s.lo
  pub high : Chain upper (λ w. In w done) z s.top s.up
  pub sums : (g : Place → Place → ℕ) → total (around g) s.tris + (along (back g) s.top s.lo + along g s.top s.up) ≡
      total (around (back g)) s.tris + (along g s.top s.lo + along (back g) s.top s.up)
  pub count : length s.tris + length (s.top ∷ s.lo) + length (s.top ∷ s.up) ≡ 2 * length done
  pub fine : (t : Triangle) → In t s.tris → Fine done t
  pub place : (w : Place) → In w done → Stands w s
  pub clear : (t : Triangle) → In t s.tris → (w : Place) → In w done → Holds turn t w → Corner w t
  pub bare : s.tris ≡ [] → Bare done s

module _ (z : Place) (done : List Place) (s : State) (q : Place) (inv : Inv z done s) (tq : Before s.top q) where
  now : List Place
  now = done ++ (q ∷ [])

  F₁ : List Triangle
  F₁ = fan turn q s.top s.lo

  F₂ : List Triangle
  F₂ = fan def.high q s.top s.up

  P₁ : Pops turn q s.top s.lo (pop turn q s.top s.lo) F₁
  unfolding F₁
  P₁ = pops turn q s.top s.lo

  P₂ : Pops def.high q s.top s.up (pop def.high q s.top s.up) F₂
  unfolding F₂
  P₂ = pops def.high q s.top s.up

  -- All stations so far are before q.
  all_before : (w : Place) → In w done → Before w q
  all_before w i = ⊎_elim (λ e. rw e tq) (λ l. before-trans l tq) (inv.last w i)

  -- None is after the top.
  none_after : {A : Type 0} (w : Place) → In w done → Before s.top w → A
  none_after w i l = ⊎_elim (λ e. absurd (before-irrefl (rw e at l))) (λ m. absurd (before-irrefl (before-trans l m))) (inv.last w i)

  -- A station is now q or an old one.
  parted : {w : Place} → In w now → (w ≡ q) ⊎ In w done
  unfolding now
  parted i = ⊎_elim (λ j. inr j) (λ j. ⊎_elim (λ e. inl e) (λ k. absurd (any_none k)) (any_cons j)) (any_split done i)

  next : Next (λ w. In w done) (λ w. In w now) z q
  unfolding now
  next = record { old = λ i. any_left (q ∷ []) i; new = any_right done (here refl); split = λ i. parted i; first = inv.first; last = all_before }

  -- A triangle after q is an old one, or q made it on the lower chain, or, mirrored, on the upper one.
  data Origin (t : Triangle) : Type 0 where
    old : In t s.tris → Origin t
    below : Made lower (λ w. In w done) q t → Origin t
    above : (u : Triangle) → Made upper (λ w. In w done) q u → t ≡ mirror u → Origin t

  origin : (t : Triangle) → In t (step s q).tris → Origin t
  unfolding step F₁ F₂
  origin t i =
      ⊎_elim
      (λ j. old j)
      (λ j. ⊎_elim (λ k. below (fan-made inv.low P₁ t (any_reverse F₁ k))) (λ k. go (any_find (any_map mirror F₂ (any_ordered s.tris (map mirror F₂) k)))) (any_split (reverse F₁) j))
      (any_split s.tris i)
    where
      go : (u : Triangle) × In u F₂ × (t ≡ mirror u) → Origin t
      go r = above r.0 (fan-made inv.high P₂ r.0 r.1) r.2

  -- How the triangles lie, and the corners: an old triangle keeps both, a new one has them from `Made`.
  fine' : (t : Triangle) → Origin t → Fine now t
  fine' t (old i) = let f = inv.fine t i in record { left = f.left; in_a = next.old f.in_a; in_b = next.old f.in_b; in_c = next.old f.in_c }
  fine' t (below d) = record { left = made-left d; in_a = next.old d.side.from; in_b = rw d.apex next.new; in_c = next.old d.side.to }
  fine' t (above u d e) = rw e
      (record { left = rw (low-cyc u.b u.a u.c) at (made-left d); in_a = next.old d.side.to; in_b = rw d.apex next.new; in_c = next.old d.side.from })

  -- What a chain loses is a corner of a new triangle.
  place' : (w : Place) → In w now → Stands w (step s q)
  unfolding step now F₁ F₂
  place' w i = ⊎_elim (λ e. on_low (here e)) (λ j. go (inv.place w j)) (parted i)
    where
      go : Stands w s → Stands w (step s q)
      go (on_low j) = ⊎_elim (λ k. on_low (there k)) (λ k. corner (any_right s.tris (any_left _ (any_reversed F₁ k)))) (fan-cover P₁ j)
      go (on_up j) =
          ⊎_elim
          (λ k. on_up (there k))
          (λ k. corner (any_right s.tris (any_right (reverse F₁) (to_ordered s.tris _ (any_mapped mirror (any_imp (mirrored w) k))))))
          (fan-cover P₂ j)
      go (corner j) = corner (any_left _ j)

  -- q is beyond the old triangles, and a new triangle holds no old station but its corners.
  clear' : (t : Triangle) → Origin t → (w : Place) → (w ≡ q) ⊎ In w done → Holds turn t w → Corner w t
  clear' t (old i) w (inl e) h = let f = inv.fine t i in
      absurd (beyond t q (all_before t.a f.in_a) (all_before t.b f.in_b) (all_before t.c f.in_c) f.left (rw e at h))
  clear' t (old i) w (inr j) h = inv.clear t i w j h
  clear' t (below d) w (inl e) h = at_b (e ∙ sym d.apex)
  clear' t (below d) w (inr j) h = old-clear lower _ q all_before t d w j h
  clear' t (above u d e) w (inl f) h = rw e (at_b (f ∙ sym d.apex))
  clear' t (above u d e) w (inr j) h = rw e (mirrored w u (old-clear upper _ q all_before u d w j (turned u (rw e at h))))
    where
      turned : (u : Triangle) → Holds turn (mirror u) w → Holds def.high u w
      turned u h = record { ab = h.bc; bc = h.ab; ca = h.ca }

  -- The boundary: the two chains' laws and the old identity add up; the two sides between the old top and q cancel.
  sums' : (g : Place → Place → ℕ) → total (around g) (step s q).tris + (along (back g) q (step s q).lo + along g q (step s q).up) ≡
      total (around (back g)) (step s q).tris + (along g q (step s q).lo + along (back g) q (step s q).up)
  unfolding step pairs total F₁ F₂
  sums' g = omega (arith, inv.sums g, parts g, parts (back g), fan-sum g P₁, fan-sum (back g) P₂)
    where
      parts : (g : Place → Place → ℕ) → total (around g) (step s q).tris ≡ total (around g) s.tris + total (around g) F₁ + total (around (back g)) F₂
      parts g =
          omega (
            arith,
            total-append (around g) s.tris (reverse F₁ ++ ordered s.tris (map mirror F₂)),
            total-append (around g) (reverse F₁) (ordered s.tris (map mirror F₂)),
            total-reverse (around g) F₁,
            total-ordered (around g) s.tris (map mirror F₂),
            total-mirror g F₂,
          )

  -- The count.
  count' : length (step s q).tris + suc (length (step s q).lo) + suc (length (step s q).up) ≡ 2 * length now
  unfolding step now F₁ F₂
  count' =
      simp (length-append, length-reverse, length-ordered, length-map) (omega (arith, inv.count, fan-count P₁, fan-count P₂))

  -- No triangle now means none before and nothing popped.
  bare' : (step s q).tris ≡ [] → Bare now (step s q)
  unfolding step now F₁ F₂
  bare' e = record { low = ap (λ l. q ∷ l) (pops_none P₁ n₁ ∙ b.low) ∙ sym (reverse-append done (q ∷ [])); both = pops_none P₁ n₁ ∙ ap (λ l. s.top ∷ l) b.both ∙ sym (pops_none P₂ n₂) }
    where
      sizes : length s.tris + (length F₁ + length F₂) ≡ 0
      sizes = simp (length-append, length-reverse, length-ordered, length-map) at (ap length e)

      n₁ : length F₁ ≡ 0
      n₁ = omega (arith, sizes)

      n₂ : length F₂ ≡ 0
      n₂ = omega (arith, sizes)

      b : Bare done s
      b = inv.bare (no_length s.tris (omega (arith, sizes)))

  -- All of it after one more station.
  pub kept : Inv z (done ++ (q ∷ [])) (step s q)
  unfolding step now
  kept =
      record {
        first = λ w i. ⊎_elim (λ e l. inv.first s.top (top_in inv.low) (before-trans tq (rw e at l))) (λ j. inv.first w j) (parted i);
        last = λ w i. ⊎_elim (λ e. inl e) (λ j. inr (all_before w j)) (parted i);
        low = push lower _ _ z q next inv.low P₁ (λ w i l. none_after w i l);
        high = push upper _ _ z q next inv.high P₂ (λ w i l. none_after w i l);
        sums = sums';
        count = count';
        fine = λ t i. fine' t (origin t i);
        place = place';
        bare = bare';
        clear = λ t i w j. clear' t (origin t i) w (parted j);
      }

-- By induction on the stations to come.
swept : (z : Place) (done : List Place) (s : State) {l : List Place} {p : Place} → s.top ≡ p → Rises p l → Inv z done s → Inv z (done ++ l) (sweep s l)
unfolding sweep step
swept z done s e ends inv = rw append-nil inv
swept z done s e (goes {q = q} {l = l} h r) inv = rw (← append_assoc done (q ∷ []) l) (swept z (done ++ (q ∷ [])) (step s q) refl r (kept z done s q inv (rw e h)))

-- All of it of the mesh of strictly rising stations.
pub mesh-inv : (p : Place) (ps : List Place) → Rises p ps → Inv p (p ∷ ps) (mesh p ps)
unfolding mesh pairs total
mesh-inv p ps r = swept p (p ∷ []) _ refl r start
  where
    only : (w : Place) → In w (p ∷ []) → w ≡ p
    only w i = ⊎_elim (λ e. e) (λ j. absurd (any_none j)) (any_cons i)

    start : Inv p (p ∷ []) (record { top = p; lo = []; up = []; tris = [] })
    start =
        record {
          first = λ w i l. before-irrefl (rw (only w i) at l);
          last = λ w i. inl (only w i);
          low = bottom (here refl);
          high = bottom (here refl);
          sums = λ g. refl;
          count = refl;
          fine = λ t i. absurd (any_none i);
          place = λ w i. on_low i;
          clear = λ t i. absurd (any_none i);
          bare = λ e. record { low = refl; both = refl };
        }

-- ---- what the counting of places and sides needs of a mesh: the chains are the stations' own, so any triangles that meet `sums` and `fine` will do
pub record Good (z : Place) (done : List Place) (s : State) : Type 0 where
  pub first : (w : Place) → In w done → Before w z → ⊥
  pub last : (w : Place) → In w done → (w ≡ s.top) ⊎ Before w s.top
  pub low : Chain lower (λ w. In w done) z s.top s.lo
  pub high : Chain upper (λ w. In w done) z s.top s.up
  pub sums : (g : Place → Place → ℕ) → total (around g) s.tris + (along (back g) s.top s.lo + along g s.top s.up) ≡
      total (around (back g)) s.tris + (along g s.top s.lo + along (back g) s.top s.up)
  pub fine : (t : Triangle) → In t s.tris → Fine done t

pub good : {z : Place} {done : List Place} {s : State} → Inv z done s → Good z done s
good inv = record { first = inv.first; last = inv.last; low = inv.low; high = inv.high; sums = inv.sums; fine = inv.fine }
