-- A swap on half-sides: it keeps the twins (`swap-twinned`), and makes of the triangles what a swap makes of them, each from some of its
-- corners. Assumes nothing.
use mathlib.Core.Path.{◌≡◌, refl, sym, ap, ◌∙◌, subst}
use Prim.Native.Nat.{ℕ, ◌+◌, ◌*◌, ◌%◌, ◌/◌, ◌<◌}
use native.Mathlib.Omega.{arith}
use native.Mathlib.Decide.{ℕ_discrete}
use borrow.Author.Tests.{eq-eqb, ne_eqb}
use Rattle.neighbours.specs.Half.{after, before}
use Rattle.neighbours.proofs.HalfLaws.{after-before, after-after, after-within}
use Rattle.swapping.specs.Halves.{put, Twinned, swap_corners, swap_twins}

-- ---- the three half-sides of a triangle
pub data Third (h : ℕ) : Type 0 where
  first : (k : ℕ) → h ≡ 3 * k → after h ≡ 3 * k + 1 → before h ≡ 3 * k + 2 → Third h
  second : (k : ℕ) → h ≡ 3 * k + 1 → after h ≡ 3 * k + 2 → before h ≡ 3 * k → Third h
  third : (k : ℕ) → h ≡ 3 * k + 2 → after h ≡ 3 * k → before h ≡ 3 * k + 1 → Third h

pub third_of : (h : ℕ) → Third h
unfolding after before
third_of h = go (ℕ_discrete (h % 3) 0) (ℕ_discrete (h % 3) 2)
  where
    go : Dec (h % 3 ≡ 0) → Dec (h % 3 ≡ 2) → Third h
    go (yes p) (yes q) = absurd (omega arith)
    go (yes p) (no q) = first (h / 3) (omega arith) (rw (ne_eqb (h % 3) 2 q) (omega arith)) (rw (eq-eqb (h % 3) 0 p) (omega arith))
    go (no p) (yes q) = third (h / 3) (omega arith) (rw (eq-eqb (h % 3) 2 q) (omega arith)) (rw (ne_eqb (h % 3) 0 p) (omega arith))
    go (no p) (no q) = second (h / 3) (omega arith) (rw (ne_eqb (h % 3) 2 q) (omega arith)) (rw (ne_eqb (h % 3) 0 p) (omega arith))

pub after_one : (h g : ℕ) → after h ≡ after g → h ≡ g
after_one h g q = sym (three h) ∙ ap (λ x. after (after x)) q ∙ three g
  where
    three : (h : ℕ) → after (after (after h)) ≡ h
    three h = ap after (after-after h) ∙ after-before h

pub after_not : (h : ℕ) → after h ≡ h → ⊥
after_not h q = go (third_of h)
  where
    go : Third h → ⊥
    go (first k a b c) = omega arith
    go (second k a b c) = omega arith
    go (third k a b c) = omega arith

-- ---- stores
pub put_same : (h x : ℕ) (C : ℕ → ℕ) (g : ℕ) → g ≡ h → put h x C g ≡ x
unfolding put
put_same h x C g q = rw (eq-eqb g h q)

pub put_other : (h x : ℕ) (C : ℕ → ℕ) (g : ℕ) → (g ≡ h → ⊥) → put h x C g ≡ C g
unfolding put
put_other h x C g q = rw (ne_eqb g h q)

-- ---- a swap
-- What a swap asks of the half-sides: each directed side once; e and f run along one side; i, j, l, r are four stations; and there is no
-- side between l and r.
pub record Apart (C : ℕ → ℕ) (m e f : ℕ) : Type 0 where
  pub single : (h g : ℕ) → h < m → g < m → C h ≡ C g → C (after h) ≡ C (after g) → h ≡ g
  pub e-below : e < m
  pub f-below : f < m
  pub back_from : C f ≡ C (after e)
  pub back_to : C (after f) ≡ C e
  pub i-j : C e ≡ C (after e) → ⊥
  pub j-l : C (after e) ≡ C (before e) → ⊥
  pub l-i : C (before e) ≡ C e → ⊥
  pub i-r : C e ≡ C (before f) → ⊥
  pub r-j : C (before f) ≡ C (after e) → ⊥
  pub r-l : C (before f) ≡ C (before e) → ⊥
  pub no_rl : (h : ℕ) → h < m → C h ≡ C (before f) → C (after h) ≡ C (before e) → ⊥
  pub no_lr : (h : ℕ) → h < m → C h ≡ C (before e) → C (after h) ≡ C (before f) → ⊥

module _ (C : ℕ → ℕ) (t e f : ℕ) (s : Apart C (3 * t) e f) where
  abbrev e1 : ℕ
  e1 = after e

  abbrev f1 : ℕ
  f1 = after f

  abbrev C' : ℕ → ℕ
  C' = swap_corners e f C

  e≢f : e ≡ f → ⊥
  e≢f q = s.i-j (ap C q ∙ s.back_from)

  e1≢f1 : e1 ≡ f1 → ⊥
  e1≢f1 q = e≢f (after_one e f q)

  after-e1 : C (after e1) ≡ C (before e)
  after-e1 = ap C (after-after e)

  after-f1 : C (after f1) ≡ C (before f)
  after-f1 = ap C (after-after f)

  e1≢f : e1 ≡ f → ⊥
  e1≢f q = s.l-i (sym after-e1 ∙ ap (λ h. C (after h)) q ∙ s.back_to)

  f1≢e : f1 ≡ e → ⊥
  f1≢e q = s.r-j (sym after-f1 ∙ ap (λ h. C (after h)) q)

  -- ---- the sides afterwards
  corner-e1 : C' e1 ≡ C (before f)
  unfolding swap_corners
  corner-e1 = put_same e1 (C (before f)) (put f1 (C (before e)) C) e1 refl

  corner-f1 : C' f1 ≡ C (before e)
  unfolding swap_corners
  corner-f1 = put_other e1 (C (before f)) (put f1 (C (before e)) C) f1 (λ q. e1≢f1 (sym q)) ∙ put_same f1 (C (before e)) C f1 refl

  pub corner-else : (h : ℕ) → (h ≡ e1 → ⊥) → (h ≡ f1 → ⊥) → C' h ≡ C h
  unfolding swap_corners
  corner-else h p q = put_other e1 (C (before f)) (put f1 (C (before e)) C) h p ∙ put_other f1 (C (before e)) C h q

  data Where (h : ℕ) : Type 0 where
    at_e : h ≡ e → C' h ≡ C e → C' (after h) ≡ C (before f) → Where h
    at_f : h ≡ f → C' h ≡ C e1 → C' (after h) ≡ C (before e) → Where h
    at_e1 : h ≡ e1 → C' h ≡ C (before f) → C' (after h) ≡ C (before e) → Where h
    at_f1 : h ≡ f1 → C' h ≡ C (before e) → C' (after h) ≡ C (before f) → Where h
    other : (h ≡ e → ⊥) → (h ≡ f → ⊥) → (h ≡ e1 → ⊥) → (h ≡ f1 → ⊥) → C' h ≡ C h → C' (after h) ≡ C (after h) → Where h

  where_is : (h : ℕ) → Where h
  where_is h = go (ℕ_discrete h e) (ℕ_discrete h f) (ℕ_discrete h e1) (ℕ_discrete h f1)
    where
      go : Dec (h ≡ e) → Dec (h ≡ f) → Dec (h ≡ e1) → Dec (h ≡ f1) → Where h
      go (yes q) _ _ _ = at_e q (ap C' q ∙ corner-else e (λ x. after_not e (sym x)) (λ x. f1≢e (sym x))) (ap (λ x. C' (after x)) q ∙ corner-e1)
      go (no p) (yes q) _ _ = at_f q (ap C' q ∙ corner-else f (λ x. e1≢f (sym x)) (λ x. after_not f (sym x)) ∙ s.back_from) (ap (λ x. C' (after x)) q ∙ corner-f1)
      go (no p) (no o) (yes q) _ =
          at_e1 q (ap C' q ∙ corner-e1)
          (ap (λ x. C' (after x)) q ∙ corner-else (after e1) (after_not e1) (λ x. e1≢f (after_one e1 f x)) ∙ after-e1)
      go (no p) (no o) (no n) (yes q) =
          at_f1 q (ap C' q ∙ corner-f1)
          (ap (λ x. C' (after x)) q ∙ corner-else (after f1) (λ x. f1≢e (after_one f1 e x)) (after_not f1) ∙ after-f1)
      go (no p) (no o) (no n) (no k) = other p o n k (corner-else h n k) (corner-else (after h) (λ x. p (after_one h e x)) (λ x. o (after_one h f x)))

  -- The corners of the two new triangles, from their half-sides.
  pub new-e : (C' e ≡ C e) × (C' (after e) ≡ C (before f)) × (C' (before e) ≡ C (before e))
  new-e = (
    corner-else e (λ x. after_not e (sym x)) (λ x. f1≢e (sym x)),
    corner-e1,
    ap C' (sym (after-after e)) ∙ corner-else (after e1) (after_not e1) (λ x. e1≢f (after_one e1 f x)) ∙ after-e1,
  )

  pub new-f : (C' f ≡ C (after e)) × (C' (after f) ≡ C (before e)) × (C' (before f) ≡ C (before f))
  new-f = (
    corner-else f (λ x. e1≢f (sym x)) (λ x. after_not f (sym x)) ∙ s.back_from,
    corner-f1,
    ap C' (sym (after-after f)) ∙ corner-else (after f1) (λ x. f1≢e (after_one f1 e x)) (after_not f1) ∙ after-f1,
  )

  module _ (W : ℕ → ℕ) (tw : Twinned C W (3 * t)) where
    abbrev W' : ℕ → ℕ
    W' = swap_twins e f W

    -- ---- the twins round the two triangles
    -- W f1, where it is there, runs from r to i, and W e1 from l to j.
    ri≢ : (h : ℕ) → h < 3 * t → (C h ≡ C (before f) → ⊥) → h ≡ W f1 → ⊥
    ri≢ h b n q = n (ap C q ∙ tw.from f1 (after-within t f s.f-below) (subst (λ x. x < 3 * t) q b) ∙ after-f1)

    lj≢ : (h : ℕ) → h < 3 * t → (C h ≡ C (before e) → ⊥) → h ≡ W e1 → ⊥
    lj≢ h b n q = n (ap C q ∙ tw.from e1 (after-within t e s.e-below) (subst (λ x. x < 3 * t) q b) ∙ after-e1)

    pub twin-e1 : W' e1 ≡ f1
    unfolding swap_twins
    twin-e1 = put_same e1 f1 _ e1 refl

    pub twin-f1 : W' f1 ≡ e1
    unfolding swap_twins
    twin-f1 = put_other e1 f1 _ f1 (λ q. e1≢f1 (sym q)) ∙ put_same f1 e1 _ f1 refl

    twin-ri : (h : ℕ) → (h ≡ e1 → ⊥) → (h ≡ f1 → ⊥) → h ≡ W f1 → W' h ≡ e
    unfolding swap_twins
    twin-ri h p q x = put_other e1 f1 _ h p ∙ put_other f1 e1 _ h q ∙ put_same (W f1) e _ h x

    twin-lj : (h : ℕ) → (h ≡ e1 → ⊥) → (h ≡ f1 → ⊥) → (h ≡ W f1 → ⊥) → h ≡ W e1 → W' h ≡ f
    unfolding swap_twins
    twin-lj h p q x y = put_other e1 f1 _ h p ∙ put_other f1 e1 _ h q ∙ put_other (W f1) e _ h x ∙ put_same (W e1) f _ h y

    pub twin-e : W' e ≡ W f1
    unfolding swap_twins
    twin-e =
        put_other e1 f1 _ e (λ q. after_not e (sym q))
        ∙ put_other f1 e1 _ e (λ q. f1≢e (sym q))
        ∙ put_other (W f1) e _ e (ri≢ e s.e-below s.i-r)
        ∙ put_other (W e1) f _ e (lj≢ e s.e-below (λ q. s.l-i (sym q)))
        ∙ put_same e (W f1) _ e refl

    pub twin-f : W' f ≡ W e1
    unfolding swap_twins
    twin-f =
        put_other e1 f1 _ f (λ q. e1≢f (sym q))
        ∙ put_other f1 e1 _ f (λ q. after_not f (sym q))
        ∙ put_other (W f1) e _ f (ri≢ f s.f-below (λ q. s.r-j (sym q ∙ s.back_from)))
        ∙ put_other (W e1) f _ f (lj≢ f s.f-below (λ q. s.j-l (sym s.back_from ∙ q)))
        ∙ put_other e (W f1) _ f (λ q. e≢f (sym q))
        ∙ put_same f (W e1) _ f refl

    pub twin-else : (h : ℕ) → (h ≡ e → ⊥) → (h ≡ f → ⊥) → (h ≡ e1 → ⊥) → (h ≡ f1 → ⊥) → (h ≡ W f1 → ⊥) → (h ≡ W e1 → ⊥) → W' h ≡ W h
    unfolding swap_twins
    twin-else h a b c d x y =
        put_other e1 f1 _ h c
        ∙ put_other f1 e1 _ h d
        ∙ put_other (W f1) e _ h x
        ∙ put_other (W e1) f _ h y
        ∙ put_other e (W f1) _ h a
        ∙ put_other f (W e1) _ h b

    -- ---- a half-side that runs back is the twin
    -- Of a half-side that stays: its twin stays, or is the one that took the place of its twin.
    stays : (h g : ℕ) → h < 3 * t → g < 3 * t → (h ≡ e → ⊥) → (h ≡ f → ⊥) → (h ≡ e1 → ⊥) → (h ≡ f1 → ⊥) → (g ≡ e1 → ⊥) → (g ≡ f1 → ⊥)
        → C g ≡ C (after h) → C (after g) ≡ C h → W' h ≡ g
    stays h g bh bg a b c d x y p q = twin-else h a b c d not_ri not_lj ∙ w
      where
        w : W h ≡ g
        w = tw.found h g bh bg p q

        -- Were h the twin of f1, then f1 would run back along h, and be g.
        not_ri : h ≡ W f1 → ⊥
        not_ri z =
            let l = after-within t f s.f-below in
            let b : W f1 < 3 * t = subst (λ n. n < 3 * t) z bh in
            y (s.single g f1 bg l (p ∙ ap (λ n. C (after n)) z ∙ tw.to f1 l b) (q ∙ ap C z ∙ tw.from f1 l b))

        not_lj : h ≡ W e1 → ⊥
        not_lj z =
            let l = after-within t e s.e-below in
            let b : W e1 < 3 * t = subst (λ n. n < 3 * t) z bh in
            x (s.single g e1 bg l (p ∙ ap (λ n. C (after n)) z ∙ tw.to e1 l b) (q ∙ ap C z ∙ tw.from e1 l b))

    found_after : (h g : ℕ) → h < 3 * t → g < 3 * t → C' g ≡ C' (after h) → C' (after g) ≡ C' h → W' h ≡ g
    found_after h g bh bg p q = go (where_is h) (where_is g)
      where
        le : e1 < 3 * t
        le = after-within t e s.e-below

        lf : f1 < 3 * t
        lf = after-within t f s.f-below

        bf : C f1 ≡ C e
        bf = s.back_to

        go : Where h → Where g → W' h ≡ g
        go (other a b c d x y) (other a' b' c' d' x' y') = stays h g bh bg a b c d c' d' (sym x' ∙ p ∙ y) (sym y' ∙ q ∙ x)
        go (other a b c d x y) (at_e z x' y') = twin-ri h c d (sym (tw.found f1 h lf bh (sym x ∙ sym q ∙ y' ∙ sym after-f1) (sym y ∙ sym p ∙ x' ∙ sym bf))) ∙ sym z
        go (other a b c d x y) (at_f z x' y') =
            let w = tw.found e1 h le bh (sym x ∙ sym q ∙ y' ∙ sym after-e1) (sym y ∙ sym p ∙ x') in
            twin-lj h c d (ri≢ h bh (λ k. s.r-l (sym k ∙ sym x ∙ sym q ∙ y'))) (sym w) ∙ sym z
        go (other a b c d x y) (at_e1 z x' y') = absurd (s.no_lr h bh (sym x ∙ sym q ∙ y') (sym y ∙ sym p ∙ x'))
        go (other a b c d x y) (at_f1 z x' y') = absurd (s.no_rl h bh (sym x ∙ sym q ∙ y') (sym y ∙ sym p ∙ x'))
        go (at_e z x y) (other a b c d x' y') = ap W' z ∙ twin-e ∙ tw.found f1 g lf bg (sym x' ∙ p ∙ y ∙ sym after-f1) (sym y' ∙ q ∙ x ∙ sym bf)
        go (at_e z x y) (at_e z' x' y') = absurd (s.i-r (sym x' ∙ p ∙ y))
        go (at_e z x y) (at_f z' x' y') = absurd (s.r-j (sym y ∙ sym p ∙ x'))
        go (at_e z x y) (at_e1 z' x' y') = absurd (s.l-i (sym y' ∙ q ∙ x))
        go (at_e z x y) (at_f1 z' x' y') = absurd (s.r-l (sym y ∙ sym p ∙ x'))
        go (at_f z x y) (other a b c d x' y') = ap W' z ∙ twin-f ∙ tw.found e1 g le bg (sym x' ∙ p ∙ y ∙ sym after-e1) (sym y' ∙ q ∙ x)
        go (at_f z x y) (at_e z' x' y') = absurd (s.l-i (sym y ∙ sym p ∙ x'))
        go (at_f z x y) (at_f z' x' y') = absurd (s.j-l (sym x' ∙ p ∙ y))
        go (at_f z x y) (at_e1 z' x' y') = absurd (s.r-l (sym x' ∙ p ∙ y))
        go (at_f z x y) (at_f1 z' x' y') = absurd (s.r-j (sym y' ∙ q ∙ x))
        go (at_e1 z x y) (other a b c d x' y') = absurd (s.no_lr g bg (sym x' ∙ p ∙ y) (sym y' ∙ q ∙ x))
        go (at_e1 z x y) (at_e z' x' y') = absurd (s.l-i (sym y ∙ sym p ∙ x'))
        go (at_e1 z x y) (at_f z' x' y') = absurd (s.j-l (sym x' ∙ p ∙ y))
        go (at_e1 z x y) (at_e1 z' x' y') = absurd (s.r-l (sym x' ∙ p ∙ y))
        go (at_e1 z x y) (at_f1 z' x' y') = ap W' z ∙ twin-e1 ∙ sym z'
        go (at_f1 z x y) (other a b c d x' y') = absurd (s.no_rl g bg (sym x' ∙ p ∙ y) (sym y' ∙ q ∙ x))
        go (at_f1 z x y) (at_e z' x' y') = absurd (s.i-r (sym x' ∙ p ∙ y))
        go (at_f1 z x y) (at_f z' x' y') = absurd (s.r-j (sym y ∙ sym p ∙ x'))
        go (at_f1 z x y) (at_e1 z' x' y') = ap W' z ∙ twin-f1 ∙ sym z'
        go (at_f1 z x y) (at_f1 z' x' y') = absurd (s.r-l (sym y ∙ sym p ∙ x'))

    -- ---- a twin runs back
    -- A half-side that starts from neither i nor j stays.
    same_side : (g : ℕ) → (C g ≡ C e → ⊥) → (C g ≡ C e1 → ⊥) → (C' g ≡ C g) × (C' (after g) ≡ C (after g))
    same_side g a b = go (where_is g)
      where
        go : Where g → (C' g ≡ C g) × (C' (after g) ≡ C (after g))
        go (at_e z x y) = absurd (a (ap C z))
        go (at_f z x y) = absurd (b (ap C z ∙ s.back_from))
        go (at_e1 z x y) = absurd (b (ap C z))
        go (at_f1 z x y) = absurd (a (ap C z ∙ s.back_to))
        go (other p q c d x y) = (x, y)

    -- The side of a half-side h afterwards is that of g, backwards.
    abbrev Back : ℕ → ℕ → Type 0
    Back h g = (C' g ≡ C' (after h)) × (C' (after g) ≡ C' h)

    runs_back : (h : ℕ) → h < 3 * t → W' h < 3 * t → Back h (W' h)
    runs_back h bh b = go (where_is h) (ℕ_discrete h (W f1)) (ℕ_discrete h (W e1))
      where
        le : e1 < 3 * t
        le = after-within t e s.e-below

        lf : f1 < 3 * t
        lf = after-within t f s.f-below

        to_e : C' e ≡ C e
        to_e = corner-else e (λ x. after_not e (sym x)) (λ x. f1≢e (sym x))

        to_f : C' f ≡ C e1
        to_f = corner-else f (λ x. e1≢f (sym x)) (λ x. after_not f (sym x)) ∙ s.back_from

        to_before-e : C' (after e1) ≡ C (before e)
        to_before-e = corner-else (after e1) (after_not e1) (λ x. e1≢f (after_one e1 f x)) ∙ after-e1

        to_before-f : C' (after f1) ≡ C (before f)
        to_before-f = corner-else (after f1) (λ x. f1≢e (after_one f1 e x)) (after_not f1) ∙ after-f1

        at : (g : ℕ) → W' h ≡ g → Back h g → Back h (W' h)
        at g q k = subst (Back h) (sym q) k

        -- A twin that stays.
        kept : (g : ℕ) → W h ≡ g → g < 3 * t → (h ≡ e → ⊥) → (h ≡ f → ⊥) → (h ≡ W f1 → ⊥) → (h ≡ W e1 → ⊥) → C' h ≡ C h → C' (after h) ≡ C (after h)
            → Back h g
        kept g w bg p q u v x y = on (where_is g)
          where
            from : C g ≡ C (after h)
            from = ap C (sym w) ∙ tw.from h bh (subst (λ n. n < 3 * t) (sym w) bg)

            to : C (after g) ≡ C h
            to = ap (λ n. C (after n)) (sym w) ∙ tw.to h bh (subst (λ n. n < 3 * t) (sym w) bg)

            on : Where g → Back h g
            on (at_e z x' y') = absurd (q (s.single h f bh s.f-below (sym to ∙ ap (λ n. C (after n)) z ∙ sym s.back_from) (sym from ∙ ap C z ∙ sym s.back_to)))
            on (at_f z x' y') = absurd (p (s.single h e bh s.e-below (sym to ∙ ap (λ n. C (after n)) z ∙ s.back_to) (sym from ∙ ap C z ∙ s.back_from)))
            on (at_e1 z x' y') = absurd (v (sym (tw.found e1 h le bh (sym to ∙ ap (λ n. C (after n)) z) (sym from ∙ ap C z))))
            on (at_f1 z x' y') = absurd (u (sym (tw.found f1 h lf bh (sym to ∙ ap (λ n. C (after n)) z) (sym from ∙ ap C z))))
            on (other a b c d x' y') = (x' ∙ from ∙ sym y, y' ∙ to ∙ sym x)

        go : Where h → Dec (h ≡ W f1) → Dec (h ≡ W e1) → Back h (W' h)
        go (at_e z x y) u v =
            let w = ap W' z ∙ twin-e in
            let n : W f1 < 3 * t = subst (λ n. n < 3 * t) w b in
            let r = tw.from f1 lf n ∙ after-f1 in
            let k = same_side (W f1) (λ c. s.i-r (sym c ∙ r)) (λ c. s.r-j (sym r ∙ c)) in
            at (W f1) w (k.0 ∙ r ∙ sym y, k.1 ∙ tw.to f1 lf n ∙ s.back_to ∙ sym x)
        go (at_f z x y) u v =
            let w = ap W' z ∙ twin-f in
            let n : W e1 < 3 * t = subst (λ n. n < 3 * t) w b in
            let r = tw.from e1 le n ∙ after-e1 in
            let k = same_side (W e1) (λ c. s.l-i (sym r ∙ c)) (λ c. s.j-l (sym c ∙ r)) in
            at (W e1) w (k.0 ∙ r ∙ sym y, k.1 ∙ tw.to e1 le n ∙ sym x)
        go (at_e1 z x y) u v = at f1 (ap W' z ∙ twin-e1) (corner-f1 ∙ sym y, to_before-f ∙ sym x)
        go (at_f1 z x y) u v = at e1 (ap W' z ∙ twin-f1) (corner-e1 ∙ sym y, to_before-e ∙ sym x)
        go (other p q c d x y) (yes u) v =
            let n : W f1 < 3 * t = subst (λ n. n < 3 * t) u bh in
            at e (twin-ri h c d u)
            (to_e ∙ sym (y ∙ ap (λ k. C (after k)) u ∙ tw.to f1 lf n ∙ s.back_to), corner-e1 ∙ sym (x ∙ ap C u ∙ tw.from f1 lf n ∙ after-f1))
        go (other p q c d x y) (no u) (yes v) =
            let n : W e1 < 3 * t = subst (λ n. n < 3 * t) v bh in
            at f (twin-lj h c d u v)
            (to_f ∙ sym (y ∙ ap (λ k. C (after k)) v ∙ tw.to e1 le n), corner-f1 ∙ sym (x ∙ ap C v ∙ tw.from e1 le n ∙ after-e1))
        go (other p q c d x y) (no u) (no v) =
            let w = twin-else h p q c d u v in
            at (W h) w (kept (W h) refl (subst (λ n. n < 3 * t) w b) p q u v x y)

    -- The twins afterwards are those of the half-sides afterwards.
    pub swap-twinned : Twinned C' W' (3 * t)
    swap-twinned = record { found = found_after; from = λ h l k. (runs_back h l k).0; to = λ h l k. (runs_back h l k).1 }
