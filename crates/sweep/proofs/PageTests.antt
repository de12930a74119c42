-- The tests of the page's definition say what the relations of the laws say. Assumes nothing.
use mathlib.Core.Path.{◌≡◌, refl, sym, ◌∙◌, ap}
use mathlib.Core.Bool.{Bool, true, false, cond, not, ◌&&◌, ◌||◌}
use mathlib.Core.List.{List, [], ◌∷◌, ◌++◌, map, append_assoc}
use mathlib.Core.Logic.{⊎_elim}
use native.Mathlib.Omega.{arith}
use borrow.Author.Tests.{lt-ltb, le-ltb, ltb-true, eqb-true, eq-eqb, not-true, not-false}
use lib.Dec.{ltb, eqb}
use lib.IntN.{ℤ, pos}
use lib.Signed.{lt_z, ◌≤ℤ◌, ◌<ℤ◌}
use Rattle.lists.proofs.TestLaws.{and_left, and_right}
use Rattle.whole.specs.Place.{Place, Before, rightward, upward}
use Rattle.whole.proofs.Bridge.{test-true, test-false, true-test, false-test}
use Rattle.sweep.specs.Members.{here, there, In}
use Rattle.sweep.specs.Sweep.{edge}
use Rattle.sweep.specs.Page.{is_before, every, is_clear, is_side, sides_to, sides_of}
use Rattle.sweep.proofs.MemberLaws.{any_cons, any_none, any_map, any_find}
use Rattle.sweep.proofs.Slopes.{Slopes}
use Rattle.sweep.proofs.Stack.{Side}

-- The order.
pub before-yes : (a b : Place) → Before a b → is_before a b ≡ true
unfolding is_before
before-yes a b (rightward h) = rw (lt-ltb a.x b.x h)
before-yes a b (upward e h) = rw (le-ltb a.x b.x (omega (arith, e)), eq-eqb a.x b.x e, lt-ltb a.y b.y h)

pub before_of : (a b : Place) → is_before a b ≡ true → Before a b
unfolding is_before
before_of a b h = go (ltb a.x b.x) refl h
  where
    go : (t : Bool) → ltb a.x b.x ≡ t → (t || (eqb a.x b.x && ltb a.y b.y)) ≡ true → Before a b
    go true e k = rightward (ltb-true a.x b.x e)
    go false e k = upward (eqb-true a.x b.x (and_left _ _ k)) (ltb-true a.y b.y (and_right (eqb a.x b.x) _ k))

-- A test of every member.
pub every_of : {A : Type 0} (p : A → Bool) (l : List A) → every p l ≡ true → (x : A) → In x l → p x ≡ true
unfolding every
every_of p [] h x i = absurd (any_none i)
every_of p (y ∷ l) h x i = ⊎_elim (λ e. ap p e ∙ and_left (p y) (every p l) h) (λ j. every_of p l (and_right (p y) (every p l) h) x j) (any_cons i)

pub every_yes : {A : Type 0} (p : A → Bool) (l : List A) → ((x : A) → In x l → p x ≡ true) → every p l ≡ true
unfolding every
every_yes p [] f = refl
every_yes p (y ∷ l) f = rw (f y (here refl)) (every_yes p l (λ x i. f x (there i)))

-- A station that leaves a side clear is not beyond it, and strictly within it where it stands between the ends.
module _ {A : Type 0} (f : A → Place) (o : Slopes) (s t w : A) where
  clear-left : is_clear f o.O s t w ≡ true → pos 0 ≤ℤ o.O (f s) (f t) (f w)
  unfolding is_clear
  clear-left h = test-false (not-true _ (and_left (not (lt_z (o.O (f s) (f t) (f w)) (pos 0))) _ h))

  clear_apart : is_clear f o.O s t w ≡ true → Before (f s) (f w) → Before (f w) (f t) → pos 0 <ℤ o.O (f s) (f t) (f w)
  unfolding is_clear
  clear_apart h sw wt =
      test-true
      (not-false _
      (go (lt_z (pos 0) (o.O (f s) (f t) (f w))) (before-yes (f s) (f w) sw) (before-yes (f w) (f t) wt)
      (not-true _ (and_right (not (lt_z (o.O (f s) (f t) (f w)) (pos 0))) _ h))))
    where
      go : (b : Bool) {x y : Bool} → x ≡ true → y ≡ true → ((x && y) && not b) ≡ false → not b ≡ false
      go b e g k = rw (e, g) at k

  clear-yes : pos 0 ≤ℤ o.O (f s) (f t) (f w) → (Before (f s) (f w) → Before (f w) (f t) → pos 0 <ℤ o.O (f s) (f t) (f w)) → is_clear f o.O s t w ≡ true
  unfolding is_clear
  clear-yes h k =
      rw (false-test h)
      (go (is_before (f s) (f w)) refl (is_before (f w) (f t)) refl)
    where
      go : (x : Bool) → is_before (f s) (f w) ≡ x → (y : Bool) → is_before (f w) (f t) ≡ y → not ((x && y) && not (lt_z (pos 0) (o.O (f s) (f t) (f w)))) ≡ true
      go true e true g = rw (true-test (k (before_of (f s) (f w) e) (before_of (f w) (f t) g)))
      go true e false g = refl
      go false e y g = refl

-- The place of a member is a member of the places.
pub in_places : {A : Type 0} (f : A → Place) {x : A} {l : List A} → In x l → In (f x) (map f l)
in_places f (here e) = here (ap f e)
in_places f (there i) = there (in_places f i)

-- The test of a side is that of the laws, on the stations ps.
module _ {A : Type 0} (f : A → Place) (o : Slopes) (ps : List A) (s t : A) where
  pub side-of : In s ps → In t ps → is_side f o.O ps s t ≡ true → Side o (λ w. In w (map f ps)) (f s) (f t)
  unfolding is_side
  side-of is it h =
      let all = every_of (is_clear f o.O s t) ps (and_right (is_before (f s) (f t)) _ h) in
      record {
        from = in_places f is;
        to = in_places f it;
        lex = before_of (f s) (f t) (and_left _ _ h);
        left = λ w i. let r = any_find (any_map f ps i) in rw r.2 (clear-left f o s t r.0 (all r.0 r.1));
        apart =
            λ w i a b.
            let r = any_find (any_map f ps i) in
            rw r.2 (clear_apart f o s t r.0 (all r.0 r.1) (rw r.2 at a) (rw r.2 at b));
      }

  pub side-yes : Side o (λ w. In w (map f ps)) (f s) (f t) → is_side f o.O ps s t ≡ true
  unfolding is_side
  side-yes d =
      rw (before-yes (f s) (f t) d.lex)
      (every_yes (is_clear f o.O s t) ps
      (λ w i. clear-yes f o s t w (d.left (f w) (in_places f i)) (λ a b. d.apart (f w) (in_places f i) a b)))

-- Lists of sides.
module _ {A : Type 0} (f : A → Place) (O : Place → Place → Place → ℤ) (ps : List A) where
  pub to_append : (s : A) (l m : List A) → sides_to f O ps s (l ++ m) ≡ sides_to f O ps s l ++ sides_to f O ps s m
  unfolding sides_to
  to_append s [] m = refl
  to_append s (t ∷ l) m = go (is_side f O ps s t) (to_append s l m)
    where
      go : (b : Bool) → sides_to f O ps s (l ++ m) ≡ sides_to f O ps s l ++ sides_to f O ps s m →
          cond b (edge s t ∷ sides_to f O ps s (l ++ m)) (sides_to f O ps s (l ++ m)) ≡ cond b (edge s t ∷ sides_to f O ps s l) (sides_to f O ps s l) ++ sides_to f O ps s m
      go true e = rw e
      go false e = e

  pub to_none : (s : A) (l : List A) → ((t : A) → In t l → is_side f O ps s t ≡ false) → sides_to f O ps s l ≡ []
  unfolding sides_to
  to_none s [] g = refl
  to_none s (t ∷ l) g = rw (g t (here refl)) (to_none s l (λ u i. g u (there i)))

  pub to_one : (s t : A) (l : List A) → is_side f O ps s t ≡ true → ((u : A) → In u l → is_side f O ps s u ≡ false) → sides_to f O ps s (t ∷ l) ≡ edge s t ∷ []
  unfolding sides_to
  to_one s t l e g = rw e (ap (λ es. edge s t ∷ es) (to_none s l g))

  pub of_append : (l m : List A) → sides_of f O ps (l ++ m) ≡ sides_of f O ps l ++ sides_of f O ps m
  unfolding sides_of
  of_append [] m = refl
  of_append (s ∷ l) m = rw (of_append l m) (sym (append_assoc (sides_to f O ps s ps) (sides_of f O ps l) (sides_of f O ps m)))

  pub of_none : (l : List A) → ((s : A) → In s l → sides_to f O ps s ps ≡ []) → sides_of f O ps l ≡ []
  unfolding sides_of
  of_none [] g = refl
  of_none (s ∷ l) g = rw (g s (here refl)) (of_none l (λ u i. g u (there i)))
