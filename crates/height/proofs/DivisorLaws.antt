-- No divisor of the steps is 0 over a triangle that is written counterclockwise: `divisors`. Assumes nothing.
--
-- ad - bc is twice the triangle's area. (aa+cc)(bb+dd) is (ab+cd)² + (ad-bc)², and above 0 with it; so neither factor is 0. us - sv is
-- minus the squared third side, whose product with aa+cc is likewise a square and (ad-bc)².
use mathlib.Core.Path.{◌≡◌, refl, sym, ap, ◌∙◌, subst}
use mathlib.Core.List.{List, [], ◌∷◌}
use Prim.Native.Nat.{ℕ}
use native.Mathlib.Omega.{arith}
use lib.IntN.{ℤ, pos, negsuc, ◌+ℤ◌, ◌-ℤ◌, ◌*ℤ◌}
use lib.Signed.{◌≤ℤ◌, ◌<ℤ◌}
use Rattle.whole.specs.Place.{Place}
use Rattle.whole.specs.Turn.{turn}
use Rattle.whole.proofs.Bridge.{int, add, mul}
use Rattle.whole.proofs.Polynomial.{var, lit, ◌:+◌, ◌:-◌, ◌:*◌}
use Rattle.whole.proofs.Solver.{identity}
use Rattle.whole.proofs.SignLaws.{positive-mul, mul-zero}
use Rattle.sweep.specs.Members.{In}
use Rattle.sweep.specs.Sweep.{Three}
use Rattle.survey.specs.Survey.{Survey, place_of}
use Rattle.hull.specs.MeshOf.{MeshOf}
use Rattle.quintic.specs.declared.Steps.{Steps}
use Rattle.quintic.specs.Quintic.{steps_of, w, us, sv, twice_area}

-- The squared third side, from corner 2 to corner 3.
abbrev pub third : Steps → ℤ
third e = (e.b -ℤ e.a) *ℤ (e.b -ℤ e.a) +ℤ (e.d -ℤ e.c) *ℤ (e.d -ℤ e.c)

-- 'us-sv is minus the squared third side.'
pub us-sv : (e : Steps) → us e -ℤ sv e ≡ pos 0 -ℤ third e
us-sv e =
    let a = var 0 in
    let b = var 1 in
    let c = var 2 in
    let d = var 3 in
    identity (e.a ∷ e.b ∷ e.c ∷ e.d ∷ [])
    ((a :* (b :- a) :+ c :* (d :- c)) :- (b :* (b :- a) :+ d :* (d :- c)))
    (lit (pos 0) :- ((b :- a) :* (b :- a) :+ (d :- c) :* (d :- c)))
    refl

-- What the squared sides make when multiplied.
squares : (e : Steps) → (e.a *ℤ e.a +ℤ e.c *ℤ e.c) *ℤ (e.b *ℤ e.b +ℤ e.d *ℤ e.d)
    ≡ w e *ℤ w e +ℤ twice_area e *ℤ twice_area e
squares e =
    let a = var 0 in
    let b = var 1 in
    let c = var 2 in
    let d = var 3 in
    identity (e.a ∷ e.b ∷ e.c ∷ e.d ∷ [])
    ((a :* a :+ c :* c) :* (b :* b :+ d :* d))
    ((a :* b :+ c :* d) :* (a :* b :+ c :* d) :+ (a :* d :- b :* c) :* (a :* d :- b :* c))
    refl

third-squares : (e : Steps) → (e.a *ℤ e.a +ℤ e.c *ℤ e.c) *ℤ third e ≡ us e *ℤ us e +ℤ twice_area e *ℤ twice_area e
third-squares e =
    let a = var 0 in
    let b = var 1 in
    let c = var 2 in
    let d = var 3 in
    identity (e.a ∷ e.b ∷ e.c ∷ e.d ∷ [])
    ((a :* a :+ c :* c) :* ((b :- a) :* (b :- a) :+ (d :- c) :* (d :- c)))
    ((a :* (b :- a) :+ c :* (d :- c)) :* (a :* (b :- a) :+ c :* (d :- c)) :+ (a :* d :- b :* c) :* (a :* d :- b :* c))
    refl

square-nonneg : (z : ℤ) → pos 0 ≤ℤ (z *ℤ z)
square-nonneg (pos n) = omega (arith, int, mul (pos n) (pos n))
square-nonneg (negsuc n) = omega (arith, int, mul (negsuc n) (negsuc n))

-- A square and a square above 0 do not sum to 0.
sum-nonzero : (s t : ℤ) → pos 0 <ℤ t → s *ℤ s +ℤ t *ℤ t ≡ pos 0 → ⊥
sum-nonzero s t h e =
    let p = positive-mul h h in
    let q = square-nonneg s in
    omega (arith, int, add (s *ℤ s) (t *ℤ t))

mul-zero-left : {a : ℤ} (b : ℤ) → a ≡ pos 0 → a *ℤ b ≡ pos 0
mul-zero-left {a} b e = ap (λ (x : ℤ). x *ℤ b) e ∙ zero_left b
  where
    zero_left : (x : ℤ) → pos 0 *ℤ x ≡ pos 0
    zero_left x = identity (x ∷ []) (lit (pos 0) :* var 0) (lit (pos 0)) refl

-- The divisors.
pub record Divisors (e : Steps) : Type 0 where
  pub aa+cc : e.a *ℤ e.a +ℤ e.c *ℤ e.c ≡ pos 0 → ⊥
  pub bb+dd : e.b *ℤ e.b +ℤ e.d *ℤ e.d ≡ pos 0 → ⊥
  pub us-sv : us e -ℤ sv e ≡ pos 0 → ⊥
  pub ad-bc : twice_area e ≡ pos 0 → ⊥

area-divisors : (e : Steps) → pos 0 <ℤ twice_area e → Divisors e
area-divisors e h =
    record {
      aa+cc = λ z. sum-nonzero (w e) (twice_area e) h (sym (squares e) ∙ mul-zero-left (e.b *ℤ e.b +ℤ e.d *ℤ e.d) z);
      bb+dd = λ z. sum-nonzero (w e) (twice_area e) h (sym (squares e) ∙ mul-zero (e.a *ℤ e.a +ℤ e.c *ℤ e.c) z);
      us-sv = λ z.
          sum-nonzero (us e) (twice_area e) h (sym (third-squares e) ∙ mul-zero (e.a *ℤ e.a +ℤ e.c *ℤ e.c) (third-zero (sym (us-sv e) ∙ z)));
      ad-bc = λ z. absurd (omega (arith, int));
    }
  where
    third-zero : pos 0 -ℤ third e ≡ pos 0 → third e ≡ pos 0
    third-zero z = identity (third e ∷ []) (var 0) (lit (pos 0) :- (lit (pos 0) :- var 0)) refl ∙ ap (λ (x : ℤ). pos 0 -ℤ x) z

-- ad - bc is twice the area of the triangle.
pub area_is : (p q r : Place) → twice_area (steps_of p q r) ≡ turn p q r
unfolding steps_of turn
area_is p q r =
    let a = var 2 :- var 0 in
    let b = var 4 :- var 0 in
    let c = var 3 :- var 1 in
    let d = var 5 :- var 1 in
    identity (pos p.x ∷ pos p.y ∷ pos q.x ∷ pos q.y ∷ pos r.x ∷ pos r.y ∷ []) (a :* d :- b :* c) (a :* d :- c :* b) refl

pub divisors : (p q r : Place) → pos 0 <ℤ turn p q r → Divisors (steps_of p q r)
divisors p q r h = area-divisors (steps_of p q r) (subst (λ (z : ℤ). pos 0 <ℤ z) (sym (area_is p q r)) h)

-- So it is for every triangle of a mesh.
pub mesh-divisors :
    (s : Survey) (ts : List (Three ℕ)) → MeshOf s ts → (t : Three ℕ) → In t ts → Divisors (steps_of (place_of s t.a) (place_of s t.b) (place_of s t.c))
mesh-divisors s ts mesh t i = divisors (place_of s t.a) (place_of s t.b) (place_of s t.c) (mesh.positive t i)
