-- A signed expression of the code fits its width and holds what it means, by computation. Assumes nothing.
--
-- The expression is data: `code` is what the machine holds of it, where each operation's result goes through its bits; `value` what
-- it means; `bound` a bound of it, computed from those of its variables. Where every bound inside fits the width (`ok`, a test that
-- computes), the two are equal (`holds`) and each operation's range check holds (`fits`): one line for each need of a signed operation.
use mathlib.Core.Path.{◌≡◌, refl, sym, ap, subst, ◌∙◌}
use mathlib.Core.Bool.{Bool, true, false}
use Prim.Native.Nat.{ℕ, ◌+◌, ◌*◌, ◌^◌, ◌≤◌}
use native.Mathlib.Nat.{lt_of_le_of_lt, le_refl}
use lib.Dec.{T, ltb, ltb→lt}
use lib.IntN.{ℤ, pos, nat_abs, ◌+ℤ◌, ◌-ℤ◌, ◌*ℤ◌}
use lib.Signed.{quot_z}
use mir.Syntax.{Width}
use mir.Val.{SFits, to_z, of_z, hbits}
use mir.Facts.{to_z-of_z}
use mir.ValLaws.{to_z_pos}
use Rattle.whole.specs.Range.{Within}
use Rattle.whole.proofs.RangeLaws.{within-add, within-sub, within-mul, within-pos, within-fits, within-quot}

infixl 20 ◌⊕◌ ◌⊖◌
infixl 21 ◌⊗◌ ◌⊘◌
-- a variable and its bound; a natural number that was cast; a literal; an expression at another width, cast; the operations
pub data Signed : Type 0 where
  var : ℤ → ℕ → Signed
  nat : ℕ → ℕ → Signed
  lit : ℤ → Signed
  wide : Width → Signed → Signed
  ◌⊕◌ : Signed → Signed → Signed
  ◌⊖◌ : Signed → Signed → Signed
  ◌⊗◌ : Signed → Signed → Signed
  ◌⊘◌ : Signed → Signed → Signed

abbrev pub value : Signed → ℤ
value (var z n) = z
value (nat x n) = pos x
value (lit z) = z
value (wide v e) = value e
value (a ⊕ b) = value a +ℤ value b
value (a ⊖ b) = value a -ℤ value b
value (a ⊗ b) = value a *ℤ value b
value (a ⊘ b) = quot_z (value a) (value b)

abbrev pub bound : Signed → ℕ
bound (var z n) = n
bound (nat x n) = n
bound (lit z) = nat_abs z
bound (wide v e) = bound e
bound (a ⊕ b) = bound a + bound b
bound (a ⊖ b) = bound a + bound b
bound (a ⊗ b) = bound a * bound b
bound (a ⊘ b) = bound a

-- what the machine holds
abbrev pub code : Width → Signed → ℤ
code w (var z n) = to_z w (of_z w z)
code w (nat x n) = to_z w x
code w (lit z) = z
code w (wide v e) = to_z w (of_z w (code v e))
code w (a ⊕ b) = to_z w (of_z w (code w a +ℤ code w b))
code w (a ⊖ b) = to_z w (of_z w (code w a -ℤ code w b))
code w (a ⊗ b) = to_z w (of_z w (code w a *ℤ code w b))
code w (a ⊘ b) = to_z w (of_z w (quot_z (code w a) (code w b)))

-- what an operation's range check asks of
abbrev pub raw : Width → Signed → ℤ
raw w (var z n) = z
raw w (nat x n) = pos x
raw w (lit z) = z
raw w (wide v e) = code v e
raw w (a ⊕ b) = code w a +ℤ code w b
raw w (a ⊖ b) = code w a -ℤ code w b
raw w (a ⊗ b) = code w a *ℤ code w b
raw w (a ⊘ b) = quot_z (code w a) (code w b)

abbrev both : Bool → Bool → Bool
both true b = b
both false b = false

both-0 : (a b : Bool) → T (both a b) → T a
both-0 true b t = tt
both-0 false b t = t

both-1 : (a b : Bool) → T (both a b) → T b
both-1 true b t = t
both-1 false b t = absurd t

-- every bound within fits
abbrev pub ok : Width → Signed → Bool
ok w (var z n) = ltb n (2 ^ hbits w)
ok w (nat x n) = ltb n (2 ^ hbits w)
ok w (lit z) = ltb (nat_abs z) (2 ^ hbits w)
ok w (wide v e) = both (ltb (bound e) (2 ^ hbits w)) (ok v e)
ok w (a ⊕ b) = both (ltb (bound a + bound b) (2 ^ hbits w)) (both (ok w a) (ok w b))
ok w (a ⊖ b) = both (ltb (bound a + bound b) (2 ^ hbits w)) (both (ok w a) (ok w b))
ok w (a ⊗ b) = both (ltb (bound a * bound b) (2 ^ hbits w)) (both (ok w a) (ok w b))
ok w (a ⊘ b) = both (ltb (bound a) (2 ^ hbits w)) (both (ok w a) (ok w b))

-- the variables lie within their bounds
abbrev pub InBounds : Signed → Type 0
InBounds (var z n) = Within n z
InBounds (nat x n) = x ≤ n
InBounds (lit z) = Unit
InBounds (wide v e) = InBounds e
InBounds (a ⊕ b) = InBounds a × InBounds b
InBounds (a ⊖ b) = InBounds a × InBounds b
InBounds (a ⊗ b) = InBounds a × InBounds b
InBounds (a ⊘ b) = InBounds a × InBounds b

pub within : (e : Signed) → InBounds e → Within (bound e) (value e)
within (var z n) g = g
within (nat x n) g = within-pos g
within (lit z) g = record { by = le_refl (nat_abs z) }
within (wide v e) g = within e g
within (a ⊕ b) g = within-add (within a g.0) (within b g.1)
within (a ⊖ b) g = within-sub (within a g.0) (within b g.1)
within (a ⊗ b) g = within-mul (within a g.0) (within b g.1)
within (a ⊘ b) g = within-quot (value b) (within a g.0)

back : (w : Width) (x y : ℤ) (n : ℕ) → x ≡ y → Within n y → T (ltb n (2 ^ hbits w)) → to_z w (of_z w x) ≡ y
back w x y n e h t = ap (λ (z : ℤ). to_z w (of_z w z)) e ∙ to_z-of_z (within-fits h t)

-- the machine holds what the expression means
pub holds : (w : Width) (e : Signed) → InBounds e → T (ok w e) → code w e ≡ value e
holds w (var z n) g t = to_z-of_z (within-fits g t)
holds w (nat x n) g t = to_z_pos w x (lt_of_le_of_lt g (ltb→lt _ _ t))
holds w (lit z) g t = refl
holds w (wide v e) g t = back w _ _ (bound e) (holds v e g (both-1 (ltb (bound e) (2 ^ hbits w)) (ok v e) t)) (within e g) (both-0 (ltb (bound e) (2 ^ hbits w)) (ok v e) t)
holds w (a ⊕ b) g t =
    let f = both-1 (ltb (bound a + bound b) (2 ^ hbits w)) (both (ok w a) (ok w b)) t in
    back w _ _ (bound a + bound b) (ap (λ (x : ℤ). x +ℤ code w b) (holds w a g.0 (both-0 (ok w a) (ok w b) f)) ∙ ap (λ (y : ℤ). value a +ℤ y) (holds w b g.1 (both-1 (ok w a) (ok w b) f)))
    (within (a ⊕ b) g) (both-0 (ltb (bound a + bound b) (2 ^ hbits w)) (both (ok w a) (ok w b)) t)
holds w (a ⊖ b) g t =
    let f = both-1 (ltb (bound a + bound b) (2 ^ hbits w)) (both (ok w a) (ok w b)) t in
    back w _ _ (bound a + bound b) (ap (λ (x : ℤ). x -ℤ code w b) (holds w a g.0 (both-0 (ok w a) (ok w b) f)) ∙ ap (λ (y : ℤ). value a -ℤ y) (holds w b g.1 (both-1 (ok w a) (ok w b) f)))
    (within (a ⊖ b) g) (both-0 (ltb (bound a + bound b) (2 ^ hbits w)) (both (ok w a) (ok w b)) t)
holds w (a ⊗ b) g t =
    let f = both-1 (ltb (bound a * bound b) (2 ^ hbits w)) (both (ok w a) (ok w b)) t in
    back w _ _ (bound a * bound b) (ap (λ (x : ℤ). x *ℤ code w b) (holds w a g.0 (both-0 (ok w a) (ok w b) f)) ∙ ap (λ (y : ℤ). value a *ℤ y) (holds w b g.1 (both-1 (ok w a) (ok w b) f)))
    (within (a ⊗ b) g) (both-0 (ltb (bound a * bound b) (2 ^ hbits w)) (both (ok w a) (ok w b)) t)
holds w (a ⊘ b) g t =
    let f = both-1 (ltb (bound a) (2 ^ hbits w)) (both (ok w a) (ok w b)) t in
    back w _ _ (bound a) (ap (λ (x : ℤ). quot_z x (code w b)) (holds w a g.0 (both-0 (ok w a) (ok w b) f)) ∙ ap (quot_z (value a)) (holds w b g.1 (both-1 (ok w a) (ok w b) f)))
    (within (a ⊘ b) g) (both-0 (ltb (bound a) (2 ^ hbits w)) (both (ok w a) (ok w b)) t)

both-raw : (w : Width) (a b : Signed) (u : Bool) (f : ℤ → ℤ → ℤ) (n : ℕ) → InBounds a → InBounds b → T (both u (both (ok w a) (ok w b))) → Within n (f (value a) (value b)) → T (ltb n (2 ^ hbits w)) → SFits w (f (code w a) (code w b))
both-raw w a b u f n ga gb t h k =
    let v = both-1 u (both (ok w a) (ok w b)) t in
    subst (SFits w)
    (sym (ap (λ (x : ℤ). f x (code w b)) (holds w a ga (both-0 (ok w a) (ok w b) v)) ∙ ap (f (value a)) (holds w b gb (both-1 (ok w a) (ok w b) v))))
    (within-fits h k)

-- an operation's range check
pub fits : (w : Width) (e : Signed) → InBounds e → T (ok w e) → SFits w (raw w e)
fits w (var z n) g t = within-fits g t
fits w (nat x n) g t = within-fits (within-pos g) t
fits w (lit z) g t = within-fits (within (lit z) g) t
fits w (wide v e) g t = subst (SFits w) (sym (holds v e g (both-1 (ltb (bound e) (2 ^ hbits w)) (ok v e) t))) (within-fits (within e g) (both-0 (ltb (bound e) (2 ^ hbits w)) (ok v e) t))
fits w (a ⊕ b) g t = both-raw w a b (ltb (bound a + bound b) (2 ^ hbits w)) ◌+ℤ◌ _ g.0 g.1 t (within (a ⊕ b) g) (both-0 (ltb (bound a + bound b) (2 ^ hbits w)) (both (ok w a) (ok w b)) t)
fits w (a ⊖ b) g t = both-raw w a b (ltb (bound a + bound b) (2 ^ hbits w)) ◌-ℤ◌ _ g.0 g.1 t (within (a ⊖ b) g) (both-0 (ltb (bound a + bound b) (2 ^ hbits w)) (both (ok w a) (ok w b)) t)
fits w (a ⊗ b) g t = both-raw w a b (ltb (bound a * bound b) (2 ^ hbits w)) ◌*ℤ◌ _ g.0 g.1 t (within (a ⊗ b) g) (both-0 (ltb (bound a * bound b) (2 ^ hbits w)) (both (ok w a) (ok w b)) t)
fits w (a ⊘ b) g t = both-raw w a b (ltb (bound a) (2 ^ hbits w)) quot_z _ g.0 g.1 t (within (a ⊘ b) g) (both-0 (ltb (bound a) (2 ^ hbits w)) (both (ok w a) (ok w b)) t)
