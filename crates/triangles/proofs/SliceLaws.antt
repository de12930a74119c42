-- A chain in a slice is the sweep's chain as a list; what the code does to the one, the sweep does to the other. Assumes nothing.
--
-- Entry a holds the top, and below it stand the list's stations in turn. Going down the sides that q sees stops where popping stops,
-- and the sides gone by are the fan's.
use mathlib.Core.Path.{◌≡◌, refl, sym, ap, ap₂, ◌∙◌, subst}
use mathlib.Core.Bool.{Bool, true, false, cond}
use mathlib.Core.List.{List, [], ◌∷◌}
use Prim.Native.Nat.{ℕ, suc, ◌+◌, ◌-◌, ◌<◌}
use native.Mathlib.Numerals.{add-one}
use native.Mathlib.Omega.{arith}
use lib.IntN.{ℤ, pos}
use lib.ListN.{length, get_or, set}
use lib.Seq.{get_or-set_same, get_or-set_other}
use lib.Signed.{lt_z}
use Rattle.sweep.specs.Sweep.{Three, tri, pop, fan}
use Rattle.triangles.specs.Chain.{down_to}
use Rattle.triangles.proofs.ChainLaws.{down_le}
use Rattle.triangles.proofs.FanLaws.{falling}

pub data OnSlice (chain : List ℕ) : ℕ → ℕ → List ℕ → Type 0 where
  bottom : {t : ℕ} → get_or chain 0 0 ≡ t → OnSlice chain 0 t []
  above : {a t s : ℕ} {l : List ℕ} → get_or chain (suc a) 0 ≡ t → OnSlice chain a s l → OnSlice chain (suc a) t (s ∷ l)

on_top : {chain : List ℕ} {a t : ℕ} {l : List ℕ} → OnSlice chain a t l → get_or chain a 0 ≡ t
on_top (bottom e) = e
on_top (above e c) = e

-- Stores above the top leave the chain.
on_kept : {chain : List ℕ} {a t : ℕ} {l : List ℕ} (i v : ℕ) → a < i → OnSlice chain a t l → OnSlice (set chain i v) a t l
on_kept {chain} i v h (bottom e) = bottom (get_or-set_other chain i 0 v 0 (λ f. omega (arith, f)) ∙ e)
on_kept {chain} i v h (above {a = a} e c) = above (get_or-set_other chain i (suc a) v 0 (λ f. omega (arith, f)) ∙ e) (on_kept i v (omega arith) c)

-- A station pushed.
pub on_push : {chain : List ℕ} {a t : ℕ} {l : List ℕ} (q : ℕ) → a + 1 < length chain → OnSlice chain a t l → OnSlice (set chain (a + 1) q) (a + 1) q (t ∷ l)
on_push {chain} {a} {t} {l} q h c =
    subst (λ n. OnSlice (set chain n q) n q (t ∷ l)) (sym (add-one a)) (above (get_or-set_same chain (suc a) q 0 (omega arith)) (on_kept (suc a) q (omega arith) c))

-- What q leaves of a chain, in the slice and as a list.
pub record Left (o : ℕ → ℕ → ℕ → ℤ) (chain : List ℕ) (q j a t : ℕ) (l : List ℕ) : Type 0 where
  pub top : ℕ
  pub rest : List ℕ
  pub popped : pop o q t l ≡ top ∷ rest
  pub on : OnSlice chain j top rest
  pub fanned : fan o q t l ≡ falling (λ i. tri (get_or chain i 0) q (get_or chain (i + 1) 0)) j (a - j)

pub left : (o : ℕ → ℕ → ℕ → ℤ) (chain : List ℕ) (q : ℕ) {a t : ℕ} {l : List ℕ} → OnSlice chain a t l
    → Left o chain q (down_to (λ i. lt_z (o (get_or chain i 0) (get_or chain (i + 1) 0) q) (pos 0)) a) a t l
unfolding pop fan down_to falling
left o chain q (bottom {t = t} e) = record { top = t; rest = []; popped = refl; on = bottom e; fanned = refl }
left o chain q (above {a = a} {t = t} {s = s} {l = l} e c) = go (lt_z (o s t q) (pos 0)) refl (left o chain q c)
  where
    p : ℕ → Bool
    p i = lt_z (o (get_or chain i 0) (get_or chain (i + 1) 0) q) (pos 0)

    upper : get_or chain (a + 1) 0 ≡ t
    upper = ap (λ n. get_or chain n 0) (add-one a) ∙ e

    test : p a ≡ lt_z (o s t q) (pos 0)
    test = λ i. lt_z (o (on_top c i) (upper i) q) (pos 0)

    g : ℕ → Three ℕ
    g i = tri (get_or chain i 0) q (get_or chain (i + 1) 0)

    go : (b : Bool) → lt_z (o s t q) (pos 0) ≡ b → Left o chain q (down_to p a) a s l → Left o chain q (cond (p a) (down_to p a) (suc a)) (suc a) t (s ∷ l)
    go true f r =
        let k : suc a - down_to p a ≡ suc (a - down_to p a) = omega (arith, down_le p a) in
        let m : down_to p a + (a - down_to p a) ≡ a = omega (arith, down_le p a) in
        rw (test ∙ f)
        (record {
          top = r.top;
          rest = r.rest;
          popped = rw (f, pop) r.popped;
          on = r.on;
          fanned = rw (f, fan, k) (ap₂ (λ x us. x ∷ us) (sym (ap g m ∙ (λ i. tri (on_top c i) q (upper i)))) r.fanned);
        })
    go false f r =
        let k : suc a - suc a ≡ 0 = omega arith in
        rw (test ∙ f) (record { top = t; rest = s ∷ l; popped = rw (f, pop); on = above e c; fanned = rw (f, fan, k) })
