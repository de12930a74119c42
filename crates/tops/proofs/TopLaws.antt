-- The lowest key by blocks: the lowest of a block after a low key is stored (`tops-low`), and the lowest of all (`tops-least`). Assumes
-- nothing.
use mathlib.Core.Path.{◌≡◌, sym, ap, ◌∙◌, subst}
use mathlib.Core.List.{List}
use Prim.Native.Nat.{ℕ, ◌+◌, ◌*◌, ◌/◌, ◌≤◌, ◌<◌}
use native.Mathlib.Omega.{arith}
use native.Mathlib.Decide.{ℕ_discrete}
use lib.ListN.{length, get_or, set, length-set}
use lib.Seq.{get_or-set_same, get_or-set_other}
use Rattle.tops.specs.Tops.{LeastIn, Top, Tops, Least}

-- ---- a block
module _ (ks : List ℕ) (h v : ℕ) (within : h < length ks) where
  abbrev us : List ℕ
  us = set ks h v

  long : length us ≡ length ks
  long = length-set ks h v

  here : get_or us h 0 ≡ v
  here = get_or-set_same ks h v 0 within

  other : (g : ℕ) → (g ≡ h → ⊥) → get_or us g 0 ≡ get_or ks g 0
  other g n = get_or-set_other ks h g v 0 n

  -- What is below v at h and below all others is below all.
  bound : (b t : ℕ) → t ≤ v → ((g : ℕ) → (g ≡ h → ⊥) → g < length ks → 64 * b ≤ g → g < 64 * b + 64 → t ≤ get_or ks g 0)
      → (g : ℕ) → g < length us → 64 * b ≤ g → g < 64 * b + 64 → t ≤ get_or us g 0
  bound b t l f g w from to = go (ℕ_discrete g h)
    where
      go : Dec (g ≡ h) → t ≤ get_or us g 0
      go (yes e) = omega (arith, ap (λ x. get_or us x 0) e, here)
      go (no n) = omega (arith, other g n, f g n (omega (arith, long)) from to)

  -- Another block keeps its lowest.
  top_other : (b t : ℕ) → (b ≡ h / 64 → ⊥) → Top ks b t → Top us b t
  top_other b t n p =
      record {
        at = p.at;
        within = omega (arith, p.within, long);
        from = p.from;
        to = p.to;
        is = other p.at (λ e. n (omega (arith, e, p.from, p.to))) ∙ p.is;
        least = λ g w f o. let m : g ≡ h → ⊥ = λ e. n (omega (arith, e, f, o)) in omega (arith, other g m, p.least g (omega (arith, long)) f o);
      }

  -- A key that is no higher than the lowest is the lowest.
  top-low : (t : ℕ) → v ≤ t → Top ks (h / 64) t → Top us (h / 64) v
  top-low t l p =
      record {
        at = h;
        within = omega (arith, within, long);
        from = omega arith;
        to = omega arith;
        is = here;
        least = bound (h / 64) v (omega arith) (λ g n w f o. omega (arith, l, p.least g w f o));
      }

  module _ (tops : List ℕ) (p : Tops ks tops) where
    pub block_within : h / 64 < length tops
    block_within = omega (arith, p.enough, within)

    tops-anew : (t : ℕ) → Top us (h / 64) t → Tops us (set tops (h / 64) t)
    tops-anew t q =
        record {
          enough = omega (arith, p.enough, long, length-set tops (h / 64) t);
          no_more = omega (arith, p.no_more, long, length-set tops (h / 64) t);
          each = λ b l. go b (omega (arith, l, length-set tops (h / 64) t)) (ℕ_discrete b (h / 64));
        }
      where
        go : (b : ℕ) → b < length tops → Dec (b ≡ h / 64) → Top us b (get_or (set tops (h / 64) t) b 0)
        go b l (yes e) =
            subst (λ x. Top us x (get_or (set tops (h / 64) t) x 0)) (sym e)
            (subst (Top us (h / 64)) (sym (get_or-set_same tops (h / 64) t 0 block_within)) q)
        go b l (no n) = subst (Top us b) (sym (get_or-set_other tops (h / 64) b t 0 n)) (top_other b (get_or tops b 0) n (p.each b l))

    pub tops-low : v ≤ get_or tops (h / 64) 0 → Tops us (set tops (h / 64) v)
    tops-low l = tops-anew v (top-low (get_or tops (h / 64) 0) l (p.each (h / 64) block_within))

-- ---- all blocks
pub tops-least : (ks tops : List ℕ) → Tops ks tops → (b a z r : ℕ) → LeastIn tops 0 (length tops) b → a ≡ 64 * b → z ≤ length ks
    → ((g : ℕ) → g < length ks → g < 64 * b + 64 → g < z) → LeastIn ks a z r → Least ks r
tops-least ks tops p b a z r q e l more s =
    record {
      within = omega (arith, s.to);
      least = λ g w.
          let t = p.each b q.to in
          let d : g / 64 < length tops = omega (arith, p.enough) in
          let o = p.each (g / 64) d in
          omega (
            arith,
            s.least t.at (omega (arith, e, t.from)) (more t.at t.within t.to),
            t.is,
            q.least (g / 64) (omega arith) d,
            o.least g w (omega arith) (omega arith),
          );
    }
