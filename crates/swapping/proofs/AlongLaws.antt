-- The loop over the swaps: its start (`start`), one turn (`turn_along`, `turn-falls`), and its end (`along-done`). Assumes nothing.
use mathlib.Core.Path.{◌≡◌, refl, sym, ap, ap₂, ◌∙◌, subst}
use mathlib.Core.Bool.{true}
use mathlib.Core.List.{List, [], ◌∷◌, map}
use Prim.Native.Nat.{ℕ, suc, ◌+◌, ◌*◌, ◌/◌, ◌<◌}
use native.Mathlib.Omega.{arith}
use lib.IntN.{ℤ}
use lib.ListN.{length, get_or}
use Rattle.lists.specs.Table.{table}
use Rattle.lists.proofs.TableLaws.{table-length, table-entry}
use Rattle.tops.specs.Tops.{Least}
use Rattle.survey.specs.Fit.{Fit}
use Rattle.survey.specs.Survey.{Survey, survey, place_of}
use Rattle.sweep.specs.Members.{total}
use Rattle.sweep.specs.Sweep.{Three, tri}
use Rattle.triangles.specs.Chain.{places_of}
use Rattle.triangles.specs.Mesh.{lowest_first}
use Rattle.neighbours.specs.Half.{corner_in}
use Rattle.neighbours.specs.Room.{threes}
use Rattle.neighbours.proofs.RoomLaws.{length-threes}
use Rattle.fatter.specs.Swap.{is_left, swap_lowest, Swapped, none_left, one_more, load, slack, swaps}
use Rattle.fatter.proofs.EndLaws.{lowest-falls, swaps-end, swapped-unique}
use Rattle.fatter.proofs.ExchangeLaws.{as_it_is, turned_same}
use Rattle.fatter.proofs.KeptLaws.{load-next}
use Rattle.swapping.specs.Halves.{at, Twinned}
use Rattle.swapping.specs.Rooms.{twin_in, no_key, key_in, may_swap_in, After, Ready}
use Rattle.swapping.proofs.DrawnLaws.{threes_at, drawn-lowest}
use Rattle.swapping.proofs.HeldLaws.{Held, none_is_left, may-e, is-left, swap-lowest, lf, swap-held, swap-count}

-- The rooms on the way: they hold a mesh from which the swaps go on as they do from the first.
pub record Along (s : Survey) (k : ℕ) (first c w ks : List ℕ) : Type 0 where
  pub ts : List (Three ℕ)
  pub held : Held s ts c w ks
  pub same_count : length ts ≡ k
  pub reach : (us : List (Three ℕ)) → Swapped s ts us → Swapped s (threes k first) us

pub start : (s : Survey) (k : ℕ) (c w ks : List ℕ) (m : ℕ) → Ready s k c w → m ≡ 3 * k → ks ≡ table (key_in (place_of s) c w) m → Along s k c c w ks
start s k c w ks m r n e =
    record {
      ts = threes k c;
      held =
          record {
            mesh = r.mesh;
            drawn = record { each = λ i l. as_it_is (threes_at k c i (omega (arith, count_is))) };
            twinned = subst (λ x. Twinned (corner_in c) (twin_in w) (3 * x)) (sym count_is) r.twinned;
            corners-count = omega (arith, r.corners-count, count_is);
            twins-count = omega (arith, r.twins-count, count_is);
            keys-count = omega (arith, ap length e, table-length (key_in (place_of s) c w) m, n, count_is);
            keys-right = λ h l. ap (λ x. get_or x h 0) e ∙ table-entry (key_in (place_of s) c w) m h 0 (omega (arith, n, count_is));
          };
      same_count = count_is;
      reach = λ us x. x;
    }
  where
    count_is : length (threes k c) ≡ k
    count_is = length-threes k c

-- ---- one turn
module _ (s : Survey) (fit : Fit s) (k : ℕ) (first c w ks : List ℕ) (a : Along s k first c w ks) (e : ℕ) (least : Least ks e) where
  -- The half-side is there, and so is its twin.
  pub turn_below : (e < 3 * k) × (length ks ≡ 3 * k) × (length c ≡ 3 * k)
  turn_below = (
    omega (arith, least.within, a.held.keys-count, a.same_count),
    omega (arith, a.held.keys-count, a.same_count),
    omega (arith, a.held.corners-count, a.same_count),
  )

  module _ (some : get_or ks e 0 ≡ no_key → ⊥) where
    below : e < 3 * length a.ts
    below = omega (arith, least.within, a.held.keys-count)

    may : may_swap_in (place_of s) c w e ≡ true
    may = may-e s fit a.ts c w ks a.held e least some

    pub turn-twin : twin_in w e < 3 * k
    turn-twin = omega (arith, lf s fit a.ts c w ks a.held e below may, a.same_count)

    is_more : is_left s a.ts ≡ true
    is_more = is-left s fit a.ts c w ks a.held e least some

    module _ (cs ws us : List ℕ) (f : After (place_of s) e c w ks cs ws us) where
      held_after : Held s (swap_lowest s a.ts) cs ws us
      held_after =
          subst (λ x. Held s x cs ws us) (sym (swap-lowest s fit a.ts c w ks a.held e least some))
          (swap-held s fit a.ts c w ks a.held e below may cs ws us f)

      pub turn_along : Along s k first cs ws us
      turn_along =
          record {
            ts = swap_lowest s a.ts;
            held = held_after;
            same_count =
                ap length (swap-lowest s fit a.ts c w ks a.held e least some)
                ∙ swap-count s fit a.ts c w ks a.held e below may cs ws us f
                ∙ a.same_count;
            reach = λ vs x. a.reach vs (one_more is_more x);
          }

-- ---- the number that falls, told by the rooms
total_same : {A : Type 0} (f : A → ℕ) (d : A) (l k : List A) → length l ≡ length k → ((i : ℕ) → i < length l → f (get_or l i d) ≡ f (get_or k i d)) → total f l ≡ total f k
unfolding total
total_same f d [] [] e h = refl
total_same f d [] (y ∷ k) e h = absurd (omega (arith, e))
total_same f d (x ∷ l) [] e h = absurd (omega (arith, e))
total_same f d (x ∷ l) (y ∷ k) e h = ap₂ (λ a b. a + b) (h 0 (omega arith)) (total_same f d l k (omega (arith, e)) (λ i b. h (suc i) (omega arith)))

abbrev pub slack_in : List ℕ → List ℕ → List ℕ → ℕ
slack_in xs ys c = slack (survey xs ys []) (threes (length c / 3) c)

slack-told : (xs ys : List ℕ) (zs : List ℤ) (ts : List (Three ℕ)) (c w ks : List ℕ) → Held (survey xs ys zs) ts c w ks → slack_in xs ys c ≡ slack (survey xs ys zs) ts
unfolding slack load
slack-told xs ys zs ts c w ks r =
    total_same (load (survey xs ys zs)) (tri 0 0 0) (threes (length c / 3) c) ts (long ∙ third) each
  where
    third : length c / 3 ≡ length ts
    third = omega (arith, r.corners-count)

    long : length (threes (length c / 3) c) ≡ length c / 3
    long = length-threes (length c / 3) c

    each : (i : ℕ) → i < length (threes (length c / 3) c)
        → load (survey xs ys zs) (get_or (threes (length c / 3) c) i (tri 0 0 0)) ≡ load (survey xs ys zs) (at ts i)
    each i l =
        ap (load (survey xs ys zs)) (threes_at (length c / 3) c i (omega (arith, long)))
        ∙ sym (turned_same (load (survey xs ys zs)) (load-next (survey xs ys zs)) (r.drawn.each i (omega (arith, long, third))))

pub turn-falls : (xs ys : List ℕ) (zs : List ℤ) → Fit (survey xs ys zs) → (k : ℕ) (first c w ks : List ℕ) → Along (survey xs ys zs) k first c w ks → (e : ℕ) → Least ks e
    → (get_or ks e 0 ≡ no_key → ⊥) → (cs ws us : List ℕ) → After (places_of xs ys) e c w ks cs ws us → slack_in xs ys cs < slack_in xs ys c
turn-falls xs ys zs fit k first c w ks a e least some cs ws us f =
    let s = survey xs ys zs in
    omega (
      arith,
      slack-told xs ys zs a.ts c w ks a.held,
      slack-told xs ys zs (swap_lowest s a.ts) cs ws us (held_after s fit k first c w ks a e least some cs ws us f),
      lowest-falls s fit a.ts a.held.mesh (is_more s fit k first c w ks a e least some),
    )

-- ---- the end
pub along-done : (s : Survey) (k : ℕ) (first w₀ c w ks : List ℕ) → Ready s k first w₀ → Along s k first c w ks → (e : ℕ) → Least ks e → get_or ks e 0 ≡ no_key
    → map lowest_first (threes k c) ≡ map lowest_first (swaps s (threes k first))
along-done s k first w₀ c w ks r a e least none =
    let end = none_is_left s r.fit a.ts c w ks a.held e least none in
    let same : a.ts ≡ swaps s (threes k first) = swapped-unique (a.reach a.ts (none_left end)) (swaps-end s r.fit (threes k first) r.mesh) in
    ap (λ n. map lowest_first (threes n c)) (sym a.same_count)
    ∙ drawn-lowest s c a.ts a.held.mesh a.held.drawn
    ∙ ap (map lowest_first) same
