-- Putting a station among four is putting it into the list of which they are the first: the step of a search for the nearest.
-- Assumes nothing.
--
-- Whether the list has none, one, two, three or more, the same tests decide where the station goes; where a place is empty, `far`
-- stands there, and the station is nearer.
use mathlib.Core.Path.{◌≡◌, sym, ap, ◌∙◌}
use mathlib.Core.Bool.{Bool, cond}
use mathlib.Core.List.{List, [], ◌∷◌}
use Prim.Native.Nat.{ℕ, ◌+◌, ◌<◌}
use native.Mathlib.Numerals.{add-one}
use borrow.Author.Tests.{lt-ltb}
use lib.Dec.{ltb}
use Rattle.lists.proofs.TestLaws.{by_test}
use Rattle.survey.specs.Survey.{Survey}
use Rattle.nearest.specs.declared.Four.{Four}
use Rattle.nearest.specs.Nearest.{put, sorted, distance_from}
use Rattle.nearest.specs.Four.{far, four_of, put_four, put_where}

module _ (distance : ℕ → ℕ) (i k : ℕ) (near : distance k < far) where
  nearer : ℕ → Bool
  nearer j = ltb (distance k) (distance j)

  four-put : (l : List ℕ) → four_of distance i (put distance k l) ≡ put_four (four_of distance i l) (distance k) k
  unfolding nearer
  four-put [] = rw (lt-ltb _ _ near)
  four-put (a ∷ []) = by_test (nearer a) (λ e. rw e) (λ e. rw (e, lt-ltb _ _ near))
  four-put (a ∷ b ∷ []) =
      by_test (nearer a) (λ e. rw e) (λ e. by_test (nearer b) (λ f. rw (e, f)) (λ f. rw (e, f, lt-ltb _ _ near)))
  four-put (a ∷ b ∷ c ∷ []) =
      by_test (nearer a) (λ e. rw e)
      (λ e. by_test (nearer b) (λ f. rw (e, f)) (λ f. by_test (nearer c) (λ g. rw (e, f, g)) (λ g. rw (e, f, g, lt-ltb _ _ near))))
  four-put (a ∷ b ∷ c ∷ d ∷ l) =
      by_test (nearer a) (λ e. rw e)
      (λ e.
      by_test (nearer b) (λ f. rw (e, f))
      (λ f. by_test (nearer c) (λ g. rw (e, f, g)) (λ g. by_test (nearer d) (λ h. rw (e, f, g, h)) (λ h. rw (e, f, g, h)))))

-- One number further.
four-more :
    (distance : ℕ → ℕ) (p : ℕ → Bool) (i k : ℕ) → distance k < far
    → four_of distance i (sorted distance p (k + 1)) ≡ cond (p k) (put_four (four_of distance i (sorted distance p k)) (distance k) k) (four_of distance i (sorted distance p k))
four-more distance p i k near =
    rw add-one (by_test (p k) (λ e. rw e (four-put distance i k near (sorted distance p k))) (λ e. rw e))

-- The turn of a loop that searches: f holds the first four of those below k that pass, and r those below k + 1.
pub search-more :
    (s : Survey) (p : ℕ → Bool) (i k : ℕ) {f r : Four} → distance_from s i k < far → f ≡ four_of (distance_from s i) i (sorted (distance_from s i) p k)
    → r ≡ put_where s i p f k → r ≡ four_of (distance_from s i) i (sorted (distance_from s i) p (k + 1))
search-more s p i k near e g = g ∙ ap (λ (f : Four). put_where s i p f k) e ∙ sym (four-more (distance_from s i) p i k near)
