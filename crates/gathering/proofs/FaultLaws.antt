-- What has failed within a text has failed with 7 or with 8, by every form. Assumes nothing.
use mathlib.Core.Path.{◌≡◌, refl, sym, subst}
use mathlib.Core.Logic.{◌⊎◌, inl, inr}
use mathlib.Core.List.{List, [], ◌∷◌}
use Prim.Native.Nat.{ℕ}
use lib.Dec.{eqb}
use Rattle.std.specs.Prelude.{Option, Result, Ok, Err}
use Rattle.std.specs.Option.{ForSome}
use Rattle.shapes.specs.declared.line.Fault.{Fault}
use Rattle.shapes.specs.declared.line.Fault.TheVariants.{Form, TagUsed}
use Rattle.shapes.specs.declared.line.Part.{Part}
use Rattle.shapes.specs.Line.{line_end, fault_number, line_said}
use Rattle.forms.specs.Form.{Form as Grammar, end, next, State, at, failed, of_said, fed, feed}
use Rattle.lists.proofs.TestLaws.{by_test}
use Rattle.feeding.specs.Reader.{by_fault}

-- A state that has failed, if at all, with 7 or with 8: so it is for each line, and for each byte more.
abbrev Numbered : State → Type 0
Numbered (at f k p vs) = Unit
Numbered (failed n k) = (n ≡ 7) ⊎ (n ≡ 8)

numbered : (why : Fault) → (fault_number why ≡ 7) ⊎ (fault_number why ≡ 8)
numbered Form = inl refl
numbered TagUsed = inr refl

said-numbered : (w : Result ℕ Fault) (f : ℕ → Grammar) (k : ℕ) (vs : List ℕ) → Numbered (of_said w f k vs)
said-numbered (Err why) f k vs = numbered why
said-numbered (Ok v) f k vs = tt

fed-numbered : (s : State) (b : ℕ) → Numbered s → Numbered (fed s b)
fed-numbered (failed n k) b h = h
fed-numbered (at end k p vs) b h = inl refl
fed-numbered (at (next m s u f) k p vs) b h =
    by_test (eqb b line_end) (λ e. rw e (said-numbered (line_said s u p) f k vs)) (λ e. rw e tt)

feed-numbered : (s : State) (t : List ℕ) → Numbered s → Numbered (feed s t)
unfolding feed
feed-numbered s [] h = h
feed-numbered s (b ∷ t) h = feed-numbered (fed s b) t (fed-numbered s b h)

-- So a reader that stands for what the bytes of a text come to has no other number.
pub fault-numbered : (o : Option ℕ) (s : State) (j : ℕ) (f : Grammar) (k : ℕ) (p : Part) (vs t : List ℕ) → by_fault o s j ≡ feed (at f k p vs) t
    → ForSome o (λ n. (n ≡ 7) ⊎ (n ≡ 8))
fault-numbered o s j f k p vs t e n h =
    let g = rw h at e in
    subst Numbered (sym g) (feed-numbered (at f k p vs) t tt)
