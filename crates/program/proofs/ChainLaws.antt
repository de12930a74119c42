-- Texts of a heading and then levels that rise, each with what belongs to it (`Chain`): contour text, and the report of the served ground.
-- The heading and a level's block are forms that end behind their last line. In the whole text more follows in place of that end: the
-- values and the bytes are the same, and those of what follows stand behind them (`Joined`). Assumes nothing.
use mathlib.Core.Path.{◌≡◌, refl, sym, ap, subst, subst⁻¹, ◌∙◌}
use mathlib.Core.Bool.{Bool, true, false, false≢true}
use mathlib.Core.List.{List, [], ◌∷◌, ◌++◌, append_assoc}
use Prim.Native.Nat.{ℕ, zero, suc, ◌+◌, ◌-◌, ◌≤◌, ◌<◌}
use native.Mathlib.Omega.{arith}
use borrow.Author.Tests.{lt-ltb}
use lib.IntN.{ℤ, pos}
use lib.ListN.{length, get_or}
use Rattle.lists.specs.Rows.{rows}
use Rattle.whole.proofs.Bridge.{Is, int}
use Rattle.shapes.specs.declared.line.Shape.{Shape}
use Rattle.shapes.specs.Line.{zero_at}
use Rattle.shapes.specs.Bytes.{line_bytes, value_bytes}
use Rattle.forms.specs.Form.{Form, end, next, line, may}
use Rattle.forms.specs.Written.{written, Ranged}
use Rattle.survey.specs.Limits.{most_levels}
use Rattle.std.specs.Prelude.{Ok}
use Rattle.formats.specs.Lines.{told, least_height, style_line, level_line}
use Rattle.formats.specs.Surveys.{above}
use Rattle.formats.proofs.ToldLaws.{told_is}
use Rattle.rendering.specs.Filed.{Filed}
use Rattle.rendering.proofs.FormLaws.{rising, level-within}
use Rattle.rendering.proofs.ListLaws.{rows_first}
use Rattle.text.specs.Reader.{survey_of}
use Rattle.contour.proofs.WrittenLaws.{Says}
use Rattle.program.specs.Program.{judged}
use Rattle.program.proofs.AcceptedLaws.{survey-form}

-- What A says, and then ws with their text t, is what B says.
abbrev pub Joined : List ℕ → List ℕ → Form → Form → Type 0
Joined ws t A B = (vs : List ℕ) → Ranged A vs → Says B (vs ++ ws) (written A vs ++ t)

module _ (ws t : List ℕ) where
  pub end-joined : (rest : Form) → Says rest ws t → Joined ws t end rest
  unfolding written
  end-joined rest says [] h = says
  end-joined rest says (v ∷ vs) h = absurd h

  pub line-joined : (s : Shape) (f g : ℕ → Form) → ((v : ℕ) → Joined ws t (f v) (g v)) → Joined ws t (line s [] f) (line s [] g)
  unfolding written
  line-joined s f g j [] h = absurd (false≢true h)
  line-joined s f g j (v ∷ vs) h =
      let k = j v vs h.1 in
      ((h.0, k.0), ap (λ (l : List ℕ). line_bytes s v ++ l) k.1 ∙ sym (append_assoc (line_bytes s v) (written (f v) vs) t))

  -- The edition's line and the style's.
  pub heading-joined : (edition : Shape) (rest : Form) → Says rest ws t
      → Joined ws t (line edition [] (λ e. line style_line [] (λ s. end))) (line edition [] (λ e. line style_line [] (λ s. rest)))
  heading-joined edition rest says = line-joined edition _ _ (λ e. line-joined style_line _ _ (λ s. end-joined rest says))

-- `body` is what follows a level's line, before what is behind it, and `more` the levels that may still come, so many at most, from the
-- least on.
pub record Chain (body : Form → Form) (more : ℕ → ℕ → Form) : Type 0 where
  pub joins : (rest : Form) (ws t : List ℕ) → Says rest ws t → Joined ws t (body end) (body rest)
  pub none : (least : ℕ) → more 0 least ≡ end
  pub some : (m least : ℕ) → more (suc m) least ≡ may (level_line least) [] (λ v. body (more m (above v)))

module _ (body : Form → Form) (more : ℕ → ℕ → Form) where
  -- The block of one level by itself.
  abbrev pub alone : Form
  alone = line (level_line least_height) [] (λ v. body end)

  -- A level with its body, before which the text may end or not, and at most m levels more.
  abbrev pub level_then : Bool → ℕ → ℕ → Form
  level_then ends m least = next ends (level_line least) [] (λ v. body (more m (above v)))

  -- n levels with the values of their bodies, one after another.
  abbrev pub Blocks : Form → (ℕ → ℕ) → (ℕ → List ℕ) → ℕ → Type 0
  Blocks f level values n = Says f (rows (λ k. level k ∷ values k) n) (rows (λ k. written alone (level k ∷ values k)) n)

  module _ (chain : Chain body more) where
    no_blocks : (m least : ℕ) (level : ℕ → ℕ) (values : ℕ → List ℕ) → Blocks (more m least) level values 0
    unfolding written
    no_blocks zero least level values = subst⁻¹ (λ (f : Form). Says f [] []) (chain.none least) (tt, refl)
    no_blocks (suc m) least level values = subst⁻¹ (λ (f : Form). Says f [] []) (chain.some m least) (refl, refl)

    -- A block in front of n others.
    block-joined :
        (ends : Bool) (n m least : ℕ) (level : ℕ → ℕ) (values : ℕ → List ℕ) → least ≤ level 0 → Ranged alone (level 0 ∷ values 0)
        → Blocks (more m (above (level 0))) (λ k. level (suc k)) (λ k. values (suc k)) n → Blocks (level_then ends m least) level values (suc n)
    unfolding written value_bytes
    block-joined ends n m least level values l h b =
        let first = line_bytes (level_line least) (level 0) in
        let behind = rows (λ k. written alone (level (suc k) ∷ values (suc k))) n in
        let j = chain.joins (more m (above (level 0))) _ behind b (values 0) h.1 in
        let e = rows_first (λ k. level k ∷ values k) n in
        let f = rows_first (λ k. written alone (level k ∷ values k)) n in
        subst⁻¹ (λ (p : List ℕ × List ℕ). Says (level_then ends m least) p.0 p.1) (λ i. (e i, f i))
        (((l, h.0.1), j.0), ap (λ (w : List ℕ). first ++ w) j.1 ∙ sym (append_assoc first (written (body end) (values 0)) behind))

    -- Levels that rise, one more than n.
    blocks-joined :
        (ends : Bool) (n m least : ℕ) (level : ℕ → ℕ) (values : ℕ → List ℕ) → n ≤ m → least ≤ level 0 → ((k : ℕ) → k < n → level k < level (suc k))
        → ((k : ℕ) → k ≤ n → Ranged alone (level k ∷ values k)) → Blocks (level_then ends m least) level values (suc n)
    blocks-joined ends zero m least level values a l rise b =
        block-joined ends 0 m least level values l (b 0 (omega arith)) (no_blocks m (above (level 0)) (λ k. level (suc k)) (λ k. values (suc k)))
    blocks-joined ends (suc n) zero least level values a l rise b = absurd (omega arith)
    blocks-joined ends (suc n) (suc m) least level values a l rise b =
        let v = level 0 in
        let next_is : above v ≡ v + 1 = rw (lt-ltb v 65536 (omega (arith, (b 0 (omega arith)).0.1))) in
        block-joined ends (suc n) (suc m) least level values l (b 0 (omega arith))
        (subst⁻¹ (λ (f : Form). Blocks f (λ k. level (suc k)) (λ k. values (suc k)) (suc n)) (chain.some m (above v))
        (blocks-joined true n m (above v) (λ k. level (suc k)) (λ k. values (suc k)) (omega arith) (omega (arith, next_is, rise 0 (omega arith)))
        (λ k h. rise (suc k) (omega arith)) (λ k h. b (suc k) (omega arith))))

abbrev pub level_at : Filed → ℕ → ℤ
level_at s k = get_or s.levels k (pos 0)

-- The levels of an accepted text rise, and there are 1 to 64 of them.
module _ {body : Form → Form} {more : ℕ → ℕ → Form} (chain : Chain body more) (t : List ℕ) (passed : judged t ≡ (Ok tt)) (values : ℕ → List ℕ) where
  abbrev s : Filed
  s = survey_of t

  pub all_blocks : ((k : ℕ) → k < length s.levels → Ranged (alone body more) (told (level_at s k) ∷ values k))
      → Blocks body more (level_then body more false (most_levels - 1) least_height) (λ k. told (level_at s k)) values (length s.levels)
  all_blocks ranged =
      let r = rising s.levels (survey-form t passed).levels-form in
      let n = length s.levels - 1 in
      let e : suc n ≡ length s.levels = omega (arith, r.some_level) in
      let is : (k : ℕ) → k ≤ n → Is (level_at s k) (told (level_at s k)) zero_at = λ k h.
      told_is (level_at s k) (level-within s.levels r k (omega (arith, e))) in
      let rise : (k : ℕ) → k < n → told (level_at s k) < told (level_at s (suc k)) = λ k h.
      omega (arith, int, r.above (suc k) (omega (arith, e)), (is k (omega arith)).is, (is (suc k) (omega arith)).is) in
      subst (Blocks body more (level_then body more false (most_levels - 1) least_height) (λ k. told (level_at s k)) values) e
      (blocks-joined body more chain false n (most_levels - 1) least_height _ _ (omega (arith, e, r.most)) (ranged 0 (omega (arith, e))).0.0 rise
      (λ k h. ranged k (omega (arith, e))))
