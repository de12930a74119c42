-- A text in pieces, wherever they fall, is read as the whole. Assumes nothing.
use mathlib.Core.Path.{◌≡◌, refl, ap, sym, ◌∙◌}
use mathlib.Core.List.{List, [], ◌∷◌, ◌++◌}
use Prim.Native.Nat.{ℕ, ◌+◌}
use lib.ListN.{length, length-append}
use Rattle.shapes.specs.declared.line.Part.TheVariants.{Key}
use Rattle.forms.specs.Form.{Form, State, at, fed, feed, ended, read_by}
use Rattle.forms.specs.Limit.{text_by}
use Rattle.forms.specs.Pieces.{joined, bytes_in, feed_all, read_pieces, text_pieces}

-- Behind a piece the text goes on from what the piece came to.
pub feed_on : (s : State) (t u : List ℕ) → feed s (t ++ u) ≡ feed (feed s t) u
unfolding feed
feed_on s [] u = refl
feed_on s (b ∷ t) u = feed_on (fed s b) t u

all_joined : (ps : List (List ℕ)) (s : State) → feed_all s ps ≡ feed s (joined ps)
unfolding feed feed_all joined
all_joined [] s = refl
all_joined (p ∷ ps) s = all_joined ps (feed s p) ∙ sym (feed_on s p (joined ps))

pub read-pieces : (f : Form) (ps : List (List ℕ)) → read_pieces f ps ≡ read_by f (joined ps)
read-pieces f ps = ap ended (all_joined ps (at f 1 (Key 0) []))

all_bytes : (ps : List (List ℕ)) → bytes_in ps ≡ length (joined ps)
unfolding bytes_in joined
all_bytes [] = refl
all_bytes (p ∷ ps) = ap (λ (n : ℕ). length p + n) (all_bytes ps) ∙ sym (length-append p (joined ps))

pub text-pieces : (most : ℕ) (f : Form) (ps : List (List ℕ)) → text_pieces most f ps ≡ text_by most f (joined ps)
text-pieces most f ps = rw (all_bytes ps, read-pieces f ps)
