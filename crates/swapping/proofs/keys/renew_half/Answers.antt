-- `renew_half` meets its contract: a store past the end is none. Assumes nothing.
use mathlib.Core.Path.{sym, ap, ◌∙◌}
use lib.ListN.{set}
use lib.Seq.{set_out}
use Rattle.swapping.proofs.keys.renew_half.Goals as goal

pub returns-then-i-keys : goal.returns-then-i-keys
returns-then-i-keys c =
    let a = c.args in
    let s = c.store_key.ensures in
    (s.0 ∙ ap (set a.keys.now a.h) c.key_at-v.ensures, s.1)

pub returns-else-i-keys : goal.returns-else-i-keys
returns-else-i-keys c = (sym (set_out c.args.keys.now c.args.h _ c.if-i-keys.false), c.requires.3)
