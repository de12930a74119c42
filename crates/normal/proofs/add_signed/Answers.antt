-- `add_signed` meets its contract: each `return` is one case of `added_part`. Assumes nothing.
use mathlib.Core.Path.{sym, ◌∙◌}
use lib.IntN.{ℤ}
use mir.Syntax.{w64}
use Rattle.whole.proofs.Expression.{Signed, var, ◌⊕◌, ◌⊖◌, holds, fits}
use Rattle.normal.proofs.SignedLaws.{as_it_is}
use Rattle.normal.proofs.add_signed.Goals as goal

abbrev number : ℤ → Signed
number z = var z 1152921504606846976

pub overflow_sub-result : goal.overflow_sub-result
overflow_sub-result c = fits w64 (number c.args.sum ⊖ number c.args.n) (c.requires.0, c.requires.1) tt

pub returns-then-nz-lt0 : goal.returns-then-nz-lt0
returns-then-nz-lt0 c =
    holds w64 (number c.args.sum ⊖ number c.args.n) (c.requires.0, c.requires.1) tt
    ∙ sym (simp (simp (as_it_is c.requires.2 tt) at c.if-nz-lt0.true))

pub overflow_add-result : goal.overflow_add-result
overflow_add-result c = fits w64 (number c.args.sum ⊕ number c.args.n) (c.requires.0, c.requires.1) tt

pub returns-then-nz-gt0 : goal.returns-then-nz-gt0
returns-then-nz-gt0 c =
    let e = as_it_is c.requires.2 tt in
    holds w64 (number c.args.sum ⊕ number c.args.n) (c.requires.0, c.requires.1) tt
    ∙ sym (simp (simp e at c.if-nz-lt0.false, simp e at c.if-nz-gt0.true))

pub returns : goal.returns
returns c =
    let e = as_it_is c.requires.2 tt in
    as_it_is c.requires.0 tt ∙ sym (simp (simp e at c.if-nz-lt0.false, simp e at c.if-nz-gt0.false))
