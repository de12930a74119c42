-- `quintic_at` meets its contract: the coefficients, u and v are those of `quintic`. Assumes nothing.
use mathlib.Core.Path.{refl, ◌∙◌}
use Rattle.quintic.specs.Quintic.{nested, u_of, v_of}
use Rattle.quintic.proofs.StepLaws.{as_named, lent-named}
use Rattle.quintic.proofs.quintic_at.Goals as goal

pub coefficients_of-p-requires : goal.coefficients_of-p-requires
coefficients_of-p-requires c = c.requires.0

pub u_of-u-requires : goal.u_of-u-requires
u_of-u-requires c = let h = c.requires in (h.0, lent-named refl h.1 tt tt, lent-named refl h.2 tt tt)

pub v_of-v-requires : goal.v_of-v-requires
v_of-v-requires c = let h = c.requires in (h.0, lent-named refl h.1 tt tt, lent-named refl h.2 tt tt)

pub nest-requires : goal.nest-requires
nest-requires c = tt

pub returns : goal.returns
returns c =
    let e = c.args.e in
    let dx = as_named refl c.requires.1 tt in
    let dy = as_named refl c.requires.2 tt in
    let p = c.coefficients_of-p.ensures in
    let u = c.u_of-u.ensures ∙ (λ j. u_of e (dx j) (dy j)) in
    let v = c.v_of-v.ensures ∙ (λ j. v_of e (dx j) (dy j)) in
    c.nest.ensures ∙ (λ j. nested (p j) (u j) (v j))
