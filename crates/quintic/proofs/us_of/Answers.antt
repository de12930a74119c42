-- `us_of` meets its contract: us fits an i32. Assumes nothing.
use mir.Syntax.{w32}
use Rattle.whole.proofs.Expression.{◌⊕◌, ◌⊖◌, ◌⊗◌, holds, fits}
use Rattle.quintic.proofs.StepLaws.{a_of, b_of, c_of, d_of}
use Rattle.quintic.proofs.us_of.Goals as goal

pub overflow_sub-result : goal.overflow_sub-result
overflow_sub-result c =
    let e = c.args.e in
    let h = c.requires in
    fits w32 (b_of e ⊖ a_of e) (h.b, h.a) tt

pub overflow_mul-result : goal.overflow_mul-result
overflow_mul-result c =
    let e = c.args.e in
    let h = c.requires in
    fits w32 (a_of e ⊗ (b_of e ⊖ a_of e)) (h.a, (h.b, h.a)) tt

pub overflow_sub-result-2 : goal.overflow_sub-result-2
overflow_sub-result-2 c =
    let e = c.args.e in
    let h = c.requires in
    fits w32 (d_of e ⊖ c_of e) (h.d, h.c) tt

pub overflow_mul-result-2 : goal.overflow_mul-result-2
overflow_mul-result-2 c =
    let e = c.args.e in
    let h = c.requires in
    fits w32 (c_of e ⊗ (d_of e ⊖ c_of e)) (h.c, (h.d, h.c)) tt

pub overflow_add-result : goal.overflow_add-result
overflow_add-result c =
    let e = c.args.e in
    let h = c.requires in
    fits w32 (a_of e ⊗ (b_of e ⊖ a_of e) ⊕ c_of e ⊗ (d_of e ⊖ c_of e)) ((h.a, (h.b, h.a)), (h.c, (h.d, h.c))) tt

pub returns : goal.returns
returns c =
    let e = c.args.e in
    let h = c.requires in
    holds w32 (a_of e ⊗ (b_of e ⊖ a_of e) ⊕ c_of e ⊗ (d_of e ⊖ c_of e)) ((h.a, (h.b, h.a)), (h.c, (h.d, h.c))) tt
