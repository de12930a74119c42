-- `u_of` meets its contract: its operations are those of `u_of`, in their order, and its whole numbers fit an i32. Assumes nothing.
use mir.Syntax.{w32}
use Rattle.whole.proofs.Expression.{◌⊖◌, ◌⊗◌, holds, fits}
use Rattle.quintic.specs.Real.{◌⊘◌, whole}
use Rattle.quintic.specs.Quintic.{u_of}
use Rattle.quintic.proofs.StepLaws.{step, a_of, b_of, c_of, d_of}
use Rattle.quintic.proofs.u_of.Goals as goal

pub overflow_mul-result : goal.overflow_mul-result
overflow_mul-result c =
    let e = c.args.e in
    let h = c.requires.0 in
    fits w32 (d_of e ⊗ step c.args.dx) (h.d, c.requires.1) tt

pub overflow_mul-result-2 : goal.overflow_mul-result-2
overflow_mul-result-2 c =
    let e = c.args.e in
    let h = c.requires.0 in
    fits w32 (b_of e ⊗ step c.args.dy) (h.b, c.requires.2) tt

pub overflow_sub-result : goal.overflow_sub-result
overflow_sub-result c =
    let e = c.args.e in
    let h = c.requires.0 in
    fits w32 (d_of e ⊗ step c.args.dx ⊖ b_of e ⊗ step c.args.dy) ((h.d, c.requires.1), (h.b, c.requires.2)) tt

pub overflow_mul-result-3 : goal.overflow_mul-result-3
overflow_mul-result-3 c =
    let e = c.args.e in
    let h = c.requires.0 in
    fits w32 (a_of e ⊗ d_of e) (h.a, h.d) tt

pub overflow_mul-result-4 : goal.overflow_mul-result-4
overflow_mul-result-4 c =
    let e = c.args.e in
    let h = c.requires.0 in
    fits w32 (b_of e ⊗ c_of e) (h.b, h.c) tt

pub overflow_sub-result-2 : goal.overflow_sub-result-2
overflow_sub-result-2 c =
    let e = c.args.e in
    let h = c.requires.0 in
    fits w32 (a_of e ⊗ d_of e ⊖ b_of e ⊗ c_of e) ((h.a, h.d), (h.b, h.c)) tt

pub returns : goal.returns
unfolding u_of
returns c =
    let e = c.args.e in
    let h = c.requires.0 in
    let part = holds w32 (d_of e ⊗ step c.args.dx ⊖ b_of e ⊗ step c.args.dy) ((h.d, c.requires.1), (h.b, c.requires.2)) tt in
    let all = holds w32 (a_of e ⊗ d_of e ⊖ b_of e ⊗ c_of e) ((h.a, h.d), (h.b, h.c)) tt in
    λ j. whole (part j) ⊘ whole (all j)
