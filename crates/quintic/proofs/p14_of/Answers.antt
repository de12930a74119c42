-- `p14_of` meets its contract: its operations are those of `p14_of`, in their order, and its whole numbers fit an i32. Assumes nothing.
use lib.IntN.{pos}
use mir.Syntax.{w32}
use Rattle.whole.proofs.Expression.{lit, ◌⊕◌, ◌⊗◌, holds, fits}
use Rattle.quintic.specs.Real.{◌⊠◌, ◌⊘◌, whole}
use Rattle.quintic.specs.Quintic.{p14_of}
use Rattle.quintic.proofs.StepLaws.{a_of, b_of, c_of, d_of}
use Rattle.quintic.proofs.p14_of.Goals as goal

pub overflow_mul-result : goal.overflow_mul-result
overflow_mul-result c =
    let e = c.args.e in
    let h = c.requires in
    fits w32 (a_of e ⊗ b_of e) (h.a, h.b) tt

pub overflow_mul-result-2 : goal.overflow_mul-result-2
overflow_mul-result-2 c =
    let e = c.args.e in
    let h = c.requires in
    fits w32 (c_of e ⊗ d_of e) (h.c, h.d) tt

pub overflow_add-result : goal.overflow_add-result
overflow_add-result c =
    let e = c.args.e in
    let h = c.requires in
    fits w32 (a_of e ⊗ b_of e ⊕ c_of e ⊗ d_of e) ((h.a, h.b), (h.c, h.d)) tt

pub overflow_mul-result-3 : goal.overflow_mul-result-3
overflow_mul-result-3 c =
    let e = c.args.e in
    let h = c.requires in
    fits w32 (lit (pos 5) ⊗ (a_of e ⊗ b_of e ⊕ c_of e ⊗ d_of e)) (tt, ((h.a, h.b), (h.c, h.d))) tt

pub overflow_mul-result-4 : goal.overflow_mul-result-4
overflow_mul-result-4 c =
    let e = c.args.e in
    let h = c.requires in
    fits w32 (b_of e ⊗ b_of e) (h.b, h.b) tt

pub overflow_mul-result-5 : goal.overflow_mul-result-5
overflow_mul-result-5 c =
    let e = c.args.e in
    let h = c.requires in
    fits w32 (d_of e ⊗ d_of e) (h.d, h.d) tt

pub overflow_add-result-2 : goal.overflow_add-result-2
overflow_add-result-2 c =
    let e = c.args.e in
    let h = c.requires in
    fits w32 (b_of e ⊗ b_of e ⊕ d_of e ⊗ d_of e) ((h.b, h.b), (h.d, h.d)) tt

pub returns : goal.returns
unfolding p14_of
returns c =
    let e = c.args.e in
    let h = c.requires in
    let five-w = holds w32 (lit (pos 5) ⊗ (a_of e ⊗ b_of e ⊕ c_of e ⊗ d_of e)) (tt, ((h.a, h.b), (h.c, h.d))) tt in
    let square = holds w32 (b_of e ⊗ b_of e ⊕ d_of e ⊗ d_of e) ((h.b, h.b), (h.d, h.d)) tt in
    λ j. whole (five-w j) ⊘ whole (square j) ⊠ c.args.p05
