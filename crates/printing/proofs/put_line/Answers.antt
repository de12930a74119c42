-- `put_line` meets its contract: a line that is written apart is put as it would be written in place. Assumes nothing.
use mathlib.Core.Path.{◌≡◌, sym, ap, ◌∙◌}
use Prim.Native.Nat.{ℕ, ◌+◌, ◌≤◌}
use native.Mathlib.Omega.{arith}
use lib.ListN.{length, take, replicate, length-replicate}
use lib.Seq.{take-append_seam, length-take-le}
use Rattle.shapes.specs.Bytes.{line_bytes}
use Rattle.shapes.proofs.BytesLaws.{line-length}
use Rattle.pouring.specs.Poured.{poured}
use Rattle.pouring.proofs.PouredLaws.{poured-whole}
use Rattle.printing.proofs.put_line.Goals as goal

pub slice_bounds-line-end : goal.slice_bounds-line-end
slice_bounds-line-end c =
    let a = c.args in
    let w = c.write_line-n in
    omega (arith, w.ensures.0, line-length a.shape a.v, w.auto.out)

pub slice_bounds-put_bytes-end : goal.slice_bounds-put_bytes-end
slice_bounds-put_bytes-end c =
    let a = c.args in
    let w = c.write_line-n in
    sym (length-take-le w.result w.new.out (omega (arith, w.ensures.0, line-length a.shape a.v, w.auto.out)))

pub put_bytes-requires : goal.put_bytes-requires
put_bytes-requires c =
    let a = c.args in
    let w = c.write_line-n in
    let short : w.result ≤ length w.new.out = omega (arith, w.ensures.0, line-length a.shape a.v, w.auto.out) in
    (omega arith, omega (arith, length-take-le w.result w.new.out short, w.auto.out))

pub overflow_add-result : goal.overflow_add-result
overflow_add-result c =
    let a = c.args in
    omega (arith, line-length a.shape a.v)

pub returns : goal.returns
returns c =
    let a = c.args in
    let w = c.write_line-n in
    let bytes = line_bytes a.shape a.v in
    let short = line-length a.shape a.v in
    let e : w.result ≡ length bytes = omega (arith, w.ensures.0) in
    let line = w.ensures.1 ∙ poured-whole bytes (replicate {A = ℕ} 32 0) (omega (arith, length-replicate {A = ℕ} 32 0)) in
    let front : take w.result w.new.out ≡ bytes = rw (e, line) (take-append_seam bytes _) in
    (ap (λ (k : ℕ). a.at + k) e, c.put_bytes.ensures ∙ ap (poured a.out.now a.at) front)
