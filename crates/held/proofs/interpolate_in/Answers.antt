-- `interpolate_in` meets its contract: triangle k of the list has three stations. Assumes nothing.
use native.Mathlib.Omega.{arith}
use Rattle.held.proofs.HeldLaws.{on_a, on_b, on_c, fits_a, fits-b, fits-c}
use Rattle.held.proofs.interpolate_in.Goals as goal

pub overflow_cast-a : goal.overflow_cast-a
overflow_cast-a c = fits_a c.requires.2 (omega arith)

pub overflow_cast-b : goal.overflow_cast-b
overflow_cast-b c = fits-b c.requires.2 (omega arith)

pub overflow_cast-c : goal.overflow_cast-c
overflow_cast-c c = fits-c c.requires.2 (omega arith)

pub interpolate-requires : goal.interpolate-requires
interpolate-requires c =
    let h = c.requires.2 in
    let k = c.args.k in
    (c.requires.0, c.requires.1, on_a h {k = k} (omega arith), on_b h {k = k} (omega arith), on_c h {k = k} (omega arith), c.requires.3, c.requires.4)

pub returns : goal.returns
returns c = c.interpolate.ensures
