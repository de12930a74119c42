-- `refuse` meets its contract: the room suffices for two lines. Assumes nothing.
use mathlib.Core.Path.{◌≡◌, ap, ◌∙◌}
use mathlib.Core.List.{List, ◌++◌}
use Prim.Native.Nat.{ℕ}
use lib.ListN.{length, drop}
use Rattle.contour.specs.Contour.{refusal_of}
use Rattle.program.specs.Program.{refused_text}
use Rattle.program.proofs.DoneLaws.{refusal-done, written}
use Rattle.program.proofs.refuse.Goals as goal

pub returns : goal.returns
returns c =
    let room = c.args.room.now in
    let number = c.number-number in
    let carried = c.carried-carried in
    let w = c.refusal-w in
    let done = w.ensures.value ∙ refusal-done number.result carried.result (length room) c.requires in
    let text : refusal_of number.result carried.result ≡ refused_text c.args.why =
    λ i. refusal_of (number.ensures i) (carried.ensures i) in
    let out = written (refusal_of number.result carried.result) room done c.bytes_of.ensures w.ensures.room_after in
    let bytes = out.0 ∙ ap length text in record {
      by_index = λ kind report s style levels. (λ i. record { bytes = bytes i; style = 0; stations = 0; triangles = 0; sides = 0; levels = 0 });
      room_after = out.1 ∙ ap (λ (l : List ℕ). l ++ drop c.bytes_of.result room) text;
    }
