use native.Mathlib.Omega.{arith}
use Prim.Native.Nat.{ℕ}
use mathlib.Core.Bool.{Bool}
use mathlib.Core.List.{List}
use mathlib.Core.Path.{◌≡◌, sym, ap, ap₂, ◌∙◌, subst, subst₂}
use lib.ListN.{length, set}
use Rattle.tracing.specs.Tracing.{half_line, record_by, line_at, starts_by}
use Rattle.tracing.specs.Room.{cleared, marks_in, half_at, halves_in, halves_of, Ready}
use Rattle.tracing.specs.Written.{below_in, Left}
use Rattle.tracing.proofs.RoomLaws.{cleared-length}
use Rattle.tracing.proofs.ScanLaws.{draw_first, draw-over, draw-room, draw-pass, draw_on}
use Rattle.tracing.proofs.walk.Tracer.draw_lines.Goals as goal
use Rattle.tracing.proofs.walk.Tracer.draw_lines.Goals.{then-is_start, else-is_start}

pub loop-i-init : goal.loop-i-init
loop-i-init c =
    let a = c.args in
    draw_first a.closed a.self.now.m a.count (below_in a.self.now.z.now a.self.now.level) a.room.now a.sides.now a.records.now a.drawn.vertices a.drawn.lines

pub half_at-s-requires : goal.half_at-s-requires
half_at-s-requires c =
    let a = c.args in
    let l = c.loop-i in
    omega (arith, c.requires.0.listed, cleared-length a.self.now.m a.self.now.m a.room.now, l.invariant.wide, c.loop-i-test.true)

pub is_start-requires : goal.is_start-requires
is_start-requires c =
    let a = c.args in
    let l = c.loop-i in
    let h = (c.half_at-s.ensures ∙ ap (λ b. half_at a.self.now.m b l.i) l.invariant.kept) in
    ((subst (Ready a.self.now.m (length a.self.now.z.now) a.count) (sym l.invariant.kept) c.requires.0).meshed, omega (arith, h, c.requires.0.halves l.i c.loop-i-test.true))

-- The entry starts a line or none, as the test says.
tested : (closed : Bool) (m : ℕ) (below : ℕ → Bool) (base now : List ℕ) (i : ℕ) {s : ℕ} {t b : Bool} → cleared m m now ≡ cleared m m base → s ≡ half_at m (cleared m m now) i
    → t ≡ starts_by closed (halves_in m now) below (marks_in m now) s → t ≡ b → starts_by closed (halves_in m base) below (marks_in m now) (half_at m (cleared m m base) i) ≡ b
tested closed m below base now i k h e f =
    sym (ap₂ (λ c x. starts_by closed (halves_of m c) below (marks_in m now) x) k (h ∙ ap (λ c. half_at m c i) k)) ∙ sym e ∙ f

pub draw_line-all-requires : goal.draw_line-all-requires
draw_line-all-requires c =
    let a = c.args in
    let l = c.loop-i in
    let k = c.loop-i-test.true in
    let below = below_in a.self.now.z.now a.self.now.level in
    let h = (c.half_at-s.ensures ∙ ap (λ b. half_at a.self.now.m b l.i) l.invariant.kept) in
    let s = tested a.closed a.self.now.m below a.room.now l.room l.i l.invariant.kept c.half_at-s.ensures c.is_start.ensures c.if-is_start.true in
    let r = draw-room a.closed a.self.now.m a.count below a.room.now a.sides.now a.records.now a.drawn.vertices a.drawn.lines l.room l.invariant k s in
    let e = ap₂ (λ b x. length (line_at (halves_of a.self.now.m b) below x)) l.invariant.kept h in (
      (subst (Ready a.self.now.m (length a.self.now.z.now) a.count) (sym l.invariant.kept) c.requires.0).meshed,
      omega (arith, h, c.requires.0.halves l.i k),
      omega (arith, r.0, e, c.requires.2, l.invariant.long),
      omega (arith, c.requires.1, l.invariant.long),
      omega (arith, r.1, c.requires.3, l.invariant.tall),
    )

pub loop-i-preserved : goal.loop-i-preserved
loop-i-preserved c =
    let a = c.args in
    let l = c.loop-i in
    let below = below_in a.self.now.z.now a.self.now.level in
    elim c.if-is_start.branch [
      | then-is_start w ↦
          let d = w.draw_line-all in
          let r = d.new.room in
          let h = (c.half_at-s.ensures ∙ ap (λ b. half_at a.self.now.m b l.i) l.invariant.kept) in
          let p : List ℕ → ℕ → List ℕ = λ b x. line_at (halves_of a.self.now.m b) below x in
          let s = tested a.closed a.self.now.m below a.room.now l.room l.i l.invariant.kept c.half_at-s.ensures c.is_start.ensures w.if-is_start.true in
          rw (w.room-is, w.sides-is, w.records-is, w.all-is, d.ensures.3)
          (draw_on a.closed a.self.now.m a.count below a.room.now a.sides.now a.records.now a.drawn.vertices a.drawn.lines l.room l.invariant c.loop-i-test.true s r d.ensures.0
          (subst₂ (λ b x. Left (halves_of a.self.now.m b) (p b x) (marks_in a.self.now.m l.room) l.sides l.all.vertices (marks_in a.self.now.m r) d.new.sides d.result.vertices) l.invariant.kept h d.ensures.1)
          (d.ensures.2 ∙ ap₂ (λ b x. set l.records l.all.lines (record_by (half_line a.closed (p b x)))) l.invariant.kept h))
      | else-is_start w ↦
          let s = tested a.closed a.self.now.m below a.room.now l.room l.i l.invariant.kept c.half_at-s.ensures c.is_start.ensures w.if-is_start.false in
          rw (w.room-is, w.sides-is, w.records-is, w.all-is)
          (draw-pass a.closed a.self.now.m a.count below a.room.now a.sides.now a.records.now a.drawn.vertices a.drawn.lines l.invariant c.loop-i-test.true s)
    ]

pub returns : goal.returns
returns c =
    let a = c.args in
    draw-over a.closed a.self.now.m a.count (below_in a.self.now.z.now a.self.now.level) a.room.now a.sides.now a.records.now a.drawn.vertices a.drawn.lines c.loop-i.invariant c.loop-i-test.false
