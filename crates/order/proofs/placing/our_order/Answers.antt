use Prim.Native.Nat.{ℕ, ◌<◌}
use mathlib.Core.Path.{◌≡◌, refl, ap, ◌∙◌}
use native.Mathlib.Omega.{arith}
use native.Mathlib.Numerals.{add-one}
use lib.ListN.{length, replicate, length-replicate, length-set}
use Rattle.order.proofs.CodeLaws.{marks_start, marks_placed, placing-start, placing_on, placing_stops, answer_none, answer_some, rest_on}
use Rattle.order.proofs.placing.our_order.Goals as goal

pub loop-k-init : goal.loop-k-init
loop-k-init c = (omega arith, refl, ap length c.no_marks-marks.ensures ∙ length-replicate {A = ℕ} 256 0, rw c.no_marks-marks.ensures marks_start, placing-start c.args.matrix.now c.args.n c.args.row.now, refl)

pub shape_of-row-in_default : goal.shape_of-row-in_default
shape_of-row-in_default c = ap length c.zero_row.ensures ∙ length-replicate {A = ℕ} (length c.loop-k.row) 0 ∙ c.loop-k.invariant.1

pub returns-in_default : goal.returns-in_default
returns-in_default c =
    answer_none c.args.matrix.now c.args.n c.zero_row.new.row c.args.row.now
    (placing_stops c.args.matrix.now c.args.n c.loop-k.marks c.loop-k.row c.loop-k.k (omega arith) c.in_default.ensures.0 c.loop-k.invariant.3 c.loop-k.invariant.4)
    (c.zero_row.ensures ∙ ap (λ (m : ℕ). replicate m 0) c.loop-k.invariant.1)

pub loop-k-preserved : goal.loop-k-preserved
loop-k-preserved c =
    let b : c.in-Some.i < c.args.n = c.in-Some.ensures.1 in (
      omega arith,
      length-set c.loop-k.row c.loop-k.k c.in-Some.i ∙ c.loop-k.invariant.1,
      length-set c.loop-k.marks c.in-Some.i 1 ∙ c.loop-k.invariant.2,
      rw add-one (marks_placed c.loop-k.marks c.loop-k.row c.loop-k.k c.in-Some.i (omega arith) c.loop-k.invariant.2 (omega arith) c.loop-k.invariant.3),
      rw add-one (placing_on c.args.matrix.now c.args.n c.loop-k.marks c.loop-k.row c.loop-k.k c.in-Some.i (omega arith) (omega arith) c.in-Some.ensures.0 c.loop-k.invariant.3 c.loop-k.invariant.4),
      rw add-one (rest_on c.loop-k.row c.args.row.now c.loop-k.k c.in-Some.i c.loop-k.invariant.5),
    )

pub shape_of-row : goal.shape_of-row
shape_of-row c = c.loop-k.invariant.1

pub returns : goal.returns
returns c =
    let e : c.loop-k.k ≡ c.args.n = omega arith in
    answer_some c.args.matrix.now c.args.n c.loop-k.row c.args.row.now (omega arith) (rw e at c.loop-k.invariant.5) (rw e at c.loop-k.invariant.4)
