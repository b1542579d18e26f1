use Prim.Native.Nat.{ℕ, ◌<◌}
use Rattle.order.specs.Code.{depends_in}
use mathlib.Core.Path.{◌≡◌, refl, sym, ap, ◌∙◌}
use mathlib.Core.Bool.{true}
use native.Mathlib.Omega.{arith}
use native.Mathlib.Numerals.{add-one}
use lib.ListN.{length, take, get_or, length-replicate, length-set}
use borrow.Author.Tests.{not-true, not-false}
use Rattle.order.specs.Order.{ready}
use Rattle.order.proofs.CodeLaws.{marks_start, checking-start, checking_on, checking-fails, checking_ends, marks_on, ready-low}
use mathlib.Core.Path.{ap}
use mathlib.Core.Bool.{not}
use Rattle.order.proofs.placing.check_order.Goals as goal

pub loop-number-init : goal.loop-number-init
loop-number-init c = (omega arith, ap length c.no_marks-marks.ensures ∙ length-replicate {A = ℕ} 256 0, rw c.no_marks-marks.ensures marks_start, checking-start c.args.matrix.now c.args.order.now c.args.n)

pub returns-then-not-is_ready : goal.returns-then-not-is_ready
returns-then-not-is_ready c = checking-fails c.args.matrix.now c.args.order.now c.args.n c.loop-number.number-index (omega arith) c.loop-number.invariant.3 (sym (c.is_ready.ensures (take c.loop-number.number-index c.args.order.now) c.loop-number.invariant.2) ∙ not-true c.is_ready.result (ap not c.if-not-is_ready.true))

pub bounds-marks-i : goal.bounds-marks-i
bounds-marks-i c =
    let r : ready c.args.n (depends_in c.args.matrix.now) (take c.loop-number.number-index c.args.order.now) (get_or c.args.order.now c.loop-number.number-index 0) ≡ true = sym (c.is_ready.ensures (take c.loop-number.number-index c.args.order.now) c.loop-number.invariant.2) ∙ not-false c.is_ready.result (ap not c.if-not-is_ready.false) in
    let low : get_or c.args.order.now c.loop-number.number-index 0 < c.args.n = ready-low c.args.n (depends_in c.args.matrix.now) (take c.loop-number.number-index c.args.order.now) (get_or c.args.order.now c.loop-number.number-index 0) r in
    omega arith

pub loop-number-preserved : goal.loop-number-preserved
loop-number-preserved c =
    let r : ready c.args.n (depends_in c.args.matrix.now) (take c.loop-number.number-index c.args.order.now) (get_or c.args.order.now c.loop-number.number-index 0) ≡ true = sym (c.is_ready.ensures (take c.loop-number.number-index c.args.order.now) c.loop-number.invariant.2) ∙ not-false c.is_ready.result (ap not c.if-not-is_ready.false) in
    let low : get_or c.args.order.now c.loop-number.number-index 0 < c.args.n = ready-low c.args.n (depends_in c.args.matrix.now) (take c.loop-number.number-index c.args.order.now) (get_or c.args.order.now c.loop-number.number-index 0) r in (
      omega arith,
      length-set c.loop-number.marks (get_or c.args.order.now c.loop-number.number-index 0) 1 ∙ c.loop-number.invariant.1,
      rw add-one (marks_on c.args.matrix.now c.args.order.now c.args.n c.loop-number.marks c.loop-number.number-index (omega arith) c.loop-number.invariant.1 (omega arith) c.loop-number.invariant.2),
      rw add-one (checking_on c.args.matrix.now c.args.order.now c.args.n c.loop-number.number-index (omega arith) c.loop-number.invariant.3 r),
    )

pub returns : goal.returns
returns c =
    let e : c.loop-number.number-index ≡ length c.args.order.now = omega arith in
    checking_ends c.args.matrix.now c.args.order.now c.args.n (length c.args.order.now) refl (rw e at c.loop-number.invariant.3)
