use mathlib.Core.Bool.{Bool, true, false, not, ◌||◌}
use mathlib.Core.Path.{◌≡◌, sym, ap, ◌∙◌}
use lib.Dec.{eqb}
use lib.ListN.{get_or}
use borrow.Author.Tests.{not-true, not-false}
use native.Mathlib.Numerals.{add-one}
use native.Mathlib.Omega.{arith}
use Rattle.order.proofs.CodeLaws.{rests-start, rests-step, rests-not}
use mathlib.Core.Path.{ap}
use mathlib.Core.Bool.{not}
use Rattle.order.proofs.placing.rests.Goals as goal

pub loop-j-init : goal.loop-j-init
loop-j-init c = (omega arith, rests-start c.args.matrix.now c.args.marks.now c.args.i)

pub returns-then-not-held : goal.returns-then-not-held
returns-then-not-held c =
    rests-not c.args.matrix.now c.args.marks.now c.args.i c.loop-j.j c.args.n (omega arith)
    (rests-step c.args.matrix.now c.args.marks.now c.args.i c.loop-j.j (omega arith) c.loop-j.invariant.1 false
    (sym (not-true c.held.result (ap not c.if-not-held.true)) ∙ c.held.ensures ∙ ap (λ (t : Bool). not t || eqb (get_or c.args.marks.now c.loop-j.j 0) 1) c.is_parent.ensures))

pub loop-j-preserved : goal.loop-j-preserved
loop-j-preserved c = (
  omega arith,
  rw add-one (rests-step c.args.matrix.now c.args.marks.now c.args.i c.loop-j.j (omega arith) c.loop-j.invariant.1 true
      (sym (not-false c.held.result (ap not c.if-not-held.false)) ∙ c.held.ensures ∙ ap (λ (t : Bool). not t || eqb (get_or c.args.marks.now c.loop-j.j 0) 1) c.is_parent.ensures)),
)

pub returns : goal.returns
returns c =
    let e : c.loop-j.j ≡ c.args.n = omega arith in
    rw e at c.loop-j.invariant.1
