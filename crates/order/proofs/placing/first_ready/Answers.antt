use mathlib.Core.Path.{◌≡◌, sym, ◌∙◌}
use native.Mathlib.Omega.{arith}
use native.Mathlib.Numerals.{add-one}
use Rattle.order.proofs.CodeLaws.{search-start, search_on, search-here, search-end}
use Rattle.order.proofs.placing.first_ready.Goals as goal

pub loop-i-init : goal.loop-i-init
loop-i-init c = (omega arith, search-start c.args.matrix.now c.args.marks.now c.args.n)

pub returns-then-is_ready : goal.returns-then-is_ready
returns-then-is_ready c = (search-here c.args.matrix.now c.args.marks.now c.args.n c.loop-i.i (omega arith) c.loop-i.invariant.1 (λ placed m. sym c.if-is_ready.true ∙ c.is_ready.ensures placed m), omega arith)

pub loop-i-preserved : goal.loop-i-preserved
loop-i-preserved c = (omega arith, rw add-one (search_on c.args.matrix.now c.args.marks.now c.args.n c.loop-i.i (omega arith) c.loop-i.invariant.1 (λ placed m. sym c.if-is_ready.false ∙ c.is_ready.ensures placed m)))

pub returns : goal.returns
returns c =
    let e : c.loop-i.i ≡ c.args.n = omega arith in
    (search-end c.args.matrix.now c.args.marks.now c.args.n (rw e at c.loop-i.invariant.1), tt)
