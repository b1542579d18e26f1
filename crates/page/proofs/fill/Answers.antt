use Rattle.std.proofs.Common.{◌<◌, length, ap, ◌∙◌, arith, slice_set}
use Rattle.spv.proofs.Filled.{up_to_none, up_to_more, up_to_all, up_to_length}
use Rattle.page.specs.Flat.{flat_answer}
use Rattle.page.proofs.fill.Goals as goal

pub loop-i-init : goal.loop-i-init
loop-i-init c = (omega arith, up_to_none (flat_answer c.args.roots.now c.args.numbers.now c.args.count) c.args.row.now)

pub loop-i-preserved : goal.loop-i-preserved
loop-i-preserved c =
    let long = ap length c.loop-i.invariant.1 ∙ up_to_length (flat_answer c.args.roots.now c.args.numbers.now c.args.count) c.args.row.now c.loop-i.i c.loop-i.invariant.0 in
    let low : c.loop-i.i < length c.args.row.now = omega arith in
    (omega arith, ap (λ t. slice_set t c.loop-i.i c.flat_answer.result) c.loop-i.invariant.1 ∙ up_to_more (flat_answer c.args.roots.now c.args.numbers.now c.args.count) c.args.row.now c.loop-i.i c.flat_answer.result low c.flat_answer.ensures)

pub returns : goal.returns
returns c =
    let long = ap length c.loop-i.invariant.1 ∙ up_to_length (flat_answer c.args.roots.now c.args.numbers.now c.args.count) c.args.row.now c.loop-i.i c.loop-i.invariant.0 in
    c.loop-i.invariant.1 ∙ up_to_all (flat_answer c.args.roots.now c.args.numbers.now c.args.count) c.args.row.now c.loop-i.i (omega arith)
