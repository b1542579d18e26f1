use Rattle.std.proofs.Common.{◌<◌, length, ap, ◌∙◌, arith, slice_set}
use Rattle.spv.proofs.Filled.{up_to_none, up_to_more, up_to_length}
use Rattle.bundle.specs.Table.{flat_record}
use Rattle.bundle.proofs.table.fill.Goals as goal

pub loop-i-init : goal.loop-i-init
loop-i-init c = (omega arith, up_to_none (flat_record c.args.ids.now c.args.numbers.now c.args.count) c.args.table.now)

pub loop-i-preserved : goal.loop-i-preserved
loop-i-preserved c =
    let long = ap length c.loop-i.invariant.1 ∙ up_to_length (flat_record c.args.ids.now c.args.numbers.now c.args.count) c.args.table.now c.loop-i.i c.loop-i.invariant.0 in
    let low : c.loop-i.i < length c.args.table.now = omega arith in
    (omega arith, ap (λ t. slice_set t c.loop-i.i c.record_at.result) c.loop-i.invariant.1 ∙ up_to_more (flat_record c.args.ids.now c.args.numbers.now c.args.count) c.args.table.now c.loop-i.i c.record_at.result low c.record_at.ensures)
