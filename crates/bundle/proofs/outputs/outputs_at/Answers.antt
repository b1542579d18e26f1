use mathlib.Core.Path.{sym, ◌∙◌}
use native.Mathlib.Omega.{arith}
use lib.ListN.{get_or-eq_default}
use Rattle.bundle.proofs.FlatLaws.{count-is}
use Rattle.bundle.proofs.ExistLaws.{outputs-past, outputs_at_lem}
use Rattle.bundle.proofs.outputs.outputs_at.Goals as goal

pub returns-then-ids-p : goal.returns-then-ids-p
returns-then-ids-p c = outputs-past _ c.args.numbers.now _ (omega (arith, c.if-ids-p.true, count-is c.args.ids.now c.args.ids.now))

pub returns-then-p-ge-NUMBERS_ROOM : goal.returns-then-p-ge-NUMBERS_ROOM
returns-then-p-ge-NUMBERS_ROOM c = sym (get_or-eq_default c.args.numbers.now 0 (omega arith)) ∙ outputs_at_lem _ c.args.numbers.now _ (omega (arith, c.if-ids-p.false, count-is c.args.ids.now c.args.ids.now))

pub returns : goal.returns
returns c = outputs_at_lem _ c.args.numbers.now _ (omega (arith, c.if-ids-p.false, count-is c.args.ids.now c.args.ids.now))
