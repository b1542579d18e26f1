use Rattle.bundle.proofs.ReachLaws.{judged-none, judged-many, judged_by}
use mathlib.Core.Path.{refl}
use Rattle.std.specs.Prelude.{Ok}
use Rattle.bundle.specs.Pass.{amounts_of}
use Rattle.bundle.proofs.pass.judge_sums.Goals as goal

pub returns-then-n-lt1 : goal.returns-then-n-lt1
unfolding amounts_of
returns-then-n-lt1 c = judged-none c.args.s.now c.args.ids.now c.args.numbers.now _ _ (Ok tt) refl c.if-n-lt1.true

pub returns-then-n-gt256 : goal.returns-then-n-gt256
unfolding amounts_of
returns-then-n-gt256 c = judged-many c.args.s.now c.args.ids.now c.args.numbers.now _ _ (Ok tt) refl c.if-n-gt256.true

pub returns : goal.returns
returns c = judged_by c.args.s.now c.args.ids.now c.args.numbers.now _ _ _ c.first_outputs-firsts.result c.no_sums-sums.result _ _ c.first_outputs-firsts.ensures c.no_sums-sums.ensures c.all_windows-first.ensures c.first_fault.ensures
