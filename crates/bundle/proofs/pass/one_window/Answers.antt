use Rattle.bundle.proofs.ReachLaws.{reached_on}
use Rattle.bundle.proofs.pass.one_window.Goals as goal

pub returns : goal.returns
returns c = λ l e p f low r. reached_on c.args.s.now c.args.ids.now c.args.numbers.now l p _ e c.args.firsts.now f _ _ _ _ _ low c.requires.count_bound r c.no_marks-marks.result c.no_marks-marks.ensures c.mark_entries-first.ensures c.add_outputs-walk.ensures
