use Rattle.std.specs.Prelude.{Err}
use Rattle.climbs.proofs.WaitingLaws.{err_is}
use Rattle.page.proofs.FlatLaws.{opening_few, opening_levelled, flat-page}
use Rattle.page.proofs.answer_flat.Goals as goal

pub returns-in_err-path : goal.returns-in_err-path
returns-in_err-path c = rw (err_is _ _ c.from_residual.ensures.1) (flat-page c.args.s.now c.args.ids.now c.args.room c.args.roots.now c.args.numbers.now (Err c.in_err-path.field-0.0) c.in_err-path.ensures tt)

pub answer_all-requires : goal.answer_all-requires
answer_all-requires c = record { few = opening_few c.args.s.now c.args.ids.now c.args.room _ c.in_ok-path.ensures; levelled = opening_levelled c.args.s.now c.args.ids.now c.args.room _ c.in_ok-path.ensures }

pub returns : goal.returns
returns c = flat-page c.args.s.now c.args.ids.now c.args.room c.answer_all.new.roots c.answer_all.new.numbers _ c.in_ok-path.ensures c.answer_all.ensures
