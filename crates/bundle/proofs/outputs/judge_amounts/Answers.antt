use native.Mathlib.Omega.{arith}
use Rattle.std.proofs.lemmas.Result.{err_from_is_err_and}
use Rattle.bundle.proofs.ShownLaws.{answers-fault, answers-missing, answers-all, missing-some, missing-none}
use Rattle.bundle.proofs.outputs.judge_amounts.Goals as goal

pub returns-in_default : goal.returns-in_default
returns-in_default c =
    let first = missing-none c.args.s.now c.args.ids.now c.args.numbers.now c.args.n c.first_missing.ensures.1 c.in_default.is in
    answers-all c.args.s.now c.args.ids.now c.args.numbers.now c.args.fee c.args.n first c.judge_sums.result c.judge_sums.ensures

pub returns-in_err-judge_sums : goal.returns-in_err-judge_sums
returns-in_err-judge_sums c =
    let first = missing-some c.args.s.now c.args.ids.now c.args.numbers.now c.args.n c.first_missing.ensures.1 c.in-Some.is in
    let low = c.in-Some.ensures.0 in
    let p = err_from_is_err_and c.from_residual.result c.from_residual.ensures.1 in
    rw (p.1, p.2) (answers-fault c.args.s.now c.args.ids.now c.args.numbers.now c.args.fee c.args.n c.in-Some.missing (omega arith) first _ c.judge_sums-2.ensures c.in_err-judge_sums.was)

pub returns : goal.returns
returns c =
    let first = missing-some c.args.s.now c.args.ids.now c.args.numbers.now c.args.n c.first_missing.ensures.1 c.in-Some.is in
    let low = c.in-Some.ensures.0 in
    rw (c.blame.ensures, c.reject_for.ensures) (answers-missing c.args.s.now c.args.ids.now c.args.numbers.now c.args.fee c.args.n c.in-Some.missing (omega arith) first _ c.judge_sums-2.ensures c.in_ok-judge_sums.was (omega arith))
