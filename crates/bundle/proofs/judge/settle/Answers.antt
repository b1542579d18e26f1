use Rattle.std.proofs.lemmas.Result.{err_from_is_err_and}
use Rattle.bundle.proofs.BundleRead.{settle-none, settle-fault}
use Rattle.bundle.proofs.judge.settle.Goals as goal

pub returns-in_err-amounts : goal.returns-in_err-amounts
returns-in_err-amounts c = let p = err_from_is_err_and c.from_residual.result c.from_residual.ensures.1 in rw (p.1, p.2) (settle-fault _ c.in_err-amounts.was)

pub returns : goal.returns
returns c = settle-none _ c.in_ok-amounts.was
