use Rattle.std.proofs.Common.{◌∙◌, sym, ap}
use Rattle.spv.specs.Depth.{depth_of}
use Rattle.spv.proofs.ResultLaws.{refused_on}
use Rattle.spv.proofs.DepthLaws.{depth-first, depth-second, depth-both}
use Rattle.spv.proofs.depth.compare_depths.Goals as goal

pub returns-in_err-x : goal.returns-in_err-x
returns-in_err-x c = refused_on _ _ _ _ c.from_residual.ensures.1 (depth-first _ _ _ _ c.in_err-x.ensures)

pub returns-in_err-y : goal.returns-in_err-y
returns-in_err-y c = refused_on _ _ _ _ c.from_residual-in_err-y.ensures.1 (depth-second _ _ _ _ _ c.in_ok-x.ensures c.in_err-y.ensures)

pub returns : goal.returns
returns c = c.settle_transaction.ensures ∙ sym (ap depth_of (depth-both _ _ _ _ _ c.in_ok-x.ensures c.in_ok-y.ensures))
