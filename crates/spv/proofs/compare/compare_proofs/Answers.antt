use Rattle.std.proofs.Common.{◌∙◌, sym, ap}
use Rattle.spv.specs.Shapes.{compared_of}
use Rattle.spv.proofs.ResultLaws.{refused_on}
use Rattle.spv.proofs.CompareLaws.{compare-first, compare-second, compare-both}
use Rattle.spv.proofs.compare.compare_proofs.Goals as goal

pub returns-in_err-x : goal.returns-in_err-x
returns-in_err-x c = refused_on _ _ _ _ c.from_residual.ensures.1 (compare-first _ _ _ c.in_err-x.ensures)

pub returns-in_err-y : goal.returns-in_err-y
returns-in_err-y c = refused_on _ _ _ _ c.from_residual-in_err-y.ensures.1 (compare-second _ _ _ _ c.in_ok-x.ensures c.in_err-y.ensures)

pub returns : goal.returns
returns c = c.settle_pair.ensures ∙ sym (ap compared_of (compare-both _ _ _ _ c.in_ok-x.ensures c.in_ok-y.ensures))
