use mathlib.Core.Path.{sym}
use Rattle.std.proofs.lemmas.Result.{err_from_is_err_and}
use Rattle.format.proofs.SeenLaws.{leaf-carried, above-carried}
use Rattle.format.proofs.level.read_above.Goals as goal

pub returns-in_err-offset : goal.returns-in_err-offset
returns-in_err-offset c = let p = err_from_is_err_and c.from_residual.result c.from_residual.ensures.1 in rw p.1 tt

pub returns : goal.returns
returns c = above-carried _ _ c.read_carried.result _ c.read_carried.ensures (leaf-carried _ _ _ _ _ _ (sym c.in_ok-offset.ensures)) c.if-offset-least.false
