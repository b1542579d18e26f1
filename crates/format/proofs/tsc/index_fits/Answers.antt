use native.Mathlib.Omega.{arith}
use mathlib.Core.Path.{sym}
use Rattle.format.proofs.TscLaws.{fits_all, fits-shifted}
use Rattle.format.proofs.tsc.index_fits.Goals as goal

pub returns-then-layers-ge64 : goal.returns-then-layers-ge64
returns-then-layers-ge64 c = sym (fits_all _ _ (omega arith) c.if-layers-ge64.true)

pub returns : goal.returns
returns c = sym (fits-shifted _ _)
