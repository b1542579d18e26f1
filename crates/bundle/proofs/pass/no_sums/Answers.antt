use Rattle.bundle.proofs.PassLaws.{zeros-blank}
use Rattle.bundle.proofs.pass.no_sums.Goals as goal

pub returns : goal.returns
returns c = zeros-blank 256
