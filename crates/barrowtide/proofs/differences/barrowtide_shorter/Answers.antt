use Rattle.barrowtide.proofs.ChoicesLaws.{handed-some, handed-none}
use Rattle.difference.specs.Shorter.{Part}
use Rattle.difference.proofs.ShorterLaws.{weighs}
use lib.ListN.{length}
use mathlib.Core.Path.{ap}
use Rattle.barrowtide.proofs.differences.barrowtide_shorter.Goals as goal

pub returns-then-size-ne0 : goal.returns-then-size-ne0
returns-then-size-ne0 c = handed-some c.args.first c.args.second _ (weighs _ _ _) (ap (λ (p : Part). length p.1) c.shorter_proof-handed.ensures.result_value) c.which.ensures _ c.if-size-ne0.true

pub returns : goal.returns
returns c = handed-none c.args.first c.args.second _ (weighs _ _ _) (ap (λ (p : Part). length p.1) c.shorter_proof-handed.ensures.result_value) c.which.ensures _ c.if-size-ne0.false c.shorter_proof-handed.ensures.why_after
